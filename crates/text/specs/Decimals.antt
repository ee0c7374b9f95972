-- Plain decimals, in and out (01, Trace program): digits only, without leading zeros.
use Rattle.std.specs.Prelude.{ℕ, zero, suc, ◌+◌, ◌-◌, ◌*◌, ◌/◌, ◌%◌, Bool, true, cond, not, ◌&&◌, ◌||◌, List, [], ◌∷◌, ◌++◌, ltb, leb, eqb, get_or, length, Option, None, Some}

-- ---- in
-- `0` is 48, `9` is 57
abbrev pub is_digit : ℕ → Bool
is_digit b = leb 48 b && leb b 57

unfoldable pub all_digits : List ℕ → Bool
all_digits [] = true
all_digits (b ∷ rest) = is_digit b && all_digits rest

-- the number that v becomes with some digits after it
unfoldable pub onwards : ℕ → List ℕ → ℕ
onwards v [] = v
onwards v (b ∷ rest) = onwards (v * 10 + (b - 48)) rest

abbrev pub value_of : List ℕ → ℕ
value_of s = onwards 0 s

-- not empty, digits only, no leading zero but that of `0` itself
abbrev pub is_plain : List ℕ → Bool
is_plain s = not (eqb (length s) 0) && (eqb (length s) 1 || not (eqb (get_or s 0 0) 48)) && all_digits s

-- digits only, and with them after it v becomes at most `most`
abbrev pub reaches : ℕ → ℕ → List ℕ → Option ℕ
reaches most v s = cond (all_digits s && leb (onwards v s) most) (Some (onwards v s)) None

-- a plain decimal of at most `most`
abbrev pub is_number : ℕ → List ℕ → Bool
is_number most s = is_plain s && leb (value_of s) most

abbrev pub read : ℕ → List ℕ → Option ℕ
read most s = cond (is_number most s) (Some (value_of s)) None

-- ---- out
abbrev pub digit : ℕ → ℕ
digit d = 48 + d

-- below ten its digit; else the digits of n / 10, and after them the last. As many turns as `enough` are enough
unfoldable pub spelled : ℕ → ℕ → List ℕ
spelled zero n = []
spelled (suc enough) n = cond (ltb n 10) (digit n ∷ []) (spelled enough (n / 10) ++ (digit (n % 10) ∷ []))

unfoldable pub digits : ℕ → List ℕ
digits n = spelled (suc n) n
