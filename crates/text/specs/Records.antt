-- Where records and their fields end (01, Trace program; RFC 4180 without quotes). Only CRLF ends a record; the last may lack it. Commas part the fields.
use Rattle.std.specs.List.{position_or_len}
use Rattle.std.specs.Prelude.{ℕ, Bool, cond, ◌&&◌, List, [], ◌∷◌, eqb}

-- CR is 13, LF is 10, a comma is 44
abbrev pub is_cr : ℕ → Bool
is_cr b = eqb b 13

abbrev pub is_lf : ℕ → Bool
is_lf b = eqb b 10

abbrev pub is_comma : ℕ → Bool
is_comma b = eqb b 44

-- a byte in front of the first of some texts
abbrev pub led : ℕ → List (List ℕ) → List (List ℕ)
led b [] = (b ∷ []) ∷ []
led b (text ∷ texts) = (b ∷ text) ∷ texts

-- the records of a whole input. No input, no record; after a CRLF that ends the input there is none either. A CR or an LF alone belongs to its record
unfoldable pub records : List ℕ → List (List ℕ)
records [] = []
records (a ∷ []) = (a ∷ []) ∷ []
records (a ∷ b ∷ rest) = cond (is_cr a && is_lf b) ([] ∷ records rest) (led a (records (b ∷ rest)))

-- the fields of a record: always one more than it has commas
unfoldable pub fields : List ℕ → List (List ℕ)
fields [] = [] ∷ []
fields (a ∷ rest) = cond (is_comma a) ([] ∷ fields rest) (led a (fields rest))

-- how many bytes stand before the first mark, or all of them where there is none
abbrev pub up_to : ℕ → List ℕ → ℕ
up_to mark s = position_or_len (λ b. eqb b mark) s

-- and before the first comma
abbrev pub before : List ℕ → ℕ
before s = up_to 44 s
