-- Decimals in: digits read one after the other, the first one past `most` ending it. Decimals out: their digits one by one. And a number's digits read back
-- as that number. Assumes nothing.
use Rattle.std.proofs.Common.{ℕ, zero, suc, ◌+◌, ◌-◌, ◌*◌, ◌/◌, ◌%◌, ◌^◌, ◌≤◌, ◌<◌, ◌≡◌, refl, sym, ap, ◌∙◌, Bool, true, false, cond, not, ◌&&◌, ◌||◌, List, [], ◌∷◌, ◌++◌, arith, div-lt_iff_lt-mul, ltb, leb, eqb, length, get_or, length-append, lt-ltb, le-ltb, le-leb, eq-eqb, ne_eqb, ltb-true, ltb-false, leb-false, None, Some}
use Rattle.std.proofs.Math.Bool.{and-false, or-true}
use Rattle.std.proofs.Math.Nat.{mul_comm, pow-succ'}
use Rattle.std.proofs.lemmas.Bool.{and_parts, false≢true, lt-leb}
use Rattle.text.specs.Decimals.{is_digit, all_digits, onwards, value_of, is_plain, is_number, read, reaches, digit, spelled, digits}

-- ---- in
-- digits never make a number smaller
pub onwards-grows : (v : ℕ) (s : List ℕ) → v ≤ onwards v s
unfolding onwards
onwards-grows v [] = omega arith
onwards-grows v (b ∷ s) = omega (arith, onwards-grows (v * 10 + (b - 48)) s)

pub reaches-no-digit : (most v b : ℕ) (s : List ℕ) → is_digit b ≡ false → reaches most v (b ∷ s) ≡ None
unfolding all_digits
reaches-no-digit most v b s e = rw e

pub reaches-past : (most v b : ℕ) (s : List ℕ) → most < v * 10 + (b - 48) → reaches most v (b ∷ s) ≡ None
unfolding onwards
reaches-past most v b s h =
    let e : leb (onwards (v * 10 + (b - 48)) s) most ≡ false = lt-leb (onwards (v * 10 + (b - 48)) s) most (omega (arith, onwards-grows (v * 10 + (b - 48)) s)) in
    rw (e, and-false)

pub reaches-on : (most v b : ℕ) (s : List ℕ) → is_digit b ≡ true → reaches most v (b ∷ s) ≡ reaches most (v * 10 + (b - 48)) s
unfolding all_digits onwards
reaches-on most v b s e = rw e

pub reaches_end : (most v : ℕ) → v ≤ most → reaches most v [] ≡ Some v
unfolding all_digits onwards
reaches_end most v h = rw (le-leb _ _ h)

-- ---- out
spelled-turn : (k n : ℕ) → 10 ≤ n → spelled (suc k) n ≡ spelled k (n / 10) ++ (digit (n % 10) ∷ [])
unfolding spelled
spelled-turn k n h = rw (le-ltb n 10 h)

spelled-last : (k n : ℕ) → n < 10 → spelled (suc k) n ≡ digit n ∷ []
unfolding spelled
spelled-last k n h = rw (lt-ltb n 10 h)

-- more turns than enough give no other digits
spelled-enough : (j k n : ℕ) → n < j → n < k → spelled j n ≡ spelled k n
spelled-enough zero k n h l = absurd (omega arith)
spelled-enough (suc j) zero n h l = absurd (omega arith)
spelled-enough (suc j) (suc k) n h l = by (ltb n 10) refl (spelled-enough j k (n / 10))
  where
    by :
        (t : Bool) → ltb n 10 ≡ t → (n / 10 < j → n / 10 < k → spelled j (n / 10) ≡ spelled k (n / 10)) →
        spelled (suc j) n ≡ spelled (suc k) n
    by true e f = spelled-last j n (ltb-true n 10 e) ∙ sym (spelled-last k n (ltb-true n 10 e))
    by false e f =
        let m : 10 ≤ n = ltb-false n 10 e in
        spelled-turn j n m ∙ ap (λ (s : List ℕ). s ++ (digit (n % 10) ∷ [])) (f (omega arith) (omega arith)) ∙ sym (spelled-turn k n m)

pub digits-small : (n : ℕ) → n < 10 → digits n ≡ digit n ∷ []
unfolding digits
digits-small n h = spelled-last n n h

pub digits_more : (n : ℕ) → 10 ≤ n → digits n ≡ digits (n / 10) ++ (digit (n % 10) ∷ [])
unfolding digits
digits_more n h = spelled-turn n n h ∙ rw (spelled-enough n (suc (n / 10)) (n / 10) (omega arith) (omega arith))

pub length-small : (n : ℕ) → n < 10 → length (digits n) ≡ 1
length-small n h = rw (digits-small n h)

pub length_more : (n : ℕ) → 10 ≤ n → length (digits n) ≡ length (digits (n / 10)) + 1
length_more n h = rw (digits_more n h, length-append)

-- ten digits are enough for 32 bits
length-below : (k n : ℕ) → n < 10 ^ suc k → length (digits n) ≤ suc k
length-below zero n h = omega (arith, length-small n h)
length-below (suc k) n h = by (ltb n 10) refl (length-below k (n / 10))
  where
    by : (t : Bool) → ltb n 10 ≡ t → (n / 10 < 10 ^ suc k → length (digits (n / 10)) ≤ suc k) → length (digits n) ≤ suc (suc k)
    by true e f = omega (arith, length-small n (ltb-true n 10 e))
    by false e f =
        let m : n / 10 < 10 ^ suc k = (div-lt_iff_lt-mul {k = 10} {x = n} {y = 10 ^ suc k} (omega arith)).1 (rw (pow-succ', mul_comm 10 (10 ^ suc k)) at h) in
        omega (arith, length_more n (ltb-false n 10 e), f m)

pub digits-fit : (n : ℕ) → n < 4294967296 → length (digits n) ≤ 10
digits-fit n h = length-below 9 n (omega arith)

-- for searches: how many digits a number has at most, and what its last is
pub ruleset digits_within = (digits-fit)

pub ruleset digits_by_last = (digits-small, digits_more)

-- ---- a number's digits read back
all_snoc : (s : List ℕ) (d : ℕ) → d < 10 → all_digits s ≡ true → all_digits (s ++ (digit d ∷ [])) ≡ true
unfolding all_digits
all_snoc [] d h e = rw (le-leb 48 (48 + d) (omega arith), le-leb (48 + d) 57 (omega arith))
all_snoc (b ∷ s) d h e = by (is_digit b) e (all_snoc s d h)
  where
    by : (t : Bool) → (t && all_digits s) ≡ true → (all_digits s ≡ true → all_digits (s ++ (digit d ∷ [])) ≡ true) → (t && all_digits (s ++ (digit d ∷ []))) ≡ true
    by true e f = f e
    by false e f = absurd (false≢true e)

onwards-snoc : (v d : ℕ) (s : List ℕ) → onwards v (s ++ (digit d ∷ [])) ≡ onwards v s * 10 + d
unfolding onwards
onwards-snoc v d [] = omega arith
onwards-snoc v d (b ∷ s) = onwards-snoc (v * 10 + (b - 48)) d s

first-snoc : (s : List ℕ) (b : ℕ) → 1 ≤ length s → get_or (s ++ (b ∷ [])) 0 0 ≡ get_or s 0 0
first-snoc [] b h = absurd (omega arith)
first-snoc (a ∷ s) b h = refl

record Reads (n : ℕ) : Type 0 where
  some : 1 ≤ length (digits n)
  all : all_digits (digits n) ≡ true
  value : value_of (digits n) ≡ n
  plain : 1 ≤ n → get_or (digits n) 0 0 ≡ 48 → ⊥

reads-small : (n : ℕ) → n < 10 → Reads n
unfolding all_digits onwards
reads-small n h = record {
  some = omega (arith, length-small n h);
  all = rw (digits-small n h, le-leb 48 (48 + n) (omega arith), le-leb (48 + n) 57 (omega arith));
  value = rw (digits-small n h) (omega arith);
  plain = λ l e. omega (arith, rw (digits-small n h) at e);
}

reads_more : (n : ℕ) → 10 ≤ n → Reads (n / 10) → Reads n
reads_more n h r = record {
  some = omega (arith, length_more n h);
  all = rw (digits_more n h) (all_snoc (digits (n / 10)) (n % 10) (omega arith) r.all);
  value = rw (digits_more n h, onwards-snoc, r.value) (omega arith);
  plain = λ l e. r.plain (omega arith) (sym (first-snoc (digits (n / 10)) (digit (n % 10)) r.some) ∙ (rw (digits_more n h) at e));
}

reads-below : (k n : ℕ) → n < k → Reads n
reads-below zero n h = absurd (omega arith)
reads-below (suc k) n h = by (ltb n 10) refl (reads-below k (n / 10))
  where
    by : (t : Bool) → ltb n 10 ≡ t → (n / 10 < k → Reads (n / 10)) → Reads n
    by true e f = reads-small n (ltb-true n 10 e)
    by false e f =
        let m : 10 ≤ n = ltb-false n 10 e in
        reads_more n m (f (omega arith))

no_zero : (n : ℕ) (t : Bool) → ltb n 10 ≡ t → Reads n → (eqb (length (digits n)) 1 || not (eqb (get_or (digits n) 0 0) 48)) ≡ true
no_zero n true e r = rw (eq-eqb (length (digits n)) 1 (length-small n (ltb-true n 10 e)))
no_zero n false e r = rw (ne_eqb (get_or (digits n) 0 0) 48 (r.plain (omega (arith, ltb-false n 10 e)))) (or-true (eqb (length (digits n)) 1))

pub read-digits : (most n : ℕ) → n ≤ most → read most (digits n) ≡ Some n
read-digits most n h =
    let r = reads-below (suc n) n (omega arith) in
    let some : eqb (length (digits n)) 0 ≡ false = ne_eqb (length (digits n)) 0 (λ e. omega (arith, r.some)) in
    let plain = no_zero n (ltb n 10) refl r in
    rw (some, plain, r.all, r.value, le-leb n most h)

-- ---- what a parsed text is
module _ (most : ℕ) (s : List ℕ) where
  pub read-value : (n : ℕ) → read most s ≡ Some n → (is_number most s ≡ true) × (value_of s ≡ n)
  read-value n e = by (is_number most s) refl e
    where
      by : (t : Bool) → is_number most s ≡ t → cond t (Some (value_of s)) None ≡ Some n → (is_number most s ≡ true) × (value_of s ≡ n)
      by true h e = (h, cc)
      by false h e = absurd (let z : ◌≡◌ {A = ℕ} 0 1 = cc in omega arith)

  pub read-bad : read most s ≡ None → is_number most s ≡ false
  read-bad e = by (is_number most s) refl e
    where
      by : (t : Bool) → is_number most s ≡ t → cond t (Some (value_of s)) None ≡ None → is_number most s ≡ false
      by true h e = absurd (let z : ◌≡◌ {A = ℕ} 0 1 = cc in omega arith)
      by false h e = h

  -- a text that is no number up to `most` is none up to less
  pub number-less : (less : ℕ) → less ≤ most → is_number most s ≡ false → is_number less s ≡ false
  number-less less h e = by (is_plain s) e
    where
      by : (t : Bool) → (t && leb (value_of s) most) ≡ false → (t && leb (value_of s) less) ≡ false
      by true e = lt-leb (value_of s) less (omega (arith, leb-false (value_of s) most e))
      by false e = refl

  -- a number is no empty text
  pub number-some : is_number most s ≡ true → (eqb (length s) 0 ≡ false) × (is_plain s ≡ true) × (leb (value_of s) most ≡ true)
  number-some e =
      let parts = and_parts (is_plain s) (leb (value_of s) most) e in
      (by (eqb (length s) 0) e, parts.0, parts.1)
    where
      by : (t : Bool) → (not t && (eqb (length s) 1 || not (eqb (get_or s 0 0) 48)) && all_digits s && leb (value_of s) most) ≡ true → t ≡ false
      by true e = absurd (false≢true e)
      by false e = refl
