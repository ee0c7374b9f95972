-- The lowest-numbered process of a map: it is a member, nothing below it is, and nobody else is so. Stated over the number k of digits that are
-- looked at; `lowest` looks at 32. Assumes nothing.
use Rattle.std.proofs.Common.{◌≡◌, ℕ, zero, suc, ◌/◌, ◌%◌, ◌^◌, ◌<◌, ◌≤◌, true, false, sym, refl, ap, ◌∙◌, true≢false, suc-le-suc, zero-le, lt_of_lt_of_le, le_of_suc-le-suc, not-suc-le-zero, lt_of_not-le, arith, pow_mono, ne_eqb}
use Rattle.std.proofs.Math.Bool.{false≢true}
use Rattle.std.specs.Int.Count.{count_trailing_zeros, under}
use Rattle.maps.specs.Maps.{some, has, lowest}
use Rattle.maps.proofs.Members.{has-tag, eqb_same}
use Rattle.maps.proofs.Bounds.{member-lt, member-pos}

-- ---- by the lowest digit: `under d t` is 0 where the digit d is set, and one more than t where it is not
under-set : (d t : ℕ) → some d ≡ true → under d t ≡ 0
under-set zero t e = absurd (false≢true e)
under-set (suc d) t e = refl

under-clear : (d t : ℕ) → some d ≡ false → under d t ≡ suc t
under-clear zero t e = refl
under-clear (suc d) t e = absurd (true≢false e)

digit-has : (m t k d : ℕ) → m % 2 ≡ d → (t < k → has (m / 2) t ≡ true) → under d t < suc k → has m (under d t) ≡ true
unfolding has
digit-has m t k zero e ih h = ih (le_of_suc-le-suc h)
digit-has m t k (suc d) e ih h = ap some e

digit-none : (m t d q : ℕ) → m % 2 ≡ d → ((r : ℕ) → r < t → has (m / 2) r ≡ false) → q < under d t → has m q ≡ false
unfolding has
digit-none m t zero zero e ih h = ap some e
digit-none m t zero (suc q) e ih h = ih q (le_of_suc-le-suc h)
digit-none m t (suc d) q e ih h = absurd (not-suc-le-zero h)

digit_lt : (m t k d : ℕ) → m % 2 ≡ d → 0 < m → (0 < m / 2 → t < k) → under d t < suc k
digit_lt m t k zero e h ih = suc-le-suc (ih (omega arith))
digit_lt m t k (suc d) e h ih = suc-le-suc zero-le

-- ---- over k digits
pub lowest-has : (k m : ℕ) → count_trailing_zeros k m < k → has m (count_trailing_zeros k m) ≡ true
unfolding count_trailing_zeros
lowest-has zero m h = absurd (not-suc-le-zero h)
lowest-has (suc k) m h = digit-has m (count_trailing_zeros k (m / 2)) k (m % 2) refl (lowest-has k (m / 2)) h

pub lowest-none : (k m q : ℕ) → q < count_trailing_zeros k m → has m q ≡ false
unfolding count_trailing_zeros
lowest-none zero m q h = absurd (not-suc-le-zero h)
lowest-none (suc k) m q h = digit-none m (count_trailing_zeros k (m / 2)) (m % 2) q refl (lowest-none k (m / 2)) h

pub lowest-lt : (k m : ℕ) → m < 2 ^ k → 0 < m → count_trailing_zeros k m < k
unfolding count_trailing_zeros
lowest-lt zero m h l = omega arith
lowest-lt (suc k) m h l = digit_lt m (count_trailing_zeros k (m / 2)) k (m % 2) refl l (lowest-lt k (m / 2) (omega arith))

pub lowest-unique : (k m p : ℕ) → p < k → has m p ≡ true → ((q : ℕ) → q < p → has m q ≡ false) → count_trailing_zeros k m ≡ p
unfolding count_trailing_zeros has
lowest-unique zero m p h e n = absurd (not-suc-le-zero h)
lowest-unique (suc k) m zero h e n = under-set (m % 2) (count_trailing_zeros k (m / 2)) e
lowest-unique (suc k) m (suc p) h e n =
    under-clear (m % 2) (count_trailing_zeros k (m / 2)) (n zero (suc-le-suc zero-le))
    ∙ ap suc (lowest-unique k (m / 2) p (le_of_suc-le-suc h) e (λ q l. n (suc q) (suc-le-suc l)))

pub lowest-tag : (k p : ℕ) → p < k → count_trailing_zeros k (2 ^ p) ≡ p
lowest-tag k p h = lowest-unique k (2 ^ p) p h (has-tag p p ∙ eqb_same p) (λ q l. has-tag p q ∙ ne_eqb p q (λ e. omega arith))

-- ---- of a map of n processes that has a member
pub lowest-member : (n m p : ℕ) → n ≤ 32 → m < 2 ^ n → has m p ≡ true → has m (lowest m) ≡ true
lowest-member n m p k h e = lowest-has 32 m (lowest-lt 32 m (lt_of_lt_of_le h (pow_mono k)) (member-pos m p e))

pub lowest-below : (n m p : ℕ) → n ≤ 32 → m < 2 ^ n → has m p ≡ true → lowest m < n
lowest-below n m p k h e = member-lt n m (lowest m) h (lowest-member n m p k h e)

pub lowest-least : (m p : ℕ) → has m p ≡ true → lowest m ≤ p
lowest-least m p e = le_of_suc-le-suc (lt_of_not-le (λ (h : p < lowest m). true≢false (sym e ∙ lowest-none 32 m p h)))
