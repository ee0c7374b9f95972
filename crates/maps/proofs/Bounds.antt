-- Maps of n processes: 'no bit at n or above' is `m < 2 ^ n`. What keeps within n, and what that says of the members. Assumes nothing.
use Rattle.std.proofs.Common.{◌≡◌, ℕ, zero, suc, ◌/◌, ◌%◌, ◌^◌, ◌<◌, ◌≤◌, Bool, true, false, ◌&&◌, ltb, sym, refl, ap, ◌∙◌, true≢false, suc-le-suc, zero-le, le_refl, le_of_suc-le-suc, not-suc-le-zero, lt_of_le_of_lt, lt_of_not-le, arith, pow_pos, ltb-false, ltb-true, le-ltb, lt-ltb}
use Rattle.std.proofs.Math.Arith.{bin_ind, lt-one}
use Rattle.std.specs.Int.Bits.{bit_or, or_lt, or_add_and, and_le_l, and_le_r}
use Rattle.maps.specs.Maps.{has, unless, minus, everyone}
use Rattle.maps.proofs.Members.{has-zero, minus-step, ext, same, lt-pow}

-- ---- members and bounds
pub has_above : (n m p : ℕ) → m < 2 ^ n → n ≤ p → has m p ≡ false
unfolding has
has_above zero m p h l = ap (λ (x : ℕ). has x p) (lt-one h) ∙ has-zero p
has_above (suc n) m zero h l = absurd (not-suc-le-zero l)
has_above (suc n) m (suc p) h l = has_above n (m / 2) p (omega arith) (le_of_suc-le-suc l)

pub member-lt : (n m p : ℕ) → m < 2 ^ n → has m p ≡ true → p < n
member-lt n m p h e = lt_of_not-le (λ (l : n ≤ p). true≢false (sym e ∙ has_above n m p h l))

-- a member's tag is not above the map
pub has-le : (m p : ℕ) → has m p ≡ true → 2 ^ p ≤ m
has-le m p e = le_of_suc-le-suc (lt_of_not-le (λ (h : m < 2 ^ p). true≢false (sym e ∙ has_above p m p h (le_refl p))))

pub member-pos : (m p : ℕ) → has m p ≡ true → 0 < m
member-pos m p e = omega (arith, has-le m p e, pow_pos p)

-- a map with no member at n or above is below 2 ^ n
pub below : (k n m : ℕ) → m < 2 ^ k → ((p : ℕ) → n ≤ p → p < k → has m p ≡ false) → m < 2 ^ n
unfolding has
below k zero m h e = omega (arith, ext k m 0 h (pow_pos k) (λ p q. e p zero-le q ∙ sym (has-zero p)))
below zero (suc n) m h e = omega (arith, pow_pos (suc n))
below (suc k) (suc n) m h e = omega (arith, below k n (m / 2) (omega arith) (λ p l q. e (suc p) (suc-le-suc l) (suc-le-suc q)))

pub members-within : (n m : ℕ) → ((p : ℕ) → has m p ≡ true → p < n) → m < 2 ^ n
members-within n m f = below m n m (lt-pow m) (λ p l h. out p l (has m p) refl)
  where
    out : (p : ℕ) → n ≤ p → (b : Bool) → has m p ≡ b → b ≡ false
    out p l true e = absurd (omega (arith, f p e))
    out p l false e = refl

-- the map is empty exactly if it has no member
pub empty-none : (m : ℕ) → m ≡ 0 → (p : ℕ) → has m p ≡ false
empty-none m e p = ap (λ (x : ℕ). has x p) e ∙ has-zero p

pub none-empty : (m : ℕ) → ((p : ℕ) → has m p ≡ false) → m ≡ 0
none-empty m f = same m 0 (λ p. f p ∙ sym (has-zero p))

-- ---- what keeps within n. (`or_lt` and `and_lt` are the library's)
unless-le : (x y : ℕ) → unless x y ≤ x
unless-le x zero = omega arith
unless-le x (suc y) = zero-le

pub minus-le : (a b : ℕ) → minus a b ≤ a
minus-le a =
    bin_ind (λ (n : ℕ). (b : ℕ) → minus n b ≤ n) (λ b. zero-le)
    (λ n ih b. omega (arith, minus-step n b, ih (b / 2), unless-le (n % 2) (b % 2))) a

pub minus-lt : (k a b : ℕ) → a < 2 ^ k → minus a b < 2 ^ k
minus-lt k a b h = lt_of_le_of_lt (minus-le a b) h

pub everyone-lt : (n : ℕ) → everyone n < 2 ^ n
everyone-lt n = omega (arith, pow_pos n)

-- a union is within n exactly if both are
pub within-or : (n a b : ℕ) → ltb (bit_or a b) (2 ^ n) ≡ ltb a (2 ^ n) && ltb b (2 ^ n)
within-or n a b = go (ltb a (2 ^ n)) (ltb b (2 ^ n)) refl refl
  where
    go : (s t : Bool) → ltb a (2 ^ n) ≡ s → ltb b (2 ^ n) ≡ t → ltb (bit_or a b) (2 ^ n) ≡ s && t
    go true true p q = lt-ltb (bit_or a b) (2 ^ n) (or_lt n a b (ltb-true a (2 ^ n) p) (ltb-true b (2 ^ n) q))
    go true false p q = le-ltb (bit_or a b) (2 ^ n) (omega (arith, ltb-false b (2 ^ n) q, or_add_and a b, and_le_l a b))
    go false t p q = le-ltb (bit_or a b) (2 ^ n) (omega (arith, ltb-false a (2 ^ n) p, or_add_and a b, and_le_r a b))
