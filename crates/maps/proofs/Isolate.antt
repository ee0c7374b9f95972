-- What the machine's words do: `a & !b` is minus, and `m & -m` is the lowest member alone. Assumes nothing.
use Rattle.std.proofs.Common.{◌≡◌, ℕ, zero, suc, ◌+◌, ◌-◌, ◌*◌, ◌/◌, ◌%◌, ◌^◌, ◌<◌, ◌≤◌, min, Bool, false, cond, not, ◌&&◌, eqb, ◌⊎◌, sym, refl, ap, ◌∙◌, ap₂, inl, inr, lt_of_lt_of_le, eq-zero-or-pos, pow-suc, arith, pow_pos, pow_mono, ne_eqb}
use Rattle.std.proofs.Math.Bool.{beq}
use Rattle.std.proofs.Math.Arith.{lt-one}
use Rattle.std.specs.Int.Bits.{bit_and, and_step}
use Rattle.std.specs.Int.Count.{count_trailing_zeros, under}
use Rattle.std.proofs.Math.Pow.{pow-lt}
use Rattle.maps.specs.Maps.{has, unless, minus, lowest, lowest_bit}
use Rattle.maps.proofs.Truth.{taut, equal}
use Rattle.maps.proofs.Members.{has-minus, has-zero, has-tag, has-through, minus-step, same}
use Rattle.maps.proofs.Bounds.{member-lt}
use Rattle.maps.proofs.Lowest.{lowest-has, lowest-lt}

-- ---- the complement: `a & !b`
min-unless : (x y z : ℕ) → x < 2 → y < 2 → z ≡ 1 - y → min x z ≡ unless x y
min-unless x zero z h l e = omega arith
min-unless x (suc y) z h l e = omega arith

pub and-not : (k a b : ℕ) → a < 2 ^ k → b < 2 ^ k → bit_and a (2 ^ k - 1 - b) ≡ minus a b
and-not zero a b h l = ap (λ (x : ℕ). bit_and x (0 - b)) (lt-one h) ∙ ap (λ (x : ℕ). minus x b) (sym (lt-one h))
and-not (suc k) a b h l =
    let high : (2 ^ suc k - 1 - b) / 2 ≡ 2 ^ k - 1 - b / 2 = omega arith in
    let low : (2 ^ suc k - 1 - b) % 2 ≡ 1 - b % 2 = omega arith in
    and_step a (2 ^ suc k - 1 - b)
    ∙ ap₂ (λ (x y : ℕ). x * 2 + y)
    (ap (bit_and (a / 2)) high ∙ and-not k (a / 2) (b / 2) (omega arith) (omega arith))
    (min-unless (a % 2) (b % 2) ((2 ^ suc k - 1 - b) % 2) (omega arith) (omega arith) low)
    ∙ sym (minus-step a b)

-- ---- the lowest member alone: `m & -m`
pub minus-self : (a : ℕ) → minus a a ≡ 0
minus-self a = same (minus a a) 0 (λ p. has-minus a a p ∙ equal _ _ (taut 1 (λ x. beq (x && not x) false) refl (has a p)) ∙ sym (has-zero p))

by-digit : (k m t d : ℕ) → m < 2 ^ suc k → 0 < m → m % 2 ≡ d → (0 < m / 2 → bit_and (m / 2) (2 ^ k - m / 2) ≡ 2 ^ t) → bit_and m (2 ^ suc k - m) ≡ 2 ^ under d t
by-digit k m t zero h l e ih =
    let high : (2 ^ suc k - m) / 2 ≡ 2 ^ k - m / 2 = omega arith in
    let low : (2 ^ suc k - m) % 2 ≡ 0 = omega arith in
    omega (arith, and_step m (2 ^ suc k - m), ap (bit_and (m / 2)) high ∙ ih (omega arith), pow-suc 2 t)
by-digit k m t (suc d) h l e ih =
    let high : (2 ^ suc k - m) / 2 ≡ 2 ^ k - 1 - m / 2 = omega arith in
    let low : (2 ^ suc k - m) % 2 ≡ 1 = omega arith in
    omega (arith, and_step m (2 ^ suc k - m), ap (bit_and (m / 2)) high ∙ and-not k (m / 2) (m / 2) (omega arith) (omega arith) ∙ minus-self (m / 2))

isolate : (k m : ℕ) → m < 2 ^ k → 0 < m → bit_and m (2 ^ k - m) ≡ 2 ^ count_trailing_zeros k m
unfolding count_trailing_zeros
isolate zero m h l = absurd (omega arith)
isolate (suc k) m h l = by-digit k m (count_trailing_zeros k (m / 2)) (m % 2) h l refl (isolate k (m / 2) (omega arith))

pub lowest-bit-zero : lowest_bit 0 ≡ 0
unfolding lowest_bit
lowest-bit-zero = refl

pub lowest-bit-is : (m : ℕ) → 0 < m → lowest_bit m ≡ 2 ^ lowest m
unfolding lowest_bit
lowest-bit-is m l = ap (λ (b : Bool). cond b 0 (2 ^ lowest m)) (ne_eqb m 0 (λ e. omega arith))

-- n is the two's complement of m
pub lowest-bit-neg : (m n : ℕ) → m < 2 ^ 32 → n < 2 ^ 32 → (n + m) % 2 ^ 32 ≡ 0 → bit_and m n ≡ lowest_bit m
lowest-bit-neg m n h l e = go (eq-zero-or-pos m)
  where
    go : (m ≡ 0) ⊎ (0 < m) → bit_and m n ≡ lowest_bit m
    go (inl z) = ap (λ (x : ℕ). bit_and x n) z ∙ sym (ap lowest_bit z ∙ lowest-bit-zero)
    go (inr p) =
        let neg : n ≡ 2 ^ 32 - m = omega arith in
        ap (bit_and m) neg ∙ isolate 32 m h p ∙ sym (lowest-bit-is m p)

-- ---- its members
pub has-lowest-bit : (m p : ℕ) → m < 2 ^ 32 → has (lowest_bit m) p ≡ has m p && eqb (lowest m) p
has-lowest-bit m p h = go (eq-zero-or-pos m)
  where
    go : (m ≡ 0) ⊎ (0 < m) → has (lowest_bit m) p ≡ has m p && eqb (lowest m) p
    go (inl z) =
        ap (λ (x : ℕ). has (lowest_bit x) p) z ∙ ap (λ (x : ℕ). has x p) lowest-bit-zero ∙ has-zero p
        ∙ ap (λ (b : Bool). b && eqb (lowest m) p) (sym (ap (λ (x : ℕ). has x p) z ∙ has-zero p))
    go (inr l) =
        ap (λ (x : ℕ). has x p) (lowest-bit-is m l) ∙ has-tag (lowest m) p
        ∙ ap (λ (b : Bool). b && eqb (lowest m) p) (sym (lowest-has 32 m (lowest-lt 32 m h l)))
        ∙ sym (has-through m (lowest m) p)

pub lowest-bit-lt : (n m : ℕ) → n ≤ 32 → m < 2 ^ n → lowest_bit m < 2 ^ n
lowest-bit-lt n m k h = go (eq-zero-or-pos m)
  where
    go : (m ≡ 0) ⊎ (0 < m) → lowest_bit m < 2 ^ n
    go (inl z) = omega (arith, ap lowest_bit z ∙ lowest-bit-zero, pow_pos n)
    go (inr l) =
        let member = lowest-has 32 m (lowest-lt 32 m (lt_of_lt_of_le h (pow_mono k)) l) in
        omega (arith, lowest-bit-is m l, pow-lt {i = lowest m} {j = n} (member-lt n m (lowest m) h member))
