-- Waking, process by process: who is ready then, whom the map keeps, who was woken; and within n. Assumes nothing.
use Rattle.std.proofs.Common.{◌≡◌, ℕ, ◌^◌, ◌<◌, ◌≤◌, Bool, true, false, not, ◌&&◌, ◌||◌, eqb, sym, refl, ap, ◌∙◌}
use Rattle.std.proofs.Math.Bool.{beq}
use Rattle.std.specs.Int.Bits.{bit_and, bit_or, or_lt}
use Rattle.maps.specs.Maps.{has, lowest, unready, woke, wake_all, wake_one}
use Rattle.maps.proofs.Truth.{taut, equal}
use Rattle.maps.proofs.Members.{has-or, has-and, has-minus, has-zero, same}
use Rattle.maps.proofs.Bounds.{minus-lt, member-pos}
use Rattle.maps.proofs.Isolate.{has-lowest-bit, lowest-bit-lt}

-- ---- wake all
pub wake-all-ready : (m r p : ℕ) → has (wake_all m r).ready p ≡ has r p || has m p
wake-all-ready m r p = simp (has-or, has-minus) (equal _ _ (taut 2 (λ x y. beq (x || (y && not x)) (x || y)) refl (has r p) (has m p)))

pub wake-all-map : (m r p : ℕ) → has (wake_all m r).map p ≡ has m p && has r p
wake-all-map m r p = simp has-minus (equal _ _ (taut 2 (λ x y. beq (x && not (x && not y)) (x && y)) refl (has m p) (has r p)))

pub wake-all-woken : (m r p : ℕ) → has (wake_all m r).woken p ≡ has m p && not (has r p)
wake-all-woken m r p = has-minus m r p

-- the same as masks: ready or map, map and ready
pub wake-all-or : (m r : ℕ) → (wake_all m r).ready ≡ bit_or r m
wake-all-or m r = same _ _ (λ p. wake-all-ready m r p ∙ sym (has-or r m p))

pub wake-all-and : (m r : ℕ) → (wake_all m r).map ≡ bit_and m r
wake-all-and m r = same _ _ (λ p. wake-all-map m r p ∙ sym (has-and m r p))

-- ---- wake one: of the map m, of 32 processes, that one of those who aren't ready who has the lowest number
module _ (m r p : ℕ) (h : m < 2 ^ 32) where
  pub wake-one-woken : has (wake_one m r).woken p ≡ has m p && not (has r p) && eqb (lowest (unready m r)) p
  wake-one-woken = simp (has-lowest-bit (unready m r) p (minus-lt 32 m r h), has-minus)

  pub wake-one-ready : has (wake_one m r).ready p ≡ has r p || (has m p && eqb (lowest (unready m r)) p)
  wake-one-ready =
      simp (has-or, wake-one-woken)
      (equal _ _ (taut 3 (λ x y z. beq (x || (y && not x && z)) (x || (y && z))) refl (has r p) (has m p) (eqb (lowest (unready m r)) p)))

  pub wake-one-map : has (wake_one m r).map p ≡ has m p && not (not (has r p) && eqb (lowest (unready m r)) p)
  wake-one-map =
      simp (has-minus, wake-one-woken)
      (equal _ _ (taut 3 (λ x y z. beq (y && not (y && not x && z)) (y && not (not x && z))) refl (has r p) (has m p) (eqb (lowest (unready m r)) p)))

-- ---- nobody to wake, and somebody
pub nobody : (m r : ℕ) → ((p : ℕ) → has m p ≡ true → has r p ≡ true) → unready m r ≡ 0
nobody m r f = same (unready m r) 0 (λ p. simp (has-minus, has-zero) (go p (has m p) refl))
  where
    go : (p : ℕ) (b : Bool) → has m p ≡ b → b && not (has r p) ≡ false
    go p true e = ap not (f p e)
    go p false e = refl

pub somebody : (m r p : ℕ) → has m p ≡ true → has r p ≡ false → 0 < unready m r
somebody m r p e f = member-pos (unready m r) p (simp (has-minus, e, f))

-- ---- bounds: who was woken stood in the map
module _ (n m r : ℕ) (k : n ≤ 32) (h : m < 2 ^ n) where
  pub wake-one-woken-lt : (wake_one m r).woken < 2 ^ n
  wake-one-woken-lt = lowest-bit-lt n (unready m r) k (minus-lt n m r h)

  pub wake-all-ready-lt : r < 2 ^ n → (wake_all m r).ready < 2 ^ n
  wake-all-ready-lt l = or_lt n r (unready m r) l (minus-lt n m r h)

  pub wake-one-ready-lt : r < 2 ^ n → (wake_one m r).ready < 2 ^ n
  wake-one-ready-lt l = or_lt n r (wake_one m r).woken l wake-one-woken-lt

  -- what a map keeps
  pub woke-map-lt : (who : ℕ) → (woke m r who).map < 2 ^ n
  woke-map-lt who = minus-lt n m who h
