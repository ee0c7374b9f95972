-- The arithmetic of places: a sum below twice the capacity wraps at most once, two places of one channel differ, and the ends' places are
-- places after the first. Assumes nothing.
use Rattle.std.proofs.Common.{ℕ, ◌+◌, ◌-◌, ◌%◌, ◌<◌, ◌≤◌, ◌≡◌, ◌⊎◌, sym, ap, ◌∙◌, inl, inr, ⊎_elim, arith, add-zero, add_assoc, mod-lt, mod-eq_of_lt}
use Rattle.std.proofs.Math.Decide.{dec_lt}
use Rattle.std.proofs.Math.Nat.{mod-eq-sub-mod, mod-add-mod, add-mod_right}
use Rattle.ring.specs.declared.Channel.{Channel}
use Rattle.ring.specs.declared.End.{End}
use Rattle.ring.specs.declared.End.TheVariants.{Front, Back}
use Rattle.ring.specs.Ring.{Fits, place, put_place, take_place, gained, lifted}

-- ---- one wrap
pub mod-over : (s m : ℕ) → m ≤ s → s < m + m → s - m ≡ s % m
mod-over s m h l = sym (mod-eq-sub-mod h ∙ mod-eq_of_lt (omega arith))

-- a place lies before the wrap, or after it
wrap : (f j m : ℕ) → f < m → j < m → ((f + j) % m ≡ f + j) ⊎ (((f + j) % m ≡ f + j - m) × (m ≤ f + j))
wrap f j m p q = go (dec_lt (f + j) m)
  where
    go : Dec (f + j < m) → ((f + j) % m ≡ f + j) ⊎ (((f + j) % m ≡ f + j - m) × (m ≤ f + j))
    go (yes h) = inl (mod-eq_of_lt h)
    go (no h) =
        let over : m ≤ f + j = omega arith in
        inr (sym (mod-over (f + j) m over (omega arith)), over)

-- two places of one channel differ
pub apart : (f i j m : ℕ) → f < m → i < j → j < m → (f + i) % m ≡ (f + j) % m → ⊥
apart f i j m p q r e =
    ⊎_elim (λ (a : (f + i) % m ≡ f + i). ⊎_elim (λ b. omega arith) (λ b. omega arith) (wrap f j m p r))
    (λ (a : ((f + i) % m ≡ f + i - m) × (m ≤ f + i)). ⊎_elim (λ b. omega arith) (λ b. omega arith) (wrap f j m p r)) (wrap f i m p (omega arith))

-- ---- places of a channel
pub place-lt : (c : Channel) (j : ℕ) → 0 < c.capacity → place c j < c.capacity
place-lt c j h = mod-lt (c.first + j) h

pub place_none : (c : Channel) → c.first < c.capacity → place c 0 ≡ c.first
place_none c h = ap (◌% c.capacity) (add-zero c.first) ∙ mod-eq_of_lt h

-- the place after a place
pub place-next : (c : Channel) (j : ℕ) {at : ℕ} → at ≡ place c j → (at + 1) % c.capacity ≡ place c (j + 1)
place-next c j e = rw e (mod-add-mod (c.first + j) c.capacity 1 ∙ ap (◌% c.capacity) (add_assoc c.first j 1))

-- places counted from the place that lies m after the first
pub place-lifted : (c : Channel) (m n : ℕ) → place (lifted c m) n ≡ place c (m + n)
place-lifted c m n = mod-add-mod (c.first + m) c.capacity n ∙ ap (◌% c.capacity) (add_assoc c.first m n)

-- the place before the first is the last of all
pub put-front-place : (c : Channel) → 0 < c.capacity → put_place Front c ≡ place c (c.capacity - 1)
put-front-place c h = ap (◌% c.capacity) (omega arith)

-- and after it comes the first again
pub put-front-next : (c : Channel) → Fits c → place (gained Front c) 1 ≡ c.first
put-front-next c f =
    let over : c.first + c.capacity - 1 + 1 ≡ c.first + c.capacity = omega (arith, f.some) in
    mod-add-mod (c.first + c.capacity - 1) c.capacity 1 ∙ ap (◌% c.capacity) over ∙ add-mod_right c.first c.capacity ∙ mod-eq_of_lt f.first

pub take-back-place : (c : Channel) → 0 < c.count → take_place Back c ≡ place c (c.count - 1)
take-back-place c h = ap (◌% c.capacity) (omega arith)

pub put-place-lt : (e : End) (c : Channel) → 0 < c.capacity → put_place e c < c.capacity
put-place-lt Front c h = mod-lt (c.first + c.capacity - 1) h
put-place-lt Back c h = mod-lt (c.first + c.count) h

pub take-place-lt : (e : End) (c : Channel) → c.first < c.capacity → take_place e c < c.capacity
take-place-lt Front c h = h
take-place-lt Back c h = mod-lt (c.first + c.count - 1) (omega arith)
