-- Tags: a test by a tag is membership by its number; a tag's number, and back. Assumes nothing.
use Rattle.std.proofs.Common.{◌≡◌, ℕ, ◌^◌, ◌<◌, Bool, true, false, cond, not, ◌&&◌, eqb, ◌⊎◌, sym, refl, ap, ◌∙◌, inl, inr, eq-zero-or-pos, arith, pow_pos, eq-eqb, ne_eqb, eqb-true}
use Rattle.std.specs.Int.Bits.{bit_and}
use Rattle.std.specs.Int.Count.{trailing_of_zero}
use Rattle.maps.specs.Maps.{has, meets, lowest, lowest_bit, number_of}
use Rattle.maps.proofs.Members.{has-and, has-zero, has-tag, has-through, same}
use Rattle.maps.proofs.Lowest.{lowest-tag}
use Rattle.maps.proofs.Isolate.{lowest-bit-zero, lowest-bit-is}

-- ---- a test against a tag: `map & tag != 0`
and-tag : (m p : ℕ) → bit_and m (2 ^ p) ≡ cond (has m p) (2 ^ p) 0
and-tag m p = same (bit_and m (2 ^ p)) (cond (has m p) (2 ^ p) 0) (λ q. has-and m (2 ^ p) q ∙ ap (λ (b : Bool). has m q && b) (has-tag p q) ∙ has-through m p q ∙ fin q (has m p))
  where
    fin : (q : ℕ) (b : Bool) → b && eqb p q ≡ has (cond b (2 ^ p) 0) q
    fin q true = sym (has-tag p q)
    fin q false = sym (has-zero q)

pub meets-tag : (m p : ℕ) → meets m (2 ^ p) ≡ has m p
meets-tag m p = ap (λ (x : ℕ). not (eqb x 0)) (and-tag m p) ∙ fin (has m p)
  where
    fin : (b : Bool) → not (eqb (cond b (2 ^ p) 0) 0) ≡ b
    fin true = ap not (ne_eqb (2 ^ p) 0 (λ e. omega (arith, pow_pos p)))
    fin false = refl

-- ---- a tag's number
pub number-of-tag : (p : ℕ) → p < 32 → number_of (2 ^ p) ≡ p
unfolding number_of
number-of-tag p h =
    ap (λ (b : Bool). cond b (lowest (2 ^ p)) 32) (eq-eqb (2 ^ p) (2 ^ lowest (2 ^ p)) (ap (λ (x : ℕ). 2 ^ x) (sym (lowest-tag 32 p h))))
    ∙ lowest-tag 32 p h

pub tag-of-number : (t : ℕ) → number_of t < 32 → t ≡ 2 ^ number_of t
unfolding number_of
tag-of-number t = go (eqb t (2 ^ lowest t)) refl
  where
    go : (b : Bool) → eqb t (2 ^ lowest t) ≡ b → cond b (lowest t) 32 < 32 → t ≡ 2 ^ cond b (lowest t) 32
    go true e h = eqb-true t (2 ^ lowest t) e
    go false e h = absurd (omega arith)

-- as the code finds it: by the lowest bit
pub number-isolated : (t : ℕ) → lowest_bit t ≡ t → lowest t ≡ number_of t
unfolding number_of
number-isolated t e = go (eq-zero-or-pos t)
  where
    go : (t ≡ 0) ⊎ (0 < t) → lowest t ≡ cond (eqb t (2 ^ lowest t)) (lowest t) 32
    go (inl z) =
        ap lowest z ∙ trailing_of_zero 32
        ∙ ap (λ (b : Bool). cond b (lowest t) 32) (sym (ne_eqb t (2 ^ lowest t) (λ q. omega (arith, pow_pos (lowest t)))))
    go (inr l) = ap (λ (b : Bool). cond b (lowest t) 32) (sym (eq-eqb t (2 ^ lowest t) (sym e ∙ lowest-bit-is t l)))

pub number-none : (t : ℕ) → (lowest_bit t ≡ t → ⊥) → 32 ≡ number_of t
unfolding number_of
number-none t f = go (eq-zero-or-pos t)
  where
    go : (t ≡ 0) ⊎ (0 < t) → 32 ≡ cond (eqb t (2 ^ lowest t)) (lowest t) 32
    go (inl z) = absurd (f (ap lowest_bit z ∙ lowest-bit-zero ∙ sym z))
    go (inr l) = ap (λ (b : Bool). cond b (lowest t) 32) (sym (ne_eqb t (2 ^ lowest t) (λ q. f (lowest-bit-is t l ∙ sym q))))
