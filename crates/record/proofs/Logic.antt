-- Tests to facts and back: `simp facts at h` turns a test that passed into what it says. Assumes nothing.
use Rattle.std.proofs.Common.{ℕ, zero, suc, ◌<◌, ◌≤◌, ◌≡◌, refl, sym, ◌↔◌, Bool, true, false, not, leb, eqb, leb-true, eqb-true, le-leb, eq-eqb, below_more, not-suc-le-zero, arith}
use Rattle.std.proofs.Math.Bool.{and-eq-true_iff, false≢true}
use Rattle.record.specs.Words.{implies, all_below}

pub imp-iff : (a b : Bool) → (implies a b ≡ true) ↔ (a ≡ true → b ≡ true)
imp-iff true b = (λ e h. e, λ f. f refl)
imp-iff false b = (λ e h. absurd (false≢true h), λ f. refl)

-- (`ltb a b` is `leb (suc a) b`)
pub leb-iff : (a b : ℕ) → (leb a b ≡ true) ↔ (a ≤ b)
leb-iff a b = (leb-true a b, le-leb a b)

pub eqb-iff : (a b : ℕ) → (eqb a b ≡ true) ↔ (a ≡ b)
eqb-iff a b = (eqb-true a b, eq-eqb a b)

pub not_iff : (a : Bool) → (not a ≡ true) ↔ (a ≡ false)
not_iff true = (λ e. sym e, λ e. sym e)
not_iff false = (λ e. refl, λ e. refl)

pub ruleset facts = (and-eq-true_iff, imp-iff, not_iff, eqb-iff, leb-iff)

-- two tests that pass together are one
pub same_test : (a b : Bool) → (a ≡ true → b ≡ true) → (b ≡ true → a ≡ true) → a ≡ b
same_test true b f g = sym (f refl)
same_test false true f g = g refl
same_test false false f g = refl

pub all-iff : (n : ℕ) (f : ℕ → Bool) → (all_below n f ≡ true) ↔ ((i : ℕ) → i < n → f i ≡ true)
unfolding all_below
all-iff zero f = (λ e i h. absurd (not-suc-le-zero h), λ g. refl)
all-iff (suc n) f = (
  λ e i h. below_more (λ (j : ℕ). f j ≡ true) n ((all-iff n f).0 ((and-eq-true_iff (all_below n f) (f n)).0 e).0) ((and-eq-true_iff (all_below n f) (f n)).0 e).1 i (omega arith),
  λ g. (and-eq-true_iff (all_below n f) (f n)).1 ((all-iff n f).1 (λ i h. g i (omega arith)), g n (omega arith)),
)
