-- Laws of truth values: a law of n of them is proved by computing it at every value, `taut n law refl`. Assumes nothing.
use Rattle.std.proofs.Common.{◌≡◌, ℕ, zero, suc, Bool, true, false, not, ◌&&◌, ◌||◌, sym, refl, ap, ◌∙◌}
use Rattle.std.proofs.Math.Bool.{beq, false≢true}

abbrev pub Law : ℕ → Type 0
Law zero = Bool
Law (suc n) = Bool → Law n

abbrev pub everywhere : (n : ℕ) → Law n → Bool
everywhere zero f = f
everywhere (suc n) f = everywhere n (f true) && everywhere n (f false)

abbrev pub Holds : (n : ℕ) → Law n → Type 0
Holds zero f = f ≡ true
Holds (suc n) f = (b : Bool) → Holds n (f b)

pub and_l : (a b : Bool) → a && b ≡ true → a ≡ true
and_l true b e = refl
and_l false b e = e

pub and_r : (a b : Bool) → a && b ≡ true → b ≡ true
and_r true b e = e
and_r false b e = absurd (false≢true e)

pub both : (a b : Bool) → a ≡ true → b ≡ true → a && b ≡ true
both a b p q = ap (λ (x : Bool). x && b) p ∙ q

by_cases : (P : Bool → Type 0) → P true → P false → (b : Bool) → P b
by_cases P t f true = t
by_cases P t f false = f

pub taut : (n : ℕ) (f : Law n) → everywhere n f ≡ true → Holds n f
taut zero f e = e
taut (suc n) f e =
    by_cases (λ (b : Bool). Holds n (f b))
    (taut n (f true) (and_l (everywhere n (f true)) (everywhere n (f false)) e))
    (taut n (f false) (and_r (everywhere n (f true)) (everywhere n (f false)) e))

-- what such a law gives, where it says that two values are equal, or that one implies another
pub equal : (a b : Bool) → beq a b ≡ true → a ≡ b
equal true true e = refl
equal true false e = sym e
equal false true e = e
equal false false e = refl

pub beq-self : (a : Bool) → beq a a ≡ true
beq-self true = refl
beq-self false = refl

pub mp : (a b : Bool) → not a || b ≡ true → a ≡ true → b ≡ true
mp true b e h = e
mp false b e h = absurd (false≢true h)
