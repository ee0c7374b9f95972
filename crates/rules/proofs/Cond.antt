-- Laws of `cond`, seen through functions. Assumes nothing.
use Rattle.std.proofs.Common.{◌≡◌, Bool, true, false, cond}

-- two choices by one test, each seen through a function, are the same if both branches are
pub branches : {A B C : Type 0} (f : A → C) (g : B → C) (b : Bool) {x y : A} {z w : B}
    → f x ≡ g z → f y ≡ g w → f (cond b x y) ≡ g (cond b z w)
branches f g true p q = p
branches f g false p q = q

-- and a choice keeps what both branches keep
pub either : {A C : Type 0} (f : A → C) (b : Bool) {x y : A} {z : C} → f x ≡ z → f y ≡ z → f (cond b x y) ≡ z
either f true p q = p
either f false p q = q
