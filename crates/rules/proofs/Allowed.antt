-- Rules 3 to 5 of one process as truth values: what each change of a process leaves of `allowed`. Each law is computed. Assumes nothing.
use Rattle.std.proofs.Common.{◌≡◌, Bool, true, false, not, ◌&&◌, ◌||◌, refl, ap}
use Rattle.maps.proofs.Truth.{taut, mp}
use Rattle.record.specs.Words.{implies}
use Rattle.record.specs.Facts.{allowed}

-- its counter falls; u says that this was the last tick, and then it becomes ready
pub falls : (u o s l e r z h : Bool) → allowed o s l e r z h ≡ true → allowed o s l e (r || u) (z || u) h ≡ true
falls u o s l e r z h =
    mp _ _ (taut 8 (λ u o s l e r z h. implies (allowed o s l e r z h) (allowed o s l e (r || u) (z || u) h)) refl u o s l e r z h)

-- made ready with counter 0
pub forced : (o s l e r z h : Bool) → allowed o s l e r z h ≡ true → allowed o s l e true true h ≡ true
forced o s l e r z h = mp _ _ (taut 7 (λ o s l e r z h. implies (allowed o s l e r z h) (allowed o s l e true true h)) refl o s l e r z h)

-- made ready and out of its map
pub woken : (o l e z : Bool) → allowed o false l e false z true ≡ true → allowed o false l e true z false ≡ true
woken o l e z = mp _ _ (taut 4 (λ o l e z. implies (allowed o false l e false z true) (allowed o false l e true z false)) refl o l e z)

-- a wait opened
pub opened : (s e z h : Bool) → s || e ≡ true → s || h ≡ true → allowed true s (not z) e false z h ≡ true
opened s e z h a b =
    mp _ _ (mp _ _ (taut 4 (λ s e z h. implies (s || e) (implies (s || h) (allowed true s (not z) e false z h))) refl s e z h) a) b

-- back into its map, the limit not used up
pub back : (s l e z h : Bool) → allowed true s l e true z h ≡ true → l && z ≡ false → allowed true s l e false z true ≡ true
back s l e z h a b =
    mp _ _
    (mp _ _ (taut 5 (λ s l e z h. implies (allowed true s l e true z h) (implies (not (l && z)) (allowed true s l e false z true))) refl s l e z h) a)
    (ap not b)

-- an open wait that does not sleep names an existing service
pub names : (l e r z h : Bool) → allowed true false l e r z h ≡ true → e ≡ true
names l e r z h = mp _ _ (taut 5 (λ l e r z h. implies (allowed true false l e r z h) e) refl l e r z h)
