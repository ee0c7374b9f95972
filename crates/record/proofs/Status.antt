-- Rules 3 to 5 of one process as truth values: what the rules say is `allowed` with 'in no map but its wait's'. Each law is computed. Assumes nothing.
use Rattle.std.proofs.Common.{◌≡◌, refl, Bool, true, false, not, ◌&&◌, ◌||◌}
use Rattle.maps.proofs.Truth.{taut, mp, both}
use Rattle.record.specs.Words.{implies, exactly}
use Rattle.record.specs.Facts.{allowed}

-- the three rules, by the seven truth values of `allowed`, 'in no service map' (m) and 'in no map but its wait's' (u)
abbrev pub three : Bool → Bool → Bool → Bool → Bool → Bool → Bool → Bool
three o s e r z m u = implies (not o) (r && z && m) && implies o ((s || e) && u)

abbrev pub four : Bool → Bool → Bool → Bool → Bool → Bool → Bool
four o s l r z h = implies (not r) (o && (s || h) && exactly (not z) l)

abbrev pub five : Bool → Bool → Bool → Bool → Bool → Bool
five s l r z h = implies (r && (not l || s || h)) z

pub to-allowed : (o s l e r z h m u : Bool) → three o s e r z m u ≡ true → four o s l r z h ≡ true → five s l r z h ≡ true → allowed o s l e r z h ≡ true
to-allowed o s l e r z h m u a b c =
    mp _ _
    (taut 9 (λ o s l e r z h m u. implies (three o s e r z m u && four o s l r z h && five s l r z h) (allowed o s l e r z h)) refl o s l e r z h m u)
    (both _ _ (both _ _ a b) c)

pub to-three : (o s l e r z h m u : Bool) → allowed o s l e r z h ≡ true → implies (not o) m ≡ true → implies o u ≡ true → three o s e r z m u ≡ true
to-three o s l e r z h m u a b c =
    mp _ _
    (taut 9 (λ o s l e r z h m u. implies (allowed o s l e r z h && implies (not o) m && implies o u) (three o s e r z m u)) refl o s l e r z h m u)
    (both _ _ (both _ _ a b) c)

pub to-four : (o s l e r z h : Bool) → allowed o s l e r z h ≡ true → four o s l r z h ≡ true
to-four o s l e r z h = mp _ _ (taut 7 (λ o s l e r z h. implies (allowed o s l e r z h) (four o s l r z h)) refl o s l e r z h)

pub to-five : (o s l e r z h : Bool) → allowed o s l e r z h ≡ true → five s l r z h ≡ true
to-five o s l e r z h = mp _ _ (taut 7 (λ o s l e r z h. implies (allowed o s l e r z h) (five s l r z h)) refl o s l e r z h)

-- a process without open wait is ready, and has counter 0
pub closed-ready : (s l e r z h : Bool) → allowed false s l e r z h ≡ true → r ≡ true
closed-ready s l e r z h = mp _ _ (taut 6 (λ s l e r z h. implies (allowed false s l e r z h) r) refl s l e r z h)

pub closed-rests : (s l e r z h : Bool) → allowed false s l e r z h ≡ true → z ≡ true
closed-rests s l e r z h = mp _ _ (taut 6 (λ s l e r z h. implies (allowed false s l e r z h) z) refl s l e r z h)
