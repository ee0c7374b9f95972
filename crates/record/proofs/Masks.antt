-- Rules 3 to 5 of all processes at once: the mask of those who break one is empty exactly if each of the n processes keeps them, where 'in its map'
-- and 'in a service map' are both read off the union of the maps. Assumes nothing.
use Rattle.std.proofs.Common.{ℕ, ◌<◌, ◌≡◌, refl, sym, ap, ◌∙◌, Bool, true, false, not, ◌&&◌, ◌||◌, List, ltb, eqb, eqb-true, eq-eqb, lt-ltb, ltb-true}
use Rattle.std.proofs.Math.Bool.{beq}
use Rattle.maps.specs.Maps.{has, everyone}
use Rattle.maps.proofs.Truth.{taut, equal, mp, both}
use Rattle.maps.proofs.Members.{has-and, has-or, has-minus, has-everyone, has-map-of}
use Rattle.maps.proofs.Bounds.{empty-none, none-empty}
use Rattle.record.specs.declared.Setup.{Setup}
use Rattle.record.specs.declared.Process.{Process}
use Rattle.record.specs.Words.{implies, exactly, all_below}
use Rattle.record.specs.Places.{is_open, sleeps, limited, place_of, real_in}
use Rattle.record.specs.Facts.{allowed}
use Rattle.record.specs.Check.{row_at, tally_of, broken}
use Rattle.record.proofs.Logic.{same_test, all-iff}

-- one process keeps rules 3 to 5: `allowed` with y, 'in a service map', for h
abbrev pub keeps : Bool → Bool → Bool → Bool → Bool → Bool → Bool → Bool
keeps o s l e r z y =
    implies (not o) (r && z && not y) && implies o (s || e)
    && implies (not r) (o && (s || y) && exactly (not z) l)
    && implies (r && (not l || s || y)) z

-- the bit of one process in the mask, where b says that it is one of the n
abbrev bit : Bool → Bool → Bool → Bool → Bool → Bool → Bool → Bool → Bool
bit b o s l e r z y =
    (((b && not (b && o) && not (r && (b && z) && not y)) || (b && o && not (b && s || (b && e))))
    || (b && not r && not (b && o && (b && s || y) && (b && z && not (b && l) || (b && l && not (b && z)))))
    || (r && (b && not (b && l) || (b && s) || y) && not (b && z)))
    && b

bit-law : (b o s l e r z y : Bool) → bit b o s l e r z y ≡ b && not (keeps o s l e r z y)
bit-law b o s l e r z y = equal _ _ (taut 8 (λ b o s l e r z y. beq (bit b o s l e r z y) (b && not (keeps o s l e r z y))) refl b o s l e r z y)

-- a mask of those of n who fail a test is empty exactly if all pass
pub none-fails : (w n : ℕ) (f : ℕ → Bool) → ((p : ℕ) → has w p ≡ ltb p n && not (f p)) → eqb w 0 ≡ all_below n f
none-fails w n f law =
    same_test (eqb w 0) (all_below n f)
    (λ e. (all-iff n f).1 (λ p h. pass p h (f p) refl (sym (law p) ∙ empty-none w (eqb-true w 0 e) p)))
    (λ e. eq-eqb w 0 (none-empty w (λ p. law p ∙ out p (ltb p n) refl (f p) refl e)))
  where
    pass : (p : ℕ) → p < n → (t : Bool) → f p ≡ t → ltb p n && not (f p) ≡ false → t ≡ true
    pass p h true q e = refl
    pass p h false q e = sym (sym (ap (λ (b : Bool). b && not (f p)) (lt-ltb p n h) ∙ ap not q) ∙ e)

    out : (p : ℕ) (b : Bool) → ltb p n ≡ b → (t : Bool) → f p ≡ t → all_below n f ≡ true → ltb p n && not (f p) ≡ false
    out p true h t q e = ap (λ (x : Bool). ltb p n && not x) ((all-iff n f).0 e p (ltb-true p n h)) ∙ ap (λ (x : Bool). x && false) h
    out p false h t q e = ap (λ (x : Bool). x && not (f p)) h

module _ (s : Setup) (process : List Process) (any ready : ℕ) where
  abbrev pub keeps_at : ℕ → Bool
  keeps_at p =
      keeps (is_open (row_at process p).wait) (sleeps (row_at process p).wait) (limited (row_at process p).wait) (real_in s (place_of (row_at process p).wait))
      (has ready p) (eqb (row_at process p).counter 0) (has any p)

  has-broken : (p : ℕ) → has (broken (tally_of s process s.processes) any ready (everyone s.processes)) p ≡ ltb p s.processes && not (keeps_at p)
  unfolding broken
  has-broken p =
      simp (has-and, has-or, has-minus, has-everyone, has-map-of)
      (bit-law (ltb p s.processes) (is_open (row_at process p).wait) (sleeps (row_at process p).wait) (limited (row_at process p).wait)
      (real_in s (place_of (row_at process p).wait)) (has ready p) (eqb (row_at process p).counter 0) (has any p))

  pub none-broken : eqb (broken (tally_of s process s.processes) any ready (everyone s.processes)) 0 ≡ all_below s.processes keeps_at
  none-broken = none-fails _ s.processes keeps_at has-broken

-- where a process in some map is in its own (a), one in its own is in some, if that exists (b), and only one with an open wait that does not sleep is in
-- its own (c, d), the two tables are one
pub keeps-allowed : (o s l e r z y h : Bool) → implies y h ≡ true → implies (h && e) y ≡ true → implies h o ≡ true → implies h (not s) ≡ true
    → keeps o s l e r z y ≡ allowed o s l e r z h
keeps-allowed o s l e r z y h a b c d =
    equal _ _
    (mp _ _
    (taut 8
    (λ o s l e r z y h. implies (implies y h && implies (h && e) y && implies h o && implies h (not s)) (beq (keeps o s l e r z y) (allowed o s l e r z h)))
    refl o s l e r z y h)
    (both _ _ (both _ _ (both _ _ a b) c) d))
