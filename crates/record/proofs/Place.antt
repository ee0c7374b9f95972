-- Places: two of one kind and one number are one; what holds of every real place; waits and places. Assumes nothing.
use Rattle.std.proofs.Common.{ℕ, zero, suc, ◌≡◌, refl, sym, ap, ap₂, ◌∙◌, Bool, true, false, true≢false, eqb, eqb-true, eq-eqb, lt-ltb, ltb-true}
use Rattle.std.proofs.Math.Bool.{and-eq-true_iff, false≢true}
use Rattle.maps.proofs.Truth.{and_l, and_r, both}
use Rattle.record.specs.declared.Setup.{Setup}
use Rattle.record.specs.declared.Wait.{Wait}
use Rattle.record.specs.declared.Wait.TheVariants.{Nothing, Sleep, Flag, Mutex, Push, Pop}
use Rattle.record.specs.Places.{Place, nowhere, at_flag, at_mutex, at_readers, at_writers, kind_of, index_of, same_place, real_in, everywhere, is_open, sleeps, place_of}
use Rattle.record.proofs.Logic.{all-iff}

-- ---- one place
placed : ℕ → ℕ → Place
placed zero i = nowhere
placed (suc zero) i = at_flag i
placed (suc (suc zero)) i = at_mutex i
placed (suc (suc (suc zero))) i = at_readers i
placed (suc (suc (suc (suc n)))) i = at_writers i

placed-law : (a : Place) → placed (kind_of a) (index_of a) ≡ a
unfolding placed
placed-law nowhere = refl
placed-law (at_flag i) = refl
placed-law (at_mutex i) = refl
placed-law (at_readers i) = refl
placed-law (at_writers i) = refl

pub same-eq : (a b : Place) → same_place a b ≡ true → a ≡ b
same-eq a b e =
    sym (placed-law a)
    ∙ ap₂ placed (eqb-true (kind_of a) (kind_of b) (and_l _ (eqb (index_of a) (index_of b)) e)) (eqb-true (index_of a) (index_of b) (and_r (eqb (kind_of a) (kind_of b)) _ e))
    ∙ placed-law b

pub same_self : (a : Place) → same_place a a ≡ true
same_self a = both _ _ (eq-eqb (kind_of a) (kind_of a) refl) (eq-eqb (index_of a) (index_of a) refl)

-- ---- every real place
module _ (s : Setup) (f : Place → Bool) where
  pub places-to : everywhere s f ≡ true → (a : Place) → real_in s a ≡ true → f a ≡ true
  unfolding everywhere
  places-to h nowhere e = absurd (false≢true e)
  places-to h (at_flag i) e = (all-iff s.flags (λ i. f (at_flag i))).0 (simp and-eq-true_iff at h).0.0.0 i (ltb-true i s.flags e)
  places-to h (at_mutex i) e = (all-iff s.mutexes (λ i. f (at_mutex i))).0 (simp and-eq-true_iff at h).0.0.1 i (ltb-true i s.mutexes e)
  places-to h (at_readers i) e = (all-iff s.channels (λ i. f (at_readers i))).0 (simp and-eq-true_iff at h).0.1 i (ltb-true i s.channels e)
  places-to h (at_writers i) e = (all-iff s.channels (λ i. f (at_writers i))).0 (simp and-eq-true_iff at h).1 i (ltb-true i s.channels e)

  pub places-from : ((a : Place) → real_in s a ≡ true → f a ≡ true) → everywhere s f ≡ true
  unfolding everywhere
  places-from h =
      both _ _ (both _ _ (both _ _
      ((all-iff s.flags (λ i. f (at_flag i))).1 (λ i l. h (at_flag i) (lt-ltb i s.flags l)))
      ((all-iff s.mutexes (λ i. f (at_mutex i))).1 (λ i l. h (at_mutex i) (lt-ltb i s.mutexes l))))
      ((all-iff s.channels (λ i. f (at_readers i))).1 (λ i l. h (at_readers i) (lt-ltb i s.channels l))))
      ((all-iff s.channels (λ i. f (at_writers i))).1 (λ i l. h (at_writers i) (lt-ltb i s.channels l)))

-- ---- waits and places
pub closed-nothing : (w : Wait) → is_open w ≡ false → w ≡ Nothing
closed-nothing Nothing e = refl
closed-nothing (Sleep l) e = absurd (true≢false e)
closed-nothing (Flag i l) e = absurd (true≢false e)
closed-nothing (Mutex i l) e = absurd (true≢false e)
closed-nothing (Push i x d) e = absurd (true≢false e)
closed-nothing (Pop i d l) e = absurd (true≢false e)

pub closed-nowhere : (w : Wait) → is_open w ≡ false → place_of w ≡ nowhere
closed-nowhere w e = ap place_of (closed-nothing w e)

-- a closed wait is at no real place
pub closed-out : (s : Setup) (w : Wait) (a : Place) → is_open w ≡ false → real_in s a ≡ true → place_of w ≡ a → ⊥
closed-out s w a e r q = false≢true (ap (real_in s) (sym (closed-nowhere w e) ∙ q) ∙ r)

pub sleeps-nowhere : (w : Wait) → (place_of w ≡ nowhere → ⊥) → sleeps w ≡ false
sleeps-nowhere Nothing h = refl
sleeps-nowhere (Sleep l) h = absurd (h refl)
sleeps-nowhere (Flag i l) h = refl
sleeps-nowhere (Mutex i l) h = refl
sleeps-nowhere (Push i x d) h = refl
sleeps-nowhere (Pop i d l) h = refl
