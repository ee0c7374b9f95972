-- The slots of the check: each real place has one of its own below 24, and the others share slot 24. Assumes nothing.
use Rattle.std.proofs.Common.{ℕ, ◌+◌, ◌-◌, ◌<◌, ◌≤◌, ◌≡◌, refl, sym, ap, ◌∙◌, Bool, true, false, cond, ltb, ltb-true, lt-ltb, le-ltb, arith}
use Rattle.std.proofs.Math.Bool.{false≢true}
use Rattle.record.specs.declared.Setup.{Setup}
use Rattle.record.specs.Places.{Place, nowhere, at_flag, at_mutex, at_readers, at_writers, real_in}
use Rattle.record.specs.Check.{Small, slot_of}

-- a service's slot, base + i of count of them, or 24
among : (i count base : ℕ) → base + count ≤ 24 → cond (ltb i count) (base + i) 24 < 25
among i count base h = go (ltb i count) refl
  where
    go : (b : Bool) → ltb i count ≡ b → cond b (base + i) 24 < 25
    go true e = omega (arith, ltb-true i count e)
    go false e = omega arith

pub slot_lt : (s : Setup) (a : Place) → Small s → slot_of s a < 25
slot_lt s nowhere m = omega arith
slot_lt s (at_flag i) m = among i s.flags 0 (omega (arith, m.flags))
slot_lt s (at_mutex i) m = among i s.mutexes 8 (omega (arith, m.mutexes))
slot_lt s (at_readers i) m = among i s.channels 16 (omega (arith, m.channels))
slot_lt s (at_writers i) m = among i s.channels 20 (omega (arith, m.channels))

-- ---- a slot below 24 is that of one place
real-slot : (i count base : ℕ) → ltb i count ≡ true → cond (ltb i count) (base + i) 24 ≡ base + i
real-slot i count base e = ap (λ (b : Bool). cond b (base + i) 24) e

shared-slot : (i count base : ℕ) → ltb i count ≡ false → cond (ltb i count) (base + i) 24 ≡ 24
shared-slot i count base e = ap (λ (b : Bool). cond b (base + i) 24) e

pub slot-own : (s : Setup) (a : Place) → Small s → real_in s a ≡ true → slot_of s a < 24
slot-own s nowhere m r = absurd (false≢true r)
slot-own s (at_flag i) m r = omega (arith, real-slot i s.flags 0 r, ltb-true i s.flags r, m.flags)
slot-own s (at_mutex i) m r = omega (arith, real-slot i s.mutexes 8 r, ltb-true i s.mutexes r, m.mutexes)
slot-own s (at_readers i) m r = omega (arith, real-slot i s.channels 16 r, ltb-true i s.channels r, m.channels)
slot-own s (at_writers i) m r = omega (arith, real-slot i s.channels 20 r, ltb-true i s.channels r, m.channels)

slot-shared : (s : Setup) (a : Place) → real_in s a ≡ false → slot_of s a ≡ 24
slot-shared s nowhere r = refl
slot-shared s (at_flag i) r = shared-slot i s.flags 0 r
slot-shared s (at_mutex i) r = shared-slot i s.mutexes 8 r
slot-shared s (at_readers i) r = shared-slot i s.channels 16 r
slot-shared s (at_writers i) r = shared-slot i s.channels 20 r

-- so a slot below 24 says that there is such a service
pub slot-named : (s : Setup) (a : Place) → Small s → ltb (slot_of s a) 24 ≡ real_in s a
slot-named s a m = go (real_in s a) refl
  where
    go : (t : Bool) → real_in s a ≡ t → ltb (slot_of s a) 24 ≡ t
    go true r = lt-ltb (slot_of s a) 24 (slot-own s a m r)
    go false r = le-ltb (slot_of s a) 24 (omega (arith, slot-shared s a r))

place_in : ℕ → Place
place_in j = cond (ltb j 8) (at_flag j) (cond (ltb j 16) (at_mutex (j - 8)) (cond (ltb j 20) (at_readers (j - 16)) (at_writers (j - 20))))

place-in : (s : Setup) (a : Place) → Small s → real_in s a ≡ true → place_in (slot_of s a) ≡ a
unfolding place_in
place-in s nowhere m r = absurd (false≢true r)
place-in s (at_flag i) m r =
    let l = ltb-true i s.flags r in
    ap place_in (real-slot i s.flags 0 r) ∙ rw (lt-ltb (0 + i) 8 (omega (arith, m.flags))) (ap at_flag (omega arith))
place-in s (at_mutex i) m r =
    let l = ltb-true i s.mutexes r in
    ap place_in (real-slot i s.mutexes 8 r) ∙ rw (le-ltb (8 + i) 8 (omega arith), lt-ltb (8 + i) 16 (omega (arith, m.mutexes))) (ap at_mutex (omega arith))
place-in s (at_readers i) m r =
    let l = ltb-true i s.channels r in
    ap place_in (real-slot i s.channels 16 r) ∙ rw (le-ltb (16 + i) 8 (omega arith), le-ltb (16 + i) 16 (omega arith), lt-ltb (16 + i) 20 (omega (arith, m.channels))) (ap at_readers (omega arith))
place-in s (at_writers i) m r =
    let l = ltb-true i s.channels r in
    ap place_in (real-slot i s.channels 20 r) ∙ rw (le-ltb (20 + i) 8 (omega arith), le-ltb (20 + i) 16 (omega arith), le-ltb (20 + i) 20 (omega arith)) (ap at_writers (omega arith))

pub slot_same : (s : Setup) (b a : Place) → Small s → real_in s a ≡ true → slot_of s b ≡ slot_of s a → b ≡ a
slot_same s b a m r e = go (real_in s b) refl
  where
    go : (t : Bool) → real_in s b ≡ t → b ≡ a
    go true q = sym (place-in s b m q) ∙ ap place_in e ∙ place-in s a m r
    go false q = absurd (omega (arith, slot-own s a m r, slot-shared s b q, e))
