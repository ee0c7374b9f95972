-- What acceptance gives the code: the slots that a call works on are in their tables, and its parts are what it asks for. Assumes nothing.
use Rattle.std.proofs.Common.{◌≡◌, ℕ, ◌<◌, ◌≤◌, min, true, ◌||◌, List, length, sym, refl, ◌∙◌, subst, arith, ltb-true, lt-ltb, Ok}
use Rattle.maps.proofs.Truth.{taut, mp}
use Rattle.record.specs.declared.Kernel.{Kernel}
use Rattle.record.specs.declared.Process.{Process}
use Rattle.record.specs.declared.Wait.{Wait}
use Rattle.record.specs.declared.Wait.TheVariants.{Nothing, Sleep, Flag, Mutex, Push, Pop}
use Rattle.record.specs.Words.{implies}
use Rattle.record.specs.Record.{wait_of}
use Rattle.record.specs.Places.{is_open, sleeps, limited, place_of, real}
use Rattle.record.specs.Sound.{is_ready, rests, in_its_map}
use Rattle.record.specs.Facts.{Sound, allowed}
use Rattle.room.specs.Room.{There, Starts, room_length, offset}
use Rattle.room.proofs.Offsets.{there}
use Rattle.room.proofs.Lent.{lent, starts, lent-holds}
use Rattle.rules.specs.declared.Call.{Call}
use Rattle.rules.specs.declared.Call.TheVariants as call
use Rattle.rules.specs.declared.Interrupt.{Interrupt}
use Rattle.rules.specs.declared.Interrupt.TheVariants as interrupt
use Rattle.rules.specs.declared.Reading.{Reading}
use Rattle.rules.specs.declared.Reading.TheVariants as reading
use Rattle.rules.specs.declared.Request.{Request}
use Rattle.rules.specs.declared.Request.TheVariants as request
use Rattle.rules.specs.declared.Named.{Named}
use Rattle.rules.specs.declared.Named.TheVariants as named
use Rattle.rules.specs.Blocks.{caller_row}
use Rattle.rules.specs.Calls.{needs_room, named_by, named_by_request}
use Rattle.rules.specs.Refusals.{verdict}
use Rattle.rules.proofs.Accepted.{passed, sound-of, depth-above, flag-below, mutex-below, channel-below, process-below}
use Rattle.parts.specs.declared.Spot.{Spot}
use Rattle.parts.specs.Needs.{Usable}
use Rattle.parts.specs.Spots.{named_by_wait, slots, below, inside, Inside}
use Rattle.parts.specs.Taken.{taken}
use Rattle.parts.proofs.PutBack.{Begins, spot_at}
use Rattle.parts.proofs.Finished.{row_back}
use Rattle.carry.specs.Targets.{target, worked_on}
use Rattle.carry.specs.Needed.{Readable, Asked, Lent, Needed}

-- what is named has a slot
abbrev Slotted : Named → Type 0
Slotted (named.Flag i) = i < 8
Slotted (named.Mutex i) = i < 8
Slotted (named.Channel i) = i < 4
Slotted (named.Process p) = p.0 < 32
Slotted named.Nothing = Unit

-- then the slots are in their tables
slots-inside : (p : ℕ) (n : Named) → p < 32 → Slotted n → Inside (slots p n)
slots-inside p named.Nothing h s = record { process = h; flag = omega arith; mutex = omega arith; channel = omega arith }
slots-inside p (named.Flag i) h s = record { process = h; flag = s; mutex = omega arith; channel = omega arith }
slots-inside p (named.Mutex i) h s = record { process = h; flag = omega arith; mutex = s; channel = omega arith }
slots-inside p (named.Channel i) h s = record { process = h; flag = omega arith; mutex = omega arith; channel = s }
slots-inside p (named.Process q) h s = record { process = s; flag = omega arith; mutex = omega arith; channel = omega arith }

-- ---- of a sound record
module _ (k : Kernel) (s : Sound k) where
  pub running-slot : k.running.0 < 32
  running-slot = omega (arith, s.core.limits)

  -- an open wait sleeps or names an existing service
  caller-names : implies (is_open (wait_of k k.running.0)) (sleeps (wait_of k k.running.0) || real k (place_of (wait_of k k.running.0))) ≡ true
  caller-names =
      let p = k.running.0 in
      mp _ _
      (taut 7 (λ o s l e r z h. implies (allowed o s l e r z h) (implies o (s || e))) refl
      (is_open (wait_of k p)) (sleeps (wait_of k p)) (limited (wait_of k p)) (real k (place_of (wait_of k p))) (is_ready k p) (rests k p) (in_its_map k p))
      (s.core.waits.each p s.core.limits.running-below).status

  wait-slotted : (w : Wait) → implies (is_open w) (sleeps w || real k (place_of w)) ≡ true → Slotted (named_by_wait w)
  wait-slotted Nothing e = tt
  wait-slotted (Sleep l) e = tt
  wait-slotted (Flag i l) e = omega (arith, ltb-true i k.setup.flags e, s.core.limits)
  wait-slotted (Mutex i l) e = omega (arith, ltb-true i k.setup.mutexes e, s.core.limits)
  wait-slotted (Push i x d) e = omega (arith, ltb-true i k.setup.channels e, s.core.limits)
  wait-slotted (Pop i d l) e = omega (arith, ltb-true i k.setup.channels e, s.core.limits)

  channel-there : (i n : ℕ) → n ≡ room_length k → i < k.setup.channels → There k.channel i n
  channel-there i n e h = there k.channel i k.setup.channels n h s.core.limits.channels (s.core.tables.fits i h) e

  -- with its part of the room lent from a on
  module _ (room : List ℕ) (q : length room ≡ room_length k) (a : ℕ) where
    wait-begins : (w : Wait) → implies (is_open w) (sleeps w || real k (place_of w)) ≡ true
        → a ≡ min (offset k.channel (spot_at k w).channel) (length room) → Begins k (length room) a (named_by_wait w)
    wait-begins (Push i x d) e s = starts (channel-there i (length room) q (ltb-true i k.setup.channels e)) s
    wait-begins (Pop i d l) e s = starts (channel-there i (length room) q (ltb-true i k.setup.channels e)) s
    wait-begins w e s = tt

    wait-usable : (w : Wait) → Begins k (length room) a (named_by_wait w) → Usable (taken k (spot_at k w)) (length (lent room a)) w
    wait-usable (Push i x d) b = lent-holds room b
    wait-usable (Pop i d l) b = lent-holds room b
    wait-usable w b = tt

-- ---- of an accepted call
module _ (k : Kernel) (n : ℕ) (c : Call) (a : verdict k n c ≡ Ok tt) where
  pub caller-slot : k.running.0 < 32
  caller-slot = running-slot k (sound-of k n c a)

  pub counts-right : (2 ≤ k.setup.processes) × (k.setup.processes ≤ 32)
  counts-right = let l = (sound-of k n c a).core.limits in (l.two, l.most)

  name-slotted : (m : Named) → named_by c ≡ m → Slotted m
  name-slotted named.Nothing e = tt
  name-slotted (named.Flag i) e = omega (arith, flag-below k n c a i e, (sound-of k n c a).core.limits)
  name-slotted (named.Mutex i) e = omega (arith, mutex-below k n c a i e, (sound-of k n c a).core.limits)
  name-slotted (named.Channel i) e = omega (arith, channel-below k n c a i e, (sound-of k n c a).core.limits)
  name-slotted (named.Process p) e = omega (arith, process-below k n c a p e, (sound-of k n c a).core.limits)

  channel-here : (i : ℕ) → named_by c ≡ named.Channel i → needs_room c ≡ true → There k.channel i n
  channel-here i e h = channel-there k (sound-of k n c a) i n ((passed k n c a).fits h) (channel-below k n c a i e)

-- ---- the slots that an accepted call works on
target-slotted : (k : Kernel) (n : ℕ) (c : Call) → verdict k n c ≡ Ok tt → Slotted (target (caller_row k).wait c)
target-slotted k n call.Enter a = tt
target-slotted k n call.Exit a = tt
target-slotted k n call.Switch a = tt
target-slotted k n (call.Reading r) a = name-slotted k n (call.Reading r) a _ refl
target-slotted k n (call.Process r) a = name-slotted k n (call.Process r) a _ refl
target-slotted k n call.Finish a = let s = sound-of k n call.Finish a in wait-slotted k s (caller_row k).wait (caller-names k s)
target-slotted k n (call.Interrupt i) a = name-slotted k n (call.Interrupt i) a _ refl

pub spot-inside : (k : Kernel) (n : ℕ) (c : Call) → verdict k n c ≡ Ok tt → {s : Spot} → s ≡ worked_on k c → Inside s
spot-inside k n c a e =
    subst (λ (s : Spot). Inside s) (sym e) (slots-inside k.running.0 (target (caller_row k).wait c) (caller-slot k n c a) (target-slotted k n c a))

-- slots that are in their tables stay
below-same : (n i : ℕ) → i < n → below n i ≡ i
below-same n i h = simp (lt-ltb i n h)

inside-same : (s : Spot) → Inside s → inside s ≡ s
inside-same s h = simp (below-same 32 s.process h.process, below-same 8 s.flag h.flag, below-same 8 s.mutex h.mutex, below-same 4 s.channel h.channel)

pub spot-stays : (k : Kernel) (n : ℕ) (c : Call) → verdict k n c ≡ Ok tt → {m s : Spot} → m ≡ worked_on k c → s ≡ inside m → s ≡ worked_on k c
spot-stays k n c a {m} {s} e i = i ∙ inside-same m (spot-inside k n c a e) ∙ e

-- ---- what it asks for, with its part of the room lent from st on
module _ (k : Kernel) (room : List ℕ) (st : ℕ) where
  abbrev Accepted : Call → Type 0
  Accepted c = verdict k (length room) c ≡ Ok tt

  abbrev pub Start : Call → Type 0
  Start c = st ≡ min (offset k.channel (worked_on k c).channel) (length room)

  pub request-begins : (r : Request) → Accepted (call.Process r) → Start (call.Process r) → Begins k (length room) st (named_by_request r)
  request-begins (request.Push i x e) a s = starts (channel-here k (length room) (call.Process (request.Push i x e)) a i refl refl) s
  request-begins (request.Pop i e t) a s = starts (channel-here k (length room) (call.Process (request.Pop i e t)) a i refl refl) s
  request-begins (request.Flush i) a s = starts (channel-here k (length room) (call.Process (request.Flush i)) a i refl refl) s
  request-begins r a s = tt

  pub write-begins : (i : ℕ) → Accepted (call.Interrupt (interrupt.Write i)) → Start (call.Interrupt (interrupt.Write i)) → Starts k.channel i (length room) st
  write-begins i a s = starts (channel-here k (length room) (call.Interrupt (interrupt.Write i)) a i refl refl) s

  pub read-begins : (i : ℕ) → Accepted (call.Interrupt (interrupt.Read i)) → Start (call.Interrupt (interrupt.Read i)) → Starts k.channel i (length room) st
  read-begins i a s = starts (channel-here k (length room) (call.Interrupt (interrupt.Read i)) a i refl refl) s

  pub finish-begins : Accepted call.Finish → Start call.Finish → Begins k (length room) st (named_by_wait (caller_row k).wait)
  finish-begins a s =
      let p = passed k (length room) call.Finish a in wait-begins k p.facts room (p.fits refl) st (caller_row k).wait (caller-names k p.facts) s

  readable : (r : Reading) → Accepted (call.Reading r) → Readable (taken k (worked_on k (call.Reading r))) r
  readable (reading.FreePlaces i) a =
      let c = call.Reading (reading.FreePlaces i) in ((sound-of k (length room) c a).core.tables.fits i (channel-below k (length room) c a i refl)).count
  readable r a = tt

  asked : (r : Request) → Accepted (call.Process r) → Begins k (length room) st (named_by_request r)
      → Asked (taken k (worked_on k (call.Process r))) (length (lent room st)) r
  asked (request.Push i x e) a b = lent-holds room b
  asked (request.Pop i e t) a b = lent-holds room b
  asked (request.Wake p) a b = name-slotted k (length room) (call.Process (request.Wake p)) a _ refl
  asked (request.Force p) a b = name-slotted k (length room) (call.Process (request.Force p)) a _ refl
  asked r a b = tt

  lent-here : (i : Interrupt) → Accepted (call.Interrupt i) → Start (call.Interrupt i) → Lent (taken k (worked_on k (call.Interrupt i))) (length (lent room st)) i
  lent-here (interrupt.Write i) a s = lent-holds room (write-begins i a s)
  lent-here (interrupt.Read i) a s = lent-holds room (read-begins i a s)
  lent-here i a s = tt

  pub needed : (c : Call) → Accepted c → Start c → Needed (taken k (worked_on k c)) (length (lent room st)) c
  needed call.Enter a s = (sound-of k (length room) call.Enter a).core.limits.depth-most
  needed call.Exit a s = depth-above k (length room) call.Exit a refl
  needed call.Switch a s = tt
  needed (call.Reading r) a s = readable r a
  needed (call.Process r) a s = asked r a (request-begins r a s)
  needed call.Finish a s =
      let p = passed k (length room) call.Finish a in
      subst (λ (r : Process). Usable (taken k (spot_at k (caller_row k).wait)) (length (lent room st)) r.wait) (sym (row_back k (caller_row k).wait))
      (wait-usable k p.facts room (p.fits refl) st (caller_row k).wait (finish-begins a s))
  needed (call.Interrupt i) a s = lent-here i a s
