-- Soundness is kept by every call, accepted or refused, with any room and any block; and so are the lengths of the tables, sound or not.
-- Assumes nothing.
use Rattle.std.proofs.Common.{◌≡◌, ℕ, ◌+◌, ◌-◌, ◌≤◌, Bool, true, false, ◌&&◌, eqb, List, length, Ok, Err, refl, arith, ltb-true, lt-ltb}
use Rattle.std.proofs.Math.Bool.{false≢true}
use Rattle.std.proofs.lemmas.Bool.{cond_both, eqb-false, not-false}
use Rattle.maps.proofs.Members.{has-or}
use Rattle.ring.specs.Ring.{grown, lifted}
use Rattle.record.specs.declared.Kernel.{Kernel}
use Rattle.record.specs.declared.Wait.{Wait}
use Rattle.record.specs.declared.Wait.TheVariants as wait
use Rattle.record.specs.Record.{process_at, flag_at, mutex_at, channel_at, wait_of, lengths}
use Rattle.record.specs.Places.{is_open, sleeps, limited, place_of, real}
use Rattle.record.specs.Sound.{sound}
use Rattle.record.specs.Facts.{Core, Sound}
use Rattle.record.proofs.Lengths.{shaped-lengths}
use Rattle.record.proofs.Iff.{sound-to, sound-from}
use Rattle.rules.specs.declared.Call.{Call}
use Rattle.rules.specs.declared.Call.TheVariants.{Enter, Exit, Switch, Reading, Process, Finish, Interrupt}
use Rattle.rules.specs.declared.Request.{Request}
use Rattle.rules.specs.declared.Request.TheVariants as request
use Rattle.rules.specs.declared.Interrupt.{Interrupt as InterruptT}
use Rattle.rules.specs.declared.Interrupt.TheVariants as interrupt
use Rattle.rules.specs.declared.Refusal.TheVariants.{NotSound}
use Rattle.rules.specs.declared.Outcome.{Outcome}
use Rattle.rules.specs.Calls.{numbered}
use Rattle.rules.specs.Refusals.{Verdict, verdict, is_free}
use Rattle.rules.specs.Blocks.{caller, choose, is_limited, opened, closed}
use Rattle.rules.specs.Effects.{Effect, signalled, unlocked, has_room, has_item, written, read_out, words_written, words_read}
use Rattle.rules.specs.Finish.{still_in, waited_again, carried_out, finished}
use Rattle.rules.specs.Step.{requested, interrupted, effect, settle, step}
use Rattle.rules.proofs.Accepted.{passed, Caller, caller-of, depth-above, flag-below, mutex-below, channel-below, process-below}
use Rattle.rules.proofs.Counted.{counted_ready}
use Rattle.rules.proofs.Chosen.{chosen, at-depth, inside, deep, switched}
use Rattle.rules.proofs.Fitting.{grown-fits, lifted-fits}
use Rattle.rules.proofs.Blocks.{cleared-core, signalled-core, locked-core, unlocked-core, fits-at, readers-core, writers-core, pushed-core, popped-core, flushed-core, forced-core, ticked-core, slept-core, opened-core, names, still-awake, closed-core, left-core, again-core}

abbrev After : Effect → Type 0
After e = Sound e.kernel

abbrev AfterAlone : Outcome → Type 0
AfterAlone o = Sound o.kernel

-- ---- finish
module _ {k : Kernel} (c : Core k) (r : Caller k) (room : List ℕ) where
  module _ (w : Wait) (own : wait_of k (caller k) ≡ w) (o : is_open w ≡ true) (q : still_in k w ≡ false) where
    again_kept : sleeps w ≡ false → Sound (waited_again k w).kernel
    again_kept s =
        cond_both (limited w && eqb (process_at k (caller k)).counter 0) _ _ AfterAlone
        (λ e. chosen (closed-core c r w own q))
        (λ e. chosen (again-core c r w own o (names c r w own o s) e))

  carried-kept : (w : Wait) → wait_of k (caller k) ≡ w → is_open w ≡ true → still_in k w ≡ false → Sound (carried_out k room w).kernel
  unfolding closed
  carried-kept wait.Nothing own o q = absurd (false≢true o)
  carried-kept (wait.Sleep l) own o q = chosen (closed-core c r (wait.Sleep l) own q)
  carried-kept (wait.Flag i l) own o q = chosen (closed-core c r (wait.Flag i l) own q)
  carried-kept (wait.Mutex i l) own o q =
      let w = wait.Mutex i l in
      cond_both (is_free (mutex_at k i).owner) _ _ AfterAlone
      (λ e. chosen (locked-core (closed-core c r w own q) i (ltb-true i k.setup.mutexes (names c r w own refl refl)) r.user))
      (λ e. again_kept w own o q refl)
  carried-kept (wait.Push i x d) own o q =
      let w = wait.Push i x d in
      cond_both (has_room (channel_at k i)) _ _ After
      (λ e. chosen (pushed-core (closed-core c r w own q) i (ltb-true i k.setup.channels (names c r w own refl refl)) d e))
      (λ e. again_kept w own o q refl)
  carried-kept (wait.Pop i d l) own o q =
      let w = wait.Pop i d l in
      cond_both (has_item (channel_at k i)) _ _ AfterAlone
      (λ e. chosen (popped-core (closed-core c r w own q) i (ltb-true i k.setup.channels (names c r w own refl refl)) d))
      (λ e. again_kept w own o q refl)

  finish-kept : (w : Wait) → wait_of k (caller k) ≡ w → is_open w ≡ true → Sound (finished k room w).kernel
  finish-kept w own o =
      cond_both (still_in k w) _ _ After
      (λ q. chosen (left-core c r w own (names c r w own o (still-awake c r w own q))))
      (λ q. carried-kept w own o q)

-- ---- the process calls
module _ (k : Kernel) (room : List ℕ) where
  module _ (r : Request) (a : verdict k (length room) (Process r) ≡ Ok tt) where
    core-of : Core k
    core-of = (passed k (length room) (Process r) a).facts.core

    calling : Caller k
    calling = caller-of k (length room) (Process r) a refl

    nothing-open : is_open (wait_of k (caller k)) ≡ false
    nothing-open = (passed k (length room) (Process r) a).free

    waits_kept : (w : Wait) (t : ℕ) → is_open w ≡ true → limited w ≡ is_limited t → real k (place_of w) ≡ true → Sound (choose (opened k w t))
    waits_kept w t o l e = chosen (opened-core core-of calling nothing-open w t o l e)

  request-kept : (r : Request) → verdict k (length room) (Process r) ≡ Ok tt → Sound (requested k room r).kernel
  request-kept (request.Sleep t) a =
      let q = request.Sleep t in
      chosen (slept-core (core-of q a) (calling q a) (nothing-open q a) (wait.Sleep (is_limited t)) t refl refl refl refl)
  request-kept (request.Wait i t) a =
      let q = request.Wait i t in
      let h = flag-below k (length room) (Process q) a i refl in
      cond_both (flag_at k i).on _ _ AfterAlone
      (λ e. chosen (cleared-core (core-of q a) i h))
      (λ e. waits_kept q a (wait.Flag i (is_limited t)) t refl refl (lt-ltb i k.setup.flags h))
  request-kept (request.Signal i) a =
      let q = request.Signal i in
      chosen (signalled-core (core-of q a) i (flag-below k (length room) (Process q) a i refl))
  request-kept (request.Clear i) a =
      let q = request.Clear i in
      chosen (cleared-core (core-of q a) i (flag-below k (length room) (Process q) a i refl))
  request-kept (request.Lock i t) a =
      let q = request.Lock i t in
      let h = mutex-below k (length room) (Process q) a i refl in
      cond_both (is_free (mutex_at k i).owner) _ _ AfterAlone
      (λ e. chosen (locked-core (core-of q a) i h (calling q a).user))
      (λ e. waits_kept q a (wait.Mutex i (is_limited t)) t refl refl (lt-ltb i k.setup.mutexes h))
  request-kept (request.Try i) a =
      let q = request.Try i in
      cond_both (is_free (mutex_at k i).owner) _ _ AfterAlone
      (λ e. chosen (locked-core (core-of q a) i (mutex-below k (length room) (Process q) a i refl) (calling q a).user))
      (λ e. chosen (core-of q a))
  request-kept (request.Unlock i) a =
      let q = request.Unlock i in
      chosen (unlocked-core (core-of q a) i (mutex-below k (length room) (Process q) a i refl))
  request-kept (request.Push i x d) a =
      let q = request.Push i x d in
      let h = channel-below k (length room) (Process q) a i refl in
      cond_both (has_room (channel_at k i)) _ _ After
      (λ e. chosen (pushed-core (core-of q a) i h d e))
      (λ e. waits_kept q a (wait.Push i x d) 0 refl refl (lt-ltb i k.setup.channels h))
  request-kept (request.Pop i d t) a =
      let q = request.Pop i d t in
      let h = channel-below k (length room) (Process q) a i refl in
      cond_both (has_item (channel_at k i)) _ _ AfterAlone
      (λ e. chosen (popped-core (core-of q a) i h d))
      (λ e. waits_kept q a (wait.Pop i d (is_limited t)) t refl refl (lt-ltb i k.setup.channels h))
  request-kept (request.Flush i) a =
      let q = request.Flush i in
      chosen (flushed-core (core-of q a) i (channel-below k (length room) (Process q) a i refl))
  request-kept (request.Wake p) a =
      let q = request.Wake p in
      chosen
      (cond_both (eqb (process_at k (numbered p).0).counter 0) _ _ Core
      (λ e. core-of q a)
      (λ e. forced-core (core-of q a) (numbered p).0 (process-below k (length room) (Process q) a (numbered p) refl)))
  request-kept (request.Force p) a =
      let q = request.Force p in
      chosen (forced-core (core-of q a) (numbered p).0 (process-below k (length room) (Process q) a (numbered p) refl))

  -- ---- the interrupt calls: nobody stops being ready
  interrupt-kept : (i : InterruptT) (block : List ℕ) → verdict k (length room) (Interrupt i) ≡ Ok tt → Sound k
      → Sound (interrupted k room block i).kernel
  unfolding signalled unlocked written read_out
  interrupt-kept interrupt.Tick block a s =
      let q = Interrupt interrupt.Tick in
      inside (ticked-core s.core) (depth-above k (length room) q a refl) (counted_ready _ _ k.next.0 s.next-ready) s.direct
  interrupt-kept (interrupt.Signal i) block a s =
      let q = Interrupt (interrupt.Signal i) in
      inside (signalled-core s.core i (flag-below k (length room) q a i refl)) (depth-above k (length room) q a refl)
      (simp (has-or, s.next-ready)) s.direct
  interrupt-kept (interrupt.Unlock i) block a s =
      let q = Interrupt (interrupt.Unlock i) in
      inside (unlocked-core s.core i (mutex-below k (length room) q a i refl)) (depth-above k (length room) q a refl)
      (simp (has-or, s.next-ready)) s.direct
  interrupt-kept (interrupt.Write i) block a s =
      let q = Interrupt (interrupt.Write i) in
      let h = channel-below k (length room) q a i refl in
      let x = channel_at k i in
      cond_both (eqb (words_written k i block) 0) _ _ Sound (λ e. s)
      (λ e. inside (readers-core s.core i h (grown x (words_written k i block)) (grown-fits x (fits-at s.core i h) (length block)) refl)
      (depth-above k (length room) q a refl) (simp (has-or, s.next-ready)) s.direct)
  interrupt-kept (interrupt.Read i) block a s =
      let q = Interrupt (interrupt.Read i) in
      let h = channel-below k (length room) q a i refl in
      let x = channel_at k i in
      let n = words_read k i block in
      cond_both (eqb n 0) _ _ Sound (λ e. s)
      (λ e. inside (writers-core s.core i h (lifted x n) (lifted-fits x (fits-at s.core i h) n) refl)
      (depth-above k (length room) q a refl) (simp (has-or, s.next-ready)) s.direct)

  -- ---- every accepted call
  effect-kept : (block : List ℕ) (c : Call) → verdict k (length room) c ≡ Ok tt → Sound (effect k room block c).kernel
  effect-kept block Enter a =
      let p = passed k (length room) Enter a in
      deep p.facts (k.depth + 1) (omega (arith, p.facts.core.limits.depth-most, eqb-false k.depth 8 p.shallow)) (omega arith)
  effect-kept block Exit a =
      let p = passed k (length room) Exit a in
      let less : k.depth - 1 ≤ 8 = omega (arith, p.facts.core.limits.depth-most) in
      cond_both (eqb k.depth 1) _ _ Sound
      (λ e. chosen (at-depth p.facts.core (k.depth - 1) less))
      (λ e. deep p.facts (k.depth - 1) less (omega (arith, depth-above k (length room) Exit a refl, eqb-false k.depth 1 e)))
  effect-kept block Switch a = switched (passed k (length room) Switch a).facts
  effect-kept block (Reading r) a = (passed k (length room) (Reading r) a).facts
  effect-kept block (Process r) a = request-kept r a
  effect-kept block Finish a =
      let p = passed k (length room) Finish a in
      finish-kept p.facts.core (caller-of k (length room) Finish a refl) room (wait_of k (caller k)) refl (not-false _ p.waits)
  effect-kept block (Interrupt i) a = interrupt-kept i block a (passed k (length room) (Interrupt i) a).facts

  -- ---- every call
  facts-kept : (block : List ℕ) (c : Call) → Sound k → Sound (step k room block c).kernel
  unfolding step
  facts-kept block c s = go (verdict k (length room) c) refl
    where
      go : (v : Verdict) → verdict k (length room) c ≡ v → Sound (settle k room block c v).kernel
      go (Ok _) e = effect-kept block c e
      go (Err r) e = s

pub kept : (k : Kernel) (room block : List ℕ) (c : Call) → sound k ≡ true → sound (step k room block c).kernel ≡ true
kept k room block c e = sound-from (step k room block c).kernel (facts-kept k room block c (sound-to k e))

-- ---- the lengths
lengths-of : (k : Kernel) → Sound k → lengths k ≡ true
lengths-of k s =
    let t = s.core.tables in
    shaped-lengths k (record { process = s.core.waits.long; flag = t.flag-long; mutex = t.mutex-long; channel = t.channel-long })

not_sound_lem : (k : Kernel) (n : ℕ) (c : Call) → sound k ≡ false → verdict k n c ≡ Err NotSound
unfolding verdict
not_sound_lem k n c e = rw e

pub lengths-kept : (k : Kernel) (room block : List ℕ) (c : Call) → lengths k ≡ true → lengths (step k room block c).kernel ≡ true
unfolding step
lengths-kept k room block c l = go (sound k) refl
  where
    go : (b : Bool) → sound k ≡ b → lengths (step k room block c).kernel ≡ true
    go true e = lengths-of (step k room block c).kernel (facts-kept k room block c (sound-to k e))
    go false e = rw (not_sound_lem k (length room) c e) l
