-- What an accepted call does to a kernel and to the direct kernel that goes with it: the same, seen through `as_direct`. Assumes nothing.
use Rattle.std.proofs.Common.{◌≡◌, ℕ, Bool, true, false, ◌&&◌, eqb, List, refl, ap, true≢false}
use Rattle.std.proofs.Math.Bool.{false≢true}
use Rattle.record.specs.declared.Kernel.{Kernel}
use Rattle.record.specs.declared.Wait.{Wait}
use Rattle.record.specs.declared.Wait.TheVariants as wait
use Rattle.record.specs.Record.{process_at, flag_at, mutex_at, channel_at}
use Rattle.record.specs.Places.{limited}
use Rattle.rules.specs.declared.Answer.TheVariants.{Done}
use Rattle.rules.specs.declared.Call.{Call}
use Rattle.rules.specs.declared.Call.TheVariants.{Exit, Switch, Reading, Process, Finish, Interrupt}
use Rattle.rules.specs.declared.Reading.TheVariants as reading
use Rattle.rules.specs.declared.Request.{Request}
use Rattle.rules.specs.declared.Request.TheVariants as request
use Rattle.rules.specs.declared.Interrupt.{Interrupt as InterruptT}
use Rattle.rules.specs.declared.Interrupt.TheVariants as interrupt
use Rattle.rules.specs.declared.Outcome.{Outcome}
use Rattle.rules.specs.Answers.{Said, value, refused}
use Rattle.rules.specs.Blocks.{caller_row, choose, opened, closed, again}
use Rattle.rules.specs.Calls.{is_process, is_switch, numbered}
use Rattle.rules.specs.Refusals.{is_free}
use Rattle.rules.specs.Effects.{Effect, in_place, ends, has_room, has_item, cleared, signalled, locked, unlocked, pushed, popped, flushed, forced, written, read_out, words_written, words_read}
use Rattle.rules.specs.Finish.{still_in, waited_again, carried_out, finished}
use Rattle.rules.specs.Step.{Result, keeping_block, requested, interrupted, effect}
use Rattle.rules.specs.Deferred.{as_direct, reads_running}
use Rattle.rules.proofs.Cond.{branches}
use Rattle.rules.proofs.NextRuns.{settled}

-- ---- what the direct kernel shows of an outcome: a reading of the running process gives the next one
abbrev shown_answer : Bool → ℕ → Said → Said
shown_answer true next (value v) = value next
shown_answer b next a = a

abbrev pub shown : Call → Result → Result
shown c r =
    record { answer = shown_answer (reads_running c) r.kernel.next.0 r.answer; kernel = as_direct r.kernel; room = r.room; block = r.block }

abbrev shown_effect : Effect → Effect
shown_effect e = record { answer = e.answer; kernel = as_direct e.kernel; room = e.room }

abbrev shown_place : List ℕ → Outcome → Effect
shown_place room o = shown_effect (in_place room o)

-- a refusal stays as it is
pub refused-shown : (b : Bool) (next n : ℕ) → refused n ≡ shown_answer b next (refused n)
refused-shown true next n = refl
refused-shown false next n = refl

-- ---- effects of the process calls, with next running
module _ (k : Kernel) (room : List ℕ) where
  request-shown : (q : Request) → requested (as_direct k) room q ≡ shown_effect (requested (settled k) room q)
  unfolding choose opened cleared signalled locked unlocked pushed popped flushed forced
  request-shown (request.Wait i t) = branches (in_place room) (shown_place room) (flag_at k i).on refl refl
  request-shown (request.Lock i t) = branches (in_place room) (shown_place room) (is_free (mutex_at k i).owner) refl refl
  request-shown (request.Try i) = branches (in_place room) (shown_place room) (is_free (mutex_at k i).owner) refl refl
  request-shown (request.Push i x e) = branches (λ e. e) shown_effect (has_room (channel_at k i)) refl refl
  request-shown (request.Pop i e t) = branches (in_place room) (shown_place room) (has_item (channel_at k i)) refl refl
  request-shown (request.Wake p) =
      branches (λ h. in_place room (ends Done h)) (λ h. shown_place room (ends Done h)) (eqb (process_at k (numbered p).0).counter 0) refl refl
  request-shown q = refl

  again-shown : (w : Wait) → in_place room (waited_again (as_direct k) w) ≡ shown_place room (waited_again (settled k) w)
  unfolding choose closed again
  again-shown w = branches (in_place room) (shown_place room) (limited w && eqb (caller_row (settled k)).counter 0) refl refl

  carried-shown : (w : Wait) → carried_out (as_direct k) room w ≡ shown_effect (carried_out (settled k) room w)
  unfolding choose closed locked pushed popped
  carried-shown (wait.Mutex i l) = branches (in_place room) (shown_place room) (is_free (mutex_at k i).owner) refl (again-shown (wait.Mutex i l))
  carried-shown (wait.Push i x e) = branches (λ e. e) shown_effect (has_room (channel_at k i)) refl (again-shown (wait.Push i x e))
  carried-shown (wait.Pop i e l) = branches (in_place room) (shown_place room) (has_item (channel_at k i)) refl (again-shown (wait.Pop i e l))
  carried-shown w = refl

  finish-shown : (w : Wait) → finished (as_direct k) room w ≡ shown_effect (finished (settled k) room w)
  unfolding choose closed
  finish-shown w = branches (λ e. e) shown_effect (still_in (settled k) w) refl (carried-shown w)

module _ (k : Kernel) (room block : List ℕ) where
  pub effect-process : (c : Call) → is_process c ≡ true → effect (as_direct k) room block c ≡ shown c (effect (settled k) room block c)
  effect-process (Process q) p = ap (keeping_block block) (request-shown k room q)
  effect-process Finish p = ap (keeping_block block) (finish-shown k room (caller_row (settled k)).wait)
  effect-process c p = absurd (false≢true p)

  -- ---- effects of the calls that are neither process calls nor switches, whoever runs
  -- an outcome with the record h
  abbrev kernelled : Result → Kernel → Result
  kernelled r h = record { answer = r.answer; kernel = h; room = r.room; block = r.block }

  interrupt-shown : (i : InterruptT) → interrupted (as_direct k) room block i ≡ shown (Interrupt i) (interrupted k room block i)
  unfolding signalled unlocked written read_out
  interrupt-shown (interrupt.Write i) =
      ap (kernelled (interrupted k room block (interrupt.Write i))) (branches (λ h. h) as_direct (eqb (words_written k i block) 0) refl refl)
  interrupt-shown (interrupt.Read i) =
      ap (kernelled (interrupted k room block (interrupt.Read i))) (branches (λ h. h) as_direct (eqb (words_read k i block) 0) refl refl)
  interrupt-shown i = refl

  pub effect-other : (c : Call) → is_process c ≡ false → is_switch c ≡ false → effect (as_direct k) room block c ≡ shown c (effect k room block c)
  unfolding choose
  effect-other Exit p q = ap (kernelled (effect k room block Exit)) (branches (λ h. h) as_direct (eqb k.depth 1) refl refl)
  effect-other Switch p q = absurd (true≢false q)
  effect-other (Process n) p q = absurd (true≢false p)
  effect-other Finish p q = absurd (true≢false p)
  effect-other (Interrupt i) p q = interrupt-shown i
  effect-other (Reading reading.Running) p q = refl
  effect-other c p q = refl
