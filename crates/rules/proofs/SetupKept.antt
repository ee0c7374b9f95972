-- No call changes the setup: counts and mode stay as they were set up. Assumes nothing.
use Rattle.std.proofs.Common.{◌≡◌, ℕ, ◌&&◌, eqb, List, [], ◌∷◌, length, Ok, Err, refl, ◌∙◌}
use Rattle.record.specs.declared.Kernel.{Kernel}
use Rattle.record.specs.declared.Setup.{Setup}
use Rattle.record.specs.declared.Wait.{Wait}
use Rattle.record.specs.declared.Wait.TheVariants as wait
use Rattle.record.specs.Record.{process_at, flag_at, mutex_at, channel_at}
use Rattle.record.specs.Places.{limited}
use Rattle.rules.specs.declared.Call.{Call}
use Rattle.rules.specs.declared.Call.TheVariants.{Exit, Process, Finish, Interrupt}
use Rattle.rules.specs.declared.Request.{Request}
use Rattle.rules.specs.declared.Request.TheVariants as request
use Rattle.rules.specs.declared.Interrupt.{Interrupt as InterruptT}
use Rattle.rules.specs.declared.Interrupt.TheVariants as interrupt
use Rattle.rules.specs.declared.Outcome.{Outcome}
use Rattle.rules.specs.Blocks.{caller_row, choose, opened, closed, again}
use Rattle.rules.specs.Calls.{numbered}
use Rattle.rules.specs.Refusals.{Verdict, is_free, verdict}
use Rattle.rules.specs.Effects.{Effect, has_room, has_item, cleared, signalled, locked, unlocked, pushed, popped, flushed, forced, written, read_out, words_written, words_read}
use Rattle.rules.specs.Finish.{still_in, waited_again, carried_out, finished}
use Rattle.rules.specs.Step.{Given, State, requested, interrupted, effect, settle, step, after}
use Rattle.rules.proofs.Cond.{either}

abbrev setup_of : Kernel → Setup
setup_of k = k.setup

abbrev setup_then : Outcome → Setup
setup_then o = o.kernel.setup

abbrev setup_after : Effect → Setup
setup_after e = e.kernel.setup

module _ (k : Kernel) (room : List ℕ) where
  setup-requested : (q : Request) → setup_after (requested k room q) ≡ k.setup
  unfolding choose opened cleared signalled locked unlocked pushed popped flushed forced
  setup-requested (request.Wait i t) = either setup_then (flag_at k i).on refl refl
  setup-requested (request.Lock i t) = either setup_then (is_free (mutex_at k i).owner) refl refl
  setup-requested (request.Try i) = either setup_then (is_free (mutex_at k i).owner) refl refl
  setup-requested (request.Push i x e) = either setup_after (has_room (channel_at k i)) refl refl
  setup-requested (request.Pop i e t) = either setup_then (has_item (channel_at k i)) refl refl
  setup-requested (request.Wake p) = either setup_of (eqb (process_at k (numbered p).0).counter 0) refl refl
  setup-requested q = refl

  setup-again : (w : Wait) → setup_then (waited_again k w) ≡ k.setup
  unfolding choose closed again
  setup-again w = either setup_then (limited w && eqb (caller_row k).counter 0) refl refl

  setup-carried : (w : Wait) → setup_after (carried_out k room w) ≡ k.setup
  unfolding choose closed locked pushed popped
  setup-carried (wait.Mutex i l) = either setup_then (is_free (mutex_at k i).owner) refl (setup-again (wait.Mutex i l))
  setup-carried (wait.Push i x e) = either setup_after (has_room (channel_at k i)) refl (setup-again (wait.Push i x e))
  setup-carried (wait.Pop i e l) = either setup_then (has_item (channel_at k i)) refl (setup-again (wait.Pop i e l))
  setup-carried w = refl

  setup-finished : (w : Wait) → setup_after (finished k room w) ≡ k.setup
  unfolding choose closed
  setup-finished w = either setup_after (still_in k w) refl (setup-carried w)

  module _ (block : List ℕ) where
    setup-interrupted : (i : InterruptT) → (interrupted k room block i).kernel.setup ≡ k.setup
    unfolding signalled unlocked written read_out
    setup-interrupted (interrupt.Write i) = either setup_of (eqb (words_written k i block) 0) refl refl
    setup-interrupted (interrupt.Read i) = either setup_of (eqb (words_read k i block) 0) refl refl
    setup-interrupted i = refl

    setup-effect : (c : Call) → (effect k room block c).kernel.setup ≡ k.setup
    unfolding choose
    setup-effect Exit = either setup_of (eqb k.depth 1) refl refl
    setup-effect (Process q) = setup-requested q
    setup-effect Finish = setup-finished (caller_row k).wait
    setup-effect (Interrupt i) = setup-interrupted i
    setup-effect c = refl

    setup-settled : (c : Call) (v : Verdict) → (settle k room block c v).kernel.setup ≡ k.setup
    setup-settled c (Ok _) = setup-effect c
    setup-settled c (Err n) = refl

    pub setup-kept : (c : Call) → (step k room block c).kernel.setup ≡ k.setup
    unfolding step
    setup-kept c = setup-settled c (verdict k (length room) c)

-- nor does a list of calls
pub setup-after : (s : State) (gs : List Given) → (after s gs).kernel.setup ≡ s.kernel.setup
unfolding after
setup-after s [] = refl
setup-after s (g ∷ gs) = setup-kept (after s gs).kernel (after s gs).room g.block g.call ∙ setup-after s gs
