-- One step of the kernel: record, room, block and call in; answer, record, room and block out. Refused: all as they came. Beside it, sequences of calls.
use Rattle.std.specs.Prelude.{ℕ, ◌+◌, List, [], ◌∷◌, length, Ok, Err}
use Rattle.maps.specs.declared.Number.{Number}
use Rattle.record.specs.declared.Kernel.{Kernel}
use Rattle.rules.specs.declared.Call.{Call}
use Rattle.rules.specs.declared.Call.TheVariants.{Enter, Exit, Switch, Reading, Process, Finish, Interrupt}
use Rattle.rules.specs.declared.Request.{Request}
use Rattle.rules.specs.declared.Request.TheVariants as request
use Rattle.rules.specs.declared.Interrupt.{Interrupt as InterruptT}
use Rattle.rules.specs.declared.Interrupt.TheVariants as interrupt
use Rattle.rules.specs.declared.Answer.TheVariants.{Done, Value}
use Rattle.rules.specs.declared.Outcome.{Outcome}
use Rattle.rules.specs.Answers.{Said, value, refused, number, said}
use Rattle.rules.specs.Update.{with_depth, with_running}
use Rattle.rules.specs.Blocks.{caller_row}
use Rattle.rules.specs.Calls.{numbered}
use Rattle.rules.specs.Refusals.{Verdict, verdict as verdict_on}
use Rattle.rules.specs.Effects.{Effect, answered, in_place, ends, exited, value_read, slept, cleared, waited, signalled, locked_or, tried, unlocked, pushed_or, popped_or, flushed, forced, woken, ticked, words_written, written, room_written, words_read, read_out, block_read}
use Rattle.rules.specs.Finish.{finished}

-- the answer is the document's
pub record Result : Type 0 where
  pub answer : Said
  pub kernel : Kernel
  pub room : List ℕ
  pub block : List ℕ

-- room and block as they came; the block as it came
abbrev pub keeping : List ℕ → List ℕ → Outcome → Result
keeping room block o = record { answer = said o.answer; kernel = o.kernel; room = room; block = block }

abbrev pub keeping_block : List ℕ → Effect → Result
keeping_block block e = record { answer = said e.answer; kernel = e.kernel; room = e.room; block = block }

-- ---- the process calls
abbrev pub requested : Kernel → List ℕ → Request → Effect
requested k room (request.Sleep t) = in_place room (slept k t)
requested k room (request.Wait i t) = in_place room (waited k i t)
requested k room (request.Signal i) = in_place room (ends Done (signalled k i))
requested k room (request.Clear i) = in_place room (ends Done (cleared k i))
requested k room (request.Lock i t) = in_place room (locked_or k i t)
requested k room (request.Try i) = in_place room (tried k i)
requested k room (request.Unlock i) = in_place room (ends Done (unlocked k i))
requested k room (request.Push i x e) = pushed_or k room i x e
requested k room (request.Pop i e t) = in_place room (popped_or k room i e t)
requested k room (request.Flush i) = in_place room (ends Done (flushed k i))
requested k room (request.Wake p) = in_place room (ends Done (woken k (numbered p).0))
requested k room (request.Force p) = in_place room (ends Done (forced k (numbered p).0))

-- ---- the interrupt calls: no choosing until the last exit
abbrev pub interrupted : Kernel → List ℕ → List ℕ → InterruptT → Result
interrupted k room block interrupt.Tick = keeping room block (answered Done (ticked k))
interrupted k room block (interrupt.Signal i) = keeping room block (answered Done (signalled k i))
interrupted k room block (interrupt.Unlock i) = keeping room block (answered Done (unlocked k i))
interrupted k room block (interrupt.Write i) = record {
  answer = value (words_written k i block);
  kernel = written k i (words_written k i block);
  room = room_written k room i block (words_written k i block);
  block = block;
}
interrupted k room block (interrupt.Read i) = record {
  answer = value (words_read k i block);
  kernel = read_out k i (words_read k i block);
  room = room;
  block = block_read k room i block (words_read k i block);
}

-- ---- an accepted call
abbrev pub effect : Kernel → List ℕ → List ℕ → Call → Result
effect k room block Enter = keeping room block (answered Done (with_depth k (k.depth + 1)))
effect k room block Exit = keeping room block (answered Done (exited k))
effect k room block Switch = keeping room block (answered Done (with_running k k.next))
effect k room block (Reading r) = keeping room block (answered (Value (value_read k r)) k)
effect k room block (Process r) = keeping_block block (requested k room r)
effect k room block Finish = keeping_block block (finished k room (caller_row k).wait)
effect k room block (Interrupt i) = interrupted k room block i

abbrev pub settle : Kernel → List ℕ → List ℕ → Call → Verdict → Result
settle k room block c (Ok _) = effect k room block c
settle k room block c (Err r) = record { answer = refused (number r); kernel = k; room = room; block = block }

unfoldable pub step : Kernel → List ℕ → List ℕ → Call → Result
step k room block c = settle k room block c (verdict_on k (length room) c)

-- ---- sequences of calls, newest first
-- a call with the block that is lent to it
pub record Given : Type 0 where
  pub call : Call
  pub block : List ℕ

-- what the outside sees of it: who called, the call, the answer, the block after
pub record Event : Type 0 where
  pub caller : Number
  pub given : Given
  pub answer : Said
  pub block : List ℕ

pub record State : Type 0 where
  pub kernel : Kernel
  pub room : List ℕ

abbrev pub step_on : State → Given → Result
step_on s g = step s.kernel s.room g.block g.call

-- the state after a list of calls
unfoldable pub after : State → List Given → State
after s [] = s
after s (g ∷ gs) = record { kernel = (step_on (after s gs) g).kernel; room = (step_on (after s gs) g).room }

-- and what was seen of them
unfoldable pub history : State → List Given → List Event
history s [] = []
history s (g ∷ gs) =
    record { caller = (after s gs).kernel.running; given = g; answer = (step_on (after s gs) g).answer; block = (step_on (after s gs) g).block } ∷ history s gs
