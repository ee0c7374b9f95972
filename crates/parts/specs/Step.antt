-- An accepted call over the parts: the rules of `Rattle.rules.specs.Step`, word for word. Of the two blocks the first is the one that is written from, the
-- second the one that is read into. The tick is no matter of the parts: all counters fall.
use Rattle.std.specs.Prelude.{ℕ, ◌+◌, List}
use Rattle.rules.specs.declared.Answer.{Answer}
use Rattle.rules.specs.declared.Answer.TheVariants.{Done, Value}
use Rattle.rules.specs.declared.Call.{Call}
use Rattle.rules.specs.declared.Call.TheVariants.{Enter, Exit, Switch, Reading, Process, Finish, Interrupt}
use Rattle.rules.specs.declared.Request.{Request}
use Rattle.rules.specs.declared.Request.TheVariants as request
use Rattle.rules.specs.declared.Interrupt.{Interrupt as InterruptT}
use Rattle.rules.specs.declared.Interrupt.TheVariants as interrupt
use Rattle.rules.specs.Calls.{numbered}
use Rattle.parts.specs.declared.Parts.{Parts}
use Rattle.parts.specs.Update.{with_depth, with_running}
use Rattle.parts.specs.Effects.{Did, Effect, answered, in_place, ends, exited, value_read, slept, cleared, waited, signalled, locked_or, tried, unlocked, pushed_or, popped_or, flushed, forced, woken, words_written, written, part_written, words_read, read_out, block_read}
use Rattle.parts.specs.Finish.{finished}

pub record Result : Type 0 where
  pub answer : Answer
  pub parts : Parts
  pub part : List ℕ
  pub block : List ℕ

abbrev pub keeping : List ℕ → List ℕ → Did → Result
keeping part block d = record { answer = d.answer; parts = d.parts; part = part; block = block }

abbrev pub keeping_block : List ℕ → Effect → Result
keeping_block block e = record { answer = e.answer; parts = e.parts; part = e.part; block = block }

abbrev pub requested : Parts → List ℕ → Request → Effect
requested x part (request.Sleep t) = in_place part (slept x t)
requested x part (request.Wait i t) = in_place part (waited x i t)
requested x part (request.Signal i) = in_place part (ends Done (signalled x))
requested x part (request.Clear i) = in_place part (ends Done (cleared x))
requested x part (request.Lock i t) = in_place part (locked_or x i t)
requested x part (request.Try i) = in_place part (tried x)
requested x part (request.Unlock i) = in_place part (ends Done (unlocked x))
requested x part (request.Push i item e) = pushed_or x part i item e
requested x part (request.Pop i e t) = in_place part (popped_or x part i e t)
requested x part (request.Flush i) = in_place part (ends Done (flushed x))
requested x part (request.Wake p) = in_place part (ends Done (woken x (numbered p).0))
requested x part (request.Force p) = in_place part (ends Done (forced x (numbered p).0))

abbrev pub interrupted : Parts → List ℕ → List ℕ → List ℕ → InterruptT → Result
interrupted x part from to interrupt.Tick = keeping part to (answered Done x)
interrupted x part from to (interrupt.Signal i) = keeping part to (answered Done (signalled x))
interrupted x part from to (interrupt.Unlock i) = keeping part to (answered Done (unlocked x))
interrupted x part from to (interrupt.Write i) = record {
  answer = Value (words_written x from);
  parts = written x (words_written x from);
  part = part_written x part from (words_written x from);
  block = to;
}
interrupted x part from to (interrupt.Read i) = record {
  answer = Value (words_read x to);
  parts = read_out x (words_read x to);
  part = part;
  block = block_read x part to (words_read x to);
}

abbrev pub effect : Parts → List ℕ → List ℕ → List ℕ → Call → Result
effect x part from to Enter = keeping part to (answered Done (with_depth x (x.depth + 1)))
effect x part from to Exit = keeping part to (answered Done (exited x))
effect x part from to Switch = keeping part to (answered Done (with_running x x.next))
effect x part from to (Reading r) = keeping part to (answered (Value (value_read x r)) x)
effect x part from to (Process r) = keeping_block to (requested x part r)
effect x part from to Finish = keeping_block to (finished x part x.row.wait)
effect x part from to (Interrupt i) = interrupted x part from to i
