-- `trace::records::Trace::run` meets its contract: the trace has come as far as the bytes before the next take it, and has put what they print. Assumes nothing.
use Rattle.std.proofs.Common.{◌≡◌, ◌++◌, ◌+◌, ◌*◌, ◌≤◌, length, take}
use Rattle.trace.specs.Chunks.{ran, text_of}
use Rattle.trace.proofs.records.Trace.run.Given as goal

abbrev pub invariant-loop-b : goal.invariant-loop-b
invariant-loop-b g l =
    (l.self ≡ ran (take l.b-index l.input) l.initial.self)
    × (l.out ≡ l.initial.out ++ text_of (take l.b-index l.input) l.initial.self)
    × (length l.out ≤ length l.initial.out + 128 * l.b-index)
