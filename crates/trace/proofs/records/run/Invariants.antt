-- `trace::records::run` meets its contract: the trace has come as far as the bytes before the next take it, and what they print is put. Assumes nothing.
use Rattle.std.proofs.Common.{◌≡◌, ◌+◌, ◌*◌, ◌≤◌, length, take}
use Rattle.text.specs.Put.{Put}
use Rattle.trace.specs.Chunks.{ran, text_of}
use Rattle.trace.proofs.records.run.Given as goal

abbrev pub invariant-loop-b : goal.invariant-loop-b
invariant-loop-b l =
    (l.t ≡ ran (take l.b-index l.input) l.fn.t)
    × Put l.fn.out l.from (text_of (take l.b-index l.input) l.fn.t) l.put l.out
    × (l.put ≤ l.from + 128 * l.b-index)
    × (length l.out ≡ length l.fn.out)
