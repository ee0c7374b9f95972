-- The trace (01, Trace program): what a record does to the kernel and the room, its line, and the output of a whole input.
use Rattle.std.specs.Prelude.{ℕ, List, [], ◌∷◌, ◌++◌, take, replicate, drop, Option, None, Some}
use Rattle.record.specs.Fresh.{zeros}
use Rattle.rules.specs.Answers.{Said, done, refused}
use Rattle.rules.specs.Sheet.{A, B}
use Rattle.rules.specs.Step.{State, Result, step}
use Rattle.text.specs.Records.{records, before}
use Rattle.trace.specs.declared.Command.{Command}
use Rattle.trace.specs.declared.Command.TheVariants.{Direct, Deferred, Call}
use Rattle.trace.specs.Words.{command_of}
use Rattle.trace.specs.Lines.{line, unreadable_line, header}

-- ---- one record
-- the answer, and kernel and room then
pub record Did : Type 0 where
  pub answer : Said
  pub state : State

abbrev pub seen : Result → Did
seen r = record { answer = r.answer; state = record { kernel = r.kernel; room = r.room } }

-- `direct` and `deferred` start A and B with a zeroed room; a call has the block that it is lent
abbrev pub done_by : State → Command → Did
done_by s Direct = record { answer = done; state = A }
done_by s Deferred = record { answer = done; state = B }
done_by s (Call c len item) = seen (step s.kernel s.room (replicate len item) c)

-- an unreadable record changes nothing
abbrev pub did : State → Option Command → Did
did s None = record { answer = refused 15; state = s }
did s (Some c) = done_by s c

-- the record's word is what stands before its first comma
abbrev pub line_for : Option Command → List ℕ → Did → List ℕ
line_for None word d = unreadable_line
line_for (Some c) word d = line word d.answer d.state.kernel.running.0 d.state.kernel.ready

abbrev pub line_of : State → List ℕ → List ℕ
line_of s text = line_for (command_of text) (take (before text) text) (did s (command_of text))

abbrev pub after : State → List ℕ → State
after s text = (did s (command_of text)).state

-- ---- records one after the other
unfoldable pub lines_of : State → List (List ℕ) → List ℕ
lines_of s [] = []
lines_of s (text ∷ texts) = line_of s text ++ lines_of (after s text) texts

-- before the first `direct` or `deferred` the record is all zeros
abbrev pub start : State
start = record { kernel = zeros; room = 0 ∷ 0 ∷ [] }

-- ---- a whole input: the header, and a line for each record but the first
abbrev pub output : List ℕ → List ℕ
output input = header ++ lines_of start (drop 1 (records input))
