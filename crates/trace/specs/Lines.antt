-- Lines out (01, Trace program): the word, the answer, its value or refusal number, running, ready map.
use Rattle.std.specs.Prelude.{ℕ, List, [], ◌++◌}
use Prim.Native.String.{String}
use Rattle.rules.specs.Answers.{Said, done, waiting, timed_out, busy, value, refused}
use Rattle.text.specs.Ascii.{ascii}
use Rattle.text.specs.Decimals.{digits}

abbrev pub answer_word : Said → String
answer_word done = "done"
answer_word waiting = "waiting"
answer_word timed_out = "timedout"
answer_word busy = "busy"
answer_word (value v) = "value"
answer_word (refused n) = "refused"

-- its value or refusal number; else the field is empty
abbrev pub answer_number : Said → List ℕ
answer_number done = []
answer_number waiting = []
answer_number timed_out = []
answer_number busy = []
answer_number (value v) = digits v
answer_number (refused n) = digits n

abbrev pub comma : List ℕ
comma = ascii ","

abbrev pub crlf : List ℕ
crlf = ascii "\r\n"

-- the answer and its number, each between commas
abbrev pub answer_text : Said → List ℕ
answer_text answer = comma ++ ascii (answer_word answer) ++ comma ++ answer_number answer ++ comma

abbrev pub line : List ℕ → Said → ℕ → ℕ → List ℕ
line word answer running ready = word ++ answer_text answer ++ digits running ++ comma ++ digits ready ++ crlf

-- of a record that is unreadable
abbrev pub unreadable_line : List ℕ
unreadable_line = ascii "?,refused,15,,\r\n"

abbrev pub header : List ℕ
header = ascii "call,answer,value,running,ready\r\n"
