-- The trace chunk by chunk: how far it has come, what a chunk of the input prints, and what the end of the input prints.
use Rattle.std.specs.Prelude.{ℕ, Bool, true, false, ◌||◌, List, [], ◌∷◌, ◌++◌, drop}
use Rattle.rules.specs.Step.{State}
use Rattle.text.specs.declared.scanner.Scanner.{Scanner}
use Rattle.text.specs.Scan.{nothing, Found, found, last}
use Rattle.trace.specs.declared.records.Trace.{Trace}
use Rattle.trace.specs.Output.{after, lines_of, start}

-- ---- how far it has come: the scanner, whether the header has ended, kernel and room
abbrev pub begin : Trace
begin = record { scanner = nothing; begun = false; bench = start }

-- ---- records that have ended
-- the first of all is the header
abbrev pub unheaded : Bool → List (List ℕ) → List (List ℕ)
unheaded true texts = texts
unheaded false texts = drop 1 texts

abbrev pub some : List (List ℕ) → Bool
some [] = false
some (text ∷ texts) = true

-- kernel and room after records
unfoldable pub after_all : State → List (List ℕ) → State
after_all s [] = s
after_all s (text ∷ texts) = after_all (after s text) texts

abbrev pub passed : Trace → Scanner → List (List ℕ) → Trace
passed t scanner texts = record { scanner = scanner; begun = t.begun || some texts; bench = after_all t.bench (unheaded t.begun texts) }

abbrev pub lines_for : Trace → List (List ℕ) → List ℕ
lines_for t texts = lines_of t.bench (unheaded t.begun texts)

-- ---- a chunk
abbrev pub found_in : List ℕ → Trace → Found
found_in input t = found input t.scanner

abbrev pub ran : List ℕ → Trace → Trace
ran input t = passed t (found_in input t).scan (found_in input t).records

abbrev pub text_of : List ℕ → Trace → List ℕ
text_of input t = lines_for t (found_in input t).records

-- ---- the end of the input: the last record may lack its CRLF
abbrev pub last_text : Trace → List ℕ
last_text t = lines_for t (last t.scanner)

-- ---- chunk after chunk, and the end
unfoldable pub written : List (List ℕ) → Trace → List ℕ
written [] t = last_text t
written (chunk ∷ chunks) t = text_of chunk t ++ written chunks (ran chunk t)
