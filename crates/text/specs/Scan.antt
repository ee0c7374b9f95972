-- The scanner: records found in bytes that come one at a time or a chunk at a time. Of the record under way it has the first 66 bytes: one more
-- than the 65 that a record is cut to, for a CR that may turn out to be the first half of its end.
use Rattle.std.specs.Prelude.{ℕ, ◌-◌, Bool, false, cond, ◌&&◌, Option, Some, None, List, [], ◌∷◌, ◌++◌, eqb, length, take}
use Rattle.text.specs.declared.scanner.Scanner.{Scanner}
use Rattle.text.specs.Records.{is_cr, is_lf}

-- a record as the scanner gives it: over 64 bytes it is cut to 65, which is still over 64
abbrev pub cut : List ℕ → List ℕ
cut text = take 65 text

-- ---- one byte
-- nothing of a record yet
abbrev pub nothing : Scanner
nothing = record { line = []; cr = false }

-- a CR and then this LF end the record
abbrev pub ends : Scanner → ℕ → Bool
ends s b = s.cr && is_lf b

-- the record then: all but the CR
abbrev pub without_cr : Scanner → List ℕ
without_cr s = take (length s.line - 1) s.line

-- any other byte is one more of the record, and is kept while there is room
abbrev pub grown : Scanner → ℕ → Scanner
grown s b = record { line = take 66 (s.line ++ b ∷ []); cr = is_cr b }

abbrev pub fed : Scanner → ℕ → Scanner
fed s b = cond (ends s b) nothing (grown s b)

abbrev pub ended : Scanner → ℕ → Option (List ℕ)
ended s b = cond (ends s b) (Some (without_cr s)) None

-- ---- a chunk: the records that end in it, each cut to 65 bytes, and what is under way then
pub record Found : Type 0 where
  pub records : List (List ℕ)
  pub scan : Scanner

abbrev pub after : List ℕ → Found → Found
after text f = record { records = text ∷ f.records; scan = f.scan }

unfoldable pub found : List ℕ → Scanner → Found
found [] s = record { records = []; scan = s }
found (b ∷ bs) s = cond (ends s b) (after (without_cr s) (found bs nothing)) (found bs (grown s b))

-- what is under way when the input ends is the last record, if it is any
abbrev pub last : Scanner → List (List ℕ)
last s = cond (eqb (length s.line) 0) [] (cut s.line ∷ [])
