-- How the code goes about the table: which fields are empty says which part of it to look in, and there the word decides, with the numbers within their limits.
use Rattle.std.specs.Prelude.{ℕ, Bool, true, cond, ◌&&◌, List, [], ◌∷◌, leb, take, drop, Option, None, Some}
use Rattle.text.specs.Ascii.{ascii, same}
use Rattle.trace.specs.declared.Command.{Command}
use Rattle.trace.specs.Words.{Field, unused, up_to, Row, words}

abbrev pub within : Field → ℕ → Bool
within unused n = true
within (up_to most) n = leb n most

unfoldable pub chosen : List Row → List ℕ → ℕ → ℕ → Option Command
chosen [] word a b = None
chosen (r ∷ rows) word a b = cond (within r.a a && (within r.b b && same word (ascii r.word))) (Some (r.command a b)) (chosen rows word a b)

-- rows `from` to `from + n - 1`
abbrev pub part : ℕ → ℕ → List Row
part from n = take n (drop from words)

-- no field, field a, fields a and b
abbrev pub with_none : List ℕ → Option Command
with_none word = chosen (part 0 7) word 0 0

abbrev pub with_a : List ℕ → ℕ → Option Command
with_a word a = chosen (part 7 10) word a 0

abbrev pub with_both : List ℕ → ℕ → ℕ → Option Command
with_both word a b = chosen (part 17 8) word a b
