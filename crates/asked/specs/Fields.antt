-- A record's fields, and the numbers in them (REPLAY): plain decimals of 32 bits where nothing else is said.
use Rattle.std.specs.Prelude.{ℕ, ◌+◌, Bool, cond, ◌&&◌, List, [], eqb, get_or, length}
use Rattle.text.specs.Records.{fields}
use Rattle.text.specs.Decimals.{is_number, value_of}
use Rattle.record.specs.Words.{all_below}

-- field n, and nothing where there is no such field
abbrev pub field : List ℕ → ℕ → List ℕ
field s n = get_or (fields s) n []

abbrev pub count : List ℕ → ℕ
count s = length (fields s)

abbrev pub empty : List ℕ → Bool
empty text = eqb (length text) 0

-- ---- numbers
abbrev pub is_word : List ℕ → Bool
is_word text = is_number 4294967295 text

-- the number that a text is. Where it is none the record is unreadable, and this 0 is not looked at
unfoldable pub number : List ℕ → ℕ
number text = cond (is_word text) (value_of text) 0

abbrev pub number_in : List ℕ → ℕ → ℕ
number_in s n = number (field s n)

-- ---- the shapes of records: `WORD,,`, `WORD,A,`, `WORD,A,B`, and ten fields that are numbers but for the first
unfoldable pub no_number : List ℕ → Bool
no_number s = eqb (count s) 3 && empty (field s 1) && empty (field s 2)

unfoldable pub one_number : ℕ → List ℕ → Bool
one_number most s = eqb (count s) 3 && is_number most (field s 1) && empty (field s 2)

unfoldable pub two_numbers : ℕ → List ℕ → Bool
two_numbers most s = eqb (count s) 3 && is_number most (field s 1) && is_word (field s 2)

-- n fields from field `first` on are numbers
abbrev pub are_words : List ℕ → ℕ → ℕ → Bool
are_words s first n = all_below n (λ i. is_word (field s (i + first)))

unfoldable pub nine_numbers : List ℕ → Bool
nine_numbers s = eqb (count s) 10 && are_words s 1 9
