-- The words that differ between two rooms, or two blocks, and their lengths: a is before, b after. Words past an end count as 0.
use Rattle.std.specs.Prelude.{ℕ, max, List, ◌++◌, get_or, length}
use Rattle.text.specs.Ascii.{ascii}
use Rattle.changes.specs.declared.words.Words.{Words}
use Rattle.changes.specs.declared.words.Words.TheVariants.{Room, Block}
use Rattle.changes.specs.Fields.{slot, number}
use Rattle.changes.specs.Changes.{below}

-- the name of the length, and of a word
abbrev pub length_name : Words → List ℕ
length_name Room = ascii "rooms"
length_name Block = ascii "blocks"

abbrev pub word_name : Words → List ℕ
word_name Room = ascii "room"
word_name Block = ascii "block"

abbrev pub word_at : List ℕ → ℕ → ℕ
word_at s j = get_or s j 0

-- word by word, below n
abbrev pub each_word : List ℕ → List ℕ → List ℕ → ℕ → List ℕ
each_word name a b n = below n (λ j. number (slot name j) (word_at a j) (word_at b j))

abbrev pub named_words : List ℕ → List ℕ → List ℕ → List ℕ → List ℕ
named_words many one a b = number many (length a) (length b) ++ each_word one a b (max (length a) (length b))

abbrev pub word_changes : Words → List ℕ → List ℕ → List ℕ
word_changes which a b = named_words (length_name which) (word_name which) a b
