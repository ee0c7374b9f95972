-- Tables of words: the row whose word a text is, byte for byte; and what a row gives whose fields are not as they should be.
use Rattle.std.specs.Prelude.{ℕ, ◌≡◌, Bool, true, not, ◌&&◌, cond, List, [], ◌∷◌, ltb, eqb, length, Result, Ok, Err}
use Prim.Native.String.{String}
use Rattle.text.specs.Ascii.{ascii, same}
use Rattle.asked.specs.declared.Unreadable.{Unreadable}

pub record Row (A : Type 0) : Type 0 where
  pub word : List ℕ
  pub is : A

abbrev pub row : {A : Type 0} → String → A → Row A
row word is = record { word = ascii word; is = is }

-- what the first row with that word says, or `other` where there is none
abbrev pub picked : {A : Type 0} → List ℕ → List (Row A) → A → A
picked text [] other = other
picked text (r ∷ rows) other = cond (same text r.word) r.is (picked text rows other)

abbrev pub unreadable : {A : Type 0} → Result A Unreadable
unreadable = Err (record {})

-- what is read where the fields are as they should be, and unreadable where they are not
abbrev pub checked : {A : Type 0} → Bool → A → Result A Unreadable
checked fine read = cond fine (Ok read) unreadable

-- ---- a word as text, which it need not be. ASCII: each byte below 128
unfoldable pub is_ascii : List ℕ → Bool
is_ascii [] = true
is_ascii (b ∷ rest) = ltb b 128 && is_ascii rest

abbrev pub is_ascii_word : List ℕ → Bool
is_ascii_word word = not (eqb (length word) 0) && is_ascii word

-- the text is the same words of ASCII as the bytes are
abbrev pub SameWords : List ℕ → List ℕ → Type 0
SameWords text bytes = (word : List ℕ) → is_ascii_word word ≡ true → same text word ≡ same bytes word
