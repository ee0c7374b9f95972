-- One change: a field's name and its value after, where that is not the value before.
use Rattle.std.specs.Prelude.{ℕ, ◌+◌, Bool, cond, List, [], ◌++◌, eqb, length, Option, None, Some}
use Rattle.text.specs.Ascii.{ascii}
use Rattle.text.specs.Decimals.{digits}

abbrev pub key : List ℕ → List ℕ
key name = ascii "," ++ name ++ ascii "="

-- the field of slot i is NAME.I
abbrev pub slot : List ℕ → ℕ → List ℕ
slot name i = name ++ ascii "." ++ digits i

abbrev pub name_of : List ℕ → Option ℕ → List ℕ
name_of name None = name
name_of name (Some i) = slot name i

-- the bytes that a name takes at most: a slot's number has three digits at most
abbrev pub name_room : List ℕ → Option ℕ → ℕ
name_room name None = length name
name_room name (Some i) = length name + 4

-- `,NAME=VALUE`, and nothing where the value is the same
abbrev pub change : Bool → List ℕ → List ℕ → List ℕ
change same name value = cond same [] (key name ++ value)

abbrev pub number : List ℕ → ℕ → ℕ → List ℕ
number name old new = change (eqb old new) name (digits new)
