-- The words of the replay program that the trace program does not have, one table in the order of REPLAY, Input words.
use Rattle.std.specs.Prelude.{ℕ, Bool, List, [], ◌∷◌, Option, None, Some, Result, Ok, Err}
use Prim.Native.String.{String}
use Rattle.record.specs.declared.Setup.{Setup as SetupT}
use Rattle.rules.specs.declared.Reading.TheVariants.{Running, Next, Ready, Ticks, FlagState, Owner, ItemCount, FreePlaces}
use Rattle.asked.specs.declared.Asked.{Asked}
use Rattle.asked.specs.declared.Asked.TheVariants.{Setup, Room, Block, Write, Read, Reading, Poke}
use Rattle.asked.specs.declared.Poke.{Poke as PokeT}
use Rattle.asked.specs.declared.Unreadable.{Unreadable}
use Rattle.asked.specs.Table.{Row, row, picked, checked}
use Rattle.asked.specs.Fields.{field, number_in, no_number, one_number, two_numbers, nine_numbers}
use Rattle.asked.specs.Pokes.{poke}

-- what a record asks: nothing where it is none of the words, unreadable where it is one of them and its fields are not as they should be
abbrev pub Read_as : Type 0
Read_as = Result (Option Asked) Unreadable

abbrev pub setup_numbers : List ℕ → SetupT
setup_numbers s = record { mode = number_in s 1; processes = number_in s 2; flags = number_in s 3; mutexes = number_in s 4; channels = number_in s 5 }

abbrev pub capacities : List ℕ → List ℕ
capacities s = number_in s 6 ∷ number_in s 7 ∷ number_in s 8 ∷ number_in s 9 ∷ []

unfoldable pub setup : List ℕ → Asked
setup s = Setup (setup_numbers s) (capacities s)

abbrev pub word : String → Bool → Asked → Row Read_as
word name fine asked = row name (checked fine (Some asked))

abbrev pub poking : Result PokeT Unreadable → Read_as
poking (Ok p) = Ok (Some (Poke p))
poking (Err e) = Err e

abbrev pub words : List ℕ → List (Row Read_as)
words s =
    word "setup" (nine_numbers s) (setup s)
    ∷ word "room" (one_number 256 s) (Room (number_in s 1))
    ∷ word "block" (two_numbers 64 s) (Block (number_in s 1) (number_in s 2))
    ∷ word "writeb" (one_number 4294967295 s) (Write (number_in s 1))
    ∷ word "readb" (one_number 4294967295 s) (Read (number_in s 1))
    ∷ word "running" (no_number s) (Reading Running)
    ∷ word "next" (no_number s) (Reading Next)
    ∷ word "ready" (no_number s) (Reading Ready)
    ∷ word "ticks" (no_number s) (Reading Ticks)
    ∷ word "flag" (one_number 4294967295 s) (Reading (FlagState (number_in s 1)))
    ∷ word "owner" (one_number 4294967295 s) (Reading (Owner (number_in s 1)))
    ∷ word "count" (one_number 4294967295 s) (Reading (ItemCount (number_in s 1)))
    ∷ word "free" (one_number 4294967295 s) (Reading (FreePlaces (number_in s 1)))
    ∷ row "poke" (poking (poke s))
    ∷ []

-- the first field is the word
abbrev pub asked_of : List ℕ → Read_as
asked_of s = picked (field s 0) (words s) (Ok None)
