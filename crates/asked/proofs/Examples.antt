-- Records and what they ask, computed from the definitions: the setup of REPLAY's example, pokes of each kind of value, and records that are not read.
-- Assumes nothing.
use Rattle.std.proofs.Common.{◌≡◌, refl, true, List, [], ◌∷◌, None, Some, Ok, map}
use Prim.Native.String.{String}
use Rattle.text.specs.Ascii.{ascii}
use Rattle.text.specs.Records.{fields}
use Rattle.text.specs.Decimals.{all_digits, onwards}
use Rattle.ring.specs.declared.End.TheVariants.{Front}
use Rattle.record.specs.declared.Wait.TheVariants.{Sleep, Push}
use Rattle.record.specs.Words.{all_below}
use Rattle.rules.specs.declared.Reading.TheVariants.{Ticks, ItemCount}
use Rattle.asked.specs.declared.Asked.TheVariants.{Setup, Room, Block, Reading, Poke}
use Rattle.asked.specs.declared.Poke.TheVariants.{Mode, Counter, Wait, Owner}
use Rattle.asked.specs.Table.{unreadable}
use Rattle.asked.specs.Parts.{parted}
use Rattle.asked.specs.Fields.{number, no_number, one_number, two_numbers, nine_numbers}
use Rattle.asked.specs.Values.{is_end, end_of, is_owner, owner_of, is_sleep, is_at, is_push, is_pop, channel_wait, wait_of}
use Rattle.asked.specs.Pokes.{counter_at, channel_fields, service_fields, process_fields, moving, fixed, poke}
use Rattle.asked.specs.Words.{Read_as, setup, asked_of}

record Line : Type 0 where
  text : String
  asked : Read_as

unfoldable lines : List Line
lines =
    record { text = "setup,0,3,1,1,1,2,0,0,0"; asked = Ok (Some (Setup (record { mode = 0; processes = 3; flags = 1; mutexes = 1; channels = 1 }) (2 ∷ 0 ∷ 0 ∷ 0 ∷ []))) }
    ∷ record { text = "setup,0,3,1,1,1,2,0,0"; asked = unreadable }
    ∷ record { text = "room,256,"; asked = Ok (Some (Room 256)) }
    ∷ record { text = "room,257,"; asked = unreadable }
    ∷ record { text = "block,2,4294967295"; asked = Ok (Some (Block 2 4294967295)) }
    ∷ record { text = "count,3,"; asked = Ok (Some (Reading (ItemCount 3))) }
    ∷ record { text = "count,03,"; asked = unreadable }
    ∷ record { text = "ticks,,"; asked = Ok (Some (Reading Ticks)) }
    ∷ record { text = "poke,mode,,4294967296"; asked = unreadable }
    ∷ record { text = "poke,mode,,7"; asked = Ok (Some (Poke (Mode 7))) }
    ∷ record { text = "poke,counter,5,3"; asked = Ok (Some (Poke (Counter 5 3))) }
    ∷ record { text = "poke,counter,32,3"; asked = unreadable }
    ∷ record { text = "poke,wait,31,push.9.front.7"; asked = Ok (Some (Poke (Wait 31 (Push 9 7 Front)))) }
    ∷ record { text = "poke,wait,0,sleep.1"; asked = Ok (Some (Poke (Wait 0 (Sleep true)))) }
    ∷ record { text = "poke,wait,0,sleep"; asked = unreadable }
    ∷ record { text = "poke,owner,7,nobody"; asked = Ok (Some (Poke (Owner 7 None))) }
    ∷ record { text = "poke,rooms,,3"; asked = unreadable }
    ∷ record { text = "tick,,"; asked = Ok None }
    ∷ record { text = ""; asked = Ok None }
    ∷ []

as-asked : map (λ l. asked_of (ascii l.text)) lines ≡ map (λ l. l.asked) lines
unfolding lines fields all_digits onwards all_below parted number no_number one_number two_numbers nine_numbers setup is_end end_of is_owner owner_of is_sleep is_at is_push is_pop channel_wait wait_of counter_at channel_fields service_fields process_fields moving fixed poke
as-asked = refl
