-- `poke,FIELD,INDEX,VALUE`: the fields that can be poked, one table in the order of REPLAY, Fields. INDEX is empty for a field that stands once, and a
-- slot number for the others: processes 0 to 31, flags and mutexes 0 to 7, channels 0 to 3. A counter has 16 bits, `on` one, every other number 32.
use Rattle.std.specs.Prelude.{ℕ, Bool, cond, ◌&&◌, List, [], ◌∷◌, eqb, Option, None, Some, Result, Ok}
use Rattle.text.specs.Decimals.{is_number}
use Rattle.asked.specs.declared.Poke.{Poke}
use Rattle.asked.specs.declared.Poke.TheVariants.{Processes, Flags, Mutexes, Channels, Mode, Depth, Running, Next, Ready, Ticks, Counter, Wait, On, Waiters, Owner, Lockers, Capacity, First, Count, Readers, Writers}
use Rattle.asked.specs.declared.Unreadable.{Unreadable}
use Rattle.record.specs.declared.Wait.{Wait as WaitT}
use Rattle.asked.specs.Table.{Row, row, picked, unreadable, checked}
use Rattle.asked.specs.Fields.{field, count, empty, is_word, number}
use Rattle.asked.specs.Values.{is_bit, bit, is_owner, owner_of, wait_of}

-- ---- what a field asks of INDEX and VALUE
abbrev pub once : List ℕ → List ℕ → Bool
once index value = empty index && is_word value

abbrev pub slot : ℕ → List ℕ → List ℕ → Bool
slot last index value = is_number last index && is_word value

-- a process slot's new wait
abbrev pub wait_at : ℕ → Option WaitT → Result Poke Unreadable
wait_at at (Some w) = Ok (Wait at w)
wait_at at None = unreadable

unfoldable pub counter_at : List ℕ → List ℕ → Result Poke Unreadable
counter_at index value = checked (is_number 31 index && is_number 65535 value) (Counter (number index) (number value))

-- ---- the table, written from its end: channels, flags and mutexes, processes, what moves, what setup fixes
unfoldable pub channel_fields : List ℕ → List ℕ → List (Row (Result Poke Unreadable))
channel_fields index value =
    row "capacity" (checked (slot 3 index value) (Capacity (number index) (number value)))
    ∷ row "first" (checked (slot 3 index value) (First (number index) (number value)))
    ∷ row "count" (checked (slot 3 index value) (Count (number index) (number value)))
    ∷ row "readers" (checked (slot 3 index value) (Readers (number index) (number value)))
    ∷ row "writers" (checked (slot 3 index value) (Writers (number index) (number value)))
    ∷ []

unfoldable pub service_fields : List ℕ → List ℕ → List (Row (Result Poke Unreadable))
service_fields index value =
    row "on" (checked (is_number 7 index && is_bit value) (On (number index) (bit value)))
    ∷ row "waiters" (checked (slot 7 index value) (Waiters (number index) (number value)))
    ∷ row "owner" (checked (is_number 7 index && is_owner value) (Owner (number index) (owner_of value)))
    ∷ row "lockers" (checked (slot 7 index value) (Lockers (number index) (number value)))
    ∷ channel_fields index value

unfoldable pub process_fields : List ℕ → List ℕ → List (Row (Result Poke Unreadable))
process_fields index value =
    row "counter" (counter_at index value)
    ∷ row "wait" (cond (is_number 31 index) (wait_at (number index) (wait_of value)) unreadable)
    ∷ service_fields index value

unfoldable pub moving : List ℕ → List ℕ → List (Row (Result Poke Unreadable))
moving index value =
    row "depth" (checked (once index value) (Depth (number value)))
    ∷ row "running" (checked (once index value) (Running (number value)))
    ∷ row "next" (checked (once index value) (Next (number value)))
    ∷ row "ready" (checked (once index value) (Ready (number value)))
    ∷ row "ticks" (checked (once index value) (Ticks (number value)))
    ∷ process_fields index value

unfoldable pub fixed : List ℕ → List ℕ → List (Row (Result Poke Unreadable))
fixed index value =
    row "processes" (checked (once index value) (Processes (number value)))
    ∷ row "flags" (checked (once index value) (Flags (number value)))
    ∷ row "mutexes" (checked (once index value) (Mutexes (number value)))
    ∷ row "channels" (checked (once index value) (Channels (number value)))
    ∷ row "mode" (checked (once index value) (Mode (number value)))
    ∷ moving index value

-- four fields; a field that is not in the table cannot be poked
unfoldable pub poke : List ℕ → Result Poke Unreadable
poke s = cond (eqb (count s) 4) (picked (field s 1) (fixed (field s 2) (field s 3)) unreadable) unreadable
