-- The refusal table (01, Refusal numbers): rows 1 to 13 in the document's order. Where several apply the lowest number is answered. A condition takes
-- numbers, waits and the call, never the whole record.
use Rattle.std.specs.Prelude.{ℕ, ◌-◌, Bool, true, false, not, cond, ◌&&◌, ◌||◌, List, [], ◌∷◌, eqb, Option, None, Some, ⊤, Result, Ok, Err}
use Rattle.maps.specs.declared.Number.{Number}
use Rattle.record.specs.declared.Kernel.{Kernel}
use Rattle.record.specs.Record.{wait_of}
use Rattle.record.specs.Places.{is_open}
use Rattle.record.specs.Sound.{sound}
use Rattle.room.specs.Room.{room_length}
use Rattle.rules.specs.declared.Call.{Call}
use Rattle.rules.specs.declared.Refusal.{Refusal}
use Rattle.rules.specs.declared.Refusal.TheVariants.{NotSound, RoomLength, InInterrupt, OutsideInterrupt, SwitchPending, IdleRuns, WaitOpen, NothingOpen, Missing, OwnedAlready, NotOwner, TooDeep, NonePending}
use Rattle.rules.specs.declared.Seen.{Seen}
use Rattle.rules.specs.Calls.{is_process, is_interrupt, is_finish, is_enter, is_exit, is_switch, named_by, missing, needs_room, takes, unlocks, frees, owner_named}

abbrev pub is_free : Option Number → Bool
is_free None = true
is_free (Some p) = false

abbrev pub owned_by : Option Number → ℕ → Bool
owned_by None p = false
owned_by (Some q) p = eqb q.0 p

-- a row: when it applies, and what it answers
pub record Row : Type 0 where
  pub holds : Bool
  pub answer : Refusal

-- accepted, or refused
abbrev pub Verdict : Type 0
Verdict = Result ⊤ Refusal

abbrev pub first : List Row → Verdict
first [] = Ok tt
first (r ∷ rs) = cond r.holds (Err r.answer) (first rs)

-- what the table looks at of the record k, with a room of so many words
abbrev pub seen : Kernel → ℕ → Call → Seen
seen k room c = record {
  sound = sound k;
  fits = eqb room (room_length k);
  setup = k.setup;
  depth = k.depth;
  running = k.running;
  next = k.next;
  wait = wait_of k k.running.0;
  owner = owner_named k.mutex (named_by c);
}

-- ---- the rows
-- 1: record not sound
abbrev pub not_sound : Seen → Bool
not_sound s = not s.sound

-- 2: room length wrong (pushes, pops, flush, finish, interrupt write and read)
abbrev pub wrong_room : Seen → Call → Bool
wrong_room s c = needs_room c && not s.fits

-- 3: process call or switch at depth above 0
abbrev pub in_interrupt : Seen → Call → Bool
in_interrupt s c = (is_process c || is_switch c) && not (eqb s.depth 0)

-- 4: interrupt call or exit at depth 0
abbrev pub outside_interrupt : Seen → Call → Bool
outside_interrupt s c = (is_interrupt c || is_exit c) && eqb s.depth 0

-- 5: process call while a switch is pending
abbrev pub switch_pending : Seen → Call → Bool
switch_pending s c = is_process c && not (eqb s.running.0 s.next.0)

-- 6: process call while idle runs
abbrev pub idle_runs : Seen → Call → Bool
idle_runs s c = is_process c && eqb s.running.0 (s.setup.processes - 1)

-- 7: process call other than finish, caller has an open wait
abbrev pub wait_open : Seen → Call → Bool
wait_open s c = is_process c && not (is_finish c) && is_open s.wait

-- 8: finish without open wait
abbrev pub nothing_open : Seen → Call → Bool
nothing_open s c = is_finish c && not (is_open s.wait)

-- 9: no such flag, mutex, channel or user process
abbrev pub names_missing : Seen → Call → Bool
names_missing s c = missing s.setup (named_by c)

-- 10: lock or try by the owner
abbrev pub owned_already : Seen → Call → Bool
owned_already s c = takes c && owned_by s.owner s.running.0

-- 11: unlock by another than the owner; from interrupt: nobody owns it
abbrev pub not_owner : Seen → Call → Bool
not_owner s c = (unlocks c && not (owned_by s.owner s.running.0)) || (frees c && is_free s.owner)

-- 12: enter at depth 8
abbrev pub too_deep : Seen → Call → Bool
too_deep s c = is_enter c && eqb s.depth 8

-- 13: switch with none pending
abbrev pub none_pending : Seen → Call → Bool
none_pending s c = is_switch c && eqb s.running.0 s.next.0

-- ---- the table
abbrev pub later_rows : Seen → Call → List Row
later_rows s c =
    record { holds = wait_open s c; answer = WaitOpen }
    ∷ record { holds = nothing_open s c; answer = NothingOpen }
    ∷ record { holds = names_missing s c; answer = Missing }
    ∷ record { holds = owned_already s c; answer = OwnedAlready }
    ∷ record { holds = not_owner s c; answer = NotOwner }
    ∷ record { holds = too_deep s c; answer = TooDeep }
    ∷ record { holds = none_pending s c; answer = NonePending }
    ∷ []

abbrev pub table : Seen → Call → List Row
table s c =
    record { holds = not_sound s; answer = NotSound }
    ∷ record { holds = wrong_room s c; answer = RoomLength }
    ∷ record { holds = in_interrupt s c; answer = InInterrupt }
    ∷ record { holds = outside_interrupt s c; answer = OutsideInterrupt }
    ∷ record { holds = switch_pending s c; answer = SwitchPending }
    ∷ record { holds = idle_runs s c; answer = IdleRuns }
    ∷ later_rows s c

-- the verdict on a call of the record k, with a room of so many words
unfoldable pub verdict : Kernel → ℕ → Call → Verdict
verdict k room c = first (table (seen k room c) c)
