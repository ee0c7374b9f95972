-- Finish ends the caller's open wait (01, Process calls).
use Rattle.std.specs.Prelude.{ℕ, Bool, cond, ◌&&◌, List, eqb}
use Rattle.maps.specs.Maps.{has}
use Rattle.ring.specs.declared.End.{End}
use Rattle.record.specs.declared.Kernel.{Kernel}
use Rattle.record.specs.declared.Wait.{Wait}
use Rattle.record.specs.declared.Wait.TheVariants.{Nothing, Sleep, Flag, Mutex, Push, Pop}
use Rattle.record.specs.Record.{mutex_at, channel_at}
use Rattle.record.specs.Places.{place_of, map_at, limited}
use Rattle.rules.specs.declared.Answer.TheVariants.{Done, Waiting, TimedOut, Value}
use Rattle.rules.specs.declared.Outcome.{Outcome}
use Rattle.rules.specs.Blocks.{caller, caller_row, choose, closed, left, again}
use Rattle.rules.specs.Refusals.{is_free}
use Rattle.rules.specs.Effects.{Effect, in_place, ends, has_room, has_item, locked, pushed, room_pushed, popped, word_popped}

-- the caller is still in the map
abbrev pub still_in : Kernel → Wait → Bool
still_in k w = has (map_at k (place_of w)) (caller k)

-- if limited and the counter is 0: closed, TimedOut. Else back into the map, not ready, the counter as it stands, Waiting
abbrev pub waited_again : Kernel → Wait → Outcome
waited_again k w = cond (limited w && eqb (caller_row k).counter 0) (ends TimedOut (closed k)) (ends Waiting (again k w))

-- the caller is not in the map any more. Sleep and flag: counter 0, closed, Done
abbrev pub closed_done : Kernel → Outcome
closed_done k = ends Done (closed k)

-- the mutex, the push or the pop is done now if it can be, with its answer, counter 0, closed; else the caller waits again
abbrev pub lock_finished : Kernel → ℕ → Bool → Outcome
lock_finished k i l = cond (is_free (mutex_at k i).owner) (ends Done (locked (closed k) i)) (waited_again k (Mutex i l))

abbrev pub push_finished : Kernel → List ℕ → ℕ → ℕ → End → Effect
push_finished k room i x e =
    cond (has_room (channel_at k i)) (record { answer = Done; kernel = choose (pushed (closed k) i e); room = room_pushed k room i e x })
    (in_place room (waited_again k (Push i x e)))

abbrev pub pop_finished : Kernel → List ℕ → ℕ → End → Bool → Outcome
pop_finished k room i e l = cond (has_item (channel_at k i)) (ends (Value (word_popped k room i e)) (popped (closed k) i e)) (waited_again k (Pop i e l))

abbrev pub carried_out : Kernel → List ℕ → Wait → Effect
carried_out k room Nothing = in_place room (closed_done k)
carried_out k room (Sleep l) = in_place room (closed_done k)
carried_out k room (Flag i l) = in_place room (closed_done k)
carried_out k room (Mutex i l) = in_place room (lock_finished k i l)
carried_out k room (Push i x e) = push_finished k room i x e
carried_out k room (Pop i e l) = in_place room (pop_finished k room i e l)

-- if the caller is still in the map: leave it, counter 0, wait closed, TimedOut
abbrev pub finished : Kernel → List ℕ → Wait → Effect
finished k room w = cond (still_in k w) (in_place room (ends TimedOut (left (closed k) (place_of w)))) (carried_out k room w)
