-- Finish over the parts: the rules of `Rattle.rules.specs.Finish`, word for word. The row is the caller's, the services are those of its open wait.
use Rattle.std.specs.Prelude.{ℕ, Bool, cond, ◌&&◌, List, eqb}
use Rattle.maps.specs.Maps.{meets}
use Rattle.ring.specs.declared.End.{End}
use Rattle.record.specs.declared.Wait.{Wait}
use Rattle.record.specs.declared.Wait.TheVariants.{Nothing, Sleep, Flag, Mutex, Push, Pop}
use Rattle.record.specs.Places.{place_of, limited}
use Rattle.rules.specs.declared.Answer.TheVariants.{Done, Waiting, TimedOut, Value}
use Rattle.rules.specs.Refusals.{is_free}
use Rattle.rules.specs.Effects.{has_room, has_item}
use Rattle.parts.specs.declared.Parts.{Parts}
use Rattle.parts.specs.Update.{map_at}
use Rattle.parts.specs.Blocks.{caller_tag, choose, closed, left, again}
use Rattle.parts.specs.Effects.{Did, Effect, in_place, ends, locked, pushed, part_pushed, popped, word_popped}

abbrev pub still_in : Parts → Wait → Bool
still_in x w = meets (map_at x (place_of w)) (caller_tag x)

abbrev pub waited_again : Parts → Wait → Did
waited_again x w = cond (limited w && eqb x.row.counter 0) (ends TimedOut (closed x)) (ends Waiting (again x w))

abbrev pub closed_done : Parts → Did
closed_done x = ends Done (closed x)

abbrev pub lock_finished : Parts → ℕ → Bool → Did
lock_finished x i l = cond (is_free x.mutex.owner) (ends Done (locked (closed x))) (waited_again x (Mutex i l))

abbrev pub push_finished : Parts → List ℕ → ℕ → ℕ → End → Effect
push_finished x part i item e =
    cond (has_room x.channel) (record { answer = Done; parts = choose (pushed (closed x) e); part = part_pushed x part e item })
    (in_place part (waited_again x (Push i item e)))

abbrev pub pop_finished : Parts → List ℕ → ℕ → End → Bool → Did
pop_finished x part i e l =
    cond (has_item x.channel) (ends (Value (word_popped x part e)) (popped (closed x) e)) (waited_again x (Pop i e l))

abbrev pub carried_out : Parts → List ℕ → Wait → Effect
carried_out x part Nothing = in_place part (closed_done x)
carried_out x part (Sleep l) = in_place part (closed_done x)
carried_out x part (Flag i l) = in_place part (closed_done x)
carried_out x part (Mutex i l) = in_place part (lock_finished x i l)
carried_out x part (Push i item e) = push_finished x part i item e
carried_out x part (Pop i e l) = in_place part (pop_finished x part i e l)

abbrev pub finished : Parts → List ℕ → Wait → Effect
finished x part w = cond (still_in x w) (in_place part (ends TimedOut (left (closed x) (place_of w)))) (carried_out x part w)
