-- What each accepted call does, but finish and the tick, over the parts: the rules of `Rattle.rules.specs.Effects`, word for word. The flag, the mutex
-- and the channel are those that the call names; of the room there is the channel's part.
use Rattle.std.specs.Prelude.{ℕ, ◌-◌, ◌^◌, false, cond, ◌||◌, List, eqb, get_or, set, length, None, Some}
use Rattle.std.specs.Int.Bits.{bit_or}
use Rattle.ring.specs.declared.Channel.{Channel}
use Rattle.ring.specs.declared.End.{End}
use Rattle.ring.specs.Ring.{put_place, gained, take_place, taken, grown, lifted, put_words, read_words, fitting, readable}
use Rattle.record.specs.declared.Wait.TheVariants as wait
use Rattle.rules.specs.declared.Answer.{Answer}
use Rattle.rules.specs.declared.Answer.TheVariants.{Done, Waiting, Busy, Value}
use Rattle.rules.specs.declared.Reading.{Reading}
use Rattle.rules.specs.declared.Reading.TheVariants as reading
use Rattle.rules.specs.Refusals.{is_free}
use Rattle.rules.specs.Update.{with_readers, with_writers}
use Rattle.rules.specs.Blocks.{is_limited}
use Rattle.rules.specs.Effects.{owner_number, state_number, has_room, has_item, emptied}
use Rattle.parts.specs.declared.Parts.{Parts}
use Rattle.parts.specs.Update.{with_depth, with_ready, with_row, with_flag, with_mutex, with_channel}
use Rattle.parts.specs.Blocks.{choose, opened, waking_all, waking_one}

-- an answer, the parts then, and the part of the room then
pub record Did : Type 0 where
  pub answer : Answer
  pub parts : Parts

pub record Effect : Type 0 where
  pub answer : Answer
  pub parts : Parts
  pub part : List ℕ

abbrev pub answered : Answer → Parts → Did
answered a x = record { answer = a; parts = x }

abbrev pub in_place : List ℕ → Did → Effect
in_place part d = record { answer = d.answer; parts = d.parts; part = part }

abbrev pub ends : Answer → Parts → Did
ends a x = answered a (choose x)

-- ---- anywhere
abbrev pub exited : Parts → Parts
exited x = cond (eqb x.depth 1) (choose (with_depth x (x.depth - 1))) (with_depth x (x.depth - 1))

abbrev pub value_read : Parts → Reading → ℕ
value_read x reading.Running = x.running.0
value_read x reading.Next = x.next.0
value_read x reading.Ready = x.ready
value_read x reading.Ticks = x.ticks
value_read x (reading.FlagState i) = state_number x.flag.on
value_read x (reading.Owner i) = owner_number x.setup.processes x.mutex.owner
value_read x (reading.ItemCount i) = x.channel.count
value_read x (reading.FreePlaces i) = x.channel.capacity - x.channel.count

-- ---- sleep and flags
abbrev pub slept : Parts → ℕ → Did
slept x t = ends Waiting (opened x (wait.Sleep (is_limited t)) t)

abbrev pub cleared : Parts → Parts
cleared x = with_flag x (record { on = false; waiters = x.flag.waiters })

abbrev pub waited : Parts → ℕ → ℕ → Did
waited x f t = cond x.flag.on (ends Done (cleared x)) (ends Waiting (opened x (wait.Flag f (is_limited t)) t))

abbrev pub signalled : Parts → Parts
signalled x =
    with_flag (with_ready x (waking_all x x.flag.waiters).ready)
    (record { on = eqb (waking_all x x.flag.waiters).woken 0 || x.flag.on; waiters = (waking_all x x.flag.waiters).map })

-- ---- mutexes
abbrev pub locked : Parts → Parts
locked x = with_mutex x (record { owner = Some x.running; waiters = x.mutex.waiters })

abbrev pub locked_or : Parts → ℕ → ℕ → Did
locked_or x i t = cond (is_free x.mutex.owner) (ends Done (locked x)) (ends Waiting (opened x (wait.Mutex i (is_limited t)) t))

abbrev pub tried : Parts → Did
tried x = cond (is_free x.mutex.owner) (ends Done (locked x)) (ends Busy x)

abbrev pub unlocked : Parts → Parts
unlocked x = with_mutex (with_ready x (waking_one x x.mutex.waiters).ready) (record { owner = None; waiters = (waking_one x x.mutex.waiters).map })

-- ---- channels
abbrev pub readers_woken : Parts → Channel → Parts
readers_woken x c = with_channel (with_ready x (waking_all x x.channel.readers).ready) (with_readers c (waking_all x x.channel.readers).map)

abbrev pub writers_woken : Parts → Channel → Parts
writers_woken x c = with_channel (with_ready x (waking_all x x.channel.writers).ready) (with_writers c (waking_all x x.channel.writers).map)

abbrev pub pushed : Parts → End → Parts
pushed x e = readers_woken x (gained e x.channel)

abbrev pub part_pushed : Parts → List ℕ → End → ℕ → List ℕ
part_pushed x part e item = set part (put_place e x.channel) item

abbrev pub pushed_or : Parts → List ℕ → ℕ → ℕ → End → Effect
pushed_or x part i item e =
    cond (has_room x.channel) (record { answer = Done; parts = choose (pushed x e); part = part_pushed x part e item })
    (in_place part (ends Waiting (opened x (wait.Push i item e) 0)))

abbrev pub popped : Parts → End → Parts
popped x e = writers_woken x (taken e x.channel)

abbrev pub word_popped : Parts → List ℕ → End → ℕ
word_popped x part e = get_or part (take_place e x.channel) 0

abbrev pub popped_or : Parts → List ℕ → ℕ → End → ℕ → Did
popped_or x part i e t =
    cond (has_item x.channel) (ends (Value (word_popped x part e)) (popped x e)) (ends Waiting (opened x (wait.Pop i e (is_limited t)) t))

abbrev pub flushed : Parts → Parts
flushed x = with_channel x (emptied x.channel)

-- ---- wake and force p: the row is that of p
abbrev pub forced : Parts → ℕ → Parts
forced x p = with_ready (with_row x (record { counter = 0; wait = x.row.wait })) (bit_or x.ready (2 ^ p))

abbrev pub woken : Parts → ℕ → Parts
woken x p = cond (eqb x.row.counter 0) x (forced x p)

-- ---- blocks from interrupt
abbrev pub words_written : Parts → List ℕ → ℕ
words_written x block = fitting x.channel (length block)

abbrev pub written : Parts → ℕ → Parts
written x n = cond (eqb n 0) x (readers_woken x (grown x.channel n))

abbrev pub part_written : Parts → List ℕ → List ℕ → ℕ → List ℕ
part_written x part block n = put_words part 0 x.channel block n

abbrev pub words_read : Parts → List ℕ → ℕ
words_read x block = readable x.channel (length block)

abbrev pub read_out : Parts → ℕ → Parts
read_out x n = cond (eqb n 0) x (writers_woken x (lifted x.channel n))

abbrev pub block_read : Parts → List ℕ → List ℕ → ℕ → List ℕ
block_read x part block n = read_words part 0 x.channel block n
