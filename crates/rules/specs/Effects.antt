-- What each accepted call does (01, Calls and their steps), but finish.
use Rattle.std.specs.Prelude.{ℕ, zero, suc, ◌+◌, ◌-◌, ◌^◌, ◌%◌, Bool, false, cond, ◌||◌, List, ltb, eqb, get_or, set, length, Option, None, Some}
use Rattle.maps.specs.declared.Number.{Number}
use Rattle.std.specs.Int.Bits.{bit_or}
use Rattle.ring.specs.declared.Channel.{Channel}
use Rattle.ring.specs.declared.End.{End}
use Rattle.ring.specs.Ring.{put_place, gained, take_place, taken, grown, lifted, put_words, read_words, fitting, readable}
use Rattle.record.specs.declared.Kernel.{Kernel}
use Rattle.record.specs.declared.Process.{Process}
use Rattle.record.specs.declared.Wait.TheVariants as wait
use Rattle.record.specs.Record.{no_process, process_at, flag_at, mutex_at, channel_at, idle}
use Rattle.record.specs.Places.{at_flag, at_mutex, at_readers, at_writers}
use Rattle.room.specs.Room.{offset}
use Rattle.rules.specs.declared.Outcome.{Outcome}
use Rattle.rules.specs.declared.Answer.{Answer}
use Rattle.rules.specs.declared.Answer.TheVariants.{Done, Waiting, Busy, Value}
use Rattle.rules.specs.declared.Reading.{Reading}
use Rattle.rules.specs.declared.Reading.TheVariants as reading
use Rattle.rules.specs.Update.{with_depth, with_ready, with_ticks, with_processes, with_process, with_flag, with_mutex, with_channel, with_readers, with_writers}
use Rattle.rules.specs.Blocks.{choose, is_limited, opened, waking_all, waking_one}
use Rattle.rules.specs.Refusals.{is_free}

-- an answer, the record then, and the room then
pub record Effect : Type 0 where
  pub answer : Answer
  pub kernel : Kernel
  pub room : List ℕ

abbrev pub answered : Answer → Kernel → Outcome
answered a k = record { answer = a; kernel = k }

-- a call that leaves the room alone
abbrev pub in_place : List ℕ → Outcome → Effect
in_place room o = record { answer = o.answer; kernel = o.kernel; room = room }

-- each accepted process call ends with choose
abbrev pub ends : Answer → Kernel → Outcome
ends a k = answered a (choose k)

-- ---- anywhere
-- exit: depth − 1, and choose if it reaches 0
abbrev pub exited : Kernel → Kernel
exited k = cond (eqb k.depth 1) (choose (with_depth k (k.depth - 1))) (with_depth k (k.depth - 1))

-- the owner's number, n when free
abbrev pub owner_number : ℕ → Option Number → ℕ
owner_number n None = n
owner_number n (Some p) = p.0

-- a flag's state is 1 on, 0 off
abbrev pub state_number : Bool → ℕ
state_number on = cond on 1 0

abbrev pub value_read : Kernel → Reading → ℕ
value_read k reading.Running = k.running.0
value_read k reading.Next = k.next.0
value_read k reading.Ready = k.ready
value_read k reading.Ticks = k.ticks
value_read k (reading.FlagState i) = state_number (flag_at k i).on
value_read k (reading.Owner i) = owner_number k.setup.processes (mutex_at k i).owner
value_read k (reading.ItemCount i) = (channel_at k i).count
value_read k (reading.FreePlaces i) = (channel_at k i).capacity - (channel_at k i).count

-- ---- sleep and flags
abbrev pub slept : Kernel → ℕ → Outcome
slept k t = ends Waiting (opened k (wait.Sleep (is_limited t)) t)

-- the flag goes off
unfoldable pub cleared : Kernel → ℕ → Kernel
cleared k f = with_flag k f (record { on = false; waiters = (flag_at k f).waiters })

-- wait: if on, it goes off and the answer is Done; else opens a wait
abbrev pub waited : Kernel → ℕ → ℕ → Outcome
waited k f t = cond (flag_at k f).on (ends Done (cleared k f)) (ends Waiting (opened k (wait.Flag f (is_limited t)) t))

-- signal: wake all; if nobody was woken the flag goes on
unfoldable pub signalled : Kernel → ℕ → Kernel
signalled k f =
    with_flag (with_ready k (waking_all k (at_flag f)).ready) f
    (record { on = eqb (waking_all k (at_flag f)).woken 0 || (flag_at k f).on; waiters = (waking_all k (at_flag f)).map })

-- ---- mutexes
-- the caller owns it
unfoldable pub locked : Kernel → ℕ → Kernel
locked k i = with_mutex k i (record { owner = Some k.running; waiters = (mutex_at k i).waiters })

-- lock: if free, the caller owns it, Done; else opens a wait. Try: the same, but Busy in place of waiting
abbrev pub locked_or : Kernel → ℕ → ℕ → Outcome
locked_or k i t = cond (is_free (mutex_at k i).owner) (ends Done (locked k i)) (ends Waiting (opened k (wait.Mutex i (is_limited t)) t))

abbrev pub tried : Kernel → ℕ → Outcome
tried k i = cond (is_free (mutex_at k i).owner) (ends Done (locked k i)) (ends Busy k)

-- unlock: free, then wake one
unfoldable pub unlocked : Kernel → ℕ → Kernel
unlocked k i = with_mutex (with_ready k (waking_one k (at_mutex i)).ready) i (record { owner = None; waiters = (waking_one k (at_mutex i)).map })

-- ---- channels
abbrev pub has_room : Channel → Bool
has_room c = ltb c.count c.capacity

abbrev pub has_item : Channel → Bool
has_item c = ltb 0 c.count

-- channel i becomes c, and all its readers, or all its writers, are woken
abbrev pub readers_woken : Kernel → ℕ → Channel → Kernel
readers_woken k i c = with_channel (with_ready k (waking_all k (at_readers i)).ready) i (with_readers c (waking_all k (at_readers i)).map)

abbrev pub writers_woken : Kernel → ℕ → Channel → Kernel
writers_woken k i c = with_channel (with_ready k (waking_all k (at_writers i)).ready) i (with_writers c (waking_all k (at_writers i)).map)

-- an item put
unfoldable pub pushed : Kernel → ℕ → End → Kernel
pushed k i e = readers_woken k i (gained e (channel_at k i))

abbrev pub room_pushed : Kernel → List ℕ → ℕ → End → ℕ → List ℕ
room_pushed k room i e x = set room (offset k.channel i + put_place e (channel_at k i)) x

-- push: if there is room, put, wake all readers, Done; else opens a wait that holds the item. A push is never limited
abbrev pub pushed_or : Kernel → List ℕ → ℕ → ℕ → End → Effect
pushed_or k room i x e =
    cond (has_room (channel_at k i)) (record { answer = Done; kernel = choose (pushed k i e); room = room_pushed k room i e x })
    (in_place room (ends Waiting (opened k (wait.Push i x e) 0)))

-- an item taken
unfoldable pub popped : Kernel → ℕ → End → Kernel
popped k i e = writers_woken k i (taken e (channel_at k i))

abbrev pub word_popped : Kernel → List ℕ → ℕ → End → ℕ
word_popped k room i e = get_or room (offset k.channel i + take_place e (channel_at k i)) 0

-- pop: if not empty, take, wake all writers, answer the value; else opens a wait
abbrev pub popped_or : Kernel → List ℕ → ℕ → End → ℕ → Outcome
popped_or k room i e t = cond (has_item (channel_at k i)) (ends (Value (word_popped k room i e)) (popped k i e)) (ends Waiting (opened k (wait.Pop i e (is_limited t)) t))

-- flush: first 0, count 0; nobody is woken (6.6.1.11)
abbrev pub emptied : Channel → Channel
emptied c = record { capacity = c.capacity; first = 0; count = 0; readers = c.readers; writers = c.writers }

unfoldable pub flushed : Kernel → ℕ → Kernel
flushed k i = with_channel k i (emptied (channel_at k i))

-- ---- wake and force: maps are untouched
unfoldable pub forced : Kernel → ℕ → Kernel
forced k p = with_ready (with_process k p (record { counter = 0; wait = (process_at k p).wait })) (bit_or k.ready (2 ^ p))

-- wake p: if p's counter is above 0 it becomes 0 and p becomes ready
abbrev pub woken : Kernel → ℕ → Kernel
woken k p = cond (eqb (process_at k p).counter 0) k (forced k p)

-- ---- the tick (4.2.8): the tick count rises by one and wraps; then each user counter above 0 falls by one, and at 0 its process becomes ready
pub record Counted : Type 0 where
  pub ready : ℕ
  pub process : List Process

-- (a counter of 0 stays 0: numbers are natural)
abbrev pub fallen : ℕ → Counted → Counted
fallen p c = record {
  ready = bit_or c.ready (cond (eqb (get_or c.process p no_process).counter 1) (2 ^ p) 0);
  process = set c.process p (record { counter = (get_or c.process p no_process).counter - 1; wait = (get_or c.process p no_process).wait });
}

unfoldable pub counted : ℕ → Counted → Counted
counted zero c = c
counted (suc p) c = fallen p (counted p c)

abbrev pub with_counted : Kernel → Counted → Kernel
with_counted k c = with_processes (with_ready k c.ready) c.process

abbrev pub ticked : Kernel → Kernel
ticked k = with_counted (with_ticks k ((k.ticks + 1) % 2 ^ 32)) (counted (idle k) (record { ready = k.ready; process = k.process }))

-- ---- blocks from interrupt (6.6.1.6, 6.6.1.8): the words written or read, and all readers or writers woken if that is above 0
abbrev pub words_written : Kernel → ℕ → List ℕ → ℕ
words_written k i block = fitting (channel_at k i) (length block)

unfoldable pub written : Kernel → ℕ → ℕ → Kernel
written k i n = cond (eqb n 0) k (readers_woken k i (grown (channel_at k i) n))

abbrev pub room_written : Kernel → List ℕ → ℕ → List ℕ → ℕ → List ℕ
room_written k room i block n = put_words room (offset k.channel i) (channel_at k i) block n

abbrev pub words_read : Kernel → ℕ → List ℕ → ℕ
words_read k i block = readable (channel_at k i) (length block)

unfoldable pub read_out : Kernel → ℕ → ℕ → Kernel
read_out k i n = cond (eqb n 0) k (writers_woken k i (lifted (channel_at k i) n))

abbrev pub block_read : Kernel → List ℕ → ℕ → List ℕ → ℕ → List ℕ
block_read k room i block n = read_words room (offset k.channel i) (channel_at k i) block n
