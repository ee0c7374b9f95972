-- The fields that differ between two records, in the order of the replay program: a is the record before, b the one after.
use Rattle.std.specs.Prelude.{ℕ, zero, suc, List, [], ◌++◌, get_or, Option}
use Prim.Native.String.{String}
use Rattle.text.specs.Ascii.{ascii}
use Rattle.ring.specs.declared.Channel.{Channel}
use Rattle.record.specs.declared.Kernel.{Kernel}
use Rattle.record.specs.declared.Setup.{Setup}
use Rattle.record.specs.declared.Process.{Process}
use Rattle.record.specs.declared.Flag.{Flag}
use Rattle.record.specs.declared.Mutex.{Mutex}
use Rattle.maps.specs.declared.Number.{Number}
use Rattle.record.specs.declared.Wait.{Wait}
use Rattle.record.specs.Record.{no_process, no_flag, no_mutex, no_channel}
use Rattle.changes.specs.Values.{bit, owner_text, wait_text, same_owner, same_wait}
use Rattle.changes.specs.Fields.{slot, change, number}

-- ---- the fields that stand once
abbrev pub once : String → ℕ → ℕ → List ℕ
once name a b = number (ascii name) a b

unfoldable pub setup_changes : Setup → Setup → List ℕ
setup_changes a b =
    once "processes" a.processes b.processes
    ++ once "flags" a.flags b.flags
    ++ once "mutexes" a.mutexes b.mutexes
    ++ once "channels" a.channels b.channels
    ++ once "mode" a.mode b.mode

unfoldable pub number_changes : Kernel → Kernel → List ℕ
number_changes a b =
    once "depth" a.depth b.depth
    ++ once "running" a.running.0 b.running.0
    ++ once "next" a.next.0 b.next.0
    ++ once "ready" a.ready b.ready
    ++ once "ticks" a.ticks b.ticks

-- ---- the fields of a slot
abbrev pub of_slot : String → ℕ → ℕ → ℕ → List ℕ
of_slot name i a b = number (slot (ascii name) i) a b

abbrev pub wait_change : ℕ → Wait → Wait → List ℕ
wait_change p a b = change (same_wait a b) (slot (ascii "wait") p) (wait_text b)

abbrev pub owner_change : ℕ → Option Number → Option Number → List ℕ
owner_change i a b = change (same_owner a b) (slot (ascii "owner") i) (owner_text b)

unfoldable pub process_change : ℕ → Process → Process → List ℕ
process_change p a b = of_slot "counter" p a.counter b.counter ++ wait_change p a.wait b.wait

unfoldable pub flag_change : ℕ → Flag → Flag → List ℕ
flag_change i a b = of_slot "on" i (bit a.on) (bit b.on) ++ of_slot "waiters" i a.waiters b.waiters

unfoldable pub mutex_change : ℕ → Mutex → Mutex → List ℕ
mutex_change i a b = owner_change i a.owner b.owner ++ of_slot "lockers" i a.waiters b.waiters

unfoldable pub channel_change : ℕ → Channel → Channel → List ℕ
channel_change i a b =
    of_slot "capacity" i a.capacity b.capacity
    ++ of_slot "first" i a.first b.first
    ++ of_slot "count" i a.count b.count
    ++ of_slot "readers" i a.readers b.readers
    ++ of_slot "writers" i a.writers b.writers

-- ---- the tables
-- the texts of the slots below n, one after the other
unfoldable pub below : ℕ → (ℕ → List ℕ) → List ℕ
below zero f = []
below (suc i) f = below i f ++ f i

-- what `change` prints of the slots below n of two tables; past its end a table has slots like `none`
abbrev pub slots : {T : Type 0} → (ℕ → T → T → List ℕ) → T → List T → List T → ℕ → List ℕ
slots change none a b n = below n (λ i. change i (get_or a i none) (get_or b i none))

abbrev pub process_changes : List Process → List Process → ℕ → List ℕ
process_changes a b n = slots process_change no_process a b n

abbrev pub flag_changes : List Flag → List Flag → ℕ → List ℕ
flag_changes a b n = slots flag_change no_flag a b n

abbrev pub mutex_changes : List Mutex → List Mutex → ℕ → List ℕ
mutex_changes a b n = slots mutex_change no_mutex a b n

abbrev pub channel_changes : List Channel → List Channel → ℕ → List ℕ
channel_changes a b n = slots channel_change no_channel a b n

-- ---- the record
unfoldable pub changes : Kernel → Kernel → List ℕ
changes a b =
    setup_changes a.setup b.setup
    ++ number_changes a b
    ++ process_changes a.process b.process 32
    ++ flag_changes a.flag b.flag 8
    ++ mutex_changes a.mutex b.mutex 8
    ++ channel_changes a.channel b.channel 4
