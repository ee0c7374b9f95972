-- What `is_sound` computes, step by step: the words of the check, and nothing that a reader of the rules has to believe. That it decides `sound` is
-- proved (proofs/Decides).
use Rattle.std.specs.Prelude.{ℕ, zero, suc, ◌+◌, ◌-◌, ◌^◌, ◌<◌, ◌≤◌, ◌≡◌, Bool, true, false, not, cond, ◌&&◌, List, ltb, leb, eqb, length, get_or, set, replicate}
use Rattle.std.specs.Borrow.{Bor}
use Rattle.std.specs.Fn.{Shared, FnReturnsAt}
use Rattle.std.specs.Int.Bits.{bit_and, bit_or}
use Rattle.maps.specs.Maps.{has, minus, everyone, map_of, lowest}
use Rattle.ring.specs.declared.Channel.{Channel}
use Rattle.record.specs.declared.Kernel.{Kernel}
use Rattle.record.specs.declared.Setup.{Setup}
use Rattle.record.specs.declared.Process.{Process}
use Rattle.record.specs.declared.Flag.{Flag}
use Rattle.record.specs.declared.Mutex.{Mutex}
use Rattle.record.specs.declared.Wait.{Wait}
use Rattle.record.specs.declared.soundness.Class.{Class}
use Rattle.record.specs.declared.soundness.Tally.{Tally}
use Rattle.record.specs.declared.soundness.Seen.{Seen}
use Rattle.record.specs.Words.{implies}
use Rattle.record.specs.Limits.{counts_fit, channel_fits}
use Rattle.record.specs.Record.{no_process, no_flag, no_mutex, no_channel}
use Rattle.record.specs.Places.{Place, nowhere, at_flag, at_mutex, at_readers, at_writers, is_open, sleeps, limited, place_of, real_in}
use Rattle.record.specs.Sound.{user_owner, within}

-- counts within their limits
pub record Small (s : Setup) : Type 0 where
  pub two : 2 ≤ s.processes
  pub most : s.processes ≤ 32
  pub flags : s.flags ≤ 8
  pub mutexes : s.mutexes ≤ 8
  pub channels : s.channels ≤ 4

abbrev pub numbers_fit : Setup → ℕ → ℕ → ℕ → Bool
numbers_fit s depth running next = counts_fit s && leb depth 8 && ltb running s.processes && ltb next s.processes

-- ---- the processes

-- the slot of a place's map: flags from 0, mutexes from 8, readers from 16, writers from 20; 24 where no such service exists
abbrev pub slot_of : Setup → Place → ℕ
slot_of s nowhere = 24
slot_of s (at_flag i) = cond (ltb i s.flags) (0 + i) 24
slot_of s (at_mutex i) = cond (ltb i s.mutexes) (8 + i) 24
slot_of s (at_readers i) = cond (ltb i s.channels) (16 + i) 24
slot_of s (at_writers i) = cond (ltb i s.channels) (20 + i) 24

abbrev pub waits_at : ℕ → Bool → ℕ → ℕ → Class
waits_at at l count base = record { waits = true; sleeps = false; limited = l; slot = cond (ltb at count) (base + at) 24 }

abbrev pub class_of : Setup → Wait → Class
class_of s w = record { waits = is_open w; sleeps = sleeps w; limited = limited w; slot = slot_of s (place_of w) }

abbrev pub tag_if : Bool → ℕ → ℕ
tag_if b tag = cond b tag 0

abbrev pub counted : Tally → Class → ℕ → ℕ → Tally
counted t c counter tag = record {
  waits = bit_or t.waits (tag_if c.waits tag);
  sleeps = bit_or t.sleeps (tag_if c.sleeps tag);
  limited = bit_or t.limited (tag_if c.limited tag);
  named = bit_or t.named (tag_if (ltb c.slot 24) tag);
  rests = bit_or t.rests (tag_if (eqb counter 0) tag);
}

abbrev pub row_at : List Process → ℕ → Process
row_at process p = get_or process p no_process

-- of the first n processes
abbrev pub tally_of : Setup → List Process → ℕ → Tally
tally_of s process n = record {
  waits = map_of n (λ p. is_open (row_at process p).wait);
  sleeps = map_of n (λ p. sleeps (row_at process p).wait);
  limited = map_of n (λ p. limited (row_at process p).wait);
  named = map_of n (λ p. real_in s (place_of (row_at process p).wait));
  rests = map_of n (λ p. eqb (row_at process p).counter 0);
}

-- who waits where, slot by slot
unfoldable pub waiting_of : Setup → List Process → ℕ → List ℕ
waiting_of s process zero = replicate 25 0
waiting_of s process (suc p) =
    set (waiting_of s process p) (slot_of s (place_of (row_at process p).wait))
    (bit_or (get_or (waiting_of s process p) (slot_of s (place_of (row_at process p).wait)) 0) (2 ^ p))

-- ---- the services

abbrev pub saw : Seen → ℕ → ℕ → Bool → Seen
saw m map waiting fine = record { any = bit_or m.any map; stray = bit_or m.stray (minus map waiting); fine = m.fine && fine }

-- n maps f, where the words g of those who wait there; and n tests h
unfoldable pub over : (ℕ → ℕ) → (ℕ → ℕ) → (ℕ → Bool) → Seen → ℕ → Seen
over f g h m zero = m
over f g h m (suc i) = saw (over f g h m i) (f i) (g i) (h i)

-- a closure gives f i of item i of a list
abbrev pub Gives : {F T R : Type 0} → Shared F (Bor T × Unit {0}) R → F → List T → (ℕ → R) → Type 0
Gives {T = T} {R = R} g k xs f = (i : ℕ) (x : T) (r : R) → i < length xs → x ≡ get_or xs i x → FnReturnsAt g k x r → r ≡ f i

abbrev pub start : Seen
start = record { any = 0; stray = 0; fine = true }

abbrev pub flags_seen : List Flag → List ℕ → Seen → ℕ → Seen
flags_seen flag waiting m n = over (λ i. (get_or flag i no_flag).waiters) (λ i. get_or waiting i 0) (λ i. true) m n

abbrev pub mutexes_seen : ℕ → List Mutex → List ℕ → Seen → ℕ → Seen
mutexes_seen processes mutex waiting m n =
    over (λ i. (get_or mutex i no_mutex).waiters) (λ i. get_or waiting (8 + i) 0) (λ i. user_owner processes (get_or mutex i no_mutex).owner) m n

abbrev pub readers_seen : List Channel → List ℕ → Seen → ℕ → Seen
readers_seen channel waiting m n =
    over (λ i. (get_or channel i no_channel).readers) (λ i. get_or waiting (16 + i) 0) (λ i. channel_fits (get_or channel i no_channel)) m n

abbrev pub writers_seen : List Channel → List ℕ → Seen → ℕ → Seen
writers_seen channel waiting m n = over (λ i. (get_or channel i no_channel).writers) (λ i. get_or waiting (20 + i) 0) (λ i. true) m n

-- all the services, where the words of those who wait are w
abbrev pub services_seen : Setup → List Flag → List Mutex → List Channel → List ℕ → Seen
services_seen s flag mutex channel w =
    writers_seen channel w (readers_seen channel w (mutexes_seen s.processes mutex w (flags_seen flag w start s.flags) s.mutexes) s.channels) s.channels

unfoldable pub all_seen : Setup → List Process → List Flag → List Mutex → List Channel → Seen
all_seen s process flag mutex channel = services_seen s flag mutex channel (waiting_of s process s.processes)

-- ---- rules 3 to 5 of all processes at once: those who break one
unfoldable pub broken : Tally → ℕ → ℕ → ℕ → ℕ
broken t any ready all =
    bit_and
    (bit_or
    (bit_or
    (bit_or (minus (minus all t.waits) (minus (bit_and ready t.rests) any)) (minus t.waits (bit_or t.sleeps t.named)))
    (minus (minus all ready) (bit_and (bit_and t.waits (bit_or t.sleeps any)) (bit_or (minus t.rests t.limited) (minus t.limited t.rests)))))
    (minus (bit_and ready (bit_or (bit_or (minus all t.limited) t.sleeps) any)) t.rests))
    all

-- ---- rule 7
abbrev pub choice_fits : ℕ → ℕ → ℕ → ℕ → ℕ → Bool
choice_fits mode depth running next ready =
    has ready next && implies (eqb depth 0) (eqb next (lowest ready)) && implies (eqb mode 0) (eqb running next)

-- ---- the whole
abbrev pub rest : Setup → ℕ → ℕ → ℕ → ℕ → Tally → Seen → Bool
rest s depth running next ready t seen =
    seen.fine && eqb seen.stray 0 && within s.processes ready && eqb (broken t seen.any ready (everyone s.processes)) 0
    && not (has t.waits (s.processes - 1)) && choice_fits s.mode depth running next ready

abbrev pub rest_fits : Kernel → Bool
rest_fits k =
    rest k.setup k.depth k.running.0 k.next.0 k.ready (tally_of k.setup k.process k.setup.processes)
    (all_seen k.setup k.process k.flag k.mutex k.channel)

unfoldable pub checked : Kernel → Bool
checked k = numbers_fit k.setup k.depth k.running.0 k.next.0 && rest_fits k
