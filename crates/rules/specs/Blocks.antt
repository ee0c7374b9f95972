-- The blocks that calls are made of (01, Calls and their steps), each under the document's word. A block reads `running` only to find its caller, and
-- the mode only inside choose.
use Rattle.std.specs.Prelude.{ℕ, ◌^◌, Bool, cond, eqb, ltb}
use Rattle.std.specs.Int.Bits.{bit_or}
use Rattle.maps.specs.declared.Number.{Number}
use Rattle.maps.specs.declared.Wake.{Wake}
use Rattle.maps.specs.Maps.{minus, lowest, wake_all, wake_one}
use Rattle.record.specs.declared.Kernel.{Kernel}
use Rattle.record.specs.declared.Process.{Process}
use Rattle.record.specs.declared.Wait.{Wait}
use Rattle.record.specs.Record.{no_process, process_at}
use Rattle.record.specs.Places.{Place, place_of, map_at}
use Rattle.rules.specs.Update.{with_running, with_next, with_ready, with_process, with_map}

-- the process that makes a process call, its row of the table and its tag
abbrev pub caller : Kernel → ℕ
caller k = k.running.0

abbrev pub caller_row : Kernel → Process
caller_row k = process_at k (caller k)

abbrev pub caller_tag : Kernel → ℕ
caller_tag k = 2 ^ caller k

-- choose: next becomes the lowest-numbered ready process; in direct mode running becomes it too
abbrev pub lowest_ready : Kernel → Number
lowest_ready k = record { 0 = lowest k.ready }

unfoldable pub choose : Kernel → Kernel
choose k = with_next (with_running k (cond (eqb k.setup.mode 0) (lowest_ready k) k.running)) (lowest_ready k)

-- a limit of 0 is none
abbrev pub is_limited : ℕ → Bool
is_limited t = ltb 0 t

-- the caller becomes not ready; enters the map at a place; leaves it
abbrev pub stopped : Kernel → Kernel
stopped k = with_ready k (minus k.ready (caller_tag k))

abbrev pub entered : Kernel → Place → Kernel
entered k a = with_map k a (bit_or (map_at k a) (caller_tag k))

abbrev pub left : Kernel → Place → Kernel
left k a = with_map k a (minus (map_at k a) (caller_tag k))

-- opening a wait sets the counter to t, enters the caller's tag in the service map (sleep has none), makes it not ready
unfoldable pub opened : Kernel → Wait → ℕ → Kernel
opened k w t = entered (with_process (stopped k) (caller k) (record { counter = t; wait = w })) (place_of w)

-- a wait closed, counter 0
unfoldable pub closed : Kernel → Kernel
closed k = with_process k (caller k) no_process

-- back into the map, not ready, the counter as it stands
unfoldable pub again : Kernel → Wait → Kernel
again k w = entered (stopped k) (place_of w)

-- wake all, and wake one, on the map at a place: what becomes of ready and map
abbrev pub waking_all : Kernel → Place → Wake
waking_all k a = wake_all (map_at k a) k.ready

abbrev pub waking_one : Kernel → Place → Wake
waking_one k a = wake_one (map_at k a) k.ready
