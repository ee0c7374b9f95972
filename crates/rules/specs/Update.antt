-- The record with one field anew, each update once.
use Rattle.std.specs.Prelude.{ℕ, List, set, get_or}
use Rattle.maps.specs.declared.Number.{Number}
use Rattle.ring.specs.declared.Channel.{Channel}
use Rattle.record.specs.declared.Kernel.{Kernel}
use Rattle.record.specs.declared.Process.{Process}
use Rattle.record.specs.declared.Flag.{Flag}
use Rattle.record.specs.declared.Mutex.{Mutex}
use Rattle.record.specs.Record.{Services, services}
use Rattle.record.specs.Places.{Place, nowhere, at_flag, at_mutex, at_readers, at_writers}
use Rattle.record.specs.Record.{no_flag, no_mutex, no_channel}

abbrev pub with_depth : Kernel → ℕ → Kernel
with_depth k d = record { setup = k.setup; depth = d; running = k.running; next = k.next; ready = k.ready; ticks = k.ticks; process = k.process; flag = k.flag; mutex = k.mutex; channel = k.channel }

abbrev pub with_running : Kernel → Number → Kernel
with_running k p = record { setup = k.setup; depth = k.depth; running = p; next = k.next; ready = k.ready; ticks = k.ticks; process = k.process; flag = k.flag; mutex = k.mutex; channel = k.channel }

abbrev pub with_next : Kernel → Number → Kernel
with_next k p = record { setup = k.setup; depth = k.depth; running = k.running; next = p; ready = k.ready; ticks = k.ticks; process = k.process; flag = k.flag; mutex = k.mutex; channel = k.channel }

abbrev pub with_ready : Kernel → ℕ → Kernel
with_ready k m = record { setup = k.setup; depth = k.depth; running = k.running; next = k.next; ready = m; ticks = k.ticks; process = k.process; flag = k.flag; mutex = k.mutex; channel = k.channel }

abbrev pub with_ticks : Kernel → ℕ → Kernel
with_ticks k t = record { setup = k.setup; depth = k.depth; running = k.running; next = k.next; ready = k.ready; ticks = t; process = k.process; flag = k.flag; mutex = k.mutex; channel = k.channel }

abbrev pub with_processes : Kernel → List Process → Kernel
with_processes k l = record { setup = k.setup; depth = k.depth; running = k.running; next = k.next; ready = k.ready; ticks = k.ticks; process = l; flag = k.flag; mutex = k.mutex; channel = k.channel }

abbrev pub with_services : Kernel → Services → Kernel
with_services k v = record { setup = k.setup; depth = k.depth; running = k.running; next = k.next; ready = k.ready; ticks = k.ticks; process = k.process; flag = v.flag; mutex = v.mutex; channel = v.channel }

abbrev pub with_process : Kernel → ℕ → Process → Kernel
with_process k p x = with_processes k (set k.process p x)

-- ---- one service anew
abbrev pub with_flag : Kernel → ℕ → Flag → Kernel
with_flag k i x = with_services k (record { flag = set k.flag i x; mutex = k.mutex; channel = k.channel })

abbrev pub with_mutex : Kernel → ℕ → Mutex → Kernel
with_mutex k i x = with_services k (record { flag = k.flag; mutex = set k.mutex i x; channel = k.channel })

abbrev pub with_channel : Kernel → ℕ → Channel → Kernel
with_channel k i x = with_services k (record { flag = k.flag; mutex = k.mutex; channel = set k.channel i x })

abbrev pub with_readers : Channel → ℕ → Channel
with_readers c m = record { capacity = c.capacity; first = c.first; count = c.count; readers = m; writers = c.writers }

abbrev pub with_writers : Channel → ℕ → Channel
with_writers c m = record { capacity = c.capacity; first = c.first; count = c.count; readers = c.readers; writers = m }

-- ---- the map at a place anew
abbrev pub put_map : Services → Place → ℕ → Services
put_map v nowhere m = v
put_map v (at_flag i) m =
    record { flag = set v.flag i (record { on = (get_or v.flag i no_flag).on; waiters = m }); mutex = v.mutex; channel = v.channel }
put_map v (at_mutex i) m =
    record { flag = v.flag; mutex = set v.mutex i (record { owner = (get_or v.mutex i no_mutex).owner; waiters = m }); channel = v.channel }
put_map v (at_readers i) m = record { flag = v.flag; mutex = v.mutex; channel = set v.channel i (with_readers (get_or v.channel i no_channel) m) }
put_map v (at_writers i) m = record { flag = v.flag; mutex = v.mutex; channel = set v.channel i (with_writers (get_or v.channel i no_channel) m) }

abbrev pub with_map : Kernel → Place → ℕ → Kernel
with_map k a m = with_services k (put_map (services k) a m)
