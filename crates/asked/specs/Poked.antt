-- What a poke does: one field of the record anew, every other as it was (REPLAY: the field becomes VALUE, whatever that breaks).
use Rattle.std.specs.Prelude.{ℕ}
use Rattle.ring.specs.declared.Channel.{Channel}
use Rattle.record.specs.declared.Kernel.{Kernel}
use Rattle.record.specs.declared.Setup.{Setup}
use Rattle.record.specs.Record.{process_at, flag_at, mutex_at, channel_at}
use Rattle.rules.specs.Update.{with_depth, with_running, with_next, with_ready, with_ticks, with_process, with_flag, with_mutex, with_channel, with_readers, with_writers}
use Rattle.asked.specs.declared.Poke.{Poke}
use Rattle.asked.specs.declared.Poke.TheVariants.{Processes, Flags, Mutexes, Channels, Mode, Depth, Running, Next, Ready, Ticks, Counter, Wait, On, Waiters, Owner, Lockers, Capacity, First, Count, Readers, Writers}

abbrev pub with_setup : Kernel → Setup → Kernel
with_setup k s =
    record { setup = s; depth = k.depth; running = k.running; next = k.next; ready = k.ready; ticks = k.ticks; process = k.process; flag = k.flag; mutex = k.mutex; channel = k.channel }

-- the numbers that setup fixes
abbrev pub setup_of : ℕ → ℕ → ℕ → ℕ → ℕ → Setup
setup_of mode processes flags mutexes channels =
    record { mode = mode; processes = processes; flags = flags; mutexes = mutexes; channels = channels }

-- a channel with one number anew; `with_readers` and `with_writers` are the rules'
abbrev pub with_capacity : Channel → ℕ → Channel
with_capacity c n = record { capacity = n; first = c.first; count = c.count; readers = c.readers; writers = c.writers }

abbrev pub with_first : Channel → ℕ → Channel
with_first c n = record { capacity = c.capacity; first = n; count = c.count; readers = c.readers; writers = c.writers }

abbrev pub with_count : Channel → ℕ → Channel
with_count c n = record { capacity = c.capacity; first = c.first; count = n; readers = c.readers; writers = c.writers }

abbrev pub poked_by : Kernel → Poke → Kernel
poked_by k (Processes n) = with_setup k (setup_of k.setup.mode n k.setup.flags k.setup.mutexes k.setup.channels)
poked_by k (Flags n) = with_setup k (setup_of k.setup.mode k.setup.processes n k.setup.mutexes k.setup.channels)
poked_by k (Mutexes n) = with_setup k (setup_of k.setup.mode k.setup.processes k.setup.flags n k.setup.channels)
poked_by k (Channels n) = with_setup k (setup_of k.setup.mode k.setup.processes k.setup.flags k.setup.mutexes n)
poked_by k (Mode n) = with_setup k (setup_of n k.setup.processes k.setup.flags k.setup.mutexes k.setup.channels)
poked_by k (Depth n) = with_depth k n
poked_by k (Running n) = with_running k (record { 0 = n })
poked_by k (Next n) = with_next k (record { 0 = n })
poked_by k (Ready n) = with_ready k n
poked_by k (Ticks n) = with_ticks k n
poked_by k (Counter p n) = with_process k p (record { counter = n; wait = (process_at k p).wait })
poked_by k (Wait p w) = with_process k p (record { counter = (process_at k p).counter; wait = w })
poked_by k (On i on) = with_flag k i (record { on = on; waiters = (flag_at k i).waiters })
poked_by k (Waiters i map) = with_flag k i (record { on = (flag_at k i).on; waiters = map })
poked_by k (Owner i o) = with_mutex k i (record { owner = o; waiters = (mutex_at k i).waiters })
poked_by k (Lockers i map) = with_mutex k i (record { owner = (mutex_at k i).owner; waiters = map })
poked_by k (Capacity i n) = with_channel k i (with_capacity (channel_at k i) n)
poked_by k (First i n) = with_channel k i (with_first (channel_at k i) n)
poked_by k (Count i n) = with_channel k i (with_count (channel_at k i) n)
poked_by k (Readers i n) = with_channel k i (with_readers (channel_at k i) n)
poked_by k (Writers i n) = with_channel k i (with_writers (channel_at k i) n)
