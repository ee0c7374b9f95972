-- The limits (01, The kernel record): 2 to 32 processes, up to 8 flags, 8 mutexes, 4 channels of 1 to 64 items, direct or deferred, depth 0 to 8.
use Rattle.std.specs.Prelude.{ℕ, Bool, ◌&&◌, leb, ltb}
use Rattle.ring.specs.declared.Channel.{Channel}
use Rattle.record.specs.declared.Setup.{Setup}

-- mode 0 is direct, mode 1 deferred
abbrev pub counts_fit : Setup → Bool
counts_fit s = leb s.mode 1 && leb 2 s.processes && leb s.processes 32 && leb s.flags 8 && leb s.mutexes 8 && leb s.channels 4

abbrev pub capacity_fits : ℕ → Bool
capacity_fits c = leb 1 c && leb c 64

-- the capacity is within its limits, first is below the capacity, count at most the capacity
abbrev pub channel_fits : Channel → Bool
channel_fits c = capacity_fits c.capacity && ltb c.first c.capacity && leb c.count c.capacity
