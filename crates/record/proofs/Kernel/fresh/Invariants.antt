-- `Kernel::fresh`: the channels before i are started.
use Rattle.std.proofs.Common.{◌≡◌, ℕ, ◌<◌, length, get_or}
use Rattle.record.specs.Record.{no_channel}
use Rattle.record.specs.Fresh.{start_channel}
use Rattle.record.proofs.Kernel.fresh.Given as goal

abbrev pub invariant-loop-i : goal.invariant-loop-i
invariant-loop-i l = (length l.c-items ≡ 4) × ((j : ℕ) → j < l.i → get_or l.c-items j no_channel ≡ start_channel l.s.channels j (get_or l.capacities j 0))
