-- `offset_of`: the sum is that of the capacities before c.
use Rattle.std.proofs.Common.{◌≡◌, ◌≤◌, ◌*◌}
use Rattle.room.specs.Room.{offset}
use Rattle.room.proofs.offset_of.Given as goal

abbrev pub invariant-loop-c : goal.invariant-loop-c
invariant-loop-c l = (l.sum ≡ offset l.fn.channel l.c-index) × (l.sum ≤ 4294967296 * l.c-index)
