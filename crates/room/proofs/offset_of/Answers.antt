-- `offset_of` meets its contract. Assumes nothing.
use Rattle.std.proofs.Common.{rules}
use Rattle.room.proofs.Offsets.{offset-none, offset-taken}
use Rattle.room.proofs.offset_of.Goals as goal

pub loop-c-init : goal.loop-c-init
loop-c-init c = (offset-none _, search rules)

pub loop-c-preserved : goal.loop-c-preserved
loop-c-preserved c = (rw c.loop-c.invariant.0 (offset-taken _ _ _ c.loop-c-test.true), search rules)
