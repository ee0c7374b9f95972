-- `kernel::with_room` meets its contract: a call that is no interrupt call does the same whatever the block. Assumes nothing.
use Rattle.std.proofs.Common.{ap, ◌∙◌}
use Rattle.rules.specs.Step.{Result}
use Rattle.rules.proofs.Lent.{moved, step_room}
use Rattle.kernel.proofs.with_room.Goals as goal

pub returns : goal.returns
returns c =
    λ block. step_room _ _ _ block _ c.requires ∙ ap (λ (x : Result). moved x x.room block) c.stepped.ensures
