-- `kernel::alone` meets its contract: a call that needs no room does the same whatever the room and the block. Assumes nothing.
use Rattle.std.proofs.Common.{ap, ◌∙◌}
use Rattle.rules.specs.Step.{Result}
use Rattle.rules.proofs.Lent.{moved, step-alone}
use Rattle.kernel.proofs.alone.Goals as goal

pub returns : goal.returns
returns c =
    λ room block. step-alone _ _ room block _ _ c.requires ∙ ap (λ (x : Result). moved x room block) c.stepped.ensures
