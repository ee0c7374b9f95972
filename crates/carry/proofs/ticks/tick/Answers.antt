-- `carry::ticks::tick` meets its contract: one counter more falls. Assumes nothing.
use Rattle.std.proofs.Common.{◌<◌, length, arith, take-append-drop, ◌∙◌}
use Rattle.rules.specs.Effects.{counted}
use Rattle.carry.proofs.Falling.{falls, readied, none-readied}
use Rattle.carry.proofs.ticks.tick.Goals as goal
use Rattle.carry.proofs.ticks.tick.Goals.{then-row-eq1, else-row-eq1}

pub loop-p-init : goal.loop-p-init
unfolding counted
loop-p-init c = simp take-append-drop

pub loop-p-preserved : goal.loop-p-preserved
loop-p-preserved c =
    let h : c.loop-p.p < length c.loop-p.row-items = omega (arith, c.loop-p-test.true, c.loop-p.auto.row-items) in
    rw c.saturating_sub-row.ensures
    (falls _ _ _ _ _ _ h c.loop-p.invariant
    (elim c.if-row-eq1.branch [ then-row-eq1 w ↦ w.ready-is ∙ rw w.tag_of-ready.ensures (readied _ _ _ w.if-row-eq1.true) | else-row-eq1 w ↦ w.ready-is ∙ none-readied _ _ _ w.if-row-eq1.false ]))
