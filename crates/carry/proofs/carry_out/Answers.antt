-- `carry::carry_out` meets its contract: the call over its parts and its part of the room, both put back, and the tick. Assumes nothing.
use Rattle.std.proofs.Common.{arith, ap, ◌∙◌}
use Rattle.rules.specs.Effects.{ticked}
use Rattle.carry.proofs.Accepted.{caller-slot, counts-right, spot-stays}
use Rattle.carry.proofs.Stepped.{needed-so, effect-so}
use Rattle.carry.proofs.carry_out.Goals as goal

pub worked_on-requires : goal.worked_on-requires
worked_on-requires c = caller-slot _ _ c.args.c c.requires

pub start_of-start-requires : goal.start_of-start-requires
start_of-start-requires c = omega (arith, c.inside-s.ensures.1.channel)

pub of-x-requires : goal.of-x-requires
of-x-requires c = (caller-slot _ _ c.args.c c.requires, c.inside-s.ensures.1)

pub carry_out_over-answer-requires : goal.carry_out_over-answer-requires
carry_out_over-answer-requires c =
    needed-so c.args.k.now c.args.room.now c.args.from.now c.args.to.now _ c.args.c c.requires _ _ (spot-stays _ _ c.args.c c.requires c.worked_on.ensures c.inside-s.ensures.0) c.of-x.ensures c.start_of-start.ensures

pub put_back-requires : goal.put_back-requires
put_back-requires c = c.inside-s.ensures.1

pub tick-requires : goal.tick-requires
tick-requires c = rw c.put_back.ensures (counts-right _ _ c.args.c c.requires)

pub returns-then-is_tick : goal.returns-then-is_tick
returns-then-is_tick c =
    effect-so c.args.k.now c.args.room.now c.args.from.now c.args.to.now _ c.args.c c.requires _ _ (spot-stays _ _ c.args.c c.requires c.worked_on.ensures c.inside-s.ensures.0) c.of-x.ensures c.start_of-start.ensures
    _ _ c.carry_out_over-answer.ensures (rw (← c.is_tick.ensures, c.if-is_tick.true) (c.tick.ensures ∙ ap ticked c.put_back.ensures))

pub returns-else-is_tick : goal.returns-else-is_tick
returns-else-is_tick c =
    effect-so c.args.k.now c.args.room.now c.args.from.now c.args.to.now _ c.args.c c.requires _ _ (spot-stays _ _ c.args.c c.requires c.worked_on.ensures c.inside-s.ensures.0) c.of-x.ensures c.start_of-start.ensures
    _ _ c.carry_out_over-answer.ensures (rw (← c.is_tick.ensures, c.if-is_tick.false) c.put_back.ensures)
