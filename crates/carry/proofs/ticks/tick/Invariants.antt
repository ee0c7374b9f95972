-- `carry::ticks::tick` meets its contract. The invariant: the first p counters have fallen. Assumes nothing.
use Rattle.std.proofs.Common.{◌≡◌, ◌++◌, drop}
use Rattle.rules.specs.Effects.{counted}
use Rattle.carry.proofs.ticks.tick.Given as goal

abbrev pub invariant-loop-p : goal.invariant-loop-p
invariant-loop-p l = record { ready = l.ready; process = l.row-items ++ drop l.users l.fn.k.process } ≡ counted l.p (record { ready = l.fn.k.ready; process = l.fn.k.process })
