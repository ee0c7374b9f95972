-- `gather`: the processes before p are counted.
use Rattle.std.proofs.Common.{◌≡◌}
use Rattle.record.specs.Check.{tally_of, waiting_of}
use Rattle.record.proofs.soundness.gather.Given as goal

abbrev pub invariant-loop-p : goal.invariant-loop-p
invariant-loop-p l = (l.t ≡ tally_of l.s l.process l.p) × (l.waiting ≡ waiting_of l.s l.process l.p)
