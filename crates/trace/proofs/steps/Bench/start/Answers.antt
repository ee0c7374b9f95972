-- `trace::steps::Bench::start` meets its contract: both setups are within the limits. Assumes nothing.
use Rattle.std.proofs.Common.{refl, le-leb}
use Rattle.record.specs.Fresh.{setup_fits}
use Rattle.trace.proofs.steps.Bench.start.Goals as goal

pub returns : goal.returns
unfolding setup_fits
returns c = (refl, rw (c.fresh.ensures.0, le-leb _ _ c.requires))
