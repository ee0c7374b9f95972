-- `setup_fits` meets its contract. Assumes nothing.
use Rattle.std.proofs.Common.{◌∙◌, sym, arith}
use Rattle.record.specs.Fresh.{setup_fits}
use Rattle.record.proofs.Logic.{facts}
use Rattle.record.proofs.Capacities.{all-allowed}
use Rattle.record.proofs.fresh.setup_fits.Goals as goal

pub returns-then-counts_fit : goal.returns-then-counts_fit
unfolding setup_fits
returns-then-counts_fit c =
    let fits = sym c.counts_fit.ensures ∙ c.if-counts_fit.true in
    let few = simp facts at fits in
    rw fits (all-allowed c.args.s.channels c.args.capacities (omega arith) (omega (arith, few)) c.all_fit.result c.all_fit.ensures)

pub returns-else-counts_fit : goal.returns-else-counts_fit
unfolding setup_fits
returns-else-counts_fit c = rw (sym c.counts_fit.ensures ∙ c.if-counts_fit.false) c.if-counts_fit.false
