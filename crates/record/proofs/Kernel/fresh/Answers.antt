-- `Kernel::fresh` meets its contract: the record of all zeros with what setup gives stored over it. Assumes nothing.
use Rattle.std.proofs.Common.{◌∙◌, length, sym, ap, arith, length-set}
use Rattle.record.specs.declared.Kernel.{Kernel}
use Rattle.record.proofs.Started.{setup-processes}
use Rattle.record.proofs.Capacities.{four_of, stored}
use Rattle.record.proofs.Kernel.fresh.Goals as goal

pub returns-then-not-setup_fits : goal.returns-then-not-setup_fits
returns-then-not-setup_fits c =
    let out = sym c.setup_fits.ensures ∙ c.if-not-setup_fits.true in
    (rw (c.zeros-k.ensures, out), rw out)

pub every-requires : goal.every-requires
every-requires c = setup-processes _ _ (sym c.setup_fits.ensures ∙ c.if-not-setup_fits.false)

pub loop-i-init : goal.loop-i-init
loop-i-init c = (ap (λ (k : Kernel). length k.channel) c.zeros-k.ensures, λ j h. absurd (omega arith))

pub loop-i-preserved : goal.loop-i-preserved
loop-i-preserved c =
    let inv = c.loop-i.invariant in
    (rw length-set inv.0, rw c.start_channel.ensures (stored _ _ _ (omega (arith, c.loop-i-test.true, inv.0)) inv.1))

pub returns : goal.returns
returns c =
    let fits = sym c.setup_fits.ensures ∙ c.if-not-setup_fits.false in
    let inv = c.loop-i.invariant in
    let four = four_of _ c.loop-i.c-items inv.0 (λ j h. inv.1 j (omega (arith, h, c.loop-i-test.false))) in
    (simp (four, c.every.ensures, c.zeros-k.ensures, fits), rw fits)
