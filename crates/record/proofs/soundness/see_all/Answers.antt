-- `see_all` meets its contract. Assumes nothing.
use Rattle.std.proofs.Common.{◌∙◌, refl, ap, add-one, arith, get_or}
use Rattle.record.specs.Check.{over}
use Rattle.record.proofs.soundness.see_all.Goals as goal

pub loop-i-init : goal.loop-i-init
unfolding over
loop-i-init g c = λ f h p q. refl

pub loop-i-preserved : goal.loop-i-preserved
unfolding over
loop-i-preserved g c = λ f h p q.
    let x = c.index-services-i in
    let map = p c.loop-i.i x.result c.map.result c.loop-i-test.true x.is (record { shown = _; shows = refl; says = record { met = c.map.ensures } }) in
    let fine = q c.loop-i.i x.result c.fine.result c.loop-i-test.true x.is (record { shown = _; shows = refl; says = record { met = c.fine.ensures } }) in
    simp (c.see-seen.ensures, c.loop-i.invariant f h p q, map, fine, add-one)

pub returns : goal.returns
returns g c = λ f h p q.
    c.loop-i.invariant f h p q ∙ ap (over f (λ i. get_or c.args.waiting.now i 0) h c.args.start) (omega arith)
