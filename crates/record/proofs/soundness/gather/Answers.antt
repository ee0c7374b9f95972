-- `gather` meets its contract. Assumes nothing.
use Rattle.std.proofs.Common.{rules, arith, add-one, get_or-take, length-take, ◌<◌}
use Rattle.maps.specs.Maps.{map_of}
use Rattle.record.specs.Record.{no_process}
use Rattle.record.specs.Places.{place_of}
use Rattle.record.specs.Check.{row_at, waiting_of}
use Rattle.record.proofs.Slots.{slot-named}
use Rattle.record.proofs.soundness.gather.Goals as goal

pub loop-p-init : goal.loop-p-init
unfolding map_of waiting_of
loop-p-init c = search rules

pub loop-p-preserved : goal.loop-p-preserved
unfolding map_of waiting_of
loop-p-preserved c =
    let inv = c.loop-p.invariant in
    let s = c.args.s in
    let low : c.loop-p.p < s.processes = omega (arith, c.loop-p-test.true, length-take s.processes c.args.process.now) in
    let me = get_or-take s.processes c.args.process.now c.loop-p.p no_process low in
    let named = slot-named s (place_of (row_at c.args.process.now c.loop-p.p).wait) c.requires.0 in (
      simp (c.with_process-t.ensures, c.class_of-class.ensures, c.tag_of-tag.ensures, me, named, inv.0, add-one),
      simp (c.class_of-class.ensures, c.tag_of-tag.ensures, me, inv.1, add-one),
    )
