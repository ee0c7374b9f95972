-- `changes::slots::put_slots` meets its contract. Assumes nothing.
use Rattle.std.proofs.Common.{rules, sym, ◌∙◌}
use Rattle.changes.proofs.Below.{below_next, rest_next}
use Rattle.changes.proofs.slots.put_slots.Goals as goal

pub loop-i-preserved : goal.loop-i-preserved
loop-i-preserved g c =
    let at = c.loop-i.i-iterator.count in
    let v = c.loop-i.invariant in
    let s = c.in-Some.ensures.steps in
    let was = rest_next c.args.old.now c.next.new.self.iter.a.rest.now at c.in-Some.was.now g.T.Slot.none (sym v.old_left ∙ s.0.0) in
    let is = rest_next c.args.new.now c.next.new.self.iter.b.rest.now at c.in-Some.is'.now g.T.Slot.none (sym v.new_left ∙ s.0.1) in
    record {
      can_next = search rules;
      ends = search rules;
      in_range = search rules;
      old_left = rw s.2 was.2;
      new_left = rw s.2 is.2;
      put = rw s.2 (below_next _ at c.args.out.now c.loop-i.out c.put.new.out v.put (rw (s.1, was.1, is.1) at c.put.ensures.put));
      most = rw s.2 (search rules);
    }
