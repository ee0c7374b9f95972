-- The slots that the iterator has passed are put, and it has the others left.
use Rattle.std.proofs.Common.{◌≡◌, ◌++◌, ◌+◌, ◌*◌, ◌≤◌, length, drop}
use Rattle.changes.specs.Changes.{slots}
use Rattle.changes.proofs.slots.put_slots.Given as goal

abbrev pub invariant-loop-i : goal.invariant-loop-i
invariant-loop-i g l =
    let t = g.T.Slot in
    let at = l.i-iterator in
    record {
      can_next : (goal.iterator-loop-i g).can_next at;
      ends : (goal.iterator-loop-i g).is_finite at;
      in_range : at.count ≤ g.row.LEN;
      old_left : at.iter.a.rest.now ≡ drop at.count l.old;
      new_left : at.iter.b.rest.now ≡ drop at.count l.new;
      put : l.out ≡ l.initial.out ++ slots t.change t.none l.old l.new at.count;
      most : length l.out ≤ length l.initial.out + at.count * t.most;
    }
