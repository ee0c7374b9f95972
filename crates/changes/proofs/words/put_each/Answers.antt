-- `changes::words::put_each` meets its contract: the first j words are put. Assumes nothing.
use Rattle.std.proofs.Common.{rules}
use Rattle.changes.proofs.Below.{below_next}
use Rattle.changes.proofs.words.put_each.Goals as goal

pub loop-j-preserved : goal.loop-j-preserved
loop-j-preserved g c =
    let put = rw (c.word_at.ensures, c.word_at-in-loop-j.ensures) at c.put_change.ensures.put in
    (below_next _ c.loop-j.j c.args.out.now c.loop-j.out c.put_change.new.out c.loop-j.invariant.0 put, search rules)
