use Rattle.std.proofs.Common.{◌≡◌, ◌++◌, ◌+◌, ◌*◌, ◌≤◌, length}
use Rattle.changes.specs.Words.{each_word}
use Rattle.changes.proofs.words.put_each.Given as goal

abbrev pub invariant-loop-j : goal.invariant-loop-j
invariant-loop-j g l =
    (l.out ≡ l.initial.out ++ each_word l.name l.old l.new l.j) × (length l.out ≤ length l.initial.out + 21 * l.j)
