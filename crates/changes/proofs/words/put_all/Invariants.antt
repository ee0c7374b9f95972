-- The lengths and the first j words are put.
use Rattle.std.proofs.Common.{◌≡◌, ◌++◌, ◌+◌, ◌*◌, ◌≤◌, length}
use Rattle.text.specs.Put.{Put}
use Rattle.changes.specs.Fields.{number}
use Rattle.changes.specs.Words.{each_word}
use Rattle.changes.proofs.words.put_all.Given as goal

abbrev pub invariant-loop-j : goal.invariant-loop-j
invariant-loop-j l =
    Put l.fn.out l.at (number l.many (length l.old) (length l.new) ++ each_word l.one l.old l.new l.j) l.place l.out
    × (l.place ≤ l.at + (18 + 21 * l.j))
    × (length l.out ≡ length l.fn.out)
