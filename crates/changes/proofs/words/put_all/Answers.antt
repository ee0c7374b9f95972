-- `changes::words::put_all` meets its contract: the lengths and the first j words are put. Assumes nothing.
use Rattle.std.proofs.Common.{◌≡◌, ℕ, List, ◌++◌, max, length, rules, refl, sym, ap, append-nil}
use Rattle.text.proofs.Put.{put_then, put_as, put-length}
use Rattle.changes.specs.Fields.{number}
use Rattle.changes.specs.Changes.{below}
use Rattle.changes.specs.Words.{each_word}
use Rattle.changes.proofs.Below.{below_next}
use Rattle.changes.proofs.words.put_all.Goals as goal

pub loop-j-init : goal.loop-j-init
unfolding below
loop-j-init c =
    let put = c.put_number-place.ensures in
    (put_as _ (sym (append-nil _)) put.0, search rules, put-length put.0)

pub loop-j-preserved : goal.loop-j-preserved
loop-j-preserved c =
    let step = rw (c.word_at.ensures, c.word_at-in-loop-j.ensures) at c.put_slot_number-place.ensures.0 in
    let lengths : List ℕ = number c.args.many.now (length c.args.old.now) (length c.args.new.now) in
    (put_as _ (below_next _ c.loop-j.j lengths _ _ refl refl) (put_then c.loop-j.invariant.0 step), search rules, search rules)

pub returns-clause-put : goal.returns-clause-put
returns-clause-put c =
    let lengths : List ℕ = number c.args.many.now (length c.args.old.now) (length c.args.new.now) in
    let all : c.loop-j.j ≡ max (length c.args.old.now) (length c.args.new.now) = search rules in
    put_as _ (ap (λ (j : ℕ). lengths ++ each_word c.args.one.now c.args.old.now c.args.new.now j) all) c.loop-j.invariant.0
