-- `asked::split::part` meets its contract: what `split` gives at number n. Assumes nothing.
use Rattle.std.proofs.Common.{rules, tests, ℕ, nat_eq}
use Rattle.std.proofs.lemmas.Iterator.Consumers.{nth_from_yields_List}
use Rattle.std.proofs.lemmas.Iterator.Splits.{YieldsList-from_slice_split}
use Rattle.asked.proofs.Parts.{parted_split, part_or}
use Rattle.asked.proofs.split.part.Goals as goal

pub returns : goal.returns
returns c =
    let a = c.args in
    let s = c.split.ensures in
    rw (parted_split a.mark a.s.now, c.unwrap_or.ensures) (
    part_or _ _ _ a.n (search rules)
    (nth_from_yields_List _ _ a.n c.nth.ensures.ran
    (YieldsList-from_slice_split _ (λ (b : ℕ). nat_eq b a.mark) a.s.now s.rest s.done s.closure (λ x r q k. search (rules, tests)))))
