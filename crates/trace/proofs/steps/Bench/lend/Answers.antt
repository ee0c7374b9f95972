-- `trace::steps::Bench::lend` meets its contract: the part of the block that is lent has the words that it should. Assumes nothing.
use Rattle.std.proofs.Common.{◌≡◌, sym, ap, rules, replicate, take}
use Rattle.std.proofs.lemmas.List.{take-replicate}
use Rattle.trace.specs.Output.{seen}
use Rattle.trace.proofs.steps.Bench.lend.Goals as goal

pub returns : goal.returns
returns c =
    let e : replicate c.args.len c.args.item ≡ take c.args.len (replicate 256 c.args.item) = sym (take-replicate c.args.len 256 c.args.item (search rules)) in
    rw (e, ← c.self.view_is, ← c.from.ensures) (ap seen c.call-done.ensures)
