-- `trace::records::record_of` meets its contract: the command is done, and its line put. Assumes nothing.
use Rattle.std.proofs.Common.{ap, sym, ◌∙◌, arith}
use Rattle.trace.specs.Output.{Did, did}
use Rattle.trace.proofs.records.record_of.Goals as goal

pub returns-in-None : goal.returns-in-None
returns-in-None c =
    let none = sym c.order_of-command.ensures.2 ∙ c.in-None.is in
    (rw none c.text.ensures, ap (λ (d : Did). d.state) (ap (did c.args.bench.now) (sym c.order_of-command.ensures.2) ∙ c.perform-answer.ensures), omega arith)
