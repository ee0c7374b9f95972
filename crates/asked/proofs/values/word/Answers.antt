-- `asked::values::word` meets its contract. Assumes nothing.
use Rattle.std.proofs.Common.{rules}
use Rattle.asked.proofs.Words.{text_or_none}
use Rattle.asked.proofs.values.word.Goals as goal

pub returns : goal.returns
returns c = rw (c.unwrap_or.ensures) (text_or_none c.args.s.now _ (search rules) _ _ c.from_utf8.ensures.cases)
