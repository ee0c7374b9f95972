-- `changes::fields::put_number` meets its contract: the key, and the number after it. Assumes nothing.
use Rattle.std.proofs.Common.{rules, ne_eqb}
use Rattle.text.proofs.Put.{put_then}
use Rattle.changes.proofs.fields.put_number.Goals as goal

pub returns : goal.returns
returns c = rw (ne_eqb _ _ c.if-old-new.false) (put_then c.put_key-keyed.ensures.0 c.put_digits.ensures.0, search rules)
