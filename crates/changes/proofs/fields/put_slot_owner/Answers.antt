-- `changes::fields::put_slot_owner` meets its contract: the key, and the owner after it. Assumes nothing.
use Rattle.std.proofs.Common.{rules, sym, ◌∙◌}
use Rattle.text.proofs.Put.{put_then}
use Rattle.changes.proofs.fields.put_slot_owner.Goals as goal

pub returns : goal.returns
returns c = rw (sym c.eq.ensures ∙ c.if-eq.false) (put_then c.put_slot_key-keyed.ensures.0 c.put_owner.ensures.0, search rules)
