-- `changes::fields::put_key` meets its contract: its texts, one after the other. Assumes nothing.
use Rattle.std.proofs.Common.{rules}
use Rattle.text.proofs.Put.{put_then}
use Rattle.changes.proofs.fields.put_key.Goals as goal

pub returns : goal.returns
returns c = (put_then (put_then c.put_byte-comma.ensures c.text-named.ensures) c.put_byte.ensures, search rules)
