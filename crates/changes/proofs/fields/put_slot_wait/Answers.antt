-- `changes::fields::put_slot_wait` meets its contract: the key, and the wait after it. Assumes nothing.
use Rattle.std.proofs.Common.{◌≡◌, false, rules}
use Rattle.text.proofs.Put.{put_then}
use Rattle.changes.specs.Values.{same_wait}
use Rattle.changes.proofs.fields.put_slot_wait.Goals as goal

pub returns : goal.returns
returns c =
    let other : same_wait c.args.old c.args.new ≡ false = search rules in
    rw other (put_then c.put_slot_key-keyed.ensures.0 c.put_wait.ensures.0, search rules)
