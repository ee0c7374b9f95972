-- `changes::fields::put_slot_key` meets its contract: its texts, one after the other. Assumes nothing.
use Rattle.std.proofs.Common.{arith}
use Rattle.text.proofs.Put.{put_then}
use Rattle.changes.proofs.Lengths.{three_digits}
use Rattle.changes.proofs.fields.put_slot_key.Goals as goal

pub returns : goal.returns
returns c =
    let name = put_then (put_then c.text-named.ensures c.put_byte-dotted.ensures) c.number-placed.ensures in
    let key = put_then (put_then c.put_byte-comma.ensures name) c.put_byte.ensures in
    (key, omega (arith, c.put_byte-comma.ensures.place, name.place, c.put_byte.ensures.place, c.text-named.ensures.place, c.put_byte-dotted.ensures.place, c.number-placed.ensures.place, three_digits c.args.i c.requires.0))
