-- `room::read_at` meets its contract: the words read in the part are those of the room. Assumes nothing.
use Rattle.std.proofs.Common.{◌∙◌}
use Rattle.room.proofs.Lent.{starts, read_words-mid}
use Rattle.room.proofs.read_at.Goals as goal

pub returns : goal.returns
returns c =
    let done = c.read_block-words.ensures in
    (done.0, done.1, done.2 ∙ read_words-mid c.args.room.now (starts c.requires c.start_of-start.ensures) c.args.block.now _)
