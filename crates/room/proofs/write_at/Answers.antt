-- `room::write_at` meets its contract: the words put in the part are put in the room. Assumes nothing.
use Rattle.std.proofs.Common.{ap, ◌∙◌}
use Rattle.room.proofs.Lent.{back, starts, put_words-mid}
use Rattle.room.proofs.write_at.Goals as goal

pub returns : goal.returns
returns c =
    let done = c.write_block-words.ensures in
    let start = starts c.requires c.start_of-start.ensures in
    (done.0, done.1, ap (back c.args.room.now c.start_of-start.result) done.2 ∙ put_words-mid c.args.room.now start c.args.block.now _)
