-- `changes::once::put_numbers` meets its contract: its fields, one after the other. Assumes nothing.
use Rattle.std.proofs.Common.{rules}
use Rattle.text.proofs.Put.{put_then}
use Rattle.changes.specs.Changes.{number_changes}
use Rattle.changes.proofs.once.put_numbers.Goals as goal

pub returns : goal.returns
unfolding number_changes
returns c = (put_then (put_then (put_then (put_then c.put_number-depth.ensures.0 c.put_number-running.ensures.0) c.put_number-next.ensures.0) c.put_number-ready.ensures.0) c.put_number.ensures.0, search rules)
