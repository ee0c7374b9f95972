-- `changes::once::put_setup` meets its contract: its fields, one after the other. Assumes nothing.
use Rattle.std.proofs.Common.{rules}
use Rattle.text.proofs.Put.{put_then}
use Rattle.changes.specs.Changes.{setup_changes}
use Rattle.changes.proofs.once.put_setup.Goals as goal

pub returns : goal.returns
unfolding setup_changes
returns c = (put_then (put_then (put_then (put_then c.put_number-processes.ensures.0 c.put_number-flags.ensures.0) c.put_number-mutexes.ensures.0) c.put_number-channels.ensures.0) c.put_number.ensures.0, search rules)
