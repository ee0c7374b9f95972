-- `maps::holds` meets its contract: a test by the tag is membership. Assumes nothing.
use Rattle.std.proofs.Common.{◌∙◌}
use Rattle.maps.proofs.Tags.{meets-tag}
use Rattle.maps.proofs.holds.Goals as goal

pub returns : goal.returns
returns c = c.met.ensures ∙ simp c.tag_of.ensures (meets-tag _ _)
