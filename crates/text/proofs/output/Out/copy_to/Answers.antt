-- `text::output::Out::copy_to` meets its contract: what it puts is the text. Assumes nothing.
use Rattle.std.proofs.Common.{◌∙◌}
use Rattle.std.proofs.lemmas.List.Edits.{sets-eq}
use Rattle.text.proofs.Put.{put_as}
use Rattle.text.proofs.output.Out.copy_to.Goals as goal

pub returns-clause-bytes : goal.returns-clause-bytes
returns-clause-bytes g c = (put_as c.args.self.now c.written.ensures c.text.ensures).bytes ∙ sets-eq c.args.self.now c.args.out.now c.args.at c.requires
