-- `text::output::number` calls itself for the digits before the last: the number falls. Assumes nothing.
use Rattle.text.proofs.output.+number.Given as goal

abbrev pub decreases-number : goal.decreases-number
decreases-number l = l.n
