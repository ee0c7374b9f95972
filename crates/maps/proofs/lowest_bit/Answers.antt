-- `maps::lowest_bit` meets its contract: `m & -m` isolates the lowest member. Assumes nothing.
use Rattle.maps.proofs.Isolate.{lowest-bit-neg}
use Rattle.std.proofs.Common.{rules}
use Rattle.maps.proofs.lowest_bit.Goals as goal

pub returns : goal.returns
returns c = lowest-bit-neg _ _ (search rules) (search rules) (search rules)
