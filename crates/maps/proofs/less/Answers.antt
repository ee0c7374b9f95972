-- `maps::less` meets its contract: `a & !b` is minus. Assumes nothing.
use Rattle.maps.proofs.Isolate.{and-not}
use Rattle.std.proofs.Common.{rules}
use Rattle.maps.proofs.less.Goals as goal

pub returns : goal.returns
returns c = and-not 32 c.args.a c.args.b (search rules) (search rules)
