-- `maps::tag_of` meets its contract: that entry p of the table is 2 ^ p is one test over its 32 entries, which antt computes. Assumes nothing.
use Rattle.std.proofs.Common.{ℕ, ◌^◌, Bool, eqb, get_or, ap, eqb→eq, rules}
use Rattle.maps.proofs.Table.{at}
use Rattle.maps.specs.declared.TheConstants.{TAGS}
use Rattle.maps.proofs.tag_of.Goals as goal

right : ℕ → ℕ → Bool
right k x = eqb x (2 ^ k)

pub returns : goal.returns
unfolding right
returns c =
    ap (λ (x : ℕ). record { 0 = x }) (eqb→eq (get_or TAGS c.args.p.0 0) (2 ^ c.args.p.0) (at right TAGS tt c.args.p.0 (search rules)))
