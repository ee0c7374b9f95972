-- `text::output::Out::byte` meets its contract: the bytes past the text stay zeros. Assumes nothing.
use Rattle.std.proofs.Common.{◌+◌, ◌≤◌, length, arith, length-set, length-take-le, ap, sym, ◌∙◌, ◌≡◌}
use Rattle.text.proofs.Padded.{padded-byte}
use Rattle.text.proofs.output.Out.byte.Goals as goal

pub invariant_of-self : goal.invariant_of-self
invariant_of-self g c =
    let len : length c.args.self.now ≡ c.self.inside.len = ap length (sym c.self.view_is) ∙ length-take-le c.self.inside.len c.self.inside.bytes c.self.invariant.1 in
    let room : c.self.inside.len + 1 ≤ g.row.N = omega (arith, len, c.requires) in
    (room, simp length-set (omega (arith, room, c.self.told)), padded-byte g.row.N c.self.inside.len c.args.b c.self.inside.bytes c.self.invariant.2)
