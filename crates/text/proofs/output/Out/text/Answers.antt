-- `text::output::Out::text` meets its contract: the bytes past the text stay zeros. Assumes nothing.
use Rattle.std.proofs.Common.{◌+◌, ◌≤◌, length, arith, length-take-le, ap, sym, ◌∙◌, ◌≡◌}
use borrow.Rule.Slice.PartMut.{mid_len}
use Rattle.text.proofs.Padded.{length-put, padded-text}
use Rattle.text.proofs.output.Out.text.Goals as goal

pub invariant_of-self : goal.invariant_of-self
invariant_of-self g c =
    let past = c.self.inside.len + length c.args.s.now in
    let len : length c.args.self.now ≡ c.self.inside.len = ap length (sym c.self.view_is) ∙ length-take-le c.self.inside.len c.self.inside.bytes c.self.invariant.1 in
    let room : past ≤ g.row.N = omega (arith, len, c.requires) in
    let there : past ≤ length c.self.inside.bytes = omega (arith, room, c.self.told) in
    let put = c.copy_from_slice.ensures.len ∙ mid_len c.self.inside.len past c.self.inside.bytes there in
    let same = length-put g.row.N c.self.inside.len past c.self.inside.bytes c.copy_from_slice.new.self (omega arith) there put in (
      room,
      omega (arith, same, there),
      padded-text g.row.N c.self.inside.len past c.self.inside.bytes c.copy_from_slice.new.self (omega arith) there put c.self.invariant.2,
    )
