-- `text::output::Out::cut` meets its contract: what goes becomes zeros. Assumes nothing.
use Rattle.std.proofs.Common.{ℕ, ◌-◌, ◌≤◌, length, replicate, arith, length-take-le, ap, sym, ◌∙◌, ◌≡◌}
use borrow.Rule.Slice.PartMut.{mid_len}
use Rattle.text.proofs.Padded.{length-put, padded-cut}
use Rattle.text.proofs.output.Out.cut.Goals as goal

pub invariant_of-self : goal.invariant_of-self
invariant_of-self g c =
    let len : length c.args.self.now ≡ c.self.inside.len = ap length (sym c.self.view_is) ∙ length-take-le c.self.inside.len c.self.inside.bytes c.self.invariant.1 in
    let most : c.args.len ≤ c.self.inside.len = omega (arith, len, c.requires) in
    let part = mid_len c.args.len c.self.inside.len c.self.inside.bytes c.self.invariant.1 in
    let gone : length c.fill.new.self ≡ c.self.inside.len - c.args.len = c.fill.ensures.len ∙ part in
    let zeros : c.fill.new.self ≡ replicate (c.self.inside.len - c.args.len) 0 = c.fill.ensures.after (λ y h. h) ∙ ap (λ (n : ℕ). replicate n 0) part in
    let same = length-put g.row.N c.args.len c.self.inside.len c.self.inside.bytes c.fill.new.self most c.self.invariant.1 gone in (
      omega (arith, most, c.self.invariant.0),
      omega (arith, same, most, c.self.invariant.1),
      padded-cut g.row.N c.args.len c.self.inside.len c.self.inside.bytes c.fill.new.self most c.self.invariant.1 gone c.self.invariant.0 zeros c.self.invariant.2,
    )
