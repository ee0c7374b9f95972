-- `text::output::Out::number` meets its contract: the digits, which are at most ten, stand after the text, and zeros past them. Assumes nothing.
use Rattle.std.proofs.Common.{ℕ, ◌+◌, ◌≤◌, ◌≡◌, List, ◌++◌, length, take, arith, length-append, length-take-le, ap, sym, ◌∙◌}
use Rattle.text.specs.Decimals.{digits}
use Rattle.text.proofs.Decimals.{digits-fit}
use Rattle.text.proofs.Padded.{padded-text}
use Rattle.text.proofs.Put.{put_front, put-length, put-part}
use Rattle.text.proofs.output.Out.number.Goals as goal

pub number-self-inside-requires : goal.number-self-inside-requires
number-self-inside-requires g c =
    let len : length c.args.self.now ≡ c.self.inside.len = ap length (sym c.self.view_is) ∙ length-take-le c.self.inside.len c.self.inside.bytes c.self.invariant.1 in
    omega (arith, len, digits-fit c.args.n c.ranges.n.fits, c.requires, c.self.told)

pub invariant_of-self : goal.invariant_of-self
invariant_of-self g c =
    let put = c.number-self-inside.ensures in
    let len : length c.args.self.now ≡ c.self.inside.len = ap length (sym c.self.view_is) ∙ length-take-le c.self.inside.len c.self.inside.bytes c.self.invariant.1 in
    let room : c.self.inside.len + length (digits c.args.n) ≤ g.row.N = omega (arith, len, digits-fit c.args.n c.ranges.n.fits, c.requires) in
    let there : c.self.inside.len + length (digits c.args.n) ≤ length c.self.inside.bytes = omega (arith, room, c.self.told) in (
      omega (arith, room, put.place),
      omega (arith, there, put.place, put-length put),
      rw (put-part put there) (padded-text g.row.N c.self.inside.len c.number-self-inside.result c.self.inside.bytes (digits c.args.n) (omega (arith, put.place)) (omega (arith, there, put.place)) (omega (arith, put.place)) c.self.invariant.2),
    )

pub returns-clause-digits : goal.returns-clause-digits
returns-clause-digits g c =
    let len : length c.args.self.now ≡ c.self.inside.len = ap length (sym c.self.view_is) ∙ length-take-le c.self.inside.len c.self.inside.bytes c.self.invariant.1 in
    put_front c.number-self-inside.ensures (omega (arith, len, digits-fit c.args.n c.ranges.n.fits, c.requires, c.self.told)) ∙ ap (λ (l : List ℕ). l ++ digits c.args.n) c.self.view_is

pub returns-clause-most : goal.returns-clause-most
returns-clause-most g c =
    let len : length c.args.self.now ≡ c.self.inside.len = ap length (sym c.self.view_is) ∙ length-take-le c.self.inside.len c.self.inside.bytes c.self.invariant.1 in
    let there : c.self.inside.len + length (digits c.args.n) ≤ length c.self.inside.bytes = omega (arith, len, digits-fit c.args.n c.ranges.n.fits, c.requires, c.self.told) in
    omega (arith, ap length (put_front c.number-self-inside.ensures there), length-append (take c.self.inside.len c.self.inside.bytes) (digits c.args.n), length-take-le c.self.inside.len c.self.inside.bytes c.self.invariant.1, len, digits-fit c.args.n c.ranges.n.fits)
