-- `Channel::read_block` meets its contract. Assumes nothing.
use Rattle.std.proofs.Common.{ℕ, ◌+◌, ◌≡◌, ap, ◌∙◌, sym, arith, length-take, ◌-◌}
use Rattle.ring.specs.Ring.{place, moved}
use Rattle.ring.proofs.Places.{place-lt, place_none, place-next}
use Rattle.ring.proofs.Blocks.{read_none, read_word, read_rest}
use Rattle.ring.proofs.Channel.read_block.Goals as goal

pub loop-word-init : goal.loop-word-init
loop-word-init c = (sym (place_none c.args.self.now c.requires.fits.first), c.requires.fits.first, read_none _ _ _ _)

pub loop-word-preserved : goal.loop-word-preserved
loop-word-preserved c =
    let inv = c.loop-word.invariant in
    let ch = c.args.self.now in
    let i = c.loop-word.word-index in
    let next : c.wrapped-at.result ≡ place ch (i + 1) = c.wrapped-at.ensures ∙ place-next ch i inv.0 in
    (next, omega (arith, next, place-lt ch (i + 1) c.requires.fits.some), rw (inv.2, inv.0) (read_word _ _ _ _ c.loop-word-test.true))

pub returns : goal.returns
returns c =
    let inv = c.loop-word.invariant in
    let there = c.min-there.result in
    let all : c.loop-word.word-index ≡ there = omega (arith, length-take there c.args.block.now) in
    (c.min-there.ensures, ap (λ (f : ℕ). moved c.args.self.now f (c.args.self.now.count - there)) (inv.0 ∙ ap (place c.args.self.now) all), rw (inv.2, all) (read_rest _ _ _ _))
