-- `Channel::write_block` meets its contract. Assumes nothing.
use Rattle.std.proofs.Common.{◌+◌, ◌≡◌, ap, ◌∙◌, arith, add-zero, add_assoc}
use Rattle.ring.specs.Ring.{place}
use Rattle.ring.proofs.Places.{place-lt, place-next}
use Rattle.ring.proofs.Blocks.{put_word-cut, put-none}
use Rattle.ring.proofs.Channel.write_block.Goals as goal

pub loop-word-init : goal.loop-word-init
loop-word-init c =
    let here = place-lt c.args.self.now c.args.self.now.count c.requires.fits.some in
    (rw add-zero c.wrapped-at.ensures, omega (arith, c.wrapped-at.ensures, here), put-none _ _ _ _)

pub loop-word-preserved : goal.loop-word-preserved
loop-word-preserved c =
    let inv = c.loop-word.invariant in
    let ch = c.args.self.now in
    let i = c.loop-word.word-index in
    let next : c.wrapped-at-in-loop-word.result ≡ place ch (ch.count + (i + 1)) =
    c.wrapped-at-in-loop-word.ensures ∙ place-next ch (ch.count + i) inv.0 ∙ ap (place ch) (add_assoc ch.count i 1) in
    (next, omega (arith, next, place-lt ch (ch.count + (i + 1)) c.requires.fits.some), rw (inv.2, inv.0) (put_word-cut _ _ _ _ _ c.loop-word-test.true))
