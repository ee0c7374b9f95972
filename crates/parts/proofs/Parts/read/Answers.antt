-- `parts::Parts::read` meets its contract where no word is read: the channel then is the channel. Assumes nothing.
use Rattle.std.proofs.Common.{ℕ, ◌<◌, ◌-◌, ◌≡◌, ap, ◌∙◌, sym}
use Rattle.std.proofs.Math.Nat.{sub-zero}
use Rattle.ring.specs.declared.Channel.{Channel}
use Rattle.ring.specs.Ring.{moved, lifted}
use Rattle.ring.proofs.Places.{place_none}
use Rattle.parts.specs.Update.{with_channel}
use Rattle.parts.specs.Effects.{read_out}
use Rattle.parts.proofs.Parts.read.Goals as goal

none-lifted : (d : Channel) → d.first < d.capacity → lifted d 0 ≡ d
none-lifted d f = ap (λ (p : ℕ). moved d p (d.count - 0)) (place_none d f) ∙ ap (moved d d.first) (sub-zero d.count)

pub returns-else-words-ne0 : goal.returns-else-words-ne0
returns-else-words-ne0 c =
    let x = c.args.self.now in
    let e = c.read_block-words.ensures in
    let n = c.if-words-ne0.false in
    (e.0, ap (with_channel x) (e.1 ∙ ap (lifted x.channel) n ∙ none-lifted x.channel c.requires.fits.first) ∙ sym (ap (read_out x) n), e.2)
