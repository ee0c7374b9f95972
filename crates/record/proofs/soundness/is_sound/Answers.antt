-- `is_sound` meets its contract: it computes `checked`, and `checked` decides soundness. Assumes nothing.
use Rattle.std.proofs.Common.{◌∙◌, ◌&&◌, Bool, ap, sym, rules}
use Rattle.record.specs.Check.{rest_fits, checked}
use Rattle.record.proofs.Lengths.{Shaped, length-mapped, shaped-lengths}
use Rattle.record.proofs.Decides.{decides}
use Rattle.record.proofs.soundness.is_sound.Goals as goal

pub returns-then-numbers_fit : goal.returns-then-numbers_fit
unfolding checked
returns-then-numbers_fit c =
    let k = c.args.k in
    let s : Shaped k = search (rules, length-mapped) in
    let fits = sym c.numbers_fit.ensures.test ∙ c.if-numbers_fit.true in
    c.rest_fits.ensures ∙ sym (ap (λ (b : Bool). b && rest_fits k) fits) ∙ decides k (shaped-lengths k s)

pub returns-else-numbers_fit : goal.returns-else-numbers_fit
unfolding checked
returns-else-numbers_fit c =
    let k = c.args.k in
    let s : Shaped k = search (rules, length-mapped) in
    let out = sym c.numbers_fit.ensures.test ∙ c.if-numbers_fit.false in
    c.if-numbers_fit.false ∙ sym (ap (λ (b : Bool). b && rest_fits k) out) ∙ decides k (shaped-lengths k s)
