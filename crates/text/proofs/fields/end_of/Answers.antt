-- `text::fields::end_of` meets its contract: what stands from `from` on is `drop from s`, whole. Assumes nothing.
use Rattle.std.proofs.Common.{◌≡◌, ◌+◌, ◌-◌, take, drop, length, length-drop, take_all, ap, ◌∙◌, arith}
use Rattle.text.specs.Records.{up_to}
use Rattle.text.proofs.fields.end_of.Goals as goal

pub returns : goal.returns
returns c =
    let s = c.args.s.now in
    let from = c.args.from in
    let n : length (drop from s) ≡ length s - from = length-drop from s in
    let rest : take (length s - from) (drop from s) ≡ drop from s = take_all _ _ (omega (arith, n)) in
    (ap (λ k. from + k) (c.up_to.ensures.bytes ∙ ap (up_to 44) rest), omega arith, omega (arith, c.up_to.ensures.within, ap length rest, n))
