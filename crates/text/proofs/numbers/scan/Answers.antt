-- `text::numbers::scan` meets its contract: what the digits from place `b-index` on make of the number so far stays the same. Assumes nothing.
use Rattle.std.proofs.Common.{◌≡◌, sym, ap, ◌∙◌, ℕ, ◌+◌, ◌-◌, ◌*◌, ◌≤◌, ◌<◌, List, ◌∷◌, Some, None, true, false, length, get_or, drop, add-one}
use Rattle.std.proofs.lemmas.List.{drop_all}
use Rattle.std.proofs.Math.Seq.{drop-cons}
use Rattle.text.specs.Decimals.{is_digit, reaches}
use Rattle.text.proofs.Decimals.{reaches-no-digit, reaches-past, reaches-on, reaches_end}
use Rattle.text.proofs.numbers.scan.Goals as goal

module _ (most : ℕ) (s : List ℕ) (i v : ℕ) (inv : reaches most v (drop i s) ≡ reaches most 0 s) where
  module _ (h : i < length s) where
    here : reaches most 0 s ≡ reaches most v (get_or s i 0 ∷ drop (i + 1) s)
    here = sym inv ∙ rw (add-one i, ← drop-cons s i 0 h)

    no_digit : is_digit (get_or s i 0) ≡ false → None ≡ reaches most 0 s
    no_digit e = sym (here ∙ reaches-no-digit most v _ _ e)

    past : most < v * 10 + (get_or s i 0 - 48) → None ≡ reaches most 0 s
    past m = sym (here ∙ reaches-past most v _ _ m)

    on : is_digit (get_or s i 0) ≡ true → reaches most (v * 10 + (get_or s i 0 - 48)) (drop (i + 1) s) ≡ reaches most 0 s
    on e = sym (here ∙ reaches-on most v _ _ e)

  done : length s ≤ i → v ≤ most → Some v ≡ reaches most 0 s
  done h m = sym (sym inv ∙ ap (reaches most v) (drop_all i s h) ∙ reaches_end most v m)

pub returns-then-not-is_ascii_digit : goal.returns-then-not-is_ascii_digit
returns-then-not-is_ascii_digit c =
    no_digit _ _ _ _ c.loop-b.invariant.1 c.loop-b-test.true (sym c.is_ascii_digit.ensures.value ∙ c.if-not-is_ascii_digit.true)

pub returns-then-limit-v : goal.returns-then-limit-v
returns-then-limit-v c = past _ _ _ _ c.loop-b.invariant.1 c.loop-b-test.true (rw (← c.from.ensures, ← c.from-limit.ensures) c.if-limit-v.true)

pub loop-b-preserved : goal.loop-b-preserved
loop-b-preserved c = (
  rw (← c.from-limit.ensures) c.if-limit-v.false,
  rw c.from.ensures (on _ _ _ _ c.loop-b.invariant.1 c.loop-b-test.true (sym c.is_ascii_digit.ensures.value ∙ c.if-not-is_ascii_digit.false)),
)

pub returns : goal.returns
returns c = done _ _ _ _ c.loop-b.invariant.1 c.loop-b-test.false c.loop-b.invariant.0
