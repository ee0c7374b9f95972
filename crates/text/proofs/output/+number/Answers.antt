-- `text::output::number` meets its contract: the digits of n / 10, and after them the last. Assumes nothing.
use Rattle.std.proofs.Common.{refl, sym, arith}
use Rattle.text.proofs.Decimals.{digits-small, digits_more, length-small, length_more}
use Rattle.text.proofs.Put.{put_then, put_as, put-length}
use Rattle.text.proofs.output.+number.Goals as goal

pub bounds-out-at : goal.bounds-out-at
bounds-out-at t c = omega (arith, length-small _ c.if-n-lt10.true, c.requires)

pub returns-then-n-lt10 : goal.returns-then-n-lt10
returns-then-n-lt10 t c = put_as _ (sym (digits-small _ c.if-n-lt10.true)) (record { bytes = refl; place = refl })

pub number-place-requires : goal.number-place-requires
number-place-requires t c =
    let l = length_more _ c.if-n-lt10.false in
    (omega (arith, c.decreases), omega (arith, c.requires))

pub bounds-out-place : goal.bounds-out-place
bounds-out-place t c =
    omega (arith, length_more _ c.if-n-lt10.false, c.requires, c.number-place.ensures.place, put-length c.number-place.ensures)

pub overflow_add-result-2 : goal.overflow_add-result-2
overflow_add-result-2 t c = record { fits = omega (arith, length_more _ c.if-n-lt10.false, c.requires, c.number-place.ensures.place) }

pub returns : goal.returns
returns t c = put_as _ (sym (digits_more _ c.if-n-lt10.false)) (put_then c.number-place.ensures (record { bytes = refl; place = refl }))
