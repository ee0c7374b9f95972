-- `trace::records::finish` meets its contract: the last record is played, or there is none. Assumes nothing.
use Rattle.std.proofs.Common.{◌≡◌, [], refl, sym, ◌∙◌, arith}
use Rattle.text.proofs.Put.{put_as, put-length}
use Rattle.trace.specs.Chunks.{last_text}
use Rattle.trace.proofs.Chunks.{last-header, last-none, last-record}
use Rattle.trace.proofs.records.finish.Goals.{else-t-via-then-t+else-not-is_empty, else-t-via-else-t}
use Rattle.trace.proofs.records.finish.Goals as goal

pub returns-then-not-is_empty : goal.returns-then-not-is_empty
returns-then-not-is_empty c =
    let put = c.record_of.ensures in
    let line = last-record c.args.t _ c.rest-last.ensures.bytes c.if-t.true (sym c.is_empty.ensures ∙ c.if-not-is_empty.true) in
    (put_as _ (sym line) put.0, omega (arith, c.requires, put.2, put-length put.0, c.rest-last.ensures.within))

pub returns : goal.returns
returns c =
    let none : last_text c.args.t ≡ [] = elim c.else-t.branch [
      | else-t-via-then-t+else-not-is_empty w ↦ last-none c.args.t _ c.rest-last.ensures.bytes w.if-t.true (sym w.is_empty.ensures ∙ w.if-not-is_empty.false)
      | else-t-via-else-t w ↦ last-header c.args.t w.if-t.false
    ] in
    (put_as _ (sym none) (record { bytes = refl; place = omega arith }), omega (arith, c.requires))
