-- `trace::records::run` meets its contract: a byte ends no record, the header or a record. Assumes nothing.
use Rattle.std.proofs.Common.{ℕ, List, [], ◌++◌, length, take, refl, sym, ap, ◌∙◌, arith}
use Rattle.text.proofs.Put.{put_then, put_as, put-length}
use Rattle.trace.specs.Chunks.{text_of}
use Rattle.trace.specs.Output.{line_of}
use Rattle.trace.proofs.Chunks.{ran-none, text-none, on-open, on-header, on-record}
use Rattle.trace.proofs.records.run.Goals.{in-Some, then-t, else-t, in_default}
use Rattle.trace.proofs.records.run.Goals as goal

pub loop-b-init : goal.loop-b-init
loop-b-init c =
    (sym (ran-none c.args.t.now), put_as _ (sym (text-none c.args.t.now)) (record { bytes = refl; place = omega arith }), omega arith, refl)

pub loop-b-preserved : goal.loop-b-preserved
loop-b-preserved c =
    let come = c.loop-b.invariant in
    let done : List ℕ = text_of (take c.loop-b.b-index c.args.input.now) c.args.t.now in
    elim c.match-feed.branch [
      | in-Some w ↦
          let ends = sym c.feed.ensures.answer ∙ w.in-Some.is in
          elim w.if-t.branch [
            | then-t v ↦
                let q = on-record _ _ _ [] done _ c.loop-b-test.true come.0 refl _ ends v.if-t.true in
                let put = v.record_of-put.ensures in
                let line = ap (λ (s : List ℕ). done ++ line_of c.loop-b.t.bench s) v.written.ensures ∙ q.1 in (
                  rw (w.t-is, v.t-is, c.feed.ensures.scanner, sym put.1, v.written.ensures) q.0,
                  rw (w.out-is, v.out-is, w.put-is, v.put-is) (put_as _ line (put_then come.1 put.0)),
                  rw (w.put-is, v.put-is) (omega (arith, come.2, put.2, ap length v.written.ensures, w.in-Some.ensures.within)),
                  rw (w.out-is, v.out-is) (put-length put.0 ∙ come.3),
                )
            | else-t v ↦
                let q = on-header _ _ _ [] done _ c.loop-b-test.true come.0 refl _ ends v.if-t.false in (
                  rw (w.t-is, v.t-is, c.feed.ensures.scanner) q.0,
                  rw (w.out-is, v.out-is, w.put-is, v.put-is) (put_as _ q.1 come.1),
                  rw (w.put-is, v.put-is) (omega (arith, come.2)),
                  rw (w.out-is, v.out-is) come.3,
                )
          ]
      | in_default w ↦
          let q = on-open _ _ _ [] done _ c.loop-b-test.true come.0 refl (sym c.feed.ensures.answer ∙ w.in_default.is) in (
            rw (w.t-is, c.feed.ensures.scanner) q.0,
            rw (w.out-is, w.put-is) (put_as _ q.1 come.1),
            rw w.put-is (omega (arith, come.2)),
            rw w.out-is come.3,
          )
    ]
