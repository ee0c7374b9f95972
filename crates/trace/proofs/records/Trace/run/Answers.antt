-- `trace::records::Trace::run` meets its contract: a byte ends no record, the header or a record. Assumes nothing.
use Rattle.std.proofs.Common.{sym, ap, ◌∙◌, append-nil, arith, List, ℕ, ◌++◌, length}
use Rattle.trace.proofs.Chunks.{ran-none, text-none, on-open, on-header, on-record}
use Rattle.trace.proofs.records.Trace.run.Goals.{in-Some, then-self, else-self, in_default}
use Rattle.trace.proofs.records.Trace.run.Goals as goal

pub loop-b-init : goal.loop-b-init
loop-b-init g c = (
  sym (ran-none c.args.self.now),
  sym (ap (λ (x : List ℕ). c.args.out.now ++ x) (text-none c.args.self.now) ∙ append-nil c.args.out.now),
  omega arith,
)

pub loop-b-preserved : goal.loop-b-preserved
loop-b-preserved g c =
    let come = c.loop-b.invariant in
    elim c.match-feed.branch [
      | in-Some w ↦
          let ends = sym c.feed.ensures.answer ∙ w.in-Some.is in
          elim w.if-self.branch [
            | then-self v ↦
                let q = on-record _ _ _ _ _ _ c.loop-b-test.true come.0 come.1 _ ends v.if-self.true in (
                  rw (w.self-is, v.self-is, c.feed.ensures.scanner, v.play.ensures.bench, v.written.ensures) q.0,
                  rw (w.out-is, v.out-is, v.play.ensures.put, v.written.ensures) q.1,
                  rw (w.out-is, v.out-is) (omega (arith, come.2, v.play.ensures.most, ap length v.written.ensures, w.in-Some.ensures.within)),
                )
            | else-self v ↦
                let q = on-header _ _ _ _ _ _ c.loop-b-test.true come.0 come.1 _ ends v.if-self.false in
                (rw (w.self-is, v.self-is, c.feed.ensures.scanner) q.0, rw (w.out-is, v.out-is) q.1, rw (w.out-is, v.out-is) (omega (arith, come.2)))
          ]
      | in_default w ↦
          let q = on-open _ _ _ _ _ _ c.loop-b-test.true come.0 come.1 (sym c.feed.ensures.answer ∙ w.in_default.is) in
          (rw (w.self-is, c.feed.ensures.scanner) q.0, rw w.out-is q.1, rw w.out-is (omega (arith, come.2)))
    ]
