-- `trace::records::Trace::finish` meets its contract: the last record is played, or there is none. Assumes nothing.
use Rattle.std.proofs.Common.{sym, ap, ◌∙◌, append-nil, ℕ, List, ◌++◌}
use Rattle.trace.proofs.Chunks.{last-header, last-none, last-record}
use Rattle.trace.proofs.records.Trace.finish.Goals.{else-self-via-then-self+else-not-is_empty, else-self-via-else-self}
use Rattle.trace.proofs.records.Trace.finish.Goals as goal

pub returns-then-not-is_empty : goal.returns-then-not-is_empty
returns-then-not-is_empty g c =
    c.play.ensures.put
    ∙ ap (λ (x : List ℕ). c.args.out.now ++ x) (sym (last-record c.args.self _ c.rest-last.ensures.bytes c.if-self.true (sym c.is_empty.ensures ∙ c.if-not-is_empty.true)))

pub returns-else-self : goal.returns-else-self
returns-else-self g c =
    sym (append-nil _) ∙ ap (λ (x : List ℕ). c.args.out.now ++ x) (sym (elim c.else-self.branch [
      | else-self-via-then-self+else-not-is_empty w ↦ last-none c.args.self _ c.rest-last.ensures.bytes w.if-self.true (sym w.is_empty.ensures ∙ w.if-not-is_empty.false)
      | else-self-via-else-self w ↦ last-header c.args.self w.if-self.false
    ]))
