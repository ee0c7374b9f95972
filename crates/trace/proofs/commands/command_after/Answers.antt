-- `trace::commands::command_after` meets its contract: the steps of `split` say how many fields there are. Assumes nothing.
use Rattle.std.proofs.Common.{rules, tests, ℕ, nat_eq, sym, ap, ◌∙◌, le-leb}
use Rattle.std.proofs.lemmas.Iterator.Splits.{YieldsList-from_slice_split}
use Rattle.trace.specs.Words.{of_fields}
use Rattle.trace.proofs.Fields.{fields-split, second-none, third-none, fourth-some, fourth-none}
use Rattle.trace.proofs.commands.command_after.Goals as goal

pub returns-in-Some-Some-Some-None : goal.returns-in-Some-Some-Some-None
returns-in-Some-Some-Some-None c =
    let s = c.split-fields.ensures in
    rw (le-leb _ _ c.if-s-gt64.false, fields-split c.args.s.now)
    (c.in_fields.ensures ∙ sym (ap of_fields (fourth-none _ _ _ _ _ _ _ _ _ _ _ c.next.ensures.steps c.next-2.ensures.steps c.next-3.ensures.steps c.next-4.ensures.steps c.in-Some-Some-Some-None.word c.in-Some-Some-Some-None.a c.in-Some-Some-Some-None.b c.in-Some-Some-Some-None.is-0 c.in-Some-Some-Some-None.is-1 c.in-Some-Some-Some-None.is-2 c.in-Some-Some-Some-None.is-3
    (YieldsList-from_slice_split _ (λ (b : ℕ). nat_eq b 44) c.args.s.now s.rest s.done s.closure (λ x r q k. search (rules, tests))))))

pub returns-in_default : goal.returns-in_default
returns-in_default c =
    let s = c.split-fields.ensures in
    rw (le-leb _ _ c.if-s-gt64.false, fields-split c.args.s.now)
    (sym (fourth-some _ _ _ _ _ _ _ _ _ _ _ c.next.ensures.steps c.next-2.ensures.steps c.next-3.ensures.steps c.next-4.ensures.steps c.in_default.field-0-0 c.in_default.field-0-1 c.in_default.field-0-2 c.in_default.field-0-3 c.in_default.is-0 c.in_default.is-1 c.in_default.is-2 c.in_default.is-3
    (YieldsList-from_slice_split _ (λ (b : ℕ). nat_eq b 44) c.args.s.now s.rest s.done s.closure (λ x r q k. search (rules, tests)))))

pub returns-in_default-2 : goal.returns-in_default-2
returns-in_default-2 c =
    let s = c.split-fields.ensures in
    rw (le-leb _ _ c.if-s-gt64.false, fields-split c.args.s.now)
    (sym (third-none _ _ _ _ _ _ _ _ _ _ _ c.next.ensures.steps c.next-2.ensures.steps c.next-3.ensures.steps c.next-4.ensures.steps c.in_default.field-0-0 c.in_default.field-0-1 c.in_default.is-0 c.in_default.is-1 c.in_default.is-2
    (YieldsList-from_slice_split _ (λ (b : ℕ). nat_eq b 44) c.args.s.now s.rest s.done s.closure (λ x r q k. search (rules, tests)))))

pub returns-in_default-3 : goal.returns-in_default-3
returns-in_default-3 c =
    let s = c.split-fields.ensures in
    rw (le-leb _ _ c.if-s-gt64.false, fields-split c.args.s.now)
    (sym (second-none _ _ _ _ _ _ _ _ _ _ _ c.next.ensures.steps c.next-2.ensures.steps c.next-3.ensures.steps c.next-4.ensures.steps c.in_default.field-0-0 c.in_default.is-0 c.in_default.is-1
    (YieldsList-from_slice_split _ (λ (b : ℕ). nat_eq b 44) c.args.s.now s.rest s.done s.closure (λ x r q k. search (rules, tests)))))
