-- `trace::commands::in_fields` meets its contract where field a is a number and b is empty. Assumes nothing.
use Rattle.std.proofs.Common.{sym, ◌∙◌, arith, eq-eqb}
use Rattle.text.proofs.Decimals.{read-value}
use Rattle.trace.proofs.Words.{named-a}
use Rattle.trace.proofs.commands.in_fields.Goals as goal

pub returns-in_ok-parse-in_default-empty : goal.returns-in_ok-parse-in_default-empty
returns-in_ok-parse-in_default-empty c =
    let v = read-value 4294967295 c.args.a.now _ (sym c.parse.ensures ∙ c.in_ok-parse-in_default-empty.was) in
    c.with_a.ensures ∙ rw (← v.1) (sym (named-a _ _ _ v.0 (eq-eqb _ _ (grind arith))))
