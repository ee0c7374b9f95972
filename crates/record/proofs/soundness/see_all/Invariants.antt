-- `see_all`: the services before i are seen.
use Rattle.std.proofs.Common.{◌≡◌, ℕ, Bool, get_or}
use Rattle.record.specs.Check.{Gives, over}
use Rattle.record.proofs.soundness.see_all.Given as goal

abbrev pub invariant-loop-i : goal.invariant-loop-i
invariant-loop-i g l =
    (f : ℕ → ℕ) (h : ℕ → Bool) → Gives g.M.Fn l.map l.services f → Gives g.F.Fn l.fine l.services h → l.seen ≡ over f (λ i. get_or l.waiting i 0) h l.initial.seen l.i
