-- A call is refused by number n exactly if the condition of n holds and that of no lower number, and accepted exactly if none holds; a refusal changes
-- nothing. Assumes nothing.
use Rattle.std.proofs.Common.{◌≡◌, ℕ, ◌<◌, ◌≤◌, Bool, true, false, ◌&&◌, eqb, ltb, List, [], ◌∷◌, length, Ok, Err, sym, refl, ap, ◌∙◌, subst, true≢false, le_antisymm, arith, ltb-true, eq-eqb, ne_eqb}
use Rattle.std.proofs.lemmas.Bool.{cond_both}
use Rattle.std.proofs.Math.Bool.{and-false, and-eq-true_iff, false≢true}
use Rattle.record.specs.declared.Kernel.{Kernel}
use Rattle.record.specs.declared.Wait.{Wait}
use Rattle.record.specs.declared.Wait.TheVariants as wait
use Rattle.record.specs.Record.{flag_at, mutex_at, channel_at}
use Rattle.record.specs.Places.{limited}
use Rattle.rules.specs.declared.Call.{Call}
use Rattle.rules.specs.declared.Call.TheVariants.{Process, Finish, Interrupt}
use Rattle.rules.specs.declared.Request.{Request}
use Rattle.rules.specs.declared.Request.TheVariants as request
use Rattle.rules.specs.declared.Interrupt.TheVariants as interrupt
use Rattle.rules.specs.declared.Outcome.{Outcome}
use Rattle.rules.specs.Answers.{Said, refused, number, said}
use Rattle.rules.specs.Blocks.{caller_row}
use Rattle.rules.specs.Refusals.{Verdict, is_free, Row, first, table, seen, verdict}
use Rattle.rules.specs.Effects.{Effect, has_room, has_item}
use Rattle.rules.specs.Finish.{still_in, waited_again, carried_out}
use Rattle.rules.specs.Step.{Result, requested, effect, settle, step}
use Rattle.rules.specs.Deferred.{is_refused}
use Rattle.rules.specs.Sheet.{carried}
use Rattle.rules.proofs.Cond.{either}
use Rattle.rules.specs.Demands.{applies, LowestThatApplies, RefusalsChangeNothing, RefusedExactly, AcceptedExactly}

-- ---- rows whose numbers ascend, all above m: the first that holds has the lowest number that applies
ascend : ℕ → List Row → Bool
ascend m [] = true
ascend m (x ∷ xs) = ltb m (number x.answer) && ascend (number x.answer) xs

module _ (m : ℕ) (x : Row) (xs : List Row) (a : ascend m (x ∷ xs) ≡ true) where
  head-above : m < number x.answer
  unfolding ascend
  head-above = ltb-true m (number x.answer) ((and-eq-true_iff (ltb m (number x.answer)) _).0 a).0

  tail-ascends : ascend (number x.answer) xs ≡ true
  unfolding ascend
  tail-ascends = ((and-eq-true_iff (ltb m (number x.answer)) _).0 a).1

none_below : (m : ℕ) (rows : List Row) → ascend m rows ≡ true → (n : ℕ) → n ≤ m → applies n rows ≡ false
unfolding applies
none_below m [] a n l = refl
none_below m (x ∷ xs) a n l =
    let above = head-above m x xs a in
    rw (ne_eqb (number x.answer) n (λ e. omega (arith, above, l, e)))
    (none_below (number x.answer) xs (tail-ascends m x xs a) n (omega (arith, above, l)))

-- a row that doesn't hold is passed over
passed : (n : ℕ) (x : Row) (xs : List Row) → x.holds ≡ false → applies n (x ∷ xs) ≡ applies n xs
unfolding applies
passed n x xs e = rw e (rw (and-false (eqb (number x.answer) n)) refl)

-- what a verdict says of the rows that it was given by
abbrev Says : List Row → Verdict → Type 0
Says rows (Ok _) = (n : ℕ) → applies n rows ≡ false
Says rows (Err r) = LowestThatApplies (number r) rows

module _ (x : Row) (xs : List Row) where
  says_past : x.holds ≡ false → (v : Verdict) → Says xs v → Says (x ∷ xs) v
  says_past h (Ok _) s = λ n. passed n x xs h ∙ s n
  says_past h (Err r) s = record {
    it = passed (number r) x xs h ∙ s.it;
    no_lower = λ n l. passed n x xs h ∙ s.no_lower n l;
  }

  module _ (m : ℕ) (a : ascend m (x ∷ xs) ≡ true) where
    says_here : x.holds ≡ true → Says (x ∷ xs) (Err x.answer)
    unfolding applies
    says_here h = record {
      it = rw (eq-eqb (number x.answer) (number x.answer) refl) (rw h refl);
      no_lower = λ n l.
          rw (ne_eqb (number x.answer) n (λ e. omega (arith, l, e)))
          (none_below (number x.answer) xs (tail-ascends m x xs a) n (omega (arith, l)));
    }

first_says : (m : ℕ) (rows : List Row) → ascend m rows ≡ true → Says rows (first rows)
unfolding applies
first_says m [] a = λ n. refl
first_says m (x ∷ xs) a =
    cond_both x.holds _ _ (Says (x ∷ xs)) (says_here x xs m a)
    (λ h. says_past x xs h (first xs) (first_says (number x.answer) xs (tail-ascends m x xs a)))

-- no two numbers are the lowest
module _ (rows : List Row) where
  lowest-least : (m n : ℕ) → LowestThatApplies m rows → applies n rows ≡ true → m ≤ n
  lowest-least m n l e = grind (arith, l.no_lower)

  lowest-one : (m n : ℕ) → LowestThatApplies m rows → LowestThatApplies n rows → m ≡ n
  lowest-one m n l o = le_antisymm (lowest-least m n l o.it) (lowest-least n m o l.it)

-- ---- an accepted call is not refused
abbrev refuses : Outcome → Bool
refuses o = is_refused (said o.answer)

abbrev refuses_effect : Effect → Bool
refuses_effect e = is_refused (said e.answer)

module _ (k : Kernel) (room : List ℕ) where
  request-accepted : (r : Request) → refuses_effect (requested k room r) ≡ false
  request-accepted (request.Wait i t) = either refuses (flag_at k i).on refl refl
  request-accepted (request.Lock i t) = either refuses (is_free (mutex_at k i).owner) refl refl
  request-accepted (request.Try i) = either refuses (is_free (mutex_at k i).owner) refl refl
  request-accepted (request.Push i x e) = either refuses_effect (has_room (channel_at k i)) refl refl
  request-accepted (request.Pop i e t) = either refuses (has_item (channel_at k i)) refl refl
  request-accepted q = refl

  again-accepted : (w : Wait) → refuses (waited_again k w) ≡ false
  again-accepted w = either refuses (limited w && eqb (caller_row k).counter 0) refl refl

  carried-accepted : (w : Wait) → refuses_effect (carried_out k room w) ≡ false
  carried-accepted (wait.Mutex i l) = either refuses (is_free (mutex_at k i).owner) refl (again-accepted (wait.Mutex i l))
  carried-accepted (wait.Push i x e) = either refuses_effect (has_room (channel_at k i)) refl (again-accepted (wait.Push i x e))
  carried-accepted (wait.Pop i e l) = either refuses (has_item (channel_at k i)) refl (again-accepted (wait.Pop i e l))
  carried-accepted w = refl

  pub accepted : (block : List ℕ) (c : Call) → is_refused (effect k room block c).answer ≡ false
  accepted block (Process r) = request-accepted r
  accepted block Finish = either refuses_effect (still_in k (caller_row k).wait) refl (carried-accepted (caller_row k).wait)
  accepted block (Interrupt interrupt.Tick) = refl
  accepted block c = refl

-- ---- the demands, by what the verdict is
module _ (k : Kernel) (room block : List ℕ) (c : Call) where
  abbrev rows : List Row
  rows = table (seen k (length room) c) c

  abbrev settled : Verdict → Result
  settled v = settle k room block c v

  table-says : Says rows (first rows)
  unfolding ascend
  table-says = first_says 0 rows refl

  not-refused : (n : ℕ) → (settled (Ok tt)).answer ≡ refused n → ⊥
  not-refused n e = false≢true (sym (accepted k room block c) ∙ ap is_refused e)

  unchanged : (n : ℕ) (v : Verdict) → (settled v).answer ≡ refused n → settled v ≡ record { answer = refused n; kernel = k; room = room; block = block }
  unchanged n (Ok _) e = absurd (not-refused n e)
  unchanged n (Err r) e = ap (λ (a : Said). record { answer = a; kernel = k; room = room; block = block }) e

  refused-to : (n : ℕ) (v : Verdict) → Says rows v → (settled v).answer ≡ refused n → LowestThatApplies n rows
  refused-to n (Ok _) s e = absurd (not-refused n e)
  refused-to n (Err r) s e = subst (λ (m : ℕ). LowestThatApplies m rows) (ap carried e) s

  refused-from : (n : ℕ) (v : Verdict) → Says rows v → LowestThatApplies n rows → (settled v).answer ≡ refused n
  refused-from n (Ok _) s l = absurd (true≢false (sym l.it ∙ s n))
  refused-from n (Err r) s l = ap refused (lowest-one rows (number r) n s l)

  accepted-to : (v : Verdict) → Says rows v → is_refused (settled v).answer ≡ false → (n : ℕ) → applies n rows ≡ false
  accepted-to (Ok _) s e = s
  accepted-to (Err r) s e = absurd (true≢false e)

  accepted-from : (v : Verdict) → Says rows v → ((n : ℕ) → applies n rows ≡ false) → is_refused (settled v).answer ≡ false
  accepted-from (Ok _) s f = accepted k room block c
  accepted-from (Err r) s f = absurd (true≢false (sym s.it ∙ f (number r)))

pub refusals-change-nothing : RefusalsChangeNothing
unfolding step
refusals-change-nothing k room block c n e = unchanged k room block c n (verdict k (length room) c) e

pub refused-exactly : RefusedExactly
unfolding step verdict
refused-exactly k room block c n = (
  refused-to k room block c n (verdict k (length room) c) (table-says k room block c),
  refused-from k room block c n (verdict k (length room) c) (table-says k room block c),
)

pub accepted-exactly : AcceptedExactly
unfolding step verdict
accepted-exactly k room block c = (
  accepted-to k room block c (verdict k (length room) c) (table-says k room block c),
  accepted-from k room block c (verdict k (length room) c) (table-says k room block c),
)
