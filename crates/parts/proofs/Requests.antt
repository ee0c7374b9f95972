-- Every accepted process call worked over its parts and put back is the document's call of the whole record, room and all. Assumes nothing.
use Rattle.std.proofs.Common.{ℕ, ◌≡◌, List, length}
use Rattle.record.specs.declared.Kernel.{Kernel}
use Rattle.record.specs.declared.Wait.TheVariants as wait
use Rattle.record.specs.Record.{flag_at, mutex_at, channel_at}
use Rattle.room.proofs.Lent.{lent}
use Rattle.rules.specs.declared.Answer.TheVariants.{Done, Waiting, Busy}
use Rattle.rules.specs.declared.Named.TheVariants as named
use Rattle.rules.specs.declared.Outcome.{Outcome}
use Rattle.rules.specs.declared.Request.{Request}
use Rattle.rules.specs.declared.Request.TheVariants as request
use Rattle.rules.specs.Calls.{numbered, named_by_request}
use Rattle.rules.specs.Refusals.{is_free}
use Rattle.rules.specs.Blocks.{is_limited}
use Rattle.rules.specs.Effects as rule
use Rattle.rules.specs.Step as step
use Rattle.rules.proofs.Cond.{branches}
use Rattle.parts.specs.Blocks.{opened}
use Rattle.parts.specs.Effects as part
use Rattle.parts.specs.Step as worked
use Rattle.parts.proofs.PutBack.{Begins, back, back_in, placed, spot, of, kept, ended, put-word-back, take-word-back, opened-back, signalled-back, cleared-back, locked-back, unlocked-back, pushed_back, popped_back, flushed-back, forced-back, woken-back}

module _ (k : Kernel) (room : List ℕ) (a : ℕ) where
  pub requested-back : (r : Request) → Begins k (length room) a (named_by_request r)
      → back_in k room a (spot k (named_by_request r)) (worked.requested (of k (named_by_request r)) (lent room a) r) ≡ step.requested k room r
  requested-back (request.Sleep t) b = placed k room a _ (part.slept (of k named.Nothing) t) (ended (opened-back k (wait.Sleep (is_limited t)) t) Waiting)
  requested-back (request.Wait i t) b =
      placed k room a _ (part.waited (of k (named.Flag i)) i t)
      (branches (back k (spot k (named.Flag i))) (λ (o : Outcome). o) (flag_at k i).on (ended (cleared-back k i) Done) (ended (opened-back k (wait.Flag i (is_limited t)) t) Waiting))
  requested-back (request.Signal i) b = placed k room a _ (part.ends Done (part.signalled (of k (named.Flag i)))) (ended (signalled-back k i) Done)
  requested-back (request.Clear i) b = placed k room a _ (part.ends Done (part.cleared (of k (named.Flag i)))) (ended (cleared-back k i) Done)
  requested-back (request.Lock i t) b =
      placed k room a _ (part.locked_or (of k (named.Mutex i)) i t)
      (branches (back k (spot k (named.Mutex i))) (λ (o : Outcome). o) (is_free (mutex_at k i).owner) (ended (locked-back k i) Done) (ended (opened-back k (wait.Mutex i (is_limited t)) t) Waiting))
  requested-back (request.Try i) b =
      placed k room a _ (part.tried (of k (named.Mutex i)))
      (branches (back k (spot k (named.Mutex i))) (λ (o : Outcome). o) (is_free (mutex_at k i).owner) (ended (locked-back k i) Done) (ended (kept k (spot k (named.Mutex i))) Busy))
  requested-back (request.Unlock i) b = placed k room a _ (part.ends Done (part.unlocked (of k (named.Mutex i)))) (ended (unlocked-back k i) Done)
  requested-back (request.Push i x e) b =
      branches (back_in k room a (spot k (named.Channel i))) (λ (o : rule.Effect). o) (rule.has_room (channel_at k i))
      (put-word-back k room a i e b (pushed_back k i e) x)
      (placed k room a _ (part.ends Waiting (opened (of k (named.Channel i)) (wait.Push i x e) 0)) (ended (opened-back k (wait.Push i x e) 0) Waiting))
  requested-back (request.Pop i e t) b =
      placed k room a _ (part.popped_or (of k (named.Channel i)) (lent room a) i e t)
      (branches (back k (spot k (named.Channel i))) (λ (o : Outcome). o) (rule.has_item (channel_at k i)) (take-word-back k room a i e b (popped_back k i e)) (ended (opened-back k (wait.Pop i e (is_limited t)) t) Waiting))
  requested-back (request.Flush i) b = placed k room a _ (part.ends Done (part.flushed (of k (named.Channel i)))) (ended (flushed-back k i) Done)
  requested-back (request.Wake p) b = placed k room a _ (part.ends Done (part.woken (of k (named.Process (numbered p))) (numbered p).0)) (ended (woken-back k (numbered p)) Done)
  requested-back (request.Force p) b = placed k room a _ (part.ends Done (part.forced (of k (named.Process (numbered p))) (numbered p).0)) (ended (forced-back k (numbered p)) Done)
