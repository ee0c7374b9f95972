-- Finish worked over its parts and put back is the document's finish of the whole record, room and all, whatever the open wait. Assumes nothing.
use Rattle.std.proofs.Common.{ℕ, ◌≡◌, refl, ap, ◌∙◌, Bool, cond, ◌&&◌, eqb, List, length}
use Rattle.maps.specs.Maps.{meets}
use Rattle.maps.proofs.Tags.{meets-tag}
use Rattle.ring.specs.declared.End.{End}
use Rattle.record.specs.declared.Kernel.{Kernel}
use Rattle.record.specs.declared.Process.{Process}
use Rattle.record.specs.declared.Wait.{Wait}
use Rattle.record.specs.declared.Wait.TheVariants.{Nothing, Mutex, Push, Pop}
use Rattle.record.specs.Record.{mutex_at, channel_at}
use Rattle.record.specs.Places.{limited, place_of, map_at}
use Rattle.room.specs.Room.{Starts}
use Rattle.room.proofs.Lent.{lent}
use Rattle.rules.specs.declared.Answer.TheVariants.{Done, Waiting, TimedOut}
use Rattle.rules.specs.declared.Outcome.{Outcome}
use Rattle.rules.specs.Refusals.{is_free}
use Rattle.rules.specs.Blocks.{caller_row}
use Rattle.rules.specs.Effects as rule
use Rattle.rules.specs.Finish.{still_in, waited_again, closed_done, lock_finished, push_finished, pop_finished, carried_out, finished}
use Rattle.rules.proofs.Cond.{branches}
use Rattle.parts.specs.Spots.{named_by_wait}
use Rattle.parts.specs.Taken.{tag, taken}
use Rattle.parts.specs.Update.{map_at as part_map}
use Rattle.parts.specs.Blocks.{closed as closed_parts, left}
use Rattle.parts.specs.Effects.{ends}
use Rattle.parts.specs.Finish as part
use Rattle.parts.proofs.PutBack.{Begins, back, back_in, placed, spot_at, ended, put-word-back, take-word-back, again-back, closed-back, left_back, locked-closed, pushed-closed, popped-closed}

-- two choices by tests that agree
by-same : {A B C : Type 0} (f : A → C) (g : B → C) {b t : Bool} {x y : A} {z w : B} → b ≡ t → f x ≡ g z → f y ≡ g w → f (cond b x y) ≡ g (cond t z w)
by-same f g {t = t} {x = x} {y = y} e p q = ap (λ (v : Bool). f (cond v x y)) e ∙ branches f g t p q

module _ (k : Kernel) where
  -- the row that is taken is the caller's
  pub row_back : (w : Wait) → (taken k (spot_at k w)).row ≡ caller_row k
  row_back Nothing = refl
  row_back w = refl

  done-back : (w : Wait) → back k (spot_at k w) (part.closed_done (taken k (spot_at k w))) ≡ closed_done k
  done-back w = ended (closed-back k w) Done

  wait-back : (w : Wait) → back k (spot_at k w) (part.waited_again (taken k (spot_at k w)) w) ≡ waited_again k w
  wait-back w =
      by-same (back k (spot_at k w)) (λ (o : Outcome). o) (ap (λ (p : Process). limited w && eqb p.counter 0) (row_back w)) (ended (closed-back k w) TimedOut)
      (ended (again-back k w) Waiting)

  lock-back : (i : ℕ) (l : Bool) → back k (spot_at k (Mutex i l)) (part.lock_finished (taken k (spot_at k (Mutex i l))) i l) ≡ lock_finished k i l
  lock-back i l =
      branches (back k (spot_at k (Mutex i l))) (λ (o : Outcome). o) (is_free (mutex_at k i).owner) (ended (locked-closed k i) Done) (wait-back (Mutex i l))

  module _ (room : List ℕ) (a : ℕ) where
    push-back : (i x : ℕ) (e : End) → Starts k.channel i (length room) a
        → back_in k room a (spot_at k (Push i x e)) (part.push_finished (taken k (spot_at k (Push i x e))) (lent room a) i x e) ≡ push_finished k room i x e
    push-back i x e b =
        branches (back_in k room a (spot_at k (Push i x e))) (λ (o : rule.Effect). o) (rule.has_room (channel_at k i))
        (put-word-back k room a i e b (pushed-closed k i e) x) (placed k room a _ (part.waited_again (taken k (spot_at k (Push i x e))) (Push i x e)) (wait-back (Push i x e)))

    pop-back : (i : ℕ) (e : End) (l : Bool) → Starts k.channel i (length room) a
        → back k (spot_at k (Pop i e l)) (part.pop_finished (taken k (spot_at k (Pop i e l))) (lent room a) i e l) ≡ pop_finished k room i e l
    pop-back i e l b =
        branches (back k (spot_at k (Pop i e l))) (λ (o : Outcome). o) (rule.has_item (channel_at k i)) (take-word-back k room a i e b (popped-closed k i e))
        (wait-back (Pop i e l))

    carried-back : (w : Wait) → Begins k (length room) a (named_by_wait w)
        → back_in k room a (spot_at k w) (part.carried_out (taken k (spot_at k w)) (lent room a) w) ≡ carried_out k room w
    carried-back (Mutex i l) b = placed k room a _ (part.lock_finished (taken k (spot_at k (Mutex i l))) i l) (lock-back i l)
    carried-back (Push i x e) b = push-back i x e b
    carried-back (Pop i e l) b = placed k room a _ (part.pop_finished (taken k (spot_at k (Pop i e l))) (lent room a) i e l) (pop-back i e l b)
    carried-back w b = placed k room a _ (part.closed_done (taken k (spot_at k w))) (done-back w)

    -- still in the map or not
    map-taken : (w : Wait) → part_map (taken k (spot_at k w)) (place_of w) ≡ map_at k (place_of w)
    map-taken Nothing = refl
    map-taken w = refl

    still_back : (w : Wait) → part.still_in (taken k (spot_at k w)) w ≡ still_in k w
    still_back w =
        ap (λ (m : ℕ). meets m (tag k).0) (map-taken w) ∙ meets-tag (map_at k (place_of w)) k.running.0

    finished-back : (w : Wait) → Begins k (length room) a (named_by_wait w) → back_in k room a (spot_at k w) (part.finished (taken k (spot_at k w)) (lent room a) w) ≡ finished k room w
    finished-back w b =
        by-same (back_in k room a (spot_at k w)) (λ (o : rule.Effect). o) (still_back w) (placed k room a _ (ends TimedOut (left (closed_parts (taken k (spot_at k w))) (place_of w))) (ended (left_back k w) TimedOut)) (carried-back w b)

    -- of the caller's own wait
    pub finish-back : (w : Wait) → (caller_row k).wait ≡ w → Begins k (length room) a (named_by_wait w)
        → back_in k room a (spot_at k w) (part.finished (taken k (spot_at k w)) (lent room a) (taken k (spot_at k w)).row.wait) ≡ finished k room w
    finish-back w e b =
        ap (λ (v : Wait). back_in k room a (spot_at k w) (part.finished (taken k (spot_at k w)) (lent room a) v)) (ap (λ (p : Process). p.wait) (row_back w) ∙ e) ∙ finished-back w b
