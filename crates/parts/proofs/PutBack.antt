-- A call worked over its parts and put back is the document's call of the whole record: block by block and call by call. A slot that a call leaves alone is
-- put back as it was taken. Assumes nothing.
use Rattle.std.proofs.Common.{ℕ, ◌≡◌, refl, ap, ◌∙◌, Bool, true, false, cond, eqb, List, length}
use Rattle.std.proofs.lemmas.List.{set-get_or}
use Rattle.maps.specs.declared.Number.{Number}
use Rattle.ring.specs.declared.End.{End}
use Rattle.record.specs.declared.Kernel.{Kernel}
use Rattle.record.specs.declared.Wait.{Wait}
use Rattle.record.specs.declared.Wait.TheVariants.{Nothing}
use Rattle.record.specs.Record.{process_at}
use Rattle.record.specs.Places.{place_of}
use Rattle.room.specs.Room.{Starts}
use Rattle.room.proofs.Lent.{lent, back as back_whole, kept as kept-whole, put-end-mid, take-mid}
use Rattle.rules.specs.declared.Named.{Named}
use Rattle.rules.specs.declared.Named.TheVariants as named
use Rattle.rules.specs.declared.Answer.{Answer}
use Rattle.rules.specs.declared.Answer.TheVariants.{Done, Value}
use Rattle.rules.specs.declared.Outcome.{Outcome}
use Rattle.rules.specs.Blocks.{caller, choose, opened, closed, again, left}
use Rattle.rules.specs.Effects as rule
use Rattle.parts.specs.declared.Parts.{Parts}
use Rattle.parts.specs.declared.Spot.{Spot}
use Rattle.parts.specs.Spots.{slots, named_by_wait}
use Rattle.parts.specs.Taken.{taken, put_back}
use Rattle.parts.specs.Blocks as block
use Rattle.parts.specs.Effects as part

-- ---- what is put back
abbrev pub back : Kernel → Spot → part.Did → Outcome
back k s d = record { answer = d.answer; kernel = put_back k s d.parts }

-- and the room, of which the part from a on was lent
abbrev pub back_in : Kernel → List ℕ → ℕ → Spot → part.Effect → rule.Effect
back_in k room a s e = record { answer = e.answer; kernel = put_back k s e.parts; room = back_whole room a e.part }

-- the part as it came
pub placed : (k : Kernel) (room : List ℕ) (a : ℕ) (s : Spot) (d : part.Did) {o : Outcome} → back k s d ≡ o
    → back_in k room a s (part.in_place (lent room a) d) ≡ rule.in_place room o
placed k room a s d e =
    ap (λ (r : List ℕ). record { answer = d.answer; kernel = put_back k s d.parts; room = r }) (kept-whole room a) ∙ ap (rule.in_place room) e

-- where the part of the channel that is named starts
abbrev pub Begins : Kernel → ℕ → ℕ → Named → Type 0
Begins k n a (named.Channel i) = Starts k.channel i n a
Begins k n a m = Unit

-- the spot of a call that names n, and of a wait
abbrev pub spot : Kernel → Named → Spot
spot k n = slots (caller k) n

abbrev pub spot_at : Kernel → Wait → Spot
spot_at k w = spot k (named_by_wait w)

-- the parts that it takes
abbrev pub of : Kernel → Named → Parts
of k n = taken k (spot k n)

-- the parts x put back make the record m; their setup is the record's, whose mode choose looks at
pub record Back (k : Kernel) (s : Spot) (x : Parts) (m : Kernel) : Type 0 where
  pub whole : put_back k s x ≡ m
  pub setup : x.setup ≡ k.setup

pub kept : (k : Kernel) (s : Spot) → Back k s (taken k s) k
kept k s = record { whole = simp set-get_or; setup = refl }

pub either : (k : Kernel) (s : Spot) (b : Bool) {x y : Parts} {m n : Kernel} → Back k s x m → Back k s y n → Back k s (cond b x y) (cond b m n)
either k s true p q = p
either k s false p q = q

-- choose, and an answer beside it
choose-back : (k : Kernel) (s : Spot) (x : Parts) → x.setup ≡ k.setup → put_back k s (block.choose x) ≡ choose (put_back k s x)
unfolding choose
choose-back k s x e = rw e

pub chosen : {k : Kernel} {s : Spot} {x : Parts} {m : Kernel} → Back k s x m → put_back k s (block.choose x) ≡ choose m
chosen {k} {s} {x} b = choose-back k s x b.setup ∙ ap choose b.whole

pub ended : {k : Kernel} {s : Spot} {x : Parts} {m : Kernel} → Back k s x m → (a : Answer) → back k s (part.ends a x) ≡ rule.ends a m
ended b a = ap (λ (y : Kernel). rule.answered a y) (chosen b)

-- ---- blocks
pub opened-back : (k : Kernel) (w : Wait) (t : ℕ) → Back k (spot_at k w) (block.opened (taken k (spot_at k w)) w t) (opened k w t)
unfolding opened
opened-back k Nothing t = record { whole = simp set-get_or; setup = refl }
opened-back k w t = record { whole = simp set-get_or; setup = refl }

pub again-back : (k : Kernel) (w : Wait) → Back k (spot_at k w) (block.again (taken k (spot_at k w)) w) (again k w)
unfolding again
again-back k Nothing = record { whole = simp set-get_or; setup = refl }
again-back k w = record { whole = simp set-get_or; setup = refl }

pub closed-back : (k : Kernel) (w : Wait) → Back k (spot_at k w) (block.closed (taken k (spot_at k w))) (closed k)
unfolding closed
closed-back k Nothing = record { whole = simp set-get_or; setup = refl }
closed-back k w = record { whole = simp set-get_or; setup = refl }

-- closed, and the map left
pub left_back : (k : Kernel) (w : Wait) → Back k (spot_at k w) (block.left (block.closed (taken k (spot_at k w))) (place_of w)) (left (closed k) (place_of w))
unfolding closed
left_back k Nothing = record { whole = simp set-get_or; setup = refl }
left_back k w = record { whole = simp set-get_or; setup = refl }

-- ---- what the calls do to a service or a process
module _ (k : Kernel) where
  pub signalled-back : (f : ℕ) → Back k (spot k (named.Flag f)) (part.signalled (of k (named.Flag f))) (rule.signalled k f)
  unfolding rule.signalled
  signalled-back f = record { whole = simp set-get_or; setup = refl }

  pub cleared-back : (f : ℕ) → Back k (spot k (named.Flag f)) (part.cleared (of k (named.Flag f))) (rule.cleared k f)
  unfolding rule.cleared
  cleared-back f = record { whole = simp set-get_or; setup = refl }

  pub locked-back : (i : ℕ) → Back k (spot k (named.Mutex i)) (part.locked (of k (named.Mutex i))) (rule.locked k i)
  unfolding rule.locked
  locked-back i = record { whole = simp set-get_or; setup = refl }

  pub locked-closed : (i : ℕ) → Back k (spot k (named.Mutex i)) (part.locked (block.closed (of k (named.Mutex i)))) (rule.locked (closed k) i)
  unfolding rule.locked closed
  locked-closed i = record { whole = simp set-get_or; setup = refl }

  pub unlocked-back : (i : ℕ) → Back k (spot k (named.Mutex i)) (part.unlocked (of k (named.Mutex i))) (rule.unlocked k i)
  unfolding rule.unlocked
  unlocked-back i = record { whole = simp set-get_or; setup = refl }

  pub pushed_back : (i : ℕ) (e : End) → Back k (spot k (named.Channel i)) (part.pushed (of k (named.Channel i)) e) (rule.pushed k i e)
  unfolding rule.pushed
  pushed_back i e = record { whole = simp set-get_or; setup = refl }

  pub pushed-closed : (i : ℕ) (e : End) → Back k (spot k (named.Channel i)) (part.pushed (block.closed (of k (named.Channel i))) e) (rule.pushed (closed k) i e)
  unfolding rule.pushed closed
  pushed-closed i e = record { whole = simp set-get_or; setup = refl }

  pub popped_back : (i : ℕ) (e : End) → Back k (spot k (named.Channel i)) (part.popped (of k (named.Channel i)) e) (rule.popped k i e)
  unfolding rule.popped
  popped_back i e = record { whole = simp set-get_or; setup = refl }

  pub popped-closed : (i : ℕ) (e : End) → Back k (spot k (named.Channel i)) (part.popped (block.closed (of k (named.Channel i))) e) (rule.popped (closed k) i e)
  unfolding rule.popped closed
  popped-closed i e = record { whole = simp set-get_or; setup = refl }

  pub flushed-back : (i : ℕ) → Back k (spot k (named.Channel i)) (part.flushed (of k (named.Channel i))) (rule.flushed k i)
  unfolding rule.flushed
  flushed-back i = record { whole = simp set-get_or; setup = refl }

  pub forced-back : (p : Number) → Back k (spot k (named.Process p)) (part.forced (of k (named.Process p)) p.0) (rule.forced k p.0)
  unfolding rule.forced
  forced-back p = record { whole = simp set-get_or; setup = refl }

  pub woken-back : (p : Number) → Back k (spot k (named.Process p)) (part.woken (of k (named.Process p)) p.0) (rule.woken k p.0)
  woken-back p = either k (spot k (named.Process p)) (eqb (process_at k p.0).counter 0) (kept k (spot k (named.Process p))) (forced-back p)

  pub written_back : (i n : ℕ) → Back k (spot k (named.Channel i)) (part.written (of k (named.Channel i)) n) (rule.written k i n)
  unfolding rule.written
  written_back i n = either k (spot k (named.Channel i)) (eqb n 0) (kept k (spot k (named.Channel i))) (record { whole = simp set-get_or; setup = refl })

  pub read_back : (i n : ℕ) → Back k (spot k (named.Channel i)) (part.read_out (of k (named.Channel i)) n) (rule.read_out k i n)
  unfolding rule.read_out
  read_back i n = either k (spot k (named.Channel i)) (eqb n 0) (kept k (spot k (named.Channel i))) (record { whole = simp set-get_or; setup = refl })

  pub exited-back : (n : Named) → Back k (spot k n) (part.exited (of k n)) (rule.exited k)
  unfolding choose
  exited-back n =
      either k (spot k n) (eqb k.depth 1) (record { whole = simp set-get_or; setup = refl }) (record { whole = simp set-get_or; setup = refl })

-- ---- the word that is put in the part, or taken from it
module _ (k : Kernel) (room : List ℕ) (a i : ℕ) (e : End) (b : Starts k.channel i (length room) a) where
  pub put-word-back : {x : Parts} {m : Kernel} → Back k (spot k (named.Channel i)) x m → (v : ℕ)
      → back_in k room a (spot k (named.Channel i)) (record { answer = Done; parts = block.choose x; part = part.part_pushed (of k (named.Channel i)) (lent room a) e v })
      ≡ record { answer = Done; kernel = choose m; room = rule.room_pushed k room i e v }
  put-word-back {m = m} h v =
      ap (λ (n : Kernel). record { answer = Done; kernel = n; room = back_whole room a (part.part_pushed (of k (named.Channel i)) (lent room a) e v) }) (chosen h)
      ∙ ap (λ (r : List ℕ). record { answer = Done; kernel = choose m; room = r }) (put-end-mid room b e v)

  pub take-word-back : {x : Parts} {m : Kernel} → Back k (spot k (named.Channel i)) x m
      → back k (spot k (named.Channel i)) (part.ends (Value (part.word_popped (of k (named.Channel i)) (lent room a) e)) x) ≡ rule.ends (Value (rule.word_popped k room i e)) m
  take-word-back {m = m} h =
      ended h _ ∙ ap (λ (w : ℕ). rule.ends (Value w) m) (take-mid room b e)
