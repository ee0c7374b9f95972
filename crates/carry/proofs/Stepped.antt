-- An accepted call over the parts that it works on and over the part of the room that it is lent, both put back, and the counters that fall at a tick, is the
-- document's effect. Assumes nothing.
use Rattle.std.proofs.Common.{◌≡◌, ℕ, min, List, length, refl, sym, ap, ◌∙◌, subst, Ok}
use Rattle.std.proofs.lemmas.List.{set-get_or}
use Rattle.ring.specs.Ring.{put_words}
use Rattle.record.specs.declared.Kernel.{Kernel}
use Rattle.record.specs.Record.{channel_at}
use Rattle.room.specs.Room.{offset}
use Rattle.room.proofs.Lent.{lent as lent_from, back, kept as kept_whole, put_words-mid, read_words-mid}
use Rattle.rules.specs.declared.Call.{Call}
use Rattle.rules.specs.declared.Call.TheVariants as call
use Rattle.rules.specs.declared.Interrupt.TheVariants as interrupt
use Rattle.rules.specs.declared.Reading.{Reading}
use Rattle.rules.specs.declared.Reading.TheVariants as reading
use Rattle.rules.specs.declared.Named.TheVariants as named
use Rattle.rules.specs.Answers.{Said, said, done, value}
use Rattle.rules.specs.Blocks.{caller_row}
use Rattle.rules.specs.Calls.{named_by_reading}
use Rattle.rules.specs.Refusals.{verdict}
use Rattle.rules.specs.Effects.{value_read, ticked, written, words_written, read_out, words_read}
use Rattle.rules.specs.Step.{Result, keeping_block, effect}
use Rattle.parts.specs.declared.Parts.{Parts}
use Rattle.parts.specs.declared.Spot.{Spot}
use Rattle.parts.specs.Taken.{taken, put_back}
use Rattle.parts.specs.Effects as part
use Rattle.parts.specs.Step as worked
use Rattle.parts.proofs.PutBack.{spot, of, kept, exited-back, signalled-back, unlocked-back, written_back, read_back}
use Rattle.parts.proofs.Requests.{requested-back}
use Rattle.parts.proofs.Finished.{finish-back}
use Rattle.carry.specs.Targets.{worked_on, lent}
use Rattle.carry.specs.Ticks.{is_tick, after_tick}
use Rattle.carry.specs.Needed.{Needed}
use Rattle.carry.proofs.Accepted.{Start, needed, request-begins, finish-begins, write-begins, read-begins}

-- what was done over the parts and the part from a on, put back
abbrev pub put : Kernel → List ℕ → ℕ → List ℕ → Call → worked.Result → Result
put k room a from c r = record {
  answer = said r.answer;
  kernel = after_tick (is_tick c) (put_back k (worked_on k c) r.parts);
  room = back room a r.part;
  block = lent c from r.block;
}

module _ (k : Kernel) (room from to : List ℕ) (a : ℕ) where
  value-back : (r : Reading) → part.value_read (of k (named_by_reading r)) r ≡ value_read k r
  value-back reading.Running = refl
  value-back r = refl

  -- the call over its parts
  abbrev over : Call → worked.Result
  over c = worked.effect (taken k (worked_on k c)) (lent_from room a) from to c

  -- room and block as they came
  abbrev left : Said → Kernel → List ℕ → Result
  left s m r = record { answer = s; kernel = m; room = r; block = to }

  keeps : (s : Said) {m n : Kernel} → m ≡ n → left s m (back room a (lent_from room a)) ≡ left s n room
  keeps s {n = n} e = ap (λ (m : Kernel). left s m (back room a (lent_from room a))) e ∙ ap (left s n) (kept_whole room a)

  pub effect-back : (c : Call) → verdict k (length room) c ≡ Ok tt → Start k room a c → put k room a from c (over c) ≡ effect k room (lent c from to) c
  effect-back call.Enter p s = keeps done (simp set-get_or)
  effect-back call.Exit p s = keeps done (exited-back k named.Nothing).whole
  effect-back call.Switch p s = keeps done (simp set-get_or)
  effect-back (call.Reading r) p s =
      keeps (value (part.value_read (of k (named_by_reading r)) r)) (kept k (spot k (named_by_reading r))).whole
      ∙ ap (λ (v : ℕ). record { answer = value v; kernel = k; room = room; block = to }) (value-back r)
  effect-back (call.Process r) p s = ap (keeping_block to) (requested-back k room a r (request-begins k room a r p s))
  effect-back call.Finish p s = ap (keeping_block to) (finish-back k room a (caller_row k).wait refl (finish-begins k room a p s))
  effect-back (call.Interrupt interrupt.Tick) p s = keeps done (ap ticked (kept k (spot k named.Nothing)).whole)
  effect-back (call.Interrupt (interrupt.Signal i)) p s = keeps done (signalled-back k i).whole
  effect-back (call.Interrupt (interrupt.Unlock i)) p s = keeps done (unlocked-back k i).whole
  effect-back (call.Interrupt (interrupt.Write i)) p s =
      let n = words_written k i from in
      ap (λ (m : Kernel). record { answer = value n; kernel = m; room = back room a (put_words (lent_from room a) 0 (channel_at k i) from n); block = from }) (written_back k i n).whole
      ∙ ap (λ (r : List ℕ). record { answer = value n; kernel = written k i n; room = r; block = from }) (put_words-mid room (write-begins k room a i p s) from n)
  effect-back (call.Interrupt (interrupt.Read i)) p s =
      let n = words_read k i to in
      ap (λ (m : Kernel). record { answer = value n; kernel = m; room = back room a (lent_from room a); block = part.block_read (of k (named.Channel i)) (lent_from room a) to n }) (read_back k i n).whole
      ∙ ap (λ (r : List ℕ). record { answer = value n; kernel = read_out k i n; room = r; block = part.block_read (of k (named.Channel i)) (lent_from room a) to n }) (kept_whole room a)
      ∙ ap (λ (l : List ℕ). record { answer = value n; kernel = read_out k i n; room = room; block = l }) (read_words-mid room (read-begins k room a i p s) to n)

  -- s the spot, x the parts, r what was done over them, m the record after
  module _ (c : Call) (p : verdict k (length room) c ≡ Ok tt) (s : Spot) (x : Parts) (is-spot : s ≡ worked_on k c) (is-parts : x ≡ taken k s)
      (is-start : a ≡ min (offset k.channel s.channel) (length room)) where
    start-so : Start k room a c
    start-so = is-start ∙ ap (λ (z : Spot). min (offset k.channel z.channel) (length room)) is-spot

    parts-so : taken k (worked_on k c) ≡ x
    parts-so = ap (taken k) (sym is-spot) ∙ sym is-parts

    pub needed-so : Needed x (length (lent_from room a)) c
    needed-so = subst (λ (z : Parts). Needed z (length (lent_from room a)) c) parts-so (needed k room a c p start-so)

    pub effect-so : (r : worked.Result) (m : Kernel) → worked.effect x (lent_from room a) from to c ≡ r → m ≡ after_tick (is_tick c) (put_back k s r.parts)
        → effect k room (lent c from to) c ≡ record { answer = said r.answer; kernel = m; room = back room a r.part; block = lent c from r.block }
    effect-so r m is-done is_m =
        sym (effect-back c p start-so) ∙ ap (put k room a from c) (ap (λ (z : Parts). worked.effect z (lent_from room a) from to c) parts-so ∙ is-done)
        ∙ ap (λ (z : Kernel). record { answer = said r.answer; kernel = z; room = back room a r.part; block = lent c from r.block })
        (ap (λ (z : Spot). after_tick (is_tick c) (put_back k z r.parts)) (sym is-spot) ∙ sym is_m)
