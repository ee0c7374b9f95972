-- Nothing is printed exactly if nothing changed: so no field is left out, and none is printed in vain. Assumes nothing.
use Rattle.std.proofs.Common.{◌≡◌, ◌↔◌, ℕ, zero, suc, ◌<◌, eqb, Bool, true, cond, List, [], ◌∷◌, ◌++◌, length, refl, sym, ◌∙◌, arith, rules, not-suc-le-zero, below_more, ext_get_or}
use Rattle.ring.specs.declared.Channel.{Channel}
use Rattle.record.specs.declared.Kernel.{Kernel}
use Rattle.record.specs.declared.Setup.{Setup}
use Rattle.record.specs.declared.Process.{Process}
use Rattle.record.specs.declared.Flag.{Flag}
use Rattle.record.specs.declared.Mutex.{Mutex}
use Rattle.record.specs.Record.{no_process, no_flag, no_mutex, no_channel}
use Rattle.record.proofs.Lengths.{Shaped}
use Rattle.changes.specs.declared.words.Words.{Words}
use Rattle.changes.specs.Values.{bit}
use Rattle.changes.specs.Changes.{setup_changes, number_changes, process_change, flag_change, mutex_change, channel_change, below, slots, changes}
use Rattle.changes.specs.Words.{word_changes}
use Rattle.changes.proofs.Same.{same-wait, same-owner}

-- ---- texts that are empty
append-iff : (s t : List ℕ) → (s ++ t ≡ []) ↔ ((s ≡ []) × (t ≡ []))
append-iff [] t = (λ e. (refl, e), λ h. h.1)
append-iff (x ∷ s) t = (λ e. (cc, cc), λ h. cc)

change-iff : (same : Bool) (x : ℕ) (rest : List ℕ) → (cond same [] (x ∷ rest) ≡ []) ↔ (same ≡ true)
change-iff same x rest = search rules

eqb-iff : (m n : ℕ) → (eqb m n ≡ true) ↔ (m ≡ n)
eqb-iff m n = search rules

pub bit-iff : (a b : Bool) → (bit a ≡ bit b) ↔ (a ≡ b)
bit-iff a b = search rules

below-iff : (n : ℕ) (f : ℕ → List ℕ) → (below n f ≡ []) ↔ ((i : ℕ) → i < n → f i ≡ [])
unfolding below
below-iff zero f = (λ e i h. absurd (not-suc-le-zero h), λ g. refl)
below-iff (suc n) f = (
  λ e. let h = (append-iff (below n f) (f n)).0 e in λ i l. below_more (λ j. f j ≡ []) n ((below-iff n f).0 h.0) h.1 i (omega arith),
  λ g. (append-iff (below n f) (f n)).1 ((below-iff n f).1 (λ i h. g i (omega arith)), g n (omega arith)),
)

-- no field is printed exactly if all are the same
ruleset facts = (append-iff, change-iff, eqb-iff, bit-iff, same-wait, same-owner)

-- ---- what stands once
setup-iff : (a b : Setup) → (setup_changes a b ≡ []) ↔ (a ≡ b)
unfolding setup_changes
setup-iff a b = simp facts (search rules)

numbers-iff :
    (a b : Kernel) → (number_changes a b ≡ []) ↔
    ((a.depth ≡ b.depth) × (a.running ≡ b.running) × (a.next ≡ b.next) × (a.ready ≡ b.ready) × (a.ticks ≡ b.ticks))
unfolding number_changes
numbers-iff a b = simp facts (search rules)

-- ---- a slot
process-iff : (i : ℕ) (a b : Process) → (process_change i a b ≡ []) ↔ (a ≡ b)
unfolding process_change
process-iff i a b = simp facts (search rules)

flag-iff : (i : ℕ) (a b : Flag) → (flag_change i a b ≡ []) ↔ (a ≡ b)
unfolding flag_change
flag-iff i a b = simp facts (search rules)

mutex-iff : (i : ℕ) (a b : Mutex) → (mutex_change i a b ≡ []) ↔ (a ≡ b)
unfolding mutex_change
mutex-iff i a b = simp facts (search rules)

channel-iff : (i : ℕ) (a b : Channel) → (channel_change i a b ≡ []) ↔ (a ≡ b)
unfolding channel_change
channel-iff i a b = simp facts (search rules)

-- ---- a table
module _
    {T : Type 0} (change : ℕ → T → T → List ℕ) (none : T) (slot-iff : (i : ℕ) (x y : T) → (change i x y ≡ []) ↔ (x ≡ y)) (n : ℕ)
  where
    table-none : (a : List T) → slots change none a a n ≡ []
    table-none a = (below-iff n _).1 (λ i h. (slot-iff i _ _).1 refl)

    none-table : (a b : List T) → length a ≡ n → length b ≡ n → slots change none a b n ≡ [] → a ≡ b
    none-table a b l m e = ext_get_or none a b (l ∙ sym m) (λ i h. (slot-iff i _ _).0 ((below-iff n _).0 e i (omega arith)))

-- ---- the record
pub changes-none : (k : Kernel) → changes k k ≡ []
unfolding changes
changes-none k =
    simp (
      append-iff,
      setup-iff,
      numbers-iff,
      table-none process_change no_process process-iff,
      table-none flag_change no_flag flag-iff,
      table-none mutex_change no_mutex mutex-iff,
      table-none channel_change no_channel channel-iff,
    ) (search rules)

pub none-changed : (a b : Kernel) → Shaped a → Shaped b → changes a b ≡ [] → a ≡ b
unfolding changes
none-changed a b s t e =
    let h = simp (append-iff, setup-iff, numbers-iff) at e in
    let process = none-table process_change no_process process-iff 32 a.process b.process s.process t.process h.0.0.0.1 in
    let flag = none-table flag_change no_flag flag-iff 8 a.flag b.flag s.flag t.flag h.0.0.1 in
    let mutex = none-table mutex_change no_mutex mutex-iff 8 a.mutex b.mutex s.mutex t.mutex h.0.1 in
    let channel = none-table channel_change no_channel channel-iff 4 a.channel b.channel s.channel t.channel h.1 in
    search rules

-- ---- the room, the block
pub words-none : (which : Words) (s : List ℕ) → word_changes which s s ≡ []
words-none which s = simp facts (refl, (below-iff _ _).1 (λ j h. simp facts refl))

pub none-words : (which : Words) (s t : List ℕ) → word_changes which s t ≡ [] → s ≡ t
none-words which s t e =
    let h = simp facts at e in
    ext_get_or 0 s t h.0 (λ j l. simp facts at ((below-iff _ _).0 h.1 j (omega arith)))
