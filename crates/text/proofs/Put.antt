-- Texts put one after the other are their concatenation, put at once. Assumes nothing.
use Rattle.std.proofs.Common.{ℕ, suc, ◌+◌, ◌-◌, ◌≤◌, ◌≡◌, sym, ap, ◌∙◌, arith, List, [], ◌∷◌, ◌++◌, length, set, take, drop, length-append, length-take-le, append_assoc}
use Rattle.std.proofs.lemmas.List.Edits.{sets, sets-eq}
use Rattle.std.proofs.Math.Seq.{length-sets, take_at}
use borrow.Rule.Slice.PartMut.{put_mid, Post-is}
use Rattle.text.specs.Put.{Put}

pub sets-append : (old : List ℕ) (at : ℕ) (s t : List ℕ) → sets old at (s ++ t) ≡ sets (sets old at s) (at + length s) t
sets-append old at [] t = ap (λ (k : ℕ). sets old k t) (omega arith)
sets-append old at (b ∷ s) t = sets-append (set old at b) (suc at) s t ∙ ap (λ (k : ℕ). sets (sets (set old at b) (suc at) s) k t) (omega arith)

-- one text and then another
pub put_then :
    {a b c : List ℕ} {i j k : ℕ} {s t : List ℕ} →
    Put a i s j b → Put b j t k c → Put a i (s ++ t) k c
put_then {a} {b} {c} {i} {j} {k} {s} {t} p q = record {
  bytes =
      q.bytes ∙ ap (λ (old : List ℕ). sets old j t) p.bytes ∙ ap (λ (at : ℕ). sets (sets a i s) at t) p.place
      ∙ sym (sets-append a i s t);
  place = simp length-append (omega (arith, p.place, q.place));
}

-- the same text, by another name
pub put_as : {a b : List ℕ} {i j : ℕ} {s : List ℕ} (t : List ℕ) → s ≡ t → Put a i s j b → Put a i t j b
put_as {a} {b} {i} {j} t e p = rw (← e) p

-- what stands before the place past a text: what stood before the text, then the text
pub put_front :
    {a b : List ℕ} {i j : ℕ} {s : List ℕ} → Put a i s j b → i + length s ≤ length a →
    take j b ≡ take i a ++ s
put_front {a} {b} {i} {j} {s} p h =
    let e : length (take i a ++ s) ≡ j = simp length-append (omega (arith, length-take-le i a (omega arith), p.place)) in
    ap (take j) (p.bytes ∙ sets-eq s a i h) ∙ take_at (take i a ++ s) _ j e

pub put-length : {a b : List ℕ} {i j : ℕ} {s : List ℕ} → Put a i s j b → length b ≡ length a
put-length {a} {b} {i} {j} {s} p = ap length p.bytes ∙ length-sets a i s

-- a text put is a part of the room with other bytes
pub put-part : {a b : List ℕ} {i j : ℕ} {s : List ℕ} → Put a i s j b → i + length s ≤ length a → b ≡ put_mid i (j - i) a s
put-part {a} {b} {i} {j} {s} p h =
    p.bytes ∙ sets-eq s a i h
    ∙ ap (λ (n : ℕ). take i a ++ s ++ drop n a) (sym p.place)
    ∙ ap (λ (l : List ℕ). take i a ++ s ++ l) (sym (Post-is i j a (omega (arith, p.place))))
    ∙ append_assoc (take i a) s _
