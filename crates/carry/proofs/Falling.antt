-- One counter more falls: of the rows xs that are still gone over, ys those after them. Assumes nothing.
use Rattle.std.proofs.Common.{ℕ, ◌+◌, ◌-◌, ◌^◌, ◌<◌, ◌≡◌, cond, eqb, bit_or, List, ◌++◌, length, get_or, set, sym, ap, ◌∙◌, add-one, ne_eqb}
use Rattle.std.specs.Int.Bits.{or_zero_r}
use Rattle.std.proofs.lemmas.List.{get_or_append_left, set-append_left}
use Rattle.record.specs.declared.Process.{Process}
use Rattle.record.specs.Record.{no_process}
use Rattle.rules.specs.Effects.{Counted, fallen, counted}

-- a row whose counter has fallen
abbrev pub lower : Process → Process
lower x = record { counter = x.counter - 1; wait = x.wait }

pub falls : (p r s : ℕ) (xs ys : List Process) (c : Counted) → p < length xs → record { ready = r; process = xs ++ ys } ≡ counted p c
    → s ≡ bit_or r (cond (eqb (get_or xs p no_process).counter 1) (2 ^ p) 0)
    → record { ready = s; process = set xs p (lower (get_or xs p no_process)) ++ ys } ≡ counted (p + 1) c
unfolding counted
falls p r s xs ys c h e q =
    let same : get_or (xs ++ ys) p no_process ≡ get_or xs p no_process = get_or_append_left xs ys no_process p h in
    rw add-one (rw q (sym
    (ap (λ (x : Process). record { ready = bit_or r (cond (eqb x.counter 1) (2 ^ p) 0); process = set (xs ++ ys) p (lower x) }) same
    ∙ ap (λ (l : List Process). record { ready = bit_or r (cond (eqb (get_or xs p no_process).counter 1) (2 ^ p) 0); process = l })
    (set-append_left xs ys p (lower (get_or xs p no_process)) h))) ∙ ap (fallen p) e)

-- its process becomes ready, or none does
pub readied : (n r p : ℕ) → n ≡ 1 → bit_or r (2 ^ p) ≡ bit_or r (cond (eqb n 1) (2 ^ p) 0)
readied n r p e = rw e

pub none-readied : (n r p : ℕ) → (n ≡ 1 → ⊥) → r ≡ bit_or r (cond (eqb n 1) (2 ^ p) 0)
none-readied n r p h = rw (ne_eqb n 1 h) (sym (or_zero_r r))
