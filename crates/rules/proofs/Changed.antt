-- One user process changes: what is left of rules 2 to 5 when it opens a wait, closes it, goes back into its map, or has its counter set.
-- Assumes nothing.
use Rattle.std.proofs.Common.{◌≡◌, ℕ, ◌-◌, ◌^◌, ◌<◌, ◌≤◌, Bool, true, false, cond, not, ◌&&◌, ◌||◌, eqb, List, length, get_or, set, bit_or, sym, refl, ap, ◌∙◌, subst, true≢false, arith, length-set, get_or-set_other, get_or-set_same, ne_eqb, eqb-true}
use Rattle.std.proofs.Math.Path.{fun_ext}
use Rattle.std.proofs.Math.Bool.{or-true}
use Rattle.std.specs.Int.Bits.{or_lt}
use Rattle.std.proofs.Math.Pow.{pow-lt}
use Rattle.std.proofs.lemmas.Bool.{eqb-false}
use Rattle.maps.specs.Maps.{has, minus}
use Rattle.maps.proofs.Members.{members}
use Rattle.maps.proofs.Bounds.{minus-lt}
use Rattle.record.specs.declared.Process.{Process}
use Rattle.record.specs.declared.Wait.{Wait}
use Rattle.record.specs.Record.{no_process}
use Rattle.record.specs.Places.{Place, nowhere, same_place, is_open, sleeps, limited, place_of}
use Rattle.record.specs.Facts.{Fine, Waits, allowed}
use Rattle.record.proofs.Place.{same_self, closed-nowhere}
use Rattle.rules.proofs.Allowed as status
use Rattle.rules.proofs.Put.{Put, put-at, by_place}

pub fine-same : {real : Place → Bool} {r r' : Bool} {x x' : Process} {i i' : Place → Bool} → r' ≡ r → x' ≡ x → ((a : Place) → i' a ≡ i a)
    → Fine real r x i → Fine real r' x' i'
fine-same {real} {r} {r'} {x} {x'} {i} {i'} e f g h =
    subst (λ (t : Bool). Fine real t x' i') (sym e)
    (subst (λ (y : Process). Fine real r y i') (sym f)
    (subst (λ (j : Place → Bool). Fine real r x j) (fun_ext (λ a. sym (g a))) h))

-- ---- a map that differs at p alone
pub record Touched (p m m' : ℕ) : Type 0 where
  pub others : (q : ℕ) → (p ≡ q → ⊥) → has m' q ≡ has m q

pub entered-touched : (m p : ℕ) → Touched p m (bit_or m (2 ^ p))
entered-touched m p = record { others = λ q h. simp (members, ne_eqb) }

pub left-touched : (m p : ℕ) → Touched p m (minus m (2 ^ p))
left-touched m p = record { others = λ q h. simp (members, ne_eqb) }

pub untouched : (m p : ℕ) → Touched p m m
untouched m p = record { others = λ q h. refl }

put-touched : {maps maps' : Place → ℕ} {b : Place} {m p : ℕ} → Put maps maps' b m → Touched p (maps b) m
    → (a : Place) → Touched p (maps a) (maps' a)
put-touched {maps} {maps'} {b} {m} put t a = record {
  others = λ q h.
      ap (λ (x : ℕ). has x q) (put.puts a)
      ∙ by_place (λ c. has (cond c m (maps a)) q ≡ has (maps a) q) b a (λ e. t.others q h ∙ ap (λ (x : Place). has (maps x) q) e) (λ e. refl);
}

module _ {n : ℕ} {real : Place → Bool} {ready : ℕ} {process : List Process} {maps : Place → ℕ} (s : Waits n real ready process maps) where
  -- a map put is within bounds
  pub put-within : {maps' : Place → ℕ} {b : Place} {m : ℕ} → Put maps maps' b m → m < 2 ^ n → (a : Place) → real a ≡ true → maps' a < 2 ^ n
  put-within {maps'} {b} {m} put h a e =
      subst (λ (x : ℕ). x < 2 ^ n) (sym (put.puts a)) (by_place (λ c. cond c m (maps a) < 2 ^ n) b a (λ q. h) (λ q. s.within a e))

  -- a map put back as it was
  pub repeated : {maps' : Place → ℕ} (b : Place) → Put maps maps' b (maps b) → Waits n real ready process maps'
  repeated {maps'} b put =
      subst (Waits n real ready process)
      (fun_ext (λ a. sym (put.puts a ∙ by_place (λ c. cond c (maps b) (maps a) ≡ maps a) b a (λ e. ap maps e) (λ e. refl)))) s

  -- ---- one user process changes
  module _ (p : ℕ) (user : p < n - 1) where
    here : p < n
    here = omega arith

    abbrev own : Wait
    own = (get_or process p no_process).wait

    pub changed : {ready' : ℕ} {process' : List Process} {maps' : Place → ℕ}
        → length process' ≡ 32 → ready' < 2 ^ n → ((a : Place) → real a ≡ true → maps' a < 2 ^ n)
        → Touched p ready ready' → ((q : ℕ) → (p ≡ q → ⊥) → get_or process' q no_process ≡ get_or process q no_process)
        → ((a : Place) → Touched p (maps a) (maps' a))
        → Fine real (has ready' p) (get_or process' p no_process) (λ a. has (maps' a) p)
        → Waits n real ready' process' maps'
    changed {ready'} {process'} {maps'} l b w tr tp tm f = record {
      long = l;
      ready-within = b;
      within = w;
      idle-ready = tr.others (n - 1) other ∙ s.idle-ready;
      idle-closed = ap (λ (x : Process). is_open x.wait) (tp (n - 1) other) ∙ s.idle-closed;
      each = λ q h. go q h (eqb p q) refl;
    }
      where
        other : p ≡ n - 1 → ⊥
        other e = omega arith

        go : (q : ℕ) → q < n → (t : Bool) → eqb p q ≡ t → Fine real (has ready' q) (get_or process' q no_process) (λ a. has (maps' a) q)
        go q h true e = subst (λ (x : ℕ). Fine real (has ready' x) (get_or process' x no_process) (λ a. has (maps' a) x)) (eqb-true p q e) f
        go q h false e = fine-same (tr.others q (eqb-false p q e)) (tp q (eqb-false p q e)) (λ a. (tm a).others q (eqb-false p q e)) (s.each q h)

    -- an open wait that does not sleep names an existing service
    pub names : is_open own ≡ true → sleeps own ≡ false → real (place_of own) ≡ true
    names o z =
        status.names (limited own) (real (place_of own)) (has ready p) (eqb (get_or process p no_process).counter 0) (has (maps (place_of own)) p)
        (rw (o, z) at (s.each p here).status)

    -- with nothing open it is in no service map
    in-none : real nowhere ≡ false → is_open own ≡ false → (a : Place) → real a ≡ true → has (maps a) p ≡ true → ⊥
    in-none off c a e i = true≢false (sym e ∙ ap real (sym ((s.each p here).only a e i) ∙ closed-nowhere own c) ∙ off)

    module _ (small : n ≤ 32) where
      stored : (x : Process) → get_or (set process p x) p no_process ≡ x
      stored x = get_or-set_same process p x no_process (omega (arith, s.long))

      elsewhere : (x : Process) (q : ℕ) → (p ≡ q → ⊥) → get_or (set process p x) q no_process ≡ get_or process q no_process
      elsewhere x q h = get_or-set_other process p q x no_process (λ e. h (sym e))

      tagged : 2 ^ p < 2 ^ n
      tagged = pow-lt here

      -- its counter is set, and it may become ready
      pub recounted : (t : ℕ) {ready' : ℕ} → ready' < 2 ^ n → Touched p ready ready'
          → allowed (is_open own) (sleeps own) (limited own) (real (place_of own)) (has ready' p) (eqb t 0) (has (maps (place_of own)) p) ≡ true
          → Waits n real ready' (set process p (record { counter = t; wait = own })) maps
      recounted t b tr e =
          changed (length-set process p _ ∙ s.long) b s.within tr (elsewhere _) (λ a. untouched (maps a) p)
          (fine-same refl (stored _) (λ a. refl) (record { only = (s.each p here).only; status = e }))

      -- counter 0 and ready
      pub forced : Waits n real (bit_or ready (2 ^ p)) (set process p (record { counter = 0; wait = own })) maps
      forced =
          let up : has (bit_or ready (2 ^ p)) p ≡ true = simp members in
          recounted 0 (or_lt n _ _ s.ready-within tagged) (entered-touched ready p)
          (rw up
          (status.forced (is_open own) (sleeps own) (limited own) (real (place_of own)) (has ready p) (eqb (get_or process p no_process).counter 0)
          (has (maps (place_of own)) p) (s.each p here).status))

      -- ---- it opens a wait w with limit t; maps' are the maps after
      module _ (w : Wait) (t : ℕ) (was : is_open own ≡ false) (off : real nowhere ≡ false) (now : is_open w ≡ true)
          (limit : limited w ≡ not (eqb t 0)) where
        open-with : {maps' : Place → ℕ} → ((a : Place) → real a ≡ true → maps' a < 2 ^ n) → ((a : Place) → Touched p (maps a) (maps' a))
            → ((a : Place) → real a ≡ true → has (maps' a) p ≡ true → place_of w ≡ a)
            → sleeps w || real (place_of w) ≡ true → sleeps w || has (maps' (place_of w)) p ≡ true
            → Waits n real (minus ready (2 ^ p)) (set process p (record { counter = t; wait = w })) maps'
        open-with {maps'} b tm o e h =
            changed (length-set process p _ ∙ s.long) (minus-lt n ready (2 ^ p) s.ready-within) b (left-touched ready p) (elsewhere _) tm
            (fine-same {r = false} (simp members) (stored _) (λ a. refl) (record {
              only = o;
              status = rw (now, limit) (status.opened (sleeps w) (real (place_of w)) (eqb t 0) (has (maps' (place_of w)) p) e h);
            }))

        pub opened-asleep : sleeps w ≡ true → Waits n real (minus ready (2 ^ p)) (set process p (record { counter = t; wait = w })) maps
        opened-asleep e = open-with s.within (λ a. untouched (maps a) p) (λ a r i. absurd (in-none off was a r i)) (rw e) (rw e)

        pub opened-at : {maps' : Place → ℕ} → real (place_of w) ≡ true → Put maps maps' (place_of w) (bit_or (maps (place_of w)) (2 ^ p))
            → Waits n real (minus ready (2 ^ p)) (set process p (record { counter = t; wait = w })) maps'
        opened-at {maps'} e put =
            open-with (put-within put (or_lt n _ _ (s.within (place_of w) e) tagged)) (put-touched put (entered-touched _ p)) only'
            (rw e (or-true (sleeps w))) (rw (put-at put) (simp members))
          where
            only' : (a : Place) → real a ≡ true → has (maps' a) p ≡ true → place_of w ≡ a
            only' a r i =
                by_place (λ c. has (cond c (bit_or (maps (place_of w)) (2 ^ p)) (maps a)) p ≡ true → place_of w ≡ a) (place_of w) a (λ q j. q)
                (λ q j. absurd (in-none off was a r j)) (sym (ap (λ (x : ℕ). has x p) (put.puts a)) ∙ i)

      -- ---- it is ready, and its wait ends
      module _ (awake : has ready p ≡ true) where
        close-with : {maps' : Place → ℕ} → ((a : Place) → real a ≡ true → maps' a < 2 ^ n) → ((a : Place) → Touched p (maps a) (maps' a))
            → ((a : Place) → real a ≡ true → has (maps' a) p ≡ true → ⊥) → Waits n real ready (set process p no_process) maps'
        close-with {maps'} b tm free =
            changed (length-set process p _ ∙ s.long) s.ready-within b (untouched ready p) (elsewhere _) tm
            (fine-same awake (stored _) (λ a. refl) (record { only = λ a r i. absurd (free a r i); status = refl }))

        -- it is in its map no more
        pub closed-out : has (maps (place_of own)) p ≡ false → Waits n real ready (set process p no_process) maps
        closed-out out =
            close-with s.within (λ a. untouched (maps a) p)
            (λ a r i. true≢false (sym i ∙ ap (λ (x : Place). has (maps x) p) (sym ((s.each p here).only a r i)) ∙ out))

        -- it leaves its map
        pub closed-left : {maps' : Place → ℕ} → real (place_of own) ≡ true → Put maps maps' (place_of own) (minus (maps (place_of own)) (2 ^ p))
            → Waits n real ready (set process p no_process) maps'
        closed-left {maps'} e put = close-with (put-within put (minus-lt n _ _ (s.within (place_of own) e))) (put-touched put (left-touched _ p)) free
          where
            free : (a : Place) → real a ≡ true → has (maps' a) p ≡ true → ⊥
            free a r i =
                by_place (λ c. has (cond c (minus (maps (place_of own)) (2 ^ p)) (maps a)) p ≡ true → ⊥) (place_of own) a
                (λ q j. true≢false (sym j ∙ simp members))
                (λ q j. true≢false (sym (same_self (place_of own)) ∙ ap (same_place (place_of own)) ((s.each p here).only a r j) ∙ q))
                (sym (ap (λ (x : ℕ). has x p) (put.puts a)) ∙ i)

        -- it goes back into its map, as it is
        pub back_in : {maps' : Place → ℕ} → is_open own ≡ true → real (place_of own) ≡ true
            → limited own && eqb (get_or process p no_process).counter 0 ≡ false
            → Put maps maps' (place_of own) (bit_or (maps (place_of own)) (2 ^ p)) → Waits n real (minus ready (2 ^ p)) process maps'
        back_in {maps'} o e lim put =
            changed s.long (minus-lt n ready (2 ^ p) s.ready-within) (put-within put (or_lt n _ _ (s.within (place_of own) e) tagged))
            (left-touched ready p) (λ q h. refl) (put-touched put (entered-touched _ p))
            (fine-same {r = false} (simp members) refl (λ a. refl) (record {
              only = λ a r i.
                  by_place (λ c. has (cond c (bit_or (maps (place_of own)) (2 ^ p)) (maps a)) p ≡ true → place_of own ≡ a) (place_of own) a (λ q j. q)
                  (λ q j. (s.each p here).only a r j) (sym (ap (λ (x : ℕ). has x p) (put.puts a)) ∙ i);
              status =
                  let in' : has (maps' (place_of own)) p ≡ true = rw (put-at put) (simp members) in
                  rw (o, in')
                  (status.back (sleeps own) (limited own) (real (place_of own)) (eqb (get_or process p no_process).counter 0)
                  (has (maps (place_of own)) p) (rw (o, awake) at (s.each p here).status) lim);
            }))
