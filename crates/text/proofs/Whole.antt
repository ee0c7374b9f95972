-- The scanner finds exactly the records of the input, each cut to 65 bytes: what has come of a record under way stands in front of the first record of what
-- is still to come. Assumes nothing.
use Rattle.std.proofs.Common.{ℕ, zero, suc, ◌-◌, ◌≡◌, refl, sym, ap, ◌∙◌, Bool, true, false, cond, not, ◌&&◌, List, [], ◌∷◌, ◌++◌, map, append_assoc, append-nil, arith, length, take, length-append, length-take, take-take, ne_eqb, eqb-true}
use Rattle.std.proofs.lemmas.Bool.{and_parts, false≢true}
use Rattle.text.specs.declared.scanner.Scanner.{Scanner}
use Rattle.text.specs.Records.{is_cr, is_lf, led, records}
use Rattle.text.specs.Scan.{cut, nothing, ends, without_cr, grown, Found, found, after, last}

-- ---- bytes in front of the first record
abbrev leds : List ℕ → List (List ℕ) → List (List ℕ)
leds [] rs = rs
leds (a ∷ cur) rs = led a (leds cur rs)

leds-snoc : (cur : List ℕ) (b : ℕ) (rs : List (List ℕ)) → leds (cur ++ (b ∷ [])) rs ≡ leds cur (led b rs)
leds-snoc [] b rs = refl
leds-snoc (a ∷ cur) b rs = ap (led a) (leds-snoc cur b rs)

leds-cons : (cur text : List ℕ) (rs : List (List ℕ)) → leds cur (text ∷ rs) ≡ (cur ++ text) ∷ rs
leds-cons [] text rs = refl
leds-cons (a ∷ cur) text rs = ap (led a) (leds-cons cur text rs)

leds-nil : (a : ℕ) (cur : List ℕ) → leds (a ∷ cur) [] ≡ (a ∷ cur) ∷ []
leds-nil a [] = refl
leds-nil a (b ∷ cur) = ap (led a) (leds-nil b cur)

-- ---- a CR, and what comes after it
-- what comes does not make a CR that stands before it a record's end
abbrev begins : List ℕ → Bool
begins [] = false
begins (b ∷ rest) = is_lf b

abbrev apart : (cr : Bool) (rest : List ℕ) → Bool
apart cr rest = not (cr && begins rest)

-- a byte that is no such CR leads the first record of what comes
records-led : (b : ℕ) (rest : List ℕ) → apart (is_cr b) rest ≡ true → records (b ∷ rest) ≡ led b (records rest)
unfolding records
records-led b [] h = refl
records-led b (d ∷ rest) h = by (is_cr b && is_lf d) h
  where
    by : (t : Bool) → not t ≡ true → cond t ([] ∷ records rest) (led b (records (d ∷ rest))) ≡ led b (records (d ∷ rest))
    by true e = absurd (false≢true e)
    by false e = refl

-- ---- what has come of a record
pub record Under (cur : List ℕ) (cr : Bool) : Type 0 where
  -- it stands in front of what comes, unless that ends it
  pub leads : (rest : List ℕ) → apart cr rest ≡ true → records (cur ++ rest) ≡ leds cur (records rest)
  -- a CR at its end, and LF then, end it
  pub ended : cr ≡ true → (front : List ℕ) × (cur ≡ front ++ (13 ∷ [])) × ((rest : List ℕ) → records (cur ++ (10 ∷ rest)) ≡ front ∷ records rest)

under-nothing : Under [] false
under-nothing = record { leads = λ rest h. refl; ended = λ e. absurd (false≢true e) }

and-not : (a : Bool) → not (a && false) ≡ true
and-not true = refl
and-not false = refl

-- a byte more, which is no end
module _ (cur : List ℕ) (cr : Bool) (u : Under cur cr) (b : ℕ) where
  under-leads : (cr && is_lf b) ≡ false → (rest : List ℕ) → apart (is_cr b) rest ≡ true → records (cur ++ (b ∷ []) ++ rest) ≡ leds (cur ++ (b ∷ [])) (records rest)
  under-leads e rest h =
      ap records (append_assoc cur (b ∷ []) rest) ∙ u.leads (b ∷ rest) (rw e) ∙ ap (leds cur) (records-led b rest h)
      ∙ sym (leds-snoc cur b (records rest))

  -- the CR at its end and the LF after it
  under-ended : b ≡ 13 → (rest : List ℕ) → records (cur ++ (b ∷ []) ++ (10 ∷ rest)) ≡ cur ∷ records rest
  unfolding records
  under-ended e rest =
      ap records (append_assoc cur (b ∷ []) (10 ∷ rest)) ∙ ap (λ (x : ℕ). records (cur ++ (x ∷ 10 ∷ rest))) e ∙ u.leads (13 ∷ 10 ∷ rest) (and-not cr)
      ∙ leds-cons cur [] (records rest) ∙ ap (λ (text : List ℕ). text ∷ records rest) (append-nil cur)

  under_more : (cr && is_lf b) ≡ false → Under (cur ++ (b ∷ [])) (is_cr b)
  under_more e = record {
    leads = under-leads e;
    ended = λ c. (cur, ap (λ (x : ℕ). cur ++ (x ∷ [])) (eqb-true b 13 c), under-ended (eqb-true b 13 c));
  }

-- ---- and how the scanner holds it: the first 66 bytes of it
pub record Holds (cur : List ℕ) (s : Scanner) : Type 0 where
  pub under : Under cur s.cr
  pub bytes : s.line ≡ take 66 cur

pub holds-nothing : Holds [] nothing
holds-nothing = record { under = under-nothing; bytes = refl }

-- a byte more
one_more : (n : ℕ) (cur : List ℕ) (b : ℕ) → take n (take n cur ++ b ∷ []) ≡ take n (cur ++ b ∷ [])
one_more zero cur b = refl
one_more (suc n) [] b = refl
one_more (suc n) (a ∷ cur) b = ap (λ (line : List ℕ). a ∷ line) (one_more n cur b)

-- all but the last
all_but : (n : ℕ) (front : List ℕ) (b : ℕ) → take (length (take (suc n) (front ++ b ∷ [])) - 1) (take (suc n) (front ++ b ∷ [])) ≡ take n front
all_but zero [] b = refl
all_but zero (a ∷ front) b = refl
all_but (suc n) [] b = refl
all_but (suc n) (a ∷ front) b =
    let line = take (suc n) (front ++ b ∷ []) in
    let some : length (a ∷ line) - 1 ≡ suc (length line - 1) = omega (arith, length-take (suc n) (front ++ b ∷ []), length-append front (b ∷ [])) in
    ap (λ (k : ℕ). take k (a ∷ line)) some ∙ ap (λ (text : List ℕ). a ∷ text) (all_but n front b)

module _ (cur : List ℕ) (s : Scanner) (h : Holds cur s) where
  holds_more : (b : ℕ) → ends s b ≡ false → Holds (cur ++ (b ∷ [])) (grown s b)
  holds_more b e = record {
    under = under_more cur s.cr h.under b e;
    bytes = ap (λ (line : List ℕ). take 66 (line ++ b ∷ [])) h.bytes ∙ one_more 66 cur b;
  }

  holds-cut : (front : List ℕ) → cur ≡ front ++ (13 ∷ []) → without_cr s ≡ cut front
  holds-cut front e =
      ap (λ (line : List ℕ). take (length line - 1) line) (h.bytes ∙ ap (take 66) e) ∙ all_but 65 front 13

  -- the input's end
  holds-last : last s ≡ map cut (records (cur ++ []))
  unfolding records
  holds-last = by cur refl ∙ ap (map cut) (sym (h.under.leads [] (and-not s.cr)))
    where
      by : (text : List ℕ) → text ≡ cur → last s ≡ map cut (leds text [])
      by [] e = rw (h.bytes, ← e)
      by (a ∷ text) e =
          rw (h.bytes, ← e, leds-nil a text, ne_eqb (length (take 66 (a ∷ text))) 0 (omega (arith, length-take 66 (a ∷ text)))) (ap (λ (x : List ℕ). x ∷ []) (take-take 65 66 (a ∷ text) (omega arith)))

-- ---- all of the input
-- what the scanner finds from here on, with what is left at the end
abbrev pub all : List ℕ → Scanner → List (List ℕ)
all bs s = (found bs s).records ++ last (found bs s).scan

whole_from : (bs cur : List ℕ) (s : Scanner) → Holds cur s → all bs s ≡ map cut (records (cur ++ bs))
unfolding found
whole_from [] cur s h = holds-last cur s h
whole_from (b ∷ bs) cur s h =
    by (ends s b) refl (whole_from bs [] nothing holds-nothing) (λ e. whole_from bs (cur ++ (b ∷ [])) (grown s b) (holds_more cur s h b e))
  where
    F : Bool → Found
    F t = cond t (after (without_cr s) (found bs nothing)) (found bs (grown s b))

    by :
        (t : Bool) → ends s b ≡ t → all bs nothing ≡ map cut (records bs) →
        (ends s b ≡ false → all bs (grown s b) ≡ map cut (records (cur ++ (b ∷ []) ++ bs))) →
        (F t).records ++ last (F t).scan ≡ map cut (records (cur ++ (b ∷ bs)))
    by true e f g =
        let c = and_parts s.cr (is_lf b) e in
        let u = h.under.ended c.0 in
        ap (λ (rs : List (List ℕ)). without_cr s ∷ rs) f ∙ ap (λ (text : List ℕ). text ∷ map cut (records bs)) (holds-cut cur s h u.0 u.1)
        ∙ sym (ap (map cut) (ap (λ (x : ℕ). records (cur ++ (x ∷ bs))) (eqb-true b 10 c.1) ∙ u.2 bs))
    by false e f g = g e ∙ ap (λ (text : List ℕ). map cut (records text)) (append_assoc cur (b ∷ []) bs)

-- from nothing: exactly the records of the input
pub whole : (input : List ℕ) → all input nothing ≡ map cut (records input)
whole input = whole_from input [] nothing holds-nothing
