-- The trace, byte by byte and chunk by chunk, is the trace of the whole input, wherever that is cut. Assumes nothing.
use Rattle.std.proofs.Common.{ℕ, ◌+◌, ◌<◌, ◌≡◌, refl, sym, ap, ◌∙◌, arith, Bool, true, false, ◌||◌, List, [], ◌∷◌, ◌++◌, map, length, take, drop, get_or, eqb, leb, length-take, take_all, take-suc, add-one, append_assoc, append-nil, true≢false, min, cond, Option, None, Some, eq-eqb, ne_eqb, eqb-true, leb-true, leb-false}
use mathlib.Core.List.{flatten}
use Rattle.std.proofs.Math.Bool.{or-false}
use Rattle.std.proofs.lemmas.Option.{none-some}
use borrow.Author.Tests.{lt-leb}
use Rattle.rules.specs.Step.{State}
use Rattle.text.specs.declared.scanner.Scanner.{Scanner}
use Rattle.text.specs.Records.{records}
use Rattle.text.specs.Scan.{nothing, ends, without_cr, fed, ended, Found, found, last, cut}
use Rattle.text.proofs.Scan.{found-append}
use Rattle.text.proofs.Whole.{whole}
use Rattle.trace.specs.declared.Command.{Command}
use Rattle.trace.specs.declared.records.Trace.{Trace}
use Rattle.trace.specs.Words.{command_of}
use Rattle.trace.specs.Lines.{header}
use Rattle.trace.specs.Output.{did, line_of, after, lines_of, start, output}
use Rattle.trace.specs.Chunks.{begin, unheaded, some, after_all, passed, lines_for, found_in, ran, text_of, last_text, written}

-- ---- records one after the other
unheaded-nil : (b : Bool) → unheaded b [] ≡ []
unheaded-nil true = refl
unheaded-nil false = refl

unheaded-append : (b : Bool) (xs ys : List (List ℕ)) → unheaded b (xs ++ ys) ≡ unheaded b xs ++ unheaded (b || some xs) ys
unheaded-append true xs ys = refl
unheaded-append false [] ys = refl
unheaded-append false (x ∷ xs) ys = refl

some-append : (b : Bool) (xs ys : List (List ℕ)) → (b || some (xs ++ ys)) ≡ (b || some xs || some ys)
some-append true xs ys = refl
some-append false [] ys = refl
some-append false (x ∷ xs) ys = refl

after-append : (s : State) (xs ys : List (List ℕ)) → after_all s (xs ++ ys) ≡ after_all (after_all s xs) ys
unfolding after_all
after-append s [] ys = refl
after-append s (x ∷ xs) ys = after-append (after s x) xs ys

lines-append : (s : State) (xs ys : List (List ℕ)) → lines_of s (xs ++ ys) ≡ lines_of s xs ++ lines_of (after_all s xs) ys
unfolding after_all lines_of
lines-append s [] ys = refl
lines-append s (x ∷ xs) ys =
    ap (λ (t : List ℕ). line_of s x ++ t) (lines-append (after s x) xs ys)
    ∙ sym (append_assoc (line_of s x) (lines_of (after s x) xs) (lines_of (after_all (after s x) xs) ys))

-- some records and then others
module _ (t : Trace) (scan scan' : Scanner) (xs ys : List (List ℕ)) where
  passed-append : passed t scan (xs ++ ys) ≡ passed (passed t scan' xs) scan ys
  passed-append = rw (some-append t.begun xs ys, unheaded-append t.begun xs ys, after-append)

  lines-for-append : lines_for t (xs ++ ys) ≡ lines_for t xs ++ lines_for (passed t scan' xs) ys
  lines-for-append = rw (unheaded-append t.begun xs ys, lines-append)

-- none
module _ (t : Trace) where
  passed_none : (scan : Scanner) → passed t scan [] ≡ record { scanner = scan; begun = t.begun; bench = t.bench }
  unfolding after_all
  passed_none scan = rw (unheaded-nil t.begun, or-false t.begun)

  lines-for-none : lines_for t [] ≡ []
  unfolding lines_of
  lines-for-none = rw (unheaded-nil t.begun)

  pub ran-none : ran [] t ≡ t
  unfolding found
  ran-none = passed_none t.scanner

  pub text-none : text_of [] t ≡ []
  unfolding found
  text-none = lines-for-none

-- ---- two chunks are one
module _ (xs ys : List ℕ) (t : Trace) where
  abbrev first : Found
  first = found_in xs t

  pub ran_append : ran (xs ++ ys) t ≡ ran ys (ran xs t)
  ran_append =
      ap (λ (g : Found). passed t g.scan g.records) (found-append xs ys t.scanner)
      ∙ passed-append t _ first.scan first.records (found ys first.scan).records

  pub text-append : text_of (xs ++ ys) t ≡ text_of xs t ++ text_of ys (ran xs t)
  text-append =
      ap (λ (g : Found). lines_for t g.records) (found-append xs ys t.scanner)
      ∙ lines-for-append t nothing first.scan first.records (found ys first.scan).records

-- ---- a byte
abbrev got : Option (List ℕ) → List ℕ
got None = []
got (Some text) = text

module _ (t : Trace) (b : ℕ) where
  ended_is : {x : Bool} → ends t.scanner b ≡ x → ended t.scanner b ≡ cond x (Some (without_cr t.scanner)) None
  ended_is e = ap (λ (x : Bool). cond x (Some (without_cr t.scanner)) None) e

  -- no record ends
  byte-open : ended t.scanner b ≡ None → (ran (b ∷ []) t ≡ record { scanner = fed t.scanner b; begun = t.begun; bench = t.bench }) × (text_of (b ∷ []) t ≡ [])
  unfolding found
  byte-open n = by (ends t.scanner b) refl
    where
      by :
          (x : Bool) → ends t.scanner b ≡ x →
          (ran (b ∷ []) t ≡ record { scanner = fed t.scanner b; begun = t.begun; bench = t.bench }) × (text_of (b ∷ []) t ≡ [])
      by true e = absurd (none-some _ (sym n ∙ ended_is e))
      by false e = rw e (passed_none t _, lines-for-none t)

  module _ (text : List ℕ) (n : ended t.scanner b ≡ Some text) where
    byte-ends : (ran (b ∷ []) t ≡ passed t (fed t.scanner b) (text ∷ [])) × (text_of (b ∷ []) t ≡ lines_for t (text ∷ []))
    unfolding found
    byte-ends = by (ends t.scanner b) refl
      where
        by :
            (x : Bool) → ends t.scanner b ≡ x →
            (ran (b ∷ []) t ≡ passed t (fed t.scanner b) (text ∷ [])) × (text_of (b ∷ []) t ≡ lines_for t (text ∷ []))
        by true e =
            let w : text ≡ without_cr t.scanner = sym (ap got (sym (ended_is e) ∙ n)) in
            rw (e, w) (refl, refl)
        by false e = absurd (none-some _ (sym (ended_is e) ∙ n))

    -- the header does
    byte-header : t.begun ≡ false → (ran (b ∷ []) t ≡ record { scanner = fed t.scanner b; begun = true; bench = t.bench }) × (text_of (b ∷ []) t ≡ [])
    unfolding after_all lines_of
    byte-header h = (byte-ends.0 ∙ rw h, byte-ends.1 ∙ rw h)

    -- a record does
    byte-record :
        t.begun ≡ true →
        (ran (b ∷ []) t ≡ record { scanner = fed t.scanner b; begun = true; bench = after t.bench text }) × (text_of (b ∷ []) t ≡ line_of t.bench text)
    unfolding after_all lines_of
    byte-record h = (byte-ends.0 ∙ rw h, byte-ends.1 ∙ rw h (append-nil (line_of t.bench text)))

-- ---- the bytes of a chunk before place i, and the byte there
module _ (input : List ℕ) (t m : Trace) (first out : List ℕ) (i : ℕ) (h : i < length input) (e : m ≡ ran (take i input) t) (p : out ≡ first ++ text_of (take i input) t) where
  abbrev b : ℕ
  b = get_or input i 0

  one-more : take (i + 1) input ≡ take i input ++ (b ∷ [])
  one-more = rw add-one (take-suc input i 0 h)

  on : (n : Trace) (text : List ℕ) → (ran (b ∷ []) m ≡ n) × (text_of (b ∷ []) m ≡ text) → (n ≡ ran (take (i + 1) input) t) × (out ++ text ≡ first ++ text_of (take (i + 1) input) t)
  on n text q = (
    sym q.0 ∙ ap (ran (b ∷ [])) e ∙ sym (ap (λ (bs : List ℕ). ran bs t) one-more ∙ ran_append (take i input) (b ∷ []) t),
    ap (λ (x : List ℕ). out ++ x) (sym q.1 ∙ ap (text_of (b ∷ [])) e) ∙ ap (λ (x : List ℕ). x ++ text_of (b ∷ []) (ran (take i input) t)) p
        ∙ append_assoc first (text_of (take i input) t) (text_of (b ∷ []) (ran (take i input) t))
        ∙ ap (λ (x : List ℕ). first ++ x) (sym (ap (λ (bs : List ℕ). text_of bs t) one-more ∙ text-append (take i input) (b ∷ []) t)),
  )

  pub on-open : ended m.scanner b ≡ None → (record { scanner = fed m.scanner b; begun = m.begun; bench = m.bench } ≡ ran (take (i + 1) input) t) × (out ≡ first ++ text_of (take (i + 1) input) t)
  on-open n =
      let q = on _ _ (byte-open m b n) in
      (q.0, sym (append-nil out) ∙ q.1)

  pub on-header :
      (text : List ℕ) → ended m.scanner b ≡ Some text → m.begun ≡ false →
      (record { scanner = fed m.scanner b; begun = true; bench = m.bench } ≡ ran (take (i + 1) input) t) × (out ≡ first ++ text_of (take (i + 1) input) t)
  on-header text n f =
      let q = on _ _ (byte-header m b text n f) in
      (q.0, sym (append-nil out) ∙ q.1)

  pub on-record :
      (text : List ℕ) → ended m.scanner b ≡ Some text → m.begun ≡ true →
      (record { scanner = fed m.scanner b; begun = true; bench = after m.bench text } ≡ ran (take (i + 1) input) t)
      × (out ++ line_of m.bench text ≡ first ++ text_of (take (i + 1) input) t)
  on-record text n f = on _ _ (byte-record m b text n f)

-- ---- at the end of the input: nothing but the header, nothing under way, or the last record
module _ (t : Trace) where
  pub last-header : t.begun ≡ false → last_text t ≡ []
  unfolding lines_of
  last-header h = rw h (by (eqb (length t.scanner.line) 0) refl)
    where
      by : (x : Bool) → eqb (length t.scanner.line) 0 ≡ x → lines_of t.bench (drop 1 (last t.scanner)) ≡ []
      by true e = rw e
      by false e = rw e

  module _ (text : List ℕ) (c : text ≡ cut t.scanner.line) (h : t.begun ≡ true) where
    as-long : length text ≡ min 65 (length t.scanner.line)
    as-long = ap length c ∙ length-take 65 t.scanner.line

    pub last-none : eqb (length text) 0 ≡ true → last_text t ≡ []
    unfolding lines_of
    last-none e =
        let n : length t.scanner.line ≡ 0 = omega (arith, eqb-true (length text) 0 e, as-long) in
        rw (h, eq-eqb (length t.scanner.line) 0 n)

    pub last-record : eqb (length text) 0 ≡ false → last_text t ≡ line_of t.bench text
    unfolding lines_of
    last-record e =
        let n : eqb (length t.scanner.line) 0 ≡ false = ne_eqb (length t.scanner.line) 0 (λ z. absurd (true≢false (sym (eq-eqb (length text) 0 (omega (arith, as-long, z))) ∙ e))) in
        rw (h, n, c) (append-nil (line_of t.bench (cut t.scanner.line)))

-- ---- a record that is cut to 65 bytes is as unreadable as it was
module _ (text : List ℕ) where
  long : 65 < length text → leb (length (cut text)) 64 ≡ false
  long h = lt-leb (length (cut text)) 64 (rw length-take (omega arith))

  cut-command : (t : Bool) → leb (length text) 65 ≡ t → command_of (cut text) ≡ command_of text
  cut-command true h = ap command_of (take_all 65 text (leb-true (length text) 65 h))
  cut-command false h =
      let l = leb-false (length text) 65 h in
      rw (long l, lt-leb (length text) 64 (omega arith))

  cut_line : (s : State) (t : Bool) → leb (length text) 65 ≡ t → line_of s (cut text) ≡ line_of s text
  cut_line s true h = ap (line_of s) (take_all 65 text (leb-true (length text) 65 h))
  cut_line s false h =
      let l = leb-false (length text) 65 h in
      rw (long l, lt-leb (length text) 64 (omega arith))

lines_cut : (s : State) (texts : List (List ℕ)) → lines_of s (map cut texts) ≡ lines_of s texts
unfolding lines_of
lines_cut s [] = refl
lines_cut s (text ∷ texts) =
    ap (λ (x : List ℕ). x ++ lines_of (after s (cut text)) (map cut texts)) (cut_line text s (leb (length text) 65) refl)
    ∙ ap (λ (x : List ℕ). line_of s text ++ x) (lines_cut (after s (cut text)) texts)
    ∙ ap (λ (c : Option Command). line_of s text ++ lines_of (did s c).state texts) (cut-command text (leb (length text) 65) refl)

drop-cut : (texts : List (List ℕ)) → drop 1 (map cut texts) ≡ map cut (drop 1 texts)
drop-cut [] = refl
drop-cut (text ∷ texts) = refl

-- ---- the whole input, in any chunks
module _ (input : List ℕ) where
  abbrev found_all : Found
  found_all = found_in input begin

  whole-text : text_of input begin ++ last_text (ran input begin) ≡ lines_of start (drop 1 (records input))
  whole-text =
      sym (lines-for-append begin nothing found_all.scan found_all.records (last found_all.scan))
      ∙ ap (λ (texts : List (List ℕ)). lines_of start (drop 1 texts)) (whole input)
      ∙ ap (lines_of start) (drop-cut (records input)) ∙ lines_cut start (drop 1 (records input))

written_is : (chunks : List (List ℕ)) (t : Trace) → written chunks t ≡ text_of (flatten chunks) t ++ last_text (ran (flatten chunks) t)
unfolding written flatten
written_is [] t = sym (ap (λ (x : List ℕ). x ++ last_text (ran [] t)) (text-none t) ∙ ap last_text (ran-none t))
written_is (chunk ∷ chunks) t =
    ap (λ (x : List ℕ). text_of chunk t ++ x) (written_is chunks (ran chunk t))
    ∙ sym (append_assoc (text_of chunk t) (text_of (flatten chunks) (ran chunk t)) (last_text (ran (flatten chunks) (ran chunk t))))
    ∙ sym (ap (λ (x : List ℕ). x ++ last_text (ran (chunk ++ flatten chunks) t)) (text-append chunk (flatten chunks) t)
    ∙ ap (λ (m : Trace). text_of chunk t ++ text_of (flatten chunks) (ran chunk t) ++ last_text m) (ran_append chunk (flatten chunks) t))

-- the header and then what is written chunk after chunk is the output, wherever the input is cut
pub written-output : (chunks : List (List ℕ)) → header ++ written chunks begin ≡ output (flatten chunks)
written-output chunks = ap (λ (x : List ℕ). header ++ x) (written_is chunks begin ∙ whole-text (flatten chunks))
