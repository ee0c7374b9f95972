-- A room whose bytes past its text are zeros: what is put after the text, and what is cut off it, leaves zeros past it. Assumes nothing.
use Rattle.std.proofs.Common.{ℕ, ◌+◌, ◌-◌, ◌≤◌, ◌≡◌, sym, subst, ap, ◌∙◌, arith, List, ◌++◌, length, take, drop, set, replicate, length-take-le}
use Rattle.std.proofs.lemmas.List.{drop-set-lt, drop-replicate, replicate-append-replicate}
use Rattle.std.proofs.lemmas.Slice.{drop-put_mid}
use Rattle.std.proofs.Math.Seq.{drop-drop, drop_at}
use borrow.Rule.Slice.PartMut.{put_mid, same_len_mid, mid_len, Post-is}

abbrev pub zeros : ℕ → List ℕ
zeros n = replicate n 0

-- further on there are zeros too
further : (n len k : ℕ) (bytes : List ℕ) → drop len bytes ≡ zeros (n - len) → drop (len + k) bytes ≡ zeros (n - (len + k))
further n len k bytes z =
    let less : n - len - k ≡ n - (len + k) = omega arith in
    sym (drop-drop k len bytes) ∙ ap (drop k) z ∙ drop-replicate k (n - len) 0 ∙ ap zeros less

-- after a byte more
pub padded-byte :
    (n len b : ℕ) (bytes : List ℕ) → drop len bytes ≡ zeros (n - len) →
    drop (len + 1) (set bytes len b) ≡ zeros (n - (len + 1))
padded-byte n len b bytes z = drop-set-lt (len + 1) bytes len b (omega arith) ∙ further n len 1 bytes z

-- a part of the room from `len` up to `past`, with other bytes
module _ (n len past : ℕ) (bytes ys : List ℕ) (h : len ≤ past) (l : past ≤ length bytes) (e : length ys ≡ past - len) where
  pub length-put : length (put_mid len (past - len) bytes ys) ≡ length bytes
  length-put = same_len_mid len (past - len) bytes ys (e ∙ sym (mid_len len past bytes l))

  -- after a text more
  pub padded-text : drop len bytes ≡ zeros (n - len) → drop past (put_mid len (past - len) bytes ys) ≡ zeros (n - past)
  padded-text z =
      let on : len + (past - len) ≡ past = omega arith in
      drop-put_mid len (past - len) bytes ys past (omega arith) (omega arith) e
      ∙ subst (λ (p : ℕ). drop p bytes ≡ zeros (n - p)) on (further n len (past - len) bytes z)

  -- after the text up to `past` is cut to `len` bytes
  pub padded-cut : past ≤ n → ys ≡ zeros (past - len) → drop past bytes ≡ zeros (n - past) → drop len (put_mid len (past - len) bytes ys) ≡ zeros (n - len)
  padded-cut m y z =
      let all : past - len + (n - past) ≡ n - len = omega arith in
      drop_at (take len bytes) _ len (length-take-le len bytes (omega arith))
      ∙ ap (λ (a : List ℕ). a ++ drop (past - len) (drop len bytes)) y
      ∙ ap (λ (a : List ℕ). replicate (past - len) 0 ++ a) (Post-is len past bytes h ∙ z)
      ∙ replicate-append-replicate (past - len) (n - past) 0 ∙ ap zeros all
