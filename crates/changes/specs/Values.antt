-- The values of the fields: their text, and when two waits or owners are the same.
use Rattle.std.specs.Prelude.{ℕ, Bool, true, false, cond, ◌&&◌, List, ◌++◌, eqb, Option, None, Some}
use Rattle.std.specs.Bool.{beq}
use Rattle.std.specs.Option.{option_eq}
use Rattle.text.specs.Ascii.{ascii}
use Rattle.text.specs.Decimals.{digits}
use Rattle.ring.specs.declared.End.{End}
use Rattle.ring.specs.declared.End.TheVariants.{Front, Back}
use Rattle.maps.specs.declared.Number.{Number}
use Rattle.record.specs.declared.Wait.{Wait}
use Rattle.record.specs.declared.Wait.TheVariants.{Nothing, Sleep, Flag, Mutex, Push, Pop}

-- ---- text

-- on, and limited
abbrev pub bit : Bool → ℕ
bit b = cond b 1 0

abbrev pub end_text : End → List ℕ
end_text Front = ascii "front"
end_text Back = ascii "back"

abbrev pub owner_text : Option Number → List ℕ
owner_text None = ascii "nobody"
owner_text (Some p) = digits p.0

abbrev pub wait_text : Wait → List ℕ
wait_text Nothing = ascii "none"
wait_text (Sleep l) = ascii "sleep." ++ digits (bit l)
wait_text (Flag i l) = ascii "flag." ++ digits i ++ ascii "." ++ digits (bit l)
wait_text (Mutex i l) = ascii "mutex." ++ digits i ++ ascii "." ++ digits (bit l)
wait_text (Push i item e) = ascii "push." ++ digits i ++ ascii "." ++ end_text e ++ ascii "." ++ digits item
wait_text (Pop i e l) = ascii "pop." ++ digits i ++ ascii "." ++ end_text e ++ ascii "." ++ digits (bit l)

-- ---- the same. That `same_wait` and `same_owner` are true exactly of equal ones is proved (proofs/Same)
abbrev pub same_owner : Option Number → Option Number → Bool
same_owner a b = option_eq (λ p q. eqb p.0 q.0) a b

abbrev pub same_end : End → End → Bool
same_end Front Front = true
same_end Back Back = true
same_end _ _ = false

abbrev pub same_wait : Wait → Wait → Bool
same_wait Nothing Nothing = true
same_wait (Sleep l) (Sleep m) = beq l m
same_wait (Flag i l) (Flag j m) = eqb i j && beq l m
same_wait (Mutex i l) (Mutex j m) = eqb i j && beq l m
same_wait (Push i x e) (Push j y f) = eqb i j && eqb x y && same_end e f
same_wait (Pop i e l) (Pop j f m) = eqb i j && same_end e f && beq l m
same_wait _ _ = false
