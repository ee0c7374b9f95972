-- An end, an owner and a wait as text (REPLAY): a wait is `none`, `sleep.L`, `flag.I.L`, `mutex.I.L`, `push.I.END.ITEM` or `pop.I.END.L`, with L 0 or 1
-- (limited) and END `front` or `back`; an owner is a decimal or `nobody`.
use Rattle.std.specs.Prelude.{ℕ, Bool, cond, ◌&&◌, ◌||◌, List, eqb, length, Option, None, Some}
use Rattle.text.specs.Ascii.{ascii, same}
use Rattle.text.specs.Decimals.{is_number}
use Rattle.ring.specs.declared.End.{End}
use Rattle.ring.specs.declared.End.TheVariants.{Front, Back}
use Rattle.maps.specs.declared.Number.{Number}
use Rattle.record.specs.declared.Wait.{Wait as WaitT}
use Rattle.record.specs.declared.Wait.TheVariants.{Nothing, Sleep, Flag, Mutex, Push, Pop}
use Rattle.asked.specs.Parts.{parted, part_at}
use Rattle.asked.specs.Fields.{is_word, number}

-- ---- yes or no
abbrev pub is_bit : List ℕ → Bool
is_bit text = is_number 1 text

abbrev pub bit : List ℕ → Bool
bit text = eqb (number text) 1

-- ---- an end
unfoldable pub is_end : List ℕ → Bool
is_end text = same text (ascii "front") || same text (ascii "back")

unfoldable pub end_of : List ℕ → End
end_of text = cond (same text (ascii "front")) Front Back

-- ---- an owner
unfoldable pub is_owner : List ℕ → Bool
is_owner text = same text (ascii "nobody") || is_word text

unfoldable pub owner_of : List ℕ → Option Number
owner_of text = cond (same text (ascii "nobody")) None (Some (record { 0 = number text }))

-- ---- a wait: its parts stand between dots, and the first says which wait it is
abbrev pub part : List ℕ → ℕ → List ℕ
part text n = part_at 46 text n

-- it has n parts, and the first is this word
abbrev pub named : List ℕ → List ℕ → ℕ → Bool
named text word n = same (part text 0) word && eqb (length (parted 46 text)) n

unfoldable pub is_sleep : List ℕ → Bool
is_sleep text = named text (ascii "sleep") 2 && is_bit (part text 1)

-- a flag's or a mutex's
unfoldable pub is_at : List ℕ → List ℕ → Bool
is_at text word = named text word 3 && is_word (part text 1) && is_bit (part text 2)

unfoldable pub is_push : List ℕ → Bool
is_push text = named text (ascii "push") 4 && is_word (part text 1) && is_end (part text 2) && is_word (part text 3)

unfoldable pub is_pop : List ℕ → Bool
is_pop text = named text (ascii "pop") 4 && is_word (part text 1) && is_end (part text 2) && is_bit (part text 3)

-- the table of waits, written from its end
unfoldable pub channel_wait : List ℕ → Option WaitT
channel_wait text =
    cond (is_push text) (Some (Push (number (part text 1)) (number (part text 3)) (end_of (part text 2))))
    (cond (is_pop text) (Some (Pop (number (part text 1)) (end_of (part text 2)) (bit (part text 3)))) None)

unfoldable pub wait_of : List ℕ → Option WaitT
wait_of text =
    cond (named text (ascii "none") 1) (Some Nothing)
    (cond (is_sleep text) (Some (Sleep (bit (part text 1))))
    (cond (is_at text (ascii "flag")) (Some (Flag (number (part text 1)) (bit (part text 2))))
    (cond (is_at text (ascii "mutex")) (Some (Mutex (number (part text 1)) (bit (part text 2)))) (channel_wait text))))
