-- `asked::values::wait_of` meets its contract: the first part is the arm's word, and so no other row's. Assumes nothing.
use Rattle.std.proofs.Common.{arith, refl, sym, ◌∙◌, ◌≡◌, ℕ, List, true}
use Rattle.text.specs.Ascii.{ascii}
use Rattle.asked.specs.Table.{is_ascii, is_ascii_word, SameWords}
use Rattle.asked.specs.Values.{part, wait_of, is_sleep, is_at, is_push, is_pop, channel_wait}
use Rattle.asked.proofs.Words.{word_is}
use Rattle.asked.proofs.values.wait_of.Goals as goal

kind : (s first text word : List ℕ) → first ≡ part s 0 → SameWords text first → text ≡ word → is_ascii_word word ≡ true → part s 0 ≡ word
kind s first text word e h i a = sym e ∙ word_is text first word h i a

pub returns-in_err-bit_at-in-sleep-eq2 : goal.returns-in_err-bit_at-in-sleep-eq2
unfolding wait_of is_sleep is_at is_push is_pop channel_wait is_ascii
returns-in_err-bit_at-in-sleep-eq2 c =
    let k = kind _ _ _ (ascii "sleep") c.part.ensures c.word.ensures c.in-sleep-eq2.is-sleep-0 refl in
    rw (k, sym c.count.ensures ∙ c.in-sleep-eq2.is-1) (grind arith)

pub returns-in_ok-bit_at-in-sleep-eq2 : goal.returns-in_ok-bit_at-in-sleep-eq2
unfolding wait_of is_sleep is_at is_push is_pop channel_wait is_ascii
returns-in_ok-bit_at-in-sleep-eq2 c =
    let k = kind _ _ _ (ascii "sleep") c.part.ensures c.word.ensures c.in-sleep-eq2.is-sleep-0 refl in
    rw (k, sym c.count.ensures ∙ c.in-sleep-eq2.is-1) (grind arith)

pub returns-in_err-number_at-in-flag-eq3 : goal.returns-in_err-number_at-in-flag-eq3
unfolding wait_of is_sleep is_at is_push is_pop channel_wait is_ascii
returns-in_err-number_at-in-flag-eq3 c =
    let k = kind _ _ _ (ascii "flag") c.part.ensures c.word.ensures c.in-flag-eq3.is-flag-0 refl in
    rw (k, sym c.count.ensures ∙ c.in-flag-eq3.is-1) (grind arith)

pub returns-in_err-bit_at-in-flag-eq3 : goal.returns-in_err-bit_at-in-flag-eq3
unfolding wait_of is_sleep is_at is_push is_pop channel_wait is_ascii
returns-in_err-bit_at-in-flag-eq3 c =
    let k = kind _ _ _ (ascii "flag") c.part.ensures c.word.ensures c.in-flag-eq3.is-flag-0 refl in
    rw (k, sym c.count.ensures ∙ c.in-flag-eq3.is-1) (grind arith)

pub returns-in_ok-bit_at-in-flag-eq3 : goal.returns-in_ok-bit_at-in-flag-eq3
unfolding wait_of is_sleep is_at is_push is_pop channel_wait is_ascii
returns-in_ok-bit_at-in-flag-eq3 c =
    let k = kind _ _ _ (ascii "flag") c.part.ensures c.word.ensures c.in-flag-eq3.is-flag-0 refl in
    rw (k, sym c.count.ensures ∙ c.in-flag-eq3.is-1) (grind arith)
