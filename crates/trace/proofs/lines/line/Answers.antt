-- `trace::lines::line` meets its contract: the word, and behind it the line without it. Assumes nothing.
use Rattle.std.proofs.Common.{ℕ, List, ◌++◌, ap, ◌∙◌, rules}
use Rattle.text.proofs.Put.{put_then, put_as}
use Rattle.trace.proofs.Behind.{behind_word}
use Rattle.trace.proofs.lines.line.Goals as goal

pub returns : goal.returns
returns c =
    let word = c.args.word.now in
    let rest = c.written.ensures ∙ rw c.new-t.ensures at c.write_line.ensures.put in
    (put_as _ (ap (λ (s : List ℕ). word ++ s) rest ∙ behind_word word _ _ _) (put_then c.text-past.ensures c.text.ensures), search rules)
