-- `text::scanner::Scanner::rest` meets its contract: 65 bytes at most, which are all where there are no more. Assumes nothing.
use Rattle.std.proofs.Common.{take, sym, ap, ◌∙◌, arith, take_all, length-take, length-take-le}
use Rattle.text.proofs.scanner.Scanner.rest.Goals as goal

pub slice_bounds-result-end : goal.slice_bounds-result-end
slice_bounds-result-end c = sym (length-take-le 65 _ (omega (arith, c.if-line-le65.false)))

pub returns-then-line-le65-clause-bytes : goal.returns-then-line-le65-clause-bytes
returns-then-line-le65-clause-bytes c = sym (take_all 65 _ c.if-line-le65.true) ∙ ap (take 65) c.written-line.ensures

pub returns-else-line-le65-clause-within : goal.returns-else-line-le65-clause-within
returns-else-line-le65-clause-within c = omega (arith, length-take 65 c.written-line.result.now)
