-- `trace::lines::answer` meets its contract, answer by answer. Assumes nothing.
use Rattle.trace.proofs.lines.answer.Goals as goal

pub returns-in-Done-clause-put : goal.returns-in-Done-clause-put
returns-in-Done-clause-put g c = rw c.in-Done.is c.text.ensures

pub returns-in-Waiting-clause-put : goal.returns-in-Waiting-clause-put
returns-in-Waiting-clause-put g c = rw c.in-Waiting.is c.text-in-Waiting.ensures

pub returns-in-TimedOut-clause-put : goal.returns-in-TimedOut-clause-put
returns-in-TimedOut-clause-put g c = rw c.in-TimedOut.is c.text-in-TimedOut.ensures

pub returns-in-Busy-clause-put : goal.returns-in-Busy-clause-put
returns-in-Busy-clause-put g c = rw c.in-Busy.is c.text-in-Busy.ensures

pub returns-in-Value-clause-put : goal.returns-in-Value-clause-put
returns-in-Value-clause-put g c = rw c.in-Value.is c.number_after.ensures.put

pub returns-in-Refused-clause-put : goal.returns-in-Refused-clause-put
returns-in-Refused-clause-put g c = rw (c.in-Refused.is, ← c.from.ensures) c.number_after-in-Refused.ensures.put
