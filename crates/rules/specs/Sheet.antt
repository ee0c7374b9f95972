-- The bench sheet (01, Bench sheet): its starred cases as rows of one table, with the sheet's own figures, and which line of which row fails first.
use Rattle.std.specs.Prelude.{ℕ, ◌+◌, Bool, true, false, ◌&&◌, List, [], ◌∷◌, ◌++◌, eqb, get_or}
use Rattle.ring.specs.declared.End.TheVariants.{Front, Back}
use Rattle.record.specs.Record.{flag_at, channel_at}
use Rattle.record.specs.Fresh.{fresh}
use Rattle.rules.specs.declared.Call.{Call}
use Rattle.rules.specs.declared.Call.TheVariants.{Enter, Exit, Switch, Process, Finish, Interrupt}
use Rattle.rules.specs.declared.Request.TheVariants as request
use Rattle.rules.specs.declared.Interrupt.TheVariants as interrupt
use Rattle.rules.specs.Answers.{Said, done, waiting, timed_out, busy, value, refused}
use Rattle.rules.specs.Effects.{state_number}
use Rattle.rules.specs.Step.{State, Result, step}

-- a line of a case: a call with its answer; a call that is lent a block; or a figure that can be read then, of process, map, flag, channel and room
pub data Line : Type 0 where
  does : Call → Said → Line
  lends : Call → List ℕ → Said → Line
  running : ℕ → Line
  next : ℕ → Line
  ready : ℕ → Line
  flag : ℕ → ℕ → Line
  waiters : ℕ → ℕ → Line
  first : ℕ → ℕ → Line
  word : ℕ → ℕ → Line

-- the sheet's number of the case, the state that it starts from, and its lines in order
pub record Row : Type 0 where
  pub number : ℕ
  pub start : State
  pub lines : List Line

-- ---- A: 3 processes (idle 2), one flag, one mutex, one channel of 2, direct. B: the same, deferred. The room is zeroed
abbrev pub bench : ℕ → State
bench mode = record { kernel = fresh (record { mode = mode; processes = 3; flags = 1; mutexes = 1; channels = 1 }) (2 ∷ []); room = 0 ∷ 0 ∷ [] }

abbrev pub A : State
A = bench 0

abbrev pub B : State
B = bench 1

-- ---- calls and lines that recur below; a limit not given is 0
abbrev pub sleep : ℕ → Call
sleep t = Process (request.Sleep t)

abbrev pub wait : ℕ → Call
wait t = Process (request.Wait 0 t)

abbrev pub signal_interrupt : Call
signal_interrupt = Interrupt (interrupt.Signal 0)

abbrev pub tick : Line
tick = does (Interrupt interrupt.Tick) done

abbrev pub enter : Line
enter = does Enter done

abbrev pub exit : Line
exit = does Exit done

-- the lines of case 2 that A goes on from in cases 3 to 5
abbrev pub waits_at_flag : List Line
waits_at_flag = does (wait 2) waiting ∷ running 1 ∷ ready 6 ∷ []

-- ---- the sheet. A case of several parts has a row for each
abbrev pub rows : List Row
rows =
    -- A fresh: running 0, ready 7
    record { number = 1; start = A; lines = running 0 ∷ ready 7 ∷ [] }
    -- A: wait 0 limit 2: Waiting, running 1, ready 6
    ∷ record { number = 2; start = A; lines = waits_at_flag }
    -- B: running 0, next 1; a process call then gets 5
    ∷ record { number = 2; start = B; lines = does (wait 2) waiting ∷ running 0 ∷ next 1 ∷ does (sleep 1) (refused 5) ∷ [] }
    -- A after 2: enter, tick, tick, exit: running 0; finish: TimedOut; flag waiters empty
    ∷ record { number = 3; start = A; lines = waits_at_flag ++ (enter ∷ tick ∷ tick ∷ exit ∷ running 0 ∷ does Finish timed_out ∷ waiters 0 0 ∷ []) }
    -- As 3 with an interrupt signal before the exit: flag on; finish: TimedOut, flag still on
    ∷ record {
      number = 4;
      start = A;
      lines =
          waits_at_flag ++ (enter ∷ tick ∷ tick ∷ does signal_interrupt done ∷ flag 0 1 ∷ exit ∷ running 0
          ∷ does Finish timed_out ∷ flag 0 1 ∷ waiters 0 0 ∷ []);
    }
    -- A after 2: enter, tick, interrupt signal, tick, exit, finish: Done, flag off
    ∷ record {
      number = 5;
      start = A;
      lines = waits_at_flag ++ (enter ∷ tick ∷ does signal_interrupt done ∷ tick ∷ exit ∷ does Finish done ∷ flag 0 0 ∷ []);
    }
    -- B: wait, enter, interrupt signal, exit: running 0, next 0; switch gets 13; finish: Done
    ∷ record {
      number = 6;
      start = B;
      lines =
          does (wait 0) waiting ∷ enter ∷ does signal_interrupt done ∷ exit ∷ running 0 ∷ next 0
          ∷ does Switch (refused 13) ∷ does Finish done ∷ [];
    }
    -- A: push 5, push 7 at front: room 5, 7, first 1; push 8: Waiting; process 1 pops front: 7; finish: Done, room 5, 8, first 0
    ∷ record {
      number = 7;
      start = A;
      lines =
          does (Process (request.Push 0 5 Back)) done ∷ does (Process (request.Push 0 7 Front)) done ∷ word 0 5 ∷ word 1 7 ∷ first 0 1
          ∷ does (Process (request.Push 0 8 Back)) waiting ∷ running 1 ∷ does (Process (request.Pop 0 Front 0)) (value 7)
          ∷ running 0 ∷ does Finish done ∷ word 0 5 ∷ word 1 8 ∷ first 0 0 ∷ [];
    }
    -- A: sleep 1; process 1 pops with limit 1: Waiting. Enter, write block 9, tick, exit; process 0: finish, pop: 9, sleep 0; process 1 finish: TimedOut
    ∷ record {
      number = 8;
      start = A;
      lines =
          does (sleep 1) waiting ∷ running 1 ∷ does (Process (request.Pop 0 Front 1)) waiting
          ∷ enter ∷ lends (Interrupt (interrupt.Write 0)) (9 ∷ []) (value 1) ∷ tick ∷ exit
          ∷ running 0 ∷ does Finish done ∷ does (Process (request.Pop 0 Front 0)) (value 9) ∷ does (sleep 0) waiting
          ∷ running 1 ∷ does Finish timed_out ∷ [];
    }
    -- A: sleep 0, sleep 0: running 2; sleep gets 6
    ∷ record { number = 9; start = A; lines = does (sleep 0) waiting ∷ does (sleep 0) waiting ∷ running 2 ∷ does (sleep 0) (refused 6) ∷ [] }
    -- Enter eight times; the ninth gets 12
    ∷ record {
      number = 10;
      start = A;
      lines = enter ∷ enter ∷ enter ∷ enter ∷ enter ∷ enter ∷ enter ∷ enter ∷ does Enter (refused 12) ∷ [];
    }
    -- Exit on a fresh record gets 4
    ∷ record { number = 10; start = A; lines = does Exit (refused 4) ∷ [] }
    -- A: lock, lock: 10
    ∷ record { number = 11; start = A; lines = does (Process (request.Lock 0 0)) done ∷ does (Process (request.Lock 0 0)) (refused 10) ∷ [] }
    -- Unlock when free: 11
    ∷ record { number = 11; start = A; lines = does (Process (request.Unlock 0)) (refused 11) ∷ [] }
    ∷ []

-- ---- what a line shows, and the state after it
-- answers are compared by what kind they are and the number that they carry
abbrev pub kind_of : Said → ℕ
kind_of done = 0
kind_of waiting = 1
kind_of timed_out = 2
kind_of busy = 3
kind_of (value v) = 4
kind_of (refused n) = 5

abbrev pub carried : Said → ℕ
carried done = 0
carried waiting = 0
carried timed_out = 0
carried busy = 0
carried (value v) = v
carried (refused n) = n

abbrev pub same_said : Said → Said → Bool
same_said a b = eqb (kind_of a) (kind_of b) && eqb (carried a) (carried b)

-- whether the line holds, and the state then
pub record Shown : Type 0 where
  pub holds : Bool
  pub state : State

abbrev pub called : Said → Result → Shown
called a r = record { holds = same_said r.answer a; state = record { kernel = r.kernel; room = r.room } }

-- a figure that is read, and the sheet's
abbrev pub figure : State → ℕ → ℕ → Shown
figure s read n = record { holds = eqb read n; state = s }

abbrev pub shown : State → Line → Shown
shown s (does c a) = called a (step s.kernel s.room [] c)
shown s (lends c block a) = called a (step s.kernel s.room block c)
shown s (running p) = figure s s.kernel.running.0 p
shown s (next p) = figure s s.kernel.next.0 p
shown s (ready m) = figure s s.kernel.ready m
shown s (flag i n) = figure s (state_number (flag_at s.kernel i).on) n
shown s (waiters i m) = figure s (flag_at s.kernel i).waiters m
shown s (first i n) = figure s (channel_at s.kernel i).first n
shown s (word i n) = figure s (get_or s.room i 0) n

-- ---- the first line, counted from 1, of the first row that fails, by the sheet's number of the case
pub data Fault : Type 0 where
  none : Fault
  at : ℕ → ℕ → Fault

-- of the lines of case n from line i on (`elim` and `let`: a step is computed once, and only if the lines before it hold)
unfoldable pub fault_in : ℕ → ℕ → List Line → State → Fault
fault_in n i [] s = none
fault_in n i (l ∷ ls) s = let x = shown s l in elim x.holds [ true ↦ fault_in n (i + 1) ls x.state | false ↦ at n i ]

unfoldable pub first_fault : List Row → Fault
first_fault [] = none
first_fault (r ∷ rs) = elim (fault_in r.number 1 r.lines r.start) [ none ↦ first_fault rs | at n i ↦ at n i ]
