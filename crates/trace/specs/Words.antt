-- Which call a record is (01, Trace program): one table of words, in the document's order, each with the fields that it uses.
use Rattle.std.specs.Prelude.{ℕ, Bool, cond, ◌&&◌, List, [], ◌∷◌, eqb, leb, length, Option, None, Some}
use Prim.Native.String.{String}
use Rattle.ring.specs.declared.End.TheVariants.{Front, Back}
use Rattle.rules.specs.declared.Call.{Call}
use Rattle.rules.specs.declared.Call.TheVariants.{Enter, Exit, Switch, Process, Finish, Interrupt}
use Rattle.rules.specs.declared.Request.TheVariants.{Sleep, Wait, Signal, Clear, Lock, Try, Unlock, Push, Pop, Flush, Wake, Force}
use Rattle.rules.specs.declared.Interrupt.TheVariants as interrupt
use Rattle.rules.specs.declared.Name.{Name}
use Rattle.rules.specs.declared.Name.TheVariants as name
use Rattle.text.specs.Ascii.{ascii, same}
use Rattle.text.specs.Decimals.{is_number, value_of}
use Rattle.text.specs.Records.{fields}
use Rattle.trace.specs.declared.Command.{Command}
use Rattle.trace.specs.declared.Command.TheVariants as command

-- ---- fields
-- a field is empty, or a plain decimal up to a number
pub data Field : Type 0 where
  unused : Field
  up_to : ℕ → Field

-- limits up to 65,535, a block length up to 64, others up to 4,294,967,295
abbrev pub limit : Field
limit = up_to 65535

abbrev pub short : Field
short = up_to 64

abbrev pub whole : Field
whole = up_to 4294967295

abbrev pub fits : Field → List ℕ → Bool
fits unused s = eqb (length s) 0
fits (up_to most) s = is_number most s

-- ---- what a record asks for
-- a call without block; with a block of `len` words that are all `item`
abbrev pub calls : Call → Command
calls c = command.Call c 0 0

abbrev pub lends : Call → ℕ → ℕ → Command
lends c len item = command.Call c len item

-- a process by its number
abbrev pub numbered : ℕ → Name
numbered p = name.Number (record { 0 = p })

-- ---- the table
pub record Row : Type 0 where
  pub word : String
  pub a : Field
  pub b : Field
  pub command : ℕ → ℕ → Command

abbrev row : String → Field → Field → (ℕ → ℕ → Command) → Row
row word a b command = record { word = word; a = a; b = b; command = command }

abbrev pub words : List Row
words =
    row "direct" unused unused (λ a b. command.Direct)
    ∷ row "deferred" unused unused (λ a b. command.Deferred)
    ∷ row "enter" unused unused (λ a b. calls Enter)
    ∷ row "exit" unused unused (λ a b. calls Exit)
    ∷ row "tick" unused unused (λ a b. calls (Interrupt interrupt.Tick))
    ∷ row "switch" unused unused (λ a b. calls Switch)
    ∷ row "finish" unused unused (λ a b. calls Finish)
    ∷ row "sleep" limit unused (λ a b. calls (Process (Sleep a)))
    ∷ row "signal" whole unused (λ a b. calls (Process (Signal a)))
    ∷ row "signali" whole unused (λ a b. calls (Interrupt (interrupt.Signal a)))
    ∷ row "clear" whole unused (λ a b. calls (Process (Clear a)))
    ∷ row "try" whole unused (λ a b. calls (Process (Try a)))
    ∷ row "unlock" whole unused (λ a b. calls (Process (Unlock a)))
    ∷ row "unlocki" whole unused (λ a b. calls (Interrupt (interrupt.Unlock a)))
    ∷ row "flush" whole unused (λ a b. calls (Process (Flush a)))
    ∷ row "wake" whole unused (λ a b. calls (Process (Wake (numbered a))))
    ∷ row "force" whole unused (λ a b. calls (Process (Force (numbered a))))
    ∷ row "wait" whole limit (λ a b. calls (Process (Wait a b)))
    ∷ row "lock" whole limit (λ a b. calls (Process (Lock a b)))
    ∷ row "pop" whole limit (λ a b. calls (Process (Pop a Front b)))
    ∷ row "popback" whole limit (λ a b. calls (Process (Pop a Back b)))
    ∷ row "push" whole whole (λ a b. calls (Process (Push a b Back)))
    ∷ row "pushfront" whole whole (λ a b. calls (Process (Push a b Front)))
    ∷ row "writei" whole whole (λ a b. lends (Interrupt (interrupt.Write a)) 1 b)
    ∷ row "readi" whole short (λ a b. lends (Interrupt (interrupt.Read a)) b 0)
    ∷ []

-- ---- a record is what the row says that it fits: the row's word, and fields as the row has them. Where no row fits, it is unreadable, which is None
abbrev pub matches : Row → List ℕ → List ℕ → List ℕ → Bool
matches r word a b = same word (ascii r.word) && fits r.a a && fits r.b b

unfoldable pub named : List Row → List ℕ → List ℕ → List ℕ → Option Command
named [] word a b = None
named (r ∷ rows) word a b = cond (matches r word a b) (Some (r.command (value_of a) (value_of b))) (named rows word a b)

-- exactly three fields
abbrev pub of_fields : List (List ℕ) → Option Command
of_fields [] = None
of_fields (word ∷ []) = None
of_fields (word ∷ a ∷ []) = None
of_fields (word ∷ a ∷ b ∷ []) = named words word a b
of_fields (word ∷ a ∷ b ∷ more ∷ others) = None

-- at most 64 bytes
abbrev pub command_of : List ℕ → Option Command
command_of text = cond (leb (length text) 64) (of_fields (fields text)) None
