-- The tests of a file that would run: where each begins, and what it is called.
use Rattle.std.specs.Prelude.{◌≡◌, ◌≢◌, ℕ, List, [], ◌∷◌, length, Option, Result, Ok, Err, codes}
use Rattle.std.specs.Io.KnownBytes.{Appends}
use Rattle.std.specs.List.{flat_map}
use Rattle.script_files.specs.Sessions.{sessions_of}
use Rattle.script_files.specs.declared.fault.SessionFault.{SessionFault}
use Rattle.script_files.specs.declared.fault.SessionFault.TheVariants as unread
use Rattle.script_files.specs.declared.session.Session.{Session}
use Rattle.ent_wire.specs.declared.fault.ServeFault.{ServeFault}
use Rattle.ent_wire.specs.declared.fault.ServeFault.TheVariants as fault
use Rattle.cli_replies.specs.Comparing.{told_at}
use Rattle.cli_test.specs.Testing.{chosen, misplaced_line}
use Rattle.cli_test.specs.declared.testing.TestPlan.{TestPlan}
use Rattle.cli_test.specs.declared.tally.Tally.{Tally}

-- the line on a test
abbrev pub heading_told : List ℕ → Session → List ℕ
heading_told name session = told_at name session.number (codes ": ") session.name

-- a test that failed, with a line on it
abbrev pub Fails : Option (List ℕ) → Option (List ℕ) → Tally → List ℕ → Type 0
Fails before after tally line = (tally ≡ record { passed = 0; failed = 1 }) × Appends before after line

-- those of these sessions that would run are told, and counted
abbrev pub AreListed : TestPlan → List ℕ → List Session → Option (List ℕ) → Option (List ℕ) → Tally → Type 0
AreListed plan name sessions before after tally =
    (tally ≡ record { passed = length (chosen plan sessions); failed = 0 }) × Appends before after (flat_map (heading_told name) (chosen plan sessions))

-- those of a file's sessions are; of none, it is told that there are none, which is a test that failed
abbrev pub ListsAll : TestPlan → List ℕ → List Session → Option (List ℕ) → Option (List ℕ) → Tally → Type 0
ListsAll plan name [] before after tally = Fails before after tally (told_at name 1 (codes ": ") (codes "no test begins here"))
ListsAll plan name (session ∷ sessions) before after tally = AreListed plan name (session ∷ sessions) before after tally

-- of what a file spells; a file that spells no sessions counts as a test that failed
abbrev pub ListsSpelled : TestPlan → List ℕ → Result (List Session) SessionFault → Option (List ℕ) → Option (List ℕ) → Tally → Type 0
ListsSpelled plan name (Ok sessions) before after tally = ListsAll plan name sessions before after tally
ListsSpelled plan name (Err (unread.Form number why)) before after tally = Fails before after tally (misplaced_line name number why)
ListsSpelled plan name (Err unread.Memory) before after tally = ⊥

-- what listing the tests of a file writes and gives; it reads nothing, so no reader fails
abbrev pub Lists : TestPlan → List ℕ → List ℕ → Option (List ℕ) → Option (List ℕ) → Result Tally ServeFault → Type 0
Lists plan name bytes before after (Ok tally) = ListsSpelled plan name (sessions_of bytes) before after tally
Lists plan name bytes before after (Err e) = e ≢ fault.Read
