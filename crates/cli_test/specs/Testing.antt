-- Tests of policies: sessions, and whether a service replies to them as they expect.
use Rattle.std.specs.Prelude.{◌≡◌, ◌≢◌, ℕ, ◌+◌, ◌-◌, ◌&&◌, ◌||◌, Bool, true, not, List, [], ◌∷◌, ◌++◌, length, map, Option, Some, None, IfSome, Result, Ok, Err, ⊤, bytes_eq, codes, decimal, if◌then◌else◌}
use Rattle.std.specs.Borrow.{Bor}
use Rattle.std.specs.Io.KnownBytes.{Appends}
use Rattle.std.specs.List.{All, filter, flat_map, list_any}
use Rattle.std.specs.Option.{is_some}
use Rattle.script_files.specs.Sessions.{sessions_of}
use Rattle.script_files.specs.declared.fault.Mistake.{Mistake}
use Rattle.script_files.specs.declared.fault.Mistake.TheVariants as mistake
use Rattle.script_files.specs.declared.fault.SessionFault.{SessionFault}
use Rattle.script_files.specs.declared.fault.SessionFault.TheVariants as unread
use Rattle.script_files.specs.declared.session.Session.{Session}
use Rattle.script_files.specs.declared.session.SentLine.{SentLine}
use Rattle.script_junit.specs.Junit.{errors, failed}
use Rattle.script_junit.specs.declared.result.TestCase.{TestCase}
use Rattle.script_junit.specs.declared.result.Suite.{Suite}
use Rattle.ent_wire.specs.declared.fault.ServeFault.{ServeFault}
use Rattle.ent_wire.specs.declared.fault.ServeFault.TheVariants as fault
use Rattle.cli_replies.specs.Comparing.{are_sure, behind, differences, pass, told_at, asked}
use Rattle.cli_test.specs.declared.testing.TestPlan.{TestPlan}
use Rattle.cli_test.specs.declared.tally.Tally.{Tally}
use Rattle.cli_serve.specs.Replying.{AreRepliesTo}

-- steps say of a reply what it is to be
abbrev pub has_expected : List SentLine → Bool
has_expected steps = list_any (λ step. is_some step.expected) steps

-- a session passes with these replies: one is expected, and each is as it is to be
abbrev pub passes : List SentLine → List ℕ → Bool
passes steps replies = has_expected steps && pass steps replies

-- what is sent to the service of a session: the lines of a state, and then its own
abbrev pub sent_to : List SentLine → Session → List ℕ
sent_to state session = asked (state ++ session.steps)

-- a session that was run, with the replies to the lines of the state and to its own
abbrev pub Ran : Type 0
Ran = Session × List ℕ

-- the lines of the state were accepted
abbrev pub accepted : TestPlan → Ran → Bool
accepted plan run = pass plan.state.now run.1

-- the replies to its own lines
abbrev pub own_replies : TestPlan → Ran → List ℕ
own_replies plan run = behind plan.state.now run.1

-- it passed: the lines of the state were accepted, and it passes with the replies to its own
abbrev pub passed : TestPlan → Ran → Bool
passed plan run = accepted plan run && passes run.0.steps (own_replies plan run)

-- it isn't for want of memory that it didn't
abbrev pub sure : TestPlan → Ran → Bool
sure plan run = are_sure plan.state.now run.1 && (not (accepted plan run) || are_sure run.0.steps (own_replies plan run))

-- what is told where no reply is expected
abbrev pub unexpecting : List ℕ → Session → List ℕ
unexpecting name session = if has_expected session.steps then [] else told_at name session.number (codes ": ") (codes "no reply is expected")

-- what is told of the replies to a session's own lines
abbrev pub told_of_test : List ℕ → Session → List ℕ → List ℕ
told_of_test name session replies = unexpecting name session ++ differences name session.steps replies

-- what is told of replies: of those to the state if they aren't all accepted, else of the session's own
abbrev pub told_of_replies : List ℕ → TestPlan → Ran → List ℕ
told_of_replies name plan run = differences plan.state_name.now plan.state.now run.1 ++ (if accepted plan run then told_of_test name run.0 (own_replies plan run) else [])

-- what is told of a run: of the replies, and what the session is called if it didn't pass
abbrev pub told_of : List ℕ → TestPlan → Ran → List ℕ
told_of name plan run = told_of_replies name plan run ++ (if passed plan run then [] else told_at name run.0.number (codes ": failed ") run.0.name)

-- a session runs: all do, or those of a name
abbrev pub is_chosen : Option (Bor (List ℕ)) → Session → Bool
is_chosen None session = true
is_chosen (Some name) session = bytes_eq session.name name.now

-- the sessions that run
abbrev pub chosen : TestPlan → List Session → List Session
chosen plan sessions = filter (is_chosen plan.only) sessions

-- what became of a session that was run
abbrev pub case_of : List ℕ → TestPlan → Ran → TestCase
case_of name plan run = record { name = run.0.name; number = run.0.number; passed = passed plan run; told = told_of name plan run }

-- a session was run over a new service behind the lines of the state, memory wasn't wanting, and this became of it
abbrev pub IsRun : TestPlan → List ℕ → Session → TestCase → Type 0
IsRun plan name session test = (replies : List ℕ) × AreRepliesTo plan.limits session.modules (sent_to plan.state.now session) replies
    × (sure plan (session, replies) ≡ true) × (test ≡ case_of name plan (session, replies))

-- these sessions were run one after the other, each over a new service and behind the lines of the state; of none that didn't pass memory was
-- wanting, and this became of them
abbrev pub AreTested : TestPlan → List ℕ → List Session → List TestCase → Type 0
AreTested plan name sessions cases = (runs : List Ran) × (map (λ run. run.0) runs ≡ sessions)
    × All (λ run. AreRepliesTo plan.limits run.0.modules (sent_to plan.state.now run.0) run.1 × (sure plan run ≡ true)) runs
    × (cases ≡ map (case_of name plan) runs)

-- what is told of tests, one after the other
abbrev pub told_of_cases : List TestCase → List ℕ
told_of_cases cases = flat_map (λ test. test.told) cases

-- what a test of those of the sessions that are chosen gives, and that it writes what is told of them; it reads nothing, so no reader fails
abbrev pub TestsEach : TestPlan → List ℕ → List Session → Option (List ℕ) → Option (List ℕ) → Result (List TestCase) ServeFault → Type 0
TestsEach plan name sessions before after (Ok cases) = AreTested plan name (chosen plan sessions) cases × Appends before after (told_of_cases cases)
TestsEach plan name sessions before after (Err e) = e ≢ fault.Read

-- why a line can't stand where it stands
abbrev pub mistake_text : Mistake → List ℕ
mistake_text mistake.NoHeading = codes "a test begins with # NAME"
mistake_text mistake.NoLine = codes "a reply stands right below the line that is sent"
mistake_text mistake.Repeated = codes "what comes many times ends with an empty line"
mistake_text mistake.Modules = codes "a test has from 1 to 4 modules of each sort"
mistake_text mistake.NoMark = codes "a line begins with # > < = ~ * and a space, or with --"

-- the line on a file of which the line of this number can't stand where it stands
abbrev pub misplaced_line : List ℕ → ℕ → Mistake → List ℕ
misplaced_line name number why = told_at name number (codes ": this line can't stand here: ") (mistake_text why)

-- no test ran, and a line was written on why
abbrev pub Untested : Option (List ℕ) → Option (List ℕ) → Suite → List ℕ → Type 0
Untested before after suite line = (suite.cases ≡ []) × (suite.error ≡ Some line) × Appends before after line

-- what a test of sessions gives and writes: of none, that there are none
abbrev pub TestsAll : TestPlan → List ℕ → List Session → Option (List ℕ) → Option (List ℕ) → Suite → Type 0
TestsAll plan name [] before after suite = Untested before after suite (told_at name 1 (codes ": ") (codes "no test begins here"))
TestsAll plan name (session ∷ sessions) before after suite = (suite.error ≡ None) × TestsEach plan name (session ∷ sessions) before after (Ok suite.cases)

-- what a test of what a file spells gives and writes: its sessions are tested, if it spells any
abbrev pub TestsSpelled : TestPlan → List ℕ → Result (List Session) SessionFault → Option (List ℕ) → Option (List ℕ) → Suite → Type 0
TestsSpelled plan name (Ok sessions) before after suite = TestsAll plan name sessions before after suite
TestsSpelled plan name (Err (unread.Form number why)) before after suite = Untested before after suite (misplaced_line name number why)
TestsSpelled plan name (Err unread.Memory) before after suite = ⊥

-- what a test of the bytes of a file gives and writes
abbrev pub TestsBytes : TestPlan → List ℕ → List ℕ → Option (List ℕ) → Option (List ℕ) → Result Suite ServeFault → Type 0
TestsBytes plan name bytes before after (Ok suite) = (suite.name.now ≡ name) × TestsSpelled plan name (sessions_of bytes) before after suite
TestsBytes plan name bytes before after (Err e) = e ≢ fault.Read

-- what a test of all that the reader has gives and writes, where that is known; where it fails, nothing is written
abbrev pub Tests : TestPlan → List ℕ → Option (List ℕ) → Option (List ℕ) → Option (List ℕ) → Result Suite ServeFault → Type 0
Tests plan name unread before after (Ok suite) = IfSome unread (λ all. TestsBytes plan name all before after (Ok suite))
Tests plan name unread before after (Err fault.Read) = Appends before after []
Tests plan name unread before after (Err fault.Write) = ⊤
Tests plan name unread before after (Err fault.Memory) = ⊤

-- how many of the tests of a file passed, and how many failed; a file whose tests couldn't run counts as one that failed
abbrev pub tally_of : Suite → Tally
tally_of suite = record { passed = length suite.cases - failed suite.cases; failed = failed suite.cases + errors suite.error }

-- the line of a tally, its newline included
abbrev pub tally_line : Tally → List ℕ
tally_line tally = decimal tally.passed ++ (codes " passed, " ++ (decimal tally.failed ++ codes " failed\n"))
