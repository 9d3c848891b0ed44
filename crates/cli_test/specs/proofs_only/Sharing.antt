-- Which tests are sent to one service, one behind the other, and what its replies are to each of them.
use Rattle.std.specs.Prelude.{ℕ, ◌==◌, ◌-◌, ◌&&◌, Bool, not, List, [], ◌∷◌, ◌++◌, length, take, ⊤}
use Rattle.std.specs.List.{filter, flat_map, list_all, list_any}
use Rattle.script_files.specs.declared.session.Session.{Session}
use Rattle.script_files.specs.declared.session.SentLine.{SentLine}
use Rattle.ent_command.specs.Asking.{only_asks}
use Rattle.cli_replies.specs.Comparing.{behind, is_newline}
use Rattle.cli_serve.specs.Replying.{AreRepliesTo, few}
use Rattle.cli_test.specs.Testing.{is_chosen, sent_to}
use Rattle.cli_test.specs.declared.testing.TestPlan.{TestPlan}

-- what is sent in a step is one line
abbrev pub is_line : SentLine → Bool
is_line step = not (list_any is_newline step.line)

-- what is sent in each of these steps is
abbrev pub are_lines : List SentLine → Bool
are_lines steps = list_all is_line steps

-- what is sent in a step is one line, which only asks
abbrev pub is_asking : SentLine → Bool
is_asking step = is_line step && only_asks step.line

-- what is sent in each of these steps is
abbrev pub are_asking : List SentLine → Bool
are_asking steps = list_all is_asking steps

-- a test shares a service of two modules of each sort with others: it runs, and only asks
abbrev pub shares : TestPlan → Session → Bool
shares plan session = are_lines plan.state.now && (is_chosen plan.only session && (few session.modules == 2 && are_asking session.steps))

-- those of some tests that share a service
abbrev pub sharing : TestPlan → List Session → List Session
sharing plan sessions = filter (shares plan) sessions

-- their steps, in this order
abbrev pub shared_steps : TestPlan → List Session → List SentLine
shared_steps plan sessions = flat_map (λ session. session.steps) (sharing plan sessions)

-- the replies to these steps, at the front of others
abbrev pub front : List SentLine → List ℕ → List ℕ
front steps replies = take (length replies - length (behind steps replies)) replies

-- these replies are, one after the other, what follows on the replies to a state where the lines of each of these tests are sent behind it
abbrev pub AreShared : TestPlan → List ℕ → List Session → List ℕ → Type 0
AreShared plan first [] replies = ⊤
AreShared plan first (session ∷ sessions) replies =
    AreRepliesTo plan.limits session.modules (sent_to plan.state.now session) (first ++ front session.steps replies)
    × AreShared plan first sessions (behind session.steps replies)
