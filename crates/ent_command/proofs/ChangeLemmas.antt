-- What holds of each change that can be read in a line holds of the change that it asks for.
use Rattle.std.proofs.Common.{◌≡◌, ℕ, List, [], ◌∷◌, ◌++◌, Bool, true, false, Option, Some, None, Result, Ok, Err, cond, map, subst}
use Rattle.std.specs.Prelude.{bytes_eq, codes, find, nat_lt, option_map, IfSome}
use Rattle.std.specs.List.{AllByRecursion}
use Rattle.serde_json.specs.Data.{Data}
use Rattle.serde_json.specs.Find.{get}
use Rattle.ent_json.specs.Objects.{text_at}
use Rattle.ent_polform.specs.Objects.{need, must}
use Rattle.ent_table.specs.declared.edit.List.{List as Which}
use Rattle.ent_table.specs.declared.edit.List.TheVariants.{People, Actions, Resources}
use Rattle.ent_command.specs.Asked as asked
use Rattle.ent_command.specs.Asked.{Change, Command, Form, Question, as_command, begun, changes, command_in, command_of, form, form_of, forms, in_session, naming, questions, setting, storing, withdrawing}
use Rattle.ent_command.specs.Keys.{null_or_text_at, number_at}
use Rattle.ent_wire.specs.declared.refusal.Refusal.{Refusal}
use Rattle.ent_wire.specs.declared.refusal.Refusal.TheVariants.{Shape, UnknownSession}

-- it holds of each change that can be read in this JSON
pub record HoldsOfReads (P : Change → Type 0) (d : Data) : Type 0 where
  pub adding : (list : Which) → IfSome (naming (asked.add_name list) d) P
  pub dropping : (list : Which) → IfSome (naming (asked.drop_name list) d) P
  pub added : IfSome (storing asked.add_policy d) P
  pub replaced : IfSome (storing asked.replace_policy d) P
  pub withdrawn : IfSome (withdrawing d) P
  pub row : IfSome (setting d) P
  pub root : IfSome (option_map asked.set_root (get (codes "reference") d)) P
  pub day : IfSome (option_map asked.set_day (null_or_text_at (codes "day") d)) P
  pub moment : IfSome (option_map asked.set_moment (null_or_text_at (codes "moment") d)) P

-- it holds of a command that is a change
abbrev Holds : (Change → Type 0) → Command → Type 0
Holds P (asked.change c) = P c
Holds P other = Unit {0}

abbrev IfAsked : (Change → Type 0) → Option Command → Type 0
IfAsked P None = Unit {0}
IfAsked P (Some c) = Holds P c

record Asks (P : Change → Type 0) (o : Option Command) : Type 0 where
  is : IfAsked P o

of_question : (P : Change → Type 0) (o : Option Question) → Asks P (option_map asked.question o)
of_question P None = record { is = tt }
of_question P (Some q) = record { is = tt }

of_change : (P : Change → Type 0) (o : Option Change) → IfSome o P → Asks P (option_map asked.change o)
of_change P None h = record { is = tt }
of_change P (Some c) h = record { is = h }

-- the form of a change asks for one of which it holds
abbrev Changes : (Change → Type 0) → Data → Form Change → Type 0
Changes P d f = IfSome (f.asked d) P

changes_ask : (P : Change → Type 0) (d : Data) (fs : List (Form Change)) (more : List (Form Command)) → AllByRecursion (Changes P d) fs
    → AllByRecursion (λ f. Asks P (f.asked d)) more → AllByRecursion (λ f. Asks P (f.asked d)) (map (as_command asked.change) fs ++ more)
changes_ask P d [] more holds rest = rest
changes_ask P d (f ∷ fs) more holds rest = (of_change P (f.asked d) holds.0, changes_ask P d fs more holds.1 rest)

questions_ask : (P : Change → Type 0) (d : Data) (fs : List (Form Question)) (more : List (Form Command))
    → AllByRecursion (λ f. Asks P (f.asked d)) more → AllByRecursion (λ f. Asks P (f.asked d)) (map (as_command asked.question) fs ++ more)
questions_ask P d [] more rest = rest
questions_ask P d (f ∷ fs) more rest = (of_question P (f.asked d), questions_ask P d fs more rest)

-- the form of a mark
abbrev marking : List (Form Command)
marking = form (codes "mark") [] (λ d. Some asked.mark) ∷ []

mark_asks : (P : Change → Type 0) (d : Data) → AllByRecursion (λ f. Asks P (f.asked d)) marking
mark_asks P d = (record { is = tt }, tt)

read_changes : (P : Change → Type 0) (d : Data) → HoldsOfReads P d → AllByRecursion (Changes P d) changes
read_changes P d h = (
  h.adding People,
  (
    h.adding Actions,
    (
      h.adding Resources,
      (
        h.dropping People,
        (
          h.dropping Actions,
          (
            h.dropping Resources,
            (h.added, (h.replaced, (h.withdrawn, (h.row, (h.root, (h.day, (h.moment, tt))))))),
          ),
        ),
      ),
    ),
  ),
)

-- each form of the table
forms_ask : (P : Change → Type 0) (d : Data) → HoldsOfReads P d → AllByRecursion (λ f. Asks P (f.asked d)) forms
forms_ask P d h =
    changes_ask P d changes (map (as_command asked.question) questions ++ marking) (read_changes P d h)
    (questions_ask P d questions marking (mark_asks P d))

-- what holds of each form of a list holds of one that is found in it
found_one : (Q : Form Command → Type 0) (p : Form Command → Bool) (fs : List (Form Command)) → AllByRecursion Q fs → IfSome (find p fs) Q
found_one Q p [] all = tt
found_one Q p (f ∷ fs) all = by (p f) (found_one Q p fs all.1)
  where
    by : (b : Bool) → IfSome (find p fs) Q → IfSome (cond b (Some f) (find p fs)) Q
    by true rest = all.0
    by false rest = rest

-- ---- a line

abbrev IfCommand : (Change → Type 0) → Result Command Refusal → Type 0
IfCommand P (Ok c) = Holds P c
IfCommand P (Err why) = Unit {0}

record Yields (P : Change → Type 0) (r : Result Command Refusal) : Type 0 where
  is : IfCommand P r

abbrev IfRequest : (Change → Type 0) → Result (ℕ × Command) Refusal → Type 0
IfRequest P (Ok x) = Holds P x.1
IfRequest P (Err why) = Unit {0}

record Requests (P : Change → Type 0) (r : Result (ℕ × Command) Refusal) : Type 0 where
  is : IfRequest P r

form_yields : (P : Change → Type 0) (fits : Bool) (o : Option Command) → Asks P o → Yields P (must Shape fits (need Shape o))
form_yields P true (Some c) h = record { is = h.is }
form_yields P true None h = record { is = tt }
form_yields P false o h = record { is = tt }

command_yields : (P : Change → Type 0) (d : Data) (o : Option (Form Command)) → IfSome o (λ f. Asks P (f.asked d)) → Yields P (command_of o d)
command_yields P d None h = record { is = tt }
command_yields P d (Some f) h = form_yields P _ (f.asked d) h

word_yields : (P : Change → Type 0) (d : Data) (word : List ℕ) → HoldsOfReads P d → Yields P (command_of (form_of word) d)
unfolding form_of
word_yields P d word h = command_yields P d (form_of word) (found_one _ (λ f. bytes_eq word f.word) forms (forms_ask P d h))

known_requests : (P : Change → Type 0) (known : Bool) (session : ℕ) (c : Command) → Holds P c → Requests P (must UnknownSession known (Ok (session, c)))
known_requests P true session c h = record { is = h }
known_requests P false session c h = record { is = tt }

session_requests : (P : Change → Type 0) (session : Option ℕ) (r : Result Command Refusal) → Yields P r → Requests P (in_session session r)
session_requests P session (Err why) h = record { is = tt }
session_requests P None (Ok c) h = record { is = tt }
session_requests P (Some session) (Ok c) h = known_requests P (nat_lt session 16) session c h.is

begun_requests : (P : Change → Type 0) (d : Data) (word : Option (List ℕ)) (session : Option (Option ℕ)) → HoldsOfReads P d → Requests P (begun word session d)
begun_requests P d None session h = record { is = tt }
begun_requests P d (Some word) None h = record { is = tt }
begun_requests P d (Some word) (Some session) h = session_requests P session (command_of (form_of word) d) (word_yields P d word h)

-- what holds of each change that can be read holds of the one that is asked for
pub change_asked : (P : Change → Type 0) (d : Data) (session : ℕ) (c : Change) → HoldsOfReads P d → command_in d ≡ Ok (session, asked.change c) → P c
unfolding command_in
change_asked P d session c h e = (subst (Requests P) e (begun_requests P d (text_at (codes "do") d) (number_at (codes "session") 0 d) h)).is
