-- What a line asks for: the commands, and the table of their words.
use Rattle.std.specs.Prelude.{◌≡◌, ◌⊎◌, ℕ, Bool, List, [], ◌∷◌, ◌++◌, find, map, if◌then◌else◌, nat_lt, bytes_eq, codes, Option, Some, None, option_map, Result, Ok, Err}
use Rattle.std.specs.Option.{option_map_or}
use Rattle.serde_json.specs.Data.{Data}
use Rattle.serde_json.specs.Find.{get}
use Rattle.ent_policy.specs.declared.key.Kind.{Kind}
use Rattle.ent_json.specs.Objects.{flag_at, has_only, text_at}
use Rattle.ent_polform.specs.Objects.{need, must}
use Rattle.ent_table.specs.Names.{Triple, triple_of}
use Rattle.ent_table.specs.declared.edit.List.{List as Which}
use Rattle.ent_table.specs.declared.edit.List.TheVariants.{People, Actions, Resources}
use Rattle.ent_command.specs.Keys.{◌>>=◌, AskedRow, category_named, kind_named, list_named, null_or_text_at, number_at, number_in, row_in}
use Rattle.ent_command.specs.Wanted.{Wanted, optional_text, wanted_in}
use Rattle.ent_wire.specs.declared.refusal.Refusal.{Refusal}
use Rattle.ent_wire.specs.declared.refusal.Refusal.TheVariants.{Shape, UnknownCommand, UnknownSession}

-- what makes an edit, if what it says can be read. The number of a module, 0 where it is absent, is none where it is
-- negative
pub data Change : Type 0 where
  -- puts a name last in a list
  add_name : Which → List ℕ → Change
  -- takes a name out of a list
  drop_name : Which → List ℕ → Change
  -- stores a document in the module of that number
  add_policy : Option ℕ → Data → Change
  -- puts a document in the place of the one with its kind, id and version, in the module of that number
  replace_policy : Option ℕ → Data → Change
  -- takes the document of that kind, id and version out of the module of that number
  withdraw_policy : Option ℕ → Kind → List ℕ → List ℕ → Change
  -- gives a row its values, in the module of that number
  set_attribute : Option ℕ → AskedRow → Change
  -- sets the root to what a reference names
  set_root : Data → Change
  -- sets the day to what a text writes, or to none
  set_day : Option (List ℕ) → Change
  -- sets the moment to what a text writes, or to none
  set_moment : Option (List ℕ) → Change

-- what is asked about the world, and leaves it
pub data Question : Type 0 where
  -- all cells
  table : Question
  -- one cell
  cell : Triple → Question
  -- the answer to a request
  ask : Data → Question
  -- how many cells have each decision
  counts : Question
  -- what a person can do
  can : List ℕ → Question
  -- who can do an action to a resource
  who : List ℕ → List ℕ → Question
  -- which cells a rule of a policy decides, or without a rule the default of a policy or a set
  by_rule : List ℕ → Option (List ℕ) → Question
  -- what changed since the mark
  notices : Question
  -- what changed since a serial. A negative number is none
  changes_since : Option ℕ → Question
  -- how many times a request was evaluated
  work : Question
  -- whether the lines behind it may have that version. A negative number is none
  format : Option ℕ → Question
  -- the lines of that version that make the state anew
  dump : Option ℕ → Question
  -- what stands, in numbers
  state : Question
  -- the cells of some person, action, resource and decisions
  cells : Wanted → Question
  -- the values that are held of an entity of a category, which may be none
  attributes : Option (List ℕ) → List ℕ → Question
  -- the documents that are held, or those of an id
  documents : Option (List ℕ) → Question
  -- one cell, its causes, and what its answer rests on: with what the documents say that are found, or without
  explain_cell : Bool → Triple → Question
  -- the answer to a request, its causes, and what it rests on
  explain : Bool → Data → Question
  -- the cells of which a part failed
  faults : Question
  -- how large everything may grow
  limits : Question
  -- the names of a list from a place on, and at most so many. A negative number is none
  names : Which → Option ℕ → Option ℕ → Question

pub data Command : Type 0 where
  change : Change → Command
  question : Question → Command
  -- marks the present table
  mark : Command

-- ---- what is asked, where the shape is right

-- a change of a list by a name
unfoldable pub naming : (List ℕ → Change) → Data → Option Change
naming make d = option_map make (text_at (codes "name") d)

-- a document that is stored in a module
unfoldable pub storing : (Option ℕ → Data → Change) → Data → Option Change
storing make d = number_at (codes "module") 0 d >>= λ number. option_map (make number) (get (codes "document") d)

-- a document that is withdrawn
unfoldable pub withdrawing : Data → Option Change
withdrawing d = do
  number ← number_at (codes "module") 0 d
  kind ← text_at (codes "kind") d >>= kind_named
  id ← text_at (codes "id") d
  option_map (withdraw_policy number kind id) (text_at (codes "version") d)

-- a row that is set in a module
unfoldable pub setting : Data → Option Change
setting d = number_at (codes "module") 0 d >>= λ number. option_map (set_attribute number) (row_in d)

-- a person, an action and a resource
unfoldable pub triple_in : Data → Option Triple
triple_in d = do
  person ← text_at (codes "person") d
  action ← text_at (codes "action") d
  option_map (triple_of person action) (text_at (codes "resource") d)

-- what the answer to a request rests on, beside which no names stand, or that of a cell
abbrev pub explanation_asked : Bool → Data → Option Question
explanation_asked whole d =
    option_map_or (λ request.
    if has_only (codes "do" ∷ codes "session" ∷ codes "documents" ∷ codes "request" ∷ []) d
    then Some (explain whole request) else None)
    (get (codes "request") d) (option_map (explain_cell whole) (triple_in d))

-- the same, with documents or without
unfoldable pub explain_asked : Data → Option Question
explain_asked d = flag_at (codes "documents") d >>= λ whole. explanation_asked whole d

-- who can do an action to a resource
unfoldable pub who_asked : Data → Option Question
who_asked d = text_at (codes "action") d >>= λ action. option_map (who action) (text_at (codes "resource") d)

-- the values of an entity
unfoldable pub attributes_asked : Data → Option Question
attributes_asked d = text_at (codes "category") d >>= λ word. option_map (attributes (category_named word)) (text_at (codes "entity") d)

-- the names of a list: all from the first on, unless it is said. No list has more than 65,536
unfoldable pub names_asked : Data → Option Question
names_asked d = do
  list ← text_at (codes "list") d >>= list_named
  from ← number_at (codes "from") 0 d
  option_map (names list from) (number_at (codes "count") 65536 d)

-- which cells a rule decides
unfoldable pub by_rule_asked : Data → Option Question
by_rule_asked d = text_at (codes "policy") d >>= λ policy. option_map (by_rule policy) (null_or_text_at (codes "rule") d)

-- ---- the table of commands

-- how something is asked for: its word, its keys besides `do` and `session`, and what an object asks for where its
-- shape is right
pub record Form (A : Type 0) : Type 0 where
  pub word : List ℕ
  pub keys : List (List ℕ)
  pub asked : Data → Option A

abbrev pub form : {A : Type 0} → List ℕ → List (List ℕ) → (Data → Option A) → Form A
form word keys asked = record { word = word; keys = keys; asked = asked }

-- each change
abbrev pub changes : List (Form Change)
changes =
    form (codes "person.add") (codes "name" ∷ []) (naming (add_name People)) ∷
    form (codes "action.add") (codes "name" ∷ []) (naming (add_name Actions)) ∷
    form (codes "resource.add") (codes "name" ∷ []) (naming (add_name Resources)) ∷
    form (codes "person.drop") (codes "name" ∷ []) (naming (drop_name People)) ∷
    form (codes "action.drop") (codes "name" ∷ []) (naming (drop_name Actions)) ∷
    form (codes "resource.drop") (codes "name" ∷ []) (naming (drop_name Resources)) ∷
    form (codes "policy.add") (codes "document" ∷ codes "module" ∷ []) (storing add_policy) ∷
    form (codes "policy.replace") (codes "document" ∷ codes "module" ∷ []) (storing replace_policy) ∷
    form (codes "policy.withdraw") (codes "id" ∷ codes "kind" ∷ codes "module" ∷ codes "version" ∷ []) withdrawing ∷
    form (codes "attr.set")
    (codes "attribute" ∷ codes "category" ∷ codes "entity" ∷ codes "issuer" ∷ codes "module" ∷ codes "type"
    ∷ codes "values" ∷ []) setting ∷
    form (codes "root.set") (codes "reference" ∷ []) (λ d. option_map set_root (get (codes "reference") d)) ∷
    form (codes "day.set") (codes "day" ∷ []) (λ d. option_map set_day (null_or_text_at (codes "day") d)) ∷
    form (codes "moment.set") (codes "moment" ∷ []) (λ d. option_map set_moment (null_or_text_at (codes "moment") d)) ∷
    []

-- each question
abbrev pub questions : List (Form Question)
questions =
    form (codes "table") [] (λ d. Some table) ∷
    form (codes "cell") (codes "action" ∷ codes "person" ∷ codes "resource" ∷ []) (λ d. option_map cell (triple_in d)) ∷
    form (codes "ask") (codes "request" ∷ []) (λ d. option_map ask (get (codes "request") d)) ∷
    form (codes "counts") [] (λ d. Some counts) ∷
    form (codes "can") (codes "person" ∷ []) (λ d. option_map can (text_at (codes "person") d)) ∷
    form (codes "who") (codes "action" ∷ codes "resource" ∷ []) who_asked ∷
    form (codes "by_rule") (codes "policy" ∷ codes "rule" ∷ []) by_rule_asked ∷
    form (codes "notices") [] (λ d. Some notices) ∷
    form (codes "changes") (codes "since" ∷ []) (λ d. option_map changes_since (get (codes "since") d >>= number_in)) ∷
    form (codes "work") [] (λ d. Some work) ∷
    form (codes "format") (codes "version" ∷ []) (λ d. option_map format (get (codes "version") d >>= number_in)) ∷
    form (codes "dump") (codes "version" ∷ []) (λ d. option_map dump (number_at (codes "version") 2 d)) ∷
    form (codes "state") [] (λ d. Some state) ∷
    form (codes "cells") (codes "action" ∷ codes "decisions" ∷ codes "person" ∷ codes "resource" ∷ [])
    (λ d. option_map cells (wanted_in d)) ∷
    form (codes "attributes") (codes "category" ∷ codes "entity" ∷ []) attributes_asked ∷
    form (codes "documents") (codes "id" ∷ []) (λ d. option_map documents (optional_text (codes "id") d)) ∷
    form (codes "explain")
    (codes "action" ∷ codes "documents" ∷ codes "person" ∷ codes "request" ∷ codes "resource" ∷ []) explain_asked ∷
    form (codes "faults") [] (λ d. Some faults) ∷
    form (codes "limits") [] (λ d. Some limits) ∷
    form (codes "names") (codes "count" ∷ codes "from" ∷ codes "list" ∷ []) names_asked ∷
    []

-- the form of what is a command
abbrev pub as_command : {A : Type 0} → (A → Command) → Form A → Form Command
as_command command f = form f.word f.keys (λ d. option_map command (f.asked d))

-- each command
abbrev pub forms : List (Form Command)
forms =
    map (as_command change) changes ++ (map (as_command question) questions
    ++ form (codes "mark") [] (λ d. Some mark) ∷ [])

-- the one that has a word
unfoldable pub form_of : List ℕ → Option (Form Command)
form_of word = find (λ f. bytes_eq word f.word) forms

-- ---- the command of a line

-- what is asked for in a form, or the refusal where there is none: no key but these may stand, and what stands there
-- has to have the right shape
abbrev pub command_of : Option (Form Command) → Data → Result Command Refusal
command_of None d = Err UnknownCommand
command_of (Some f) d = must Shape (has_only (codes "do" ∷ codes "session" ∷ f.keys) d) (need Shape (f.asked d))

-- a command in a session, which is one of the sixteen
abbrev pub in_session : Option ℕ → Result Command Refusal → Result (ℕ × Command) Refusal
in_session session (Err refusal) = Err refusal
in_session None (Ok command) = Err UnknownSession
in_session (Some session) (Ok command) = must UnknownSession (nat_lt session 16) (Ok (session, command))

-- the session of a line and its command, where its word and its session have the right shape
abbrev pub begun : Option (List ℕ) → Option (Option ℕ) → Data → Result (ℕ × Command) Refusal
begun (Some word) (Some session) d = in_session session (command_of (form_of word) d)
begun _ _ d = Err Shape

-- the session of a line and its command, or the first of three refusals that stands. The absent session is 0
unfoldable pub command_in : Data → Result (ℕ × Command) Refusal
command_in d = begun (text_at (codes "do") d) (number_at (codes "session") 0 d) d

-- a refusal is one of these three
abbrev pub IsOfCommands : Refusal → Type 0
IsOfCommands why = (why ≡ Shape) ⊎ ((why ≡ UnknownCommand) ⊎ (why ≡ UnknownSession))
