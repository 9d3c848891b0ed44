-- The three lists of names, and the requests that they make.
use Rattle.std.specs.Prelude.{ℕ, String, string_bytes, ◌*◌, List, [], ◌∷◌, ◌++◌}
use Rattle.std.specs.Prelude.{Bool, not, ◌&&◌, filter, length, map, nat_eq}
use Rattle.std.specs.Cmp.Lexicographic.{pointwise}
use Rattle.std.specs.List.{flat_map, list_any}
use Rattle.ent_eval.specs.declared.who.Who.{Who}
use Rattle.ent_table.specs.declared.edit.List.{List as Which}
use Rattle.ent_table.specs.declared.edit.List.TheVariants as which

-- the names of the people, the actions and the resources, in order
pub record Names : Type 0 where
  pub people : List (List ℕ)
  pub actions : List (List ℕ)
  pub resources : List (List ℕ)

-- the names in a list of `String`s
abbrev pub texts : {Z : Type 0} → List (String Z) → List (List ℕ)
texts names = map string_bytes names

abbrev pub no_names : Names
no_names = record { people = []; actions = []; resources = [] }

-- one of the three lists
abbrev pub list_of : Which → Names → List (List ℕ)
list_of which.People names = names.people
list_of which.Actions names = names.actions
list_of which.Resources names = names.resources

-- another list in place of one
abbrev pub with_list : Which → List (List ℕ) → Names → Names
with_list which.People xs names = record names { people = xs }
with_list which.Actions xs names = record names { actions = xs }
with_list which.Resources xs names = record names { resources = xs }

-- a list with a name put last
abbrev pub with_name : Which → List ℕ → Names → Names
with_name list name names = with_list list (list_of list names ++ name ∷ []) names

-- the names that are not this one, in their order
abbrev pub others : List ℕ → List (List ℕ) → List (List ℕ)
others name names = filter (λ x. not (pointwise nat_eq name x)) names

-- a list without a name
abbrev pub without_name : Which → List ℕ → Names → Names
without_name list name names = with_list list (others name (list_of list names)) names

-- whether a list has a name
abbrev pub has_name : List ℕ → List (List ℕ) → Bool
has_name name names = list_any (pointwise nat_eq name) names

-- a request of the table: who, does what, to what
abbrev pub Triple : Type 0
Triple = Who

abbrev pub triple_of : List ℕ → List ℕ → List ℕ → Triple
triple_of person action resource = record { person = person; action = action; resource = resource }

-- a person and an action with each of the resources
abbrev pub with_resources : List ℕ → List ℕ → List (List ℕ) → List Triple
with_resources person action resources = map (triple_of person action) resources

-- a person with each of the actions and each of the resources
abbrev pub with_actions : List ℕ → List (List ℕ) → List (List ℕ) → List Triple
with_actions person actions resources = flat_map (λ action. with_resources person action resources) actions

-- every person with every action and every resource
abbrev pub all_triples : List (List ℕ) → List (List ℕ) → List (List ℕ) → List Triple
all_triples people actions resources = flat_map (λ person. with_actions person actions resources) people

-- all listed requests in list order, people outermost
abbrev pub triples : Names → List Triple
triples names = all_triples names.people names.actions names.resources

-- whether a request is listed
abbrev pub is_listed : Names → Triple → Bool
is_listed names t =
    has_name t.person names.people && (has_name t.action names.actions && has_name t.resource names.resources)

-- how many cells the lists make
abbrev pub cell_count : Names → ℕ
cell_count names = length names.people * (length names.actions * length names.resources)
