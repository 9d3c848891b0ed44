-- What is found for names, by number: words of the code's own contracts.
use Rattle.std.specs.Prelude.{◌≡◌, ◌≢◌, ◌++◌, ◌⊎◌, ℕ, List, [], ◌∷◌, Some, None, slice_get, slice_set}
use Rattle.std.specs.Hash as fed
use Rattle.std.specs.List.{AllByRecursion, flat_map}
use Rattle.ent_values.specs.Bags.{Contents}
use Rattle.ent_values.specs.Calendar.{Day, TimeOfDay}
use Rattle.ent_values.specs.declared.value.Value.{Value}
use Rattle.ent_values.specs.declared.value.Value.TheVariants as value
use Rattle.memo_bags.specs.declared.finding.Finding.{Finding}
use Rattle.memo_bags.specs.declared.findings.Findings.{Findings}
use Rattle.memo_bags.specs.declared.names.NameRows.{NameRows}
use Rattle.memo_bags.specs.declared.names.NameRow.{NameRow}
use Rattle.ent_request.specs.declared.question.Question.{Question}
use Rattle.ent_request.specs.declared.readers.NamePlace.{NamePlace}
use Rattle.ent_request.specs.declared.request.Request.{Request}
use Rattle.memo_bags.specs.declared.scene.Scene.{Scene}
use Rattle.ent_walk.specs.Law.{FindsSame}
use Rattle.ent_request.specs.Listed.{listed}
use Rattle.ent_request.specs.Looks.{Looks}
use Rattle.memo_bags.specs.Findings.{AreFindings, IsRow}
pub use Rattle.memo_bags.specs.Findings.{IsAt, StandsAt}
use Rattle.memo_bags.specs.Found.{FindsBag, IsAbout, IsAtTime, IsAttribute, place_of}
use Rattle.ent_request.specs.Questions.{at_numbers}
use Rattle.ent_request.specs.Readers.{name_at}

-- ---- what a hasher is fed with

-- of a date
abbrev pub date_writes : Day → List (List ℕ)
date_writes d = fed.u16 d.year ++ (fed.u8 d.month ++ fed.u8 d.day)

-- of a time
abbrev pub time_writes : TimeOfDay → List (List ℕ)
time_writes t = fed.u8 t.hour ++ (fed.u8 t.minute ++ fed.u8 t.second)

-- of a value
abbrev pub value_writes : Value → List (List ℕ)
value_writes (value.Text text) = fed.str text
value_writes (value.Boolean boolean) = fed.bool boolean
value_writes (value.Integer integer) = fed.i64 integer
value_writes (value.Date date) = date_writes date
value_writes (value.AnyUri uri) = fed.str uri
value_writes (value.YearMonth duration) = fed.i64 duration
value_writes (value.Time time) = time_writes time
value_writes (value.DateTime moment) = date_writes moment.date ++ time_writes moment.time

-- of a bag
abbrev pub bag_writes : Contents → List (List ℕ)
bag_writes b = flat_map value_writes b.values

-- ---- lists that grow

-- a list behind which others may stand
abbrev pub Begins : {A : Type 0} → List A → List A → Type 0
Begins {A} new old = (more : List A) × (new ≡ old ++ more)

-- ---- names

-- over what is held in a scene, and its questions
abbrev pub in_scene {ℓ} : {L : Type 0} {A : Type ℓ} → (L → Looks) → Scene L → (Looks → List Question → A) → A
in_scene looks scene f = f (looks scene.held.now) scene.questions.now

-- the request of a scene's names
abbrev pub request_of : {L : Type 0} → Scene L → Request
request_of scene = listed scene.person.now scene.action.now scene.resource.now

-- each list of names is at that of a scene
pub record AreAt {L : Type 0} (scene : Scene L) (findings : Findings) : Type 0 where
  pub person : IsAt findings.people scene.person.now
  pub action : IsAt findings.actions scene.action.now
  pub resource : IsAt findings.resources scene.resource.now

-- what was found is so over what is held in a scene, and each list of names is at that of the scene
pub record AreReady {L : Type 0} (looks : Looks) (scene : Scene L) (findings : Findings) : Type 0 where
  pub are : AreFindings looks scene.questions.now findings
  pub at : AreAt scene findings

-- findings are ready that may have more bags behind the old ones
pub record KeepsReady {L : Type 0} (looks : Looks) (scene : Scene L) (old new : Findings) : Type 0 where
  pub ready : AreReady looks scene new
  pub begins : Begins new.bags old.bags

-- rows were added for which nothing is known
abbrev pub AddsRows : List NameRow → List NameRow → Type 0
AddsRows old new = (more : List NameRow) × ((new ≡ old ++ more) × AllByRecursion (λ r. r.found.items ≡ []) more)

-- the bag of that number is known of a question
abbrev pub Knows : NameRow → ℕ → ℕ → Type 0
Knows row question bag = slice_get row.found.items question ≡ Some (Some bag)

-- what is known in the latest row
abbrev pub KnowsLatest : NameRows → ℕ → ℕ → Type 0
KnowsLatest names question bag = (row : NameRow) × ((slice_get names.rows.items names.latest ≡ Some row) × Knows row question bag)

-- a row of the same name, of which nothing more is known than the bag of one question
abbrev pub LearnsAtMost : NameRow → NameRow → ℕ → ℕ → Type 0
LearnsAtMost old new question bag = (new.name ≡ old.name) × ((n k : ℕ) → Knows new n k → Knows old n k ⊎ ((n ≡ question) × (k ≡ bag)))

-- the same rows, of which the latest may know the bag of that question
abbrev pub LearnsLatest : NameRows → NameRows → ℕ → ℕ → Type 0
LearnsLatest old new question bag = (row : NameRow) × ((next : NameRow) × ((new.latest ≡ old.latest)
    × ((slice_get old.rows.items old.latest ≡ Some row) × ((new.rows.items ≡ slice_set old.rows.items old.latest next) × LearnsAtMost row next question bag))))

-- no row is that of a name
abbrev pub HasNone : List NameRow → List ℕ → Type 0
HasNone rows name = (place : ℕ) (row : NameRow) → slice_get rows place ≡ Some row → row.name ≢ name

-- nothing is known of a row, or it is of another name, and is as it was
abbrev pub IsForgotten : List ℕ → List NameRow → ℕ → NameRow → Type 0
IsForgotten name old place row = (row.found.items ≡ []) ⊎ ((row.name ≢ name) × (slice_get old place ≡ Some row))

-- so is each row
abbrev pub ForgetsName : List ℕ → List NameRow → List NameRow → Type 0
ForgetsName name old new = (place : ℕ) (row : NameRow) → slice_get new place ≡ Some row → IsForgotten name old place row

-- each row is one of a place's names
abbrev pub AreRows : Looks → List Question → List Contents → NamePlace → NameRows → Type 0
AreRows looks questions bags place names = AllByRecursion (IsRow looks questions bags place) names.rows.items

-- ---- what is found

-- whoever else is named, a question finds a bag for a name
abbrev pub FindsForName : Looks → List Question → List Contents → NamePlace → List ℕ → ℕ → ℕ → Type 0
FindsForName looks questions bags place name question bag = (person action resource : List ℕ) → name_at place person action resource ≡ name
    → FindsBag looks questions bags (listed person action resource) question bag

-- a request finds all of these
abbrev pub FindsAll : Looks → List Question → List Contents → Request → List Finding → Type 0
FindsAll looks questions bags request found = AllByRecursion (λ f. FindsBag looks questions bags request f.question f.bag) found

-- what a request finds for a question was noted, if it is about a name
abbrev pub NotesFinding : Looks → List Question → List Contents → Request → ℕ → List Finding → List Finding → Type 0
NotesFinding looks questions bags request n old new =
    ((new ≡ old) × ((x : Question) → slice_get questions n ≡ Some x → place_of x ≡ None))
    ⊎ ((place : NamePlace) × ((bag : ℕ) × (IsAbout questions n place × (FindsBag looks questions bags request n bag × (new ≡ old ++ record { question = n; place = place; bag = bag } ∷ [])))))

-- what is found tells what all of these questions find for a listed request, where they found it for this one
abbrev pub TellsAll : Looks → List Question → List Contents → Request → List ℕ → List Finding → Type 0
TellsAll looks questions bags request numbers found = (person action resource : List ℕ) → FindsAll looks questions bags (listed person action resource) found
    → AllByRecursion (FindsSame looks request looks (listed person action resource)) (at_numbers questions numbers)

-- the same of those that ask for attributes, whatever else is held then, at that time
abbrev pub TellsAttributes : Looks → List Question → List Contents → Request → List ℕ → List Finding → Type 0
TellsAttributes looks questions bags request numbers found = (t : Looks) → IsAtTime looks t → (person action resource : List ℕ)
    → FindsAll t questions bags (listed person action resource) found
    → AllByRecursion (λ x. IsAttribute x → FindsSame looks request t (listed person action resource) x) (at_numbers questions numbers)
