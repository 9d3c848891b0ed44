-- Where ways lead by what is found: words of the code's own contracts.
use Rattle.std.specs.Prelude.{◌≡◌, ℕ, List, ◌∷◌, Option, Some, None, slice_get}
use Rattle.std.specs.List.{AllByRecursion}
use Rattle.memo_trie.specs.Tree.{Leads, Reaches, branch_of, key_at, next_at}
use Rattle.memo_trie.specs.declared.fork.Fork.{Fork}
use Rattle.memo_trie.specs.declared.node.Node.TheVariants.{Nothing}
use Rattle.ent_values.specs.Bags.{Contents}
use Rattle.memo_bags.specs.declared.finding.About.{About}
use Rattle.memo_bags.specs.declared.finding.Finding.{Finding}
use Rattle.ent_request.specs.declared.question.Question.{Question}
use Rattle.ent_request.specs.declared.request.Request.{Request}
use Rattle.memo_bags.specs.declared.ways.Standing.{Standing}
use Rattle.memo_bags.specs.declared.ways.Standing.TheVariants as standing
use Rattle.memo_bags.specs.Found.{FindsBag, IsAbout}
use Rattle.ent_request.specs.Looks.{Looks}
use Rattle.memo_bags.specs.Ways.{AsksAbout, FindsWay, Nodes, Way, about_of, turn_of, way_of}

-- the place to which a question leads by the bag that a request finds
abbrev pub FindsNext : Looks → List Question → List Contents → Request → Fork About → Option ℕ → Type 0
FindsNext looks questions bags request f next = (bag : ℕ) × (FindsBag looks questions bags request f.key.question bag × (next ≡ branch_of f bag))

-- a way that a request finds leads to this end; where there is none, none does that it finds over the bags that were there before
abbrev pub TellsEnd : Looks → List Question → List Contents → List Contents → Request → Nodes → Option ℕ → Type 0
TellsEnd looks questions old new request nodes (Some i) = (way : Way) × (Leads nodes way i × FindsWay looks questions new request way)
TellsEnd looks questions old new request nodes None = (way : Way) (i : ℕ) → Leads nodes way i → FindsWay looks questions old request way → ⊥

-- what stands at a place is this, where the way of a finding is to go on
abbrev pub Stands : Nodes → ℕ → Finding → Standing → Type 0
Stands nodes place f standing.Nothing = slice_get nodes place ≡ Some Nothing
Stands nodes place f standing.Free = (key_at nodes place ≡ Some (about_of f)) × (next_at nodes place f.bag ≡ None)
Stands nodes place f (standing.Leads next) = (key_at nodes place ≡ Some (about_of f)) × (next_at nodes place f.bag ≡ Some next)
Stands nodes place f standing.Other = slice_get nodes place ≡ Some Nothing → ⊥

-- the same of a question
abbrev pub StandsAt : Fork About → Finding → Standing → Type 0
StandsAt fork f standing.Nothing = ⊥
StandsAt fork f standing.Free = (fork.key ≡ about_of f) × (branch_of fork f.bag ≡ None)
StandsAt fork f (standing.Leads next) = (fork.key ≡ about_of f) × (branch_of fork f.bag ≡ Some next)
StandsAt fork f standing.Other = Unit {0}

-- each way to a place leads on to the next one by a finding
abbrev pub LeadsOn : Nodes → Nodes → ℕ → Finding → ℕ → Type 0
LeadsOn old new place f next = (way : Way) → Reaches old place way → Reaches new next (turn_of f ∷ way)

-- where nothing stands at a place, nothing stands at the next one
abbrev pub GoesFree : Nodes → Nodes → ℕ → Option ℕ → Type 0
GoesFree old new place next = slice_get old place ≡ Some Nothing → (n : ℕ) × ((next ≡ Some n) × (slice_get new n ≡ Some Nothing))

-- the way of what was found is made, and nothing stands at its end
abbrev pub IsMade : Nodes → List Finding → ℕ → Type 0
IsMade nodes found place = (slice_get nodes place ≡ Some Nothing) × Reaches nodes place (way_of found)

-- each finding is of a question about its name
abbrev pub AreAbout : List Question → List Finding → Type 0
AreAbout questions found = AllByRecursion (λ f. IsAbout questions f.question f.place) found

-- a tree that asks about names still does, where what was found is about names
abbrev pub AsksStill : List Finding → Nodes → Nodes → Type 0
AsksStill found old new = (questions : List Question) → AreAbout questions found → AsksAbout questions old → AsksAbout questions new
