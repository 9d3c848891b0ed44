-- Ways of a tree: what was found for what stands at their ends.
use Rattle.std.specs.Prelude.{◌≡◌, ◌<◌, ℕ, List, [], ◌∷◌, Some, length}
use Rattle.std.specs.List.{AllByRecursion}
use Rattle.memo_trie.specs.Tree.{Turn, key_at}
use Rattle.memo_trie.specs.declared.node.Node.{Node}
use Rattle.ent_values.specs.Bags.{Contents}
use Rattle.memo_bags.specs.declared.finding.About.{About}
use Rattle.memo_bags.specs.declared.finding.Finding.{Finding}
use Rattle.ent_request.specs.declared.question.Question.{Question}
use Rattle.ent_request.specs.declared.request.Request.{Request}
use Rattle.ent_request.specs.Looks.{Looks}
use Rattle.memo_bags.specs.Found.{FindsBag, IsAbout}

-- places of a tree
abbrev pub Nodes : Type 0
Nodes = List (Node About ℕ)

-- a way, its last turn first
abbrev pub Way : Type 0
Way = List (Turn About)

-- the question for which something was found
abbrev pub about_of : Finding → About
about_of f = record { question = f.question; place = f.place }

-- a finding as a turn
abbrev pub turn_of : Finding → Turn About
turn_of f = record { key = about_of f; number = f.bag }

-- findings behind a way
abbrev pub turned : Way → List Finding → Way
turned way [] = way
turned way (f ∷ found) = turned (turn_of f ∷ way) found

-- the way of what was found
abbrev pub way_of : List Finding → Way
way_of found = turned [] found

-- each question of a tree is about its name
abbrev pub AsksAbout : List Question → Nodes → Type 0
AsksAbout questions nodes = (n : ℕ) (k : About) → key_at nodes n ≡ Some k → IsAbout questions k.question k.place

-- a request finds what a way says
abbrev pub FindsWay : Looks → List Question → List Contents → Request → Way → Type 0
FindsWay looks questions bags request way = AllByRecursion (λ t. FindsBag looks questions bags request t.key.question t.number) way

-- a turn is of a question about its name, and of a bag that is there
abbrev pub IsTurn : List Question → List Contents → Turn About → Type 0
IsTurn questions bags t = (t.number < length bags) × IsAbout questions t.key.question t.key.place
