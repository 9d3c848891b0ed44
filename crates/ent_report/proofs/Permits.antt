-- The permits among the cells of one person, and among the answers to one action and one resource.
use Rattle.std.proofs.Common.{◌≡◌, ℕ, List, [], ◌∷◌, map, Bool, true, false, cond, refl, ap, ◌∙◌}
use Rattle.std.specs.Prelude.{◌&&◌, bytes_eq, filter}
use Rattle.ent_request.specs.declared.answer.Answer.{Answer}
use Rattle.ent_table.specs.Names.{Triple}
use Rattle.ent_table.specs.Parts.{answers_to, cells_of}
use Rattle.ent_report.specs.proofs_only.Permitted.{permitted, permitted_people}
use Rattle.ent_report.specs.Reports.{can_in, is_permit, who_in}

-- one test after another
filter_twice : {X : Type 0} (p q : X → Bool) (xs : List X) → filter q (filter p xs) ≡ filter (λ x. p x && q x) xs
filter_twice p q [] = refl
filter_twice {X} p q (x ∷ xs) = by (filter_twice p q xs) (p x) where
  by : filter q (filter p xs) ≡ filter (λ y. p y && q y) xs → (b : Bool)
      → filter q (cond b (x ∷ filter p xs) (filter p xs)) ≡ cond (b && q x) (x ∷ filter (λ y. p y && q y) xs) (filter (λ y. p y && q y) xs)
  by rest true = λ i. cond (q x) (x ∷ rest i) (rest i)
  by rest false = rest

all_three : (a b c : Bool) → ((a && b) && c) ≡ (a && (b && c))
all_three true b c = refl
all_three false b c = refl

pub can_of : (person : List ℕ) (cells : List (Triple × Answer)) → permitted (cells_of person cells) ≡ can_in person cells
can_of person cells = ap (map (λ c. (c.0.action, c.0.resource))) (filter_twice (λ c. bytes_eq c.0.person person) (λ c. is_permit c.1.decision) cells)

-- the people of cells
people_of : (cells : List (Triple × Answer)) → permitted_people (map (λ c. (c.0.person, c.1)) cells) ≡ map (λ c. c.0.person) (filter (λ c. is_permit c.1.decision) cells)
people_of [] = refl
people_of (c ∷ cells) = by (people_of cells) (is_permit c.1.decision) where
  by : permitted_people (map (λ d. (d.0.person, d.1)) cells) ≡ map (λ d. d.0.person) (filter (λ d. is_permit d.1.decision) cells) → (b : Bool)
      → map (λ (d : List ℕ × Answer). d.0) (cond b ((c.0.person, c.1) ∷ filter (λ d. is_permit d.1.decision) (map (λ d. (d.0.person, d.1)) cells)) (filter (λ d. is_permit d.1.decision) (map (λ d. (d.0.person, d.1)) cells)))
      ≡ map (λ d. d.0.person) (cond b (c ∷ filter (λ d. is_permit d.1.decision) cells) (filter (λ d. is_permit d.1.decision) cells))
  by rest true = ap (λ l. c.0.person ∷ l) rest
  by rest false = rest

pub who_of : (action resource : List ℕ) (cells : List (Triple × Answer)) → permitted_people (answers_to action resource cells) ≡ who_in action resource cells
who_of action resource cells =
    people_of (filter (λ c. bytes_eq c.0.action action && bytes_eq c.0.resource resource) cells)
    ∙ ap (map (λ c. c.0.person)) (filter_twice (λ c. bytes_eq c.0.action action && bytes_eq c.0.resource resource) (λ c. is_permit c.1.decision) cells)
    ∙ (λ i. map (λ c. c.0.person) (filter (λ c. all_three (bytes_eq c.0.action action) (bytes_eq c.0.resource resource) (is_permit c.1.decision) i) cells))
