-- What is left of a table after a turn to the next action or person.
use Rattle.std.proofs.Common.{◌≡◌, ℕ, List, [], ◌∷◌, ◌++◌, refl, sym, ap, ◌∙◌}
use Rattle.std.specs.List.{zip}
use Rattle.ent_table.specs.Names.{Triple, with_resources, with_actions, all_triples}
use Rattle.ent_table.specs.Left.{actions_left, people_left}

pub zip_nothing : {A B : Type 0} (xs : List A) (ys : List B) → ys ≡ [] → zip xs ys ≡ []
zip_nothing [] ys e = refl
zip_nothing (x ∷ xs) ys e = ap (zip (x ∷ xs)) e

actions_left-all : (p : List ℕ) (actions resources : List (List ℕ)) → actions_left p actions resources resources ≡ with_actions p actions resources
actions_left-all p [] resources = refl
actions_left-all p (a ∷ actions) resources = refl

-- at the beginning everything is left
pub people_left-all : (people actions resources : List (List ℕ)) → people_left people actions resources actions resources ≡ all_triples people actions resources
people_left-all [] actions resources = refl
people_left-all (p ∷ people) actions resources = ap (λ (l : List Triple). l ++ all_triples people actions resources) (actions_left-all p actions resources)

-- where no resource is left, the next action follows
pub action_turned : (people actions : List (List ℕ)) (a : List ℕ) (left all resources : List (List ℕ)) → left ≡ [] → people_left people actions resources all resources ≡ people_left people (a ∷ actions) left all resources
action_turned [] actions a left all resources e = refl
action_turned (p ∷ people) actions a left all resources e =
    ap (λ (l : List Triple). l ++ all_triples people all resources) (actions_left-all p actions resources ∙ ap (λ (l : List (List ℕ)). with_resources p a l ++ with_actions p actions resources) (sym e))

-- where no action is left, the next person follows
pub person_turned : (people : List (List ℕ)) (p : List ℕ) (actions left all resources : List (List ℕ)) → actions ≡ [] → people_left people all resources all resources ≡ people_left (p ∷ people) actions left all resources
person_turned people p actions left all resources e =
    people_left-all people all resources ∙ ap (λ (l : List (List ℕ)). actions_left p l left resources ++ all_triples people all resources) (sym e)

no_actions : (p : List ℕ) (actions resources : List (List ℕ)) → resources ≡ [] → with_actions p actions resources ≡ []
no_actions p [] resources e = refl
no_actions p (a ∷ actions) resources e = ap (λ (l : List (List ℕ)). with_resources p a l ++ with_actions p actions resources) e ∙ no_actions p actions resources e

pub no_resources : (people actions resources : List (List ℕ)) → resources ≡ [] → all_triples people actions resources ≡ []
no_resources [] actions resources e = refl
no_resources (p ∷ people) actions resources e = ap (λ (l : List Triple). l ++ all_triples people actions resources) (no_actions p actions resources e) ∙ no_resources people actions resources e

pub without_actions : (people actions resources : List (List ℕ)) → actions ≡ [] → all_triples people actions resources ≡ []
without_actions [] actions resources e = refl
without_actions (p ∷ people) actions resources e = ap (λ (l : List (List ℕ)). with_actions p l resources ++ all_triples people actions resources) e ∙ without_actions people actions resources e

-- where there are no resources, nothing is left
pub nothing_left : (people actions left all resources : List (List ℕ)) → left ≡ [] → resources ≡ [] → people_left people actions left all resources ≡ []
nothing_left [] actions left all resources e f = refl
nothing_left (p ∷ people) [] left all resources e f = no_resources people all resources f
nothing_left (p ∷ people) (a ∷ actions) left all resources e f =
    ap (λ (l : List (List ℕ)). (with_resources p a l ++ with_actions p actions resources) ++ all_triples people all resources) e
    ∙ ap (λ (l : List Triple). l ++ all_triples people all resources) (no_actions p actions resources f)
    ∙ no_resources people all resources f
