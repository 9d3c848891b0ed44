-- What is told of two tables whose cells stand at their requests.
use Rattle.std.proofs.Common.{◌≡◌, ℕ, List, [], ◌∷◌, ◌++◌, map, Bool, true, false, cond, Option, Some, None, refl}
use Rattle.std.proofs.Common.{sym, ap, ◌∙◌}
use Rattle.std.specs.Prelude.{◌&&◌, not, if◌then◌else◌, is_some}
use Rattle.std.specs.List.{AllByRecursion, filter}
use Rattle.serde_json.specs.Data as json
use Rattle.serde_json.specs.Data.{Data, Members}
use Rattle.serde_json.specs.Find.{get_member}
use Rattle.script_matching.specs.Matching.{fits}
use Rattle.law_compared.proofs.Rows.{members}
use Rattle.script_compare.specs.Changes.{appeared, appeared_at, change, decided, decided_at, reasoned, reasoned_at}
use Rattle.script_compare.specs.Changes.{same_decision}

-- cells of the same decision that tell something else
abbrev pub tells_other : Option Data → Option Data → Bool
tells_other (Some c) (Some d) = same_decision (Some c) (Some d) && not (fits true c d)
tells_other _ _ = false

-- the change of two cells, where a test passes
abbrev change_if : Bool → Option Data → Option Data → List Data
change_if b before after = if b then change before after ∷ [] else []

at_decided : (cell : Data) (before after : Option Data) → before ≡ Some cell
    → decided_at cell after ≡ change_if (not (same_decision before after)) before after
at_decided cell before after is = rw is (by (same_decision (Some cell) after))
  where
    by : (b : Bool) → (if b then [] else (change (Some cell) after ∷ [])) ≡ change_if (not b) (Some cell) after
    by true = refl
    by false = refl

at_appeared : (cell : Data) (before after : Option Data) → after ≡ Some cell
    → appeared_at before cell ≡ change_if (not (is_some before)) before after
at_appeared cell None after is = ap (λ o. change None o ∷ []) (sym is)
at_appeared cell (Some d) after is = refl

at_reasoned : (cell : Data) (before after : Option Data) → before ≡ Some cell
    → reasoned_at cell after ≡ change_if (tells_other before after) before after
at_reasoned cell before None is = rw is refl
at_reasoned cell before (Some d) is = rw is refl

module _ {X : Type 0} (text : X → List ℕ) where
  -- one more that is told, if a test passes
  told_more : (h : X → Data) (p : X → Bool) (x : X) (xs : List X)
      → (if p x then h x ∷ [] else []) ++ map h (filter p xs) ≡ map h (filter p (x ∷ xs))
  told_more h p x xs = by (p x)
    where
      by : (b : Bool)
          → (if b then h x ∷ [] else []) ++ map h (filter p xs) ≡ map h (cond b (x ∷ filter p xs) (filter p xs))
      by true = refl
      by false = refl

  module _ (first second : X → Option Data) where
    abbrev pub changed : X → Data
    changed x = change (first x) (second x)

    abbrev pub is_decided : X → Bool
    is_decided x = not (same_decision (first x) (second x))

    abbrev pub is_appeared : X → Bool
    is_appeared x = not (is_some (first x))

    abbrev pub is_reasoned : X → Bool
    is_reasoned x = tells_other (first x) (second x)

    module _ (cell : X → Data) (others : Members) where
      pub decided_told : ((x : X) → get_member (text x) others ≡ second x) → (xs : List X)
          → AllByRecursion (λ x. first x ≡ Some (cell x)) xs
          → decided (members text cell xs) (json.object others) ≡ map changed (filter is_decided xs)
      decided_told at [] h = refl
      decided_told at (x ∷ xs) h =
          ap (λ o. decided_at (cell x) o ++ decided (members text cell xs) (json.object others)) (at x)
          ∙ ap (λ l. l ++ decided (members text cell xs) (json.object others))
          (at_decided (cell x) (first x) (second x) h.0)
          ∙ ap (λ l. change_if (is_decided x) (first x) (second x) ++ l) (decided_told at xs h.1)
          ∙ told_more changed is_decided x xs

      pub reasoned_told : ((x : X) → get_member (text x) others ≡ second x) → (xs : List X)
          → AllByRecursion (λ x. first x ≡ Some (cell x)) xs
          → reasoned (members text cell xs) (json.object others) ≡ map changed (filter is_reasoned xs)
      reasoned_told at [] h = refl
      reasoned_told at (x ∷ xs) h =
          ap (λ o. reasoned_at (cell x) o ++ reasoned (members text cell xs) (json.object others)) (at x)
          ∙ ap (λ l. l ++ reasoned (members text cell xs) (json.object others))
          (at_reasoned (cell x) (first x) (second x) h.0)
          ∙ ap (λ l. change_if (is_reasoned x) (first x) (second x) ++ l) (reasoned_told at xs h.1)
          ∙ told_more changed is_reasoned x xs

      pub appeared_told : ((x : X) → get_member (text x) others ≡ first x) → (xs : List X)
          → AllByRecursion (λ x. second x ≡ Some (cell x)) xs
          → appeared (json.object others) (members text cell xs) ≡ map changed (filter is_appeared xs)
      appeared_told at [] h = refl
      appeared_told at (x ∷ xs) h =
          ap (λ o. appeared_at o (cell x) ++ appeared (json.object others) (members text cell xs)) (at x)
          ∙ ap (λ l. l ++ appeared (json.object others) (members text cell xs))
          (at_appeared (cell x) (first x) (second x) h.0)
          ∙ ap (λ l. change_if (is_appeared x) (first x) (second x) ++ l) (appeared_told at xs h.1)
          ∙ told_more changed is_appeared x xs
