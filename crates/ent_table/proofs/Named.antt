-- The requests with one name, among all requests.
use Rattle.std.proofs.Common.{◌≡◌, ℕ, zero, suc, ◌+◌, ◌*◌, List, [], ◌∷◌, ◌++◌, length, map, take, drop, refl, sym, ap, ◌∙◌, arith, append_assoc, append-nil, length-append}
use Rattle.std.specs.List.{flat_map}
use Rattle.std.proofs.lemmas.List.{drop_all, drop_at, length-map, map-append, take_all, take_at}
use Rattle.std.proofs.lemmas.List.Concat.{flat_map_single}
use Rattle.std.proofs.lemmas.Grind.{flat_map-append}
use Rattle.ent_table.specs.declared.edit.List.{List as Which}
use Rattle.ent_table.specs.declared.edit.List.TheVariants as which
use Rattle.ent_table.specs.Names.{Names, Triple, all_triples, cell_count, list_of, others, triple_of, triples, with_actions, with_list, with_name, with_resources, without_name}
use Rattle.ent_table.specs.proofs_only.Place.{StandsAt, blocks_of}
use Rattle.ent_cells.specs.Shape.{without, woven}
use Rattle.ent_table.specs.proofs_only.Table.{behind, requests_with}
use Rattle.ent_cells.proofs.Narrowed.{without-map}
use Rattle.ent_cells.proofs.Shapes.{halves}
use Rattle.ent_table.proofs.Places.{length-all_triples, length-with_actions}
use Rattle.ent_cells.proofs.Woven.{woven-map}

module _ {A B : Type 0} where
  -- each block without its middle
  without_blocks : (g h : A → List B) (w o n : ℕ) → ((x : A) → length (g x) ≡ w) → ((x : A) → take o (g x) ++ drop n (drop o (g x)) ≡ h x)
      → (xs : List A) → without (length xs) w o n (flat_map g xs) ≡ flat_map h xs
  without_blocks g h w o n long is [] = refl
  without_blocks g h w o n long is (x ∷ xs) =
      let rest : List B = flat_map g xs in
      let front : take w (g x ++ rest) ≡ g x = take_at (g x) rest w (long x) in
      let back : drop w (g x ++ rest) ≡ rest = drop_at (g x) rest w (long x) in
      (λ j. take o (front j) ++ (drop n (drop o (front j)) ++ without (length xs) w o n (back j)))
      ∙ ap (λ (l : List B). take o (g x) ++ (drop n (drop o (g x)) ++ l)) (without_blocks g h w o n long is xs)
      ∙ sym (append_assoc (take o (g x)) (drop n (drop o (g x))) (flat_map h xs))
      ∙ ap (λ (l : List B). l ++ flat_map h xs) (is x)

  -- each block with what follows it
  woven_blocks : (g h : A → List B) (w n : ℕ) → ((x : A) → length (g x) ≡ w) → ((x : A) → length (h x) ≡ n)
      → (xs : List A) → woven (length xs) w n (flat_map g xs) (flat_map h xs) ≡ flat_map (λ x. g x ++ h x) xs
  woven_blocks g h w n long more [] = refl
  woven_blocks g h w n long more (x ∷ xs) =
      let old : List B = flat_map g xs in
      let new : List B = flat_map h xs in
      (λ j. take_at (g x) old w (long x) j ++ (take_at (h x) new n (more x) j ++ woven (length xs) w n (drop_at (g x) old w (long x) j) (drop_at (h x) new n (more x) j)))
      ∙ ap (λ (l : List B). g x ++ (h x ++ l)) (woven_blocks g h w n long more xs)
      ∙ sym (append_assoc (g x) (h x) (flat_map (λ y. g y ++ h y) xs))

one_block : {B : Type 0} (w o n : ℕ) (xs : List B) → length xs ≡ w → without 1 w o n xs ≡ take o xs ++ drop n (drop o xs)
one_block {B} w o n xs e =
    let front : take w xs ≡ xs = take_all w xs (omega (arith, e)) in
    let back : drop w xs ≡ [] = drop_all w xs (omega (arith, e)) in
    (λ j. take o (front j) ++ (drop n (drop o (front j)) ++ back j)) ∙ ap (λ (l : List B). take o xs ++ l) (append-nil (drop n (drop o xs)))

-- a row for each name, and then for each name but one
module _ {B : Type 0} (f : List ℕ → List B) (n : ℕ) (long : (x : List ℕ) → length (f x) ≡ n) where
  length-rows : (xs : List (List ℕ)) → length (flat_map f xs) ≡ length xs * n
  length-rows [] = omega arith
  length-rows (x ∷ xs) = omega (arith, length-append (f x) (flat_map f xs), long x, length-rows xs)

  rows_but : (name : List ℕ) (xs : List (List ℕ)) (place : ℕ) → StandsAt name xs place → take (place * n) (flat_map f xs) ++ drop n (drop (place * n) (flat_map f xs)) ≡ flat_map f (others name xs)
  rows_but name xs place s =
      let before : List B = flat_map f s.before in
      let after : List B = flat_map f s.after in
      let all : flat_map f xs ≡ before ++ (f name ++ after) = ap (flat_map f) s.is ∙ flat_map-append f s.before (name ∷ s.after) in
      let here : length before ≡ place * n = length-rows s.before ∙ ap (λ (m : ℕ). m * n) s.here in
      (λ j. take (place * n) (all j) ++ drop n (drop (place * n) (all j)))
      ∙ (λ j. take_at before (f name ++ after) (place * n) here j ++ drop n (drop_at before (f name ++ after) (place * n) here j))
      ∙ ap (λ (l : List B). before ++ l) (drop_at (f name) after n (long name))
      ∙ sym (ap (flat_map f) s.alone ∙ flat_map-append f s.before s.after)

one_but : {B : Type 0} (g : List ℕ → B) (name : List ℕ) (xs : List (List ℕ)) (place : ℕ) → StandsAt name xs place → take (place * 1) (map g xs) ++ drop 1 (drop (place * 1) (map g xs)) ≡ map g (others name xs)
one_but g name xs place s =
    (λ j. take (place * 1) (sym (flat_map_single g xs) j) ++ drop 1 (drop (place * 1) (sym (flat_map_single g xs) j)))
    ∙ rows_but (λ x. g x ∷ []) 1 (λ x. refl) name xs place s
    ∙ flat_map_single g (others name xs)

-- ---- a person and an action as one

abbrev pub Pair : Type 0
Pair = List ℕ × List ℕ

abbrev pub pair : List ℕ → List ℕ → Pair
pair p a = (p, a)

abbrev pub pairs : List (List ℕ) → List (List ℕ) → List Pair
pairs people actions = flat_map (λ p. map (pair p) actions) people

-- their requests
abbrev pub of_pair : List (List ℕ) → Pair → List Triple
of_pair resources x = with_resources x.0 x.1 resources

by_pair : (p : List ℕ) (actions resources : List (List ℕ)) → with_actions p actions resources ≡ flat_map (of_pair resources) (map (pair p) actions)
by_pair p [] resources = refl
by_pair p (a ∷ actions) resources = ap (λ (l : List Triple). with_resources p a resources ++ l) (by_pair p actions resources)

by_pairs : (people actions resources : List (List ℕ)) → all_triples people actions resources ≡ flat_map (of_pair resources) (pairs people actions)
by_pairs [] actions resources = refl
by_pairs (p ∷ people) actions resources =
    (λ j. by_pair p actions resources j ++ by_pairs people actions resources j) ∙ sym (flat_map-append (of_pair resources) (map (pair p) actions) (pairs people actions))

length-pairs : (people actions : List (List ℕ)) → length (pairs people actions) ≡ length people * length actions
length-pairs [] actions = omega arith
length-pairs (p ∷ people) actions = omega (arith, length-append (map (pair p) actions) (pairs people actions), length-map actions (pair p), length-pairs people actions)

-- ---- without a name

pub triples-without : (list : Which) (names : Names) (name : List ℕ) (place : ℕ) → StandsAt name (list_of list names) place
    → without (blocks_of list names).count (blocks_of list names).width (place * (blocks_of list names).each) (blocks_of list names).each (triples names) ≡ triples (without_name list name names)
triples-without which.People names name place s =
    let breadth : ℕ = length names.actions * length names.resources in
    one_block (cell_count names) (place * breadth) breadth (triples names) (length-all_triples names.actions names.resources names.people)
    ∙ rows_but (λ p. with_actions p names.actions names.resources) breadth (λ p. length-with_actions p names.resources names.actions) name names.people place s
triples-without which.Actions names name place s =
    let breadth : ℕ = length names.resources in
    without_blocks (λ p. with_actions p names.actions names.resources) (λ p. with_actions p (others name names.actions) names.resources) (length names.actions * breadth) (place * breadth) breadth
    (λ p. length-with_actions p names.resources names.actions)
    (λ p. rows_but (λ a. with_resources p a names.resources) breadth (λ a. length-map names.resources (triple_of p a)) name names.actions place s)
    names.people
triples-without which.Resources names name place s =
    let breadth : ℕ = length names.resources in
    let xs : List Pair = pairs names.people names.actions in
    (λ j. without (sym (length-pairs names.people names.actions) j) breadth (place * 1) 1 (by_pairs names.people names.actions names.resources j))
    ∙ without_blocks (of_pair names.resources) (of_pair (others name names.resources)) breadth (place * 1) 1
    (λ x. length-map names.resources (triple_of x.0 x.1))
    (λ x. one_but (triple_of x.0 x.1) name names.resources place s)
    xs
    ∙ sym (by_pairs names.people names.actions (others name names.resources))

-- the cells that are left are those of the requests that are left
pub dropped_cells : {B : Type 0} (f : Triple → B) (list : Which) (names : Names) (name : List ℕ) (place : ℕ) → StandsAt name (list_of list names) place
    → without (blocks_of list names).count (blocks_of list names).width (place * (blocks_of list names).each) (blocks_of list names).each (map f (triples names)) ≡ map f (triples (without_name list name names))
dropped_cells f list names name place s =
    sym (without-map f (blocks_of list names).count (blocks_of list names).width (place * (blocks_of list names).each) (blocks_of list names).each (triples names))
    ∙ ap (map f) (triples-without list names name place s)

-- ---- with a name more

pub length-woven : {A : Type 0} (blocks w n : ℕ) (xs ys : List A) → length (woven blocks w n xs ys) ≡ length xs + length ys
length-woven zero w n xs ys = length-append xs ys
length-woven {A} (suc blocks) w n xs ys =
    let rest : List A = woven blocks w n (drop w xs) (drop n ys) in
    omega (arith, length-append (take w xs) (take n ys ++ rest), length-append (take n ys) rest, length-woven blocks w n (drop w xs) (drop n ys), halves w xs, halves n ys)

-- the cells with the new ones are those of the requests with the new ones
pub added_cells : {B : Type 0} (f : Triple → B) (list : Which) (names : Names) (name : List ℕ)
    → woven (behind list (blocks_of list names)).count (behind list (blocks_of list names)).width (behind list (blocks_of list names)).each (map f (triples names)) (map f (requests_with list name names)) ≡ map f (triples (with_name list name names))
added_cells f which.People names name =
    sym (map-append f (triples names) (triples (with_list which.People (name ∷ []) names)))
    ∙ ap (map f) (sym (flat_map-append (λ p. with_actions p names.actions names.resources) names.people (name ∷ [])))
added_cells f which.Actions names name =
    let breadth : ℕ = length names.resources in
    sym (woven-map f (length names.people) (length names.actions * breadth) breadth (triples names) (triples (with_list which.Actions (name ∷ []) names)))
    ∙ ap (map f)
    (woven_blocks (λ p. with_actions p names.actions names.resources) (λ p. with_actions p (name ∷ []) names.resources) (length names.actions * breadth) breadth
    (λ p. length-with_actions p names.resources names.actions)
    (λ p. length-with_actions p names.resources (name ∷ []) ∙ omega arith)
    names.people
    ∙ (λ j. flat_map (λ p. sym (flat_map-append (λ a. with_resources p a names.resources) names.actions (name ∷ [])) j) names.people))
added_cells f which.Resources names name =
    let breadth : ℕ = length names.resources in
    let xs : List Pair = pairs names.people names.actions in
    sym (woven-map f (length names.people * length names.actions) breadth 1 (triples names) (triples (with_list which.Resources (name ∷ []) names)))
    ∙ ap (map f)
    ((λ j. woven (sym (length-pairs names.people names.actions) j) breadth 1 (by_pairs names.people names.actions names.resources j) (by_pairs names.people names.actions (name ∷ []) j))
    ∙ woven_blocks (of_pair names.resources) (of_pair (name ∷ [])) breadth 1 (λ x. length-map names.resources (triple_of x.0 x.1)) (λ x. refl) xs
    ∙ (λ j. flat_map (λ x. sym (map-append (triple_of x.0 x.1) names.resources (name ∷ [])) j) xs)
    ∙ sym (by_pairs names.people names.actions (names.resources ++ name ∷ [])))
