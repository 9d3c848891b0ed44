-- The cells of one person, and those of one action and one resource, among all cells.
use Rattle.std.proofs.Common.{◌≡◌, ℕ, zero, suc, ◌+◌, ◌*◌, List, [], ◌∷◌, ◌++◌, length, map, drop, get_or, Bool, true, false, cond, Some}
use Rattle.std.proofs.Common.{refl, sym, ap, subst, ◌∙◌, arith, append-nil}
use Rattle.std.specs.Prelude.{◌&&◌, ◌||◌, String, bytes_eq, filter, slice_get, string_bytes}
use Rattle.std.specs.Cmp.Lexicographic.{bytes_decides}
use Rattle.std.specs.List.{AllByRecursion, IsDistinct, flat_map, zip}
use Rattle.std.specs.Option.{option_map}
use Rattle.std.proofs.Math.ListN.{get_or-map}
use Rattle.std.proofs.lemmas.Bool.{false≢true}
use Rattle.std.proofs.lemmas.List.{drop-drop, drop-map, drop_at, map-append}
use Rattle.std.proofs.lemmas.List.Concat.{flat_map_single}
use Rattle.std.proofs.lemmas.List.Elements.{filter-append}
use Rattle.std.proofs.lemmas.Map.Keys.{IsDistinct-head, IsDistinct-tail}
use Rattle.std.proofs.lemmas.Option.{get_or_from_slice_get, slice_get-map}
use Rattle.ent_request.specs.declared.answer.Answer.{Answer}
use Rattle.ent_table.specs.Names.{Triple, all_triples, has_name, texts, triple_of, with_actions, with_resources}
use Rattle.ent_table.specs.Parts.{answers_to, cells_of, column}
use Rattle.ent_table.proofs.PlaceLemmas.{drop_from}
use Rattle.ent_table.proofs.Places.{length-with_actions, triple_at}

-- ---- names

same_name : (x : List ℕ) → bytes_eq x x ≡ true
same_name x = (bytes_decides x x).1 refl

other_way : (x y : List ℕ) → bytes_eq x y ≡ false → bytes_eq y x ≡ false
other_way x y e = by (bytes_eq y x) refl where
  by : (b : Bool) → bytes_eq y x ≡ b → b ≡ false
  by true f = absurd (false≢true (sym e ∙ ap (bytes_eq x) ((bytes_decides y x).0 f) ∙ same_name x))
  by false f = refl

-- a name is none of these
abbrev pub IsAbsent : List ℕ → List (List ℕ) → Type 0
IsAbsent name names = AllByRecursion (λ x. bytes_eq x name ≡ false) names

pub absent : (name : List ℕ) (names : List (List ℕ)) → has_name name names ≡ false → IsAbsent name names
absent name [] e = tt
absent name (x ∷ names) e = by (absent name names) (bytes_eq name x) refl e where
  by : (has_name name names ≡ false → IsAbsent name names) → (b : Bool) → bytes_eq name x ≡ b → (b || has_name name names) ≡ false → IsAbsent name (x ∷ names)
  by rest true f h = absurd (false≢true (sym h))
  by rest false f h = (other_way name x f, rest h)

others_absent : (x : List ℕ) (names : List (List ℕ)) → AllByRecursion (λ y. bytes_eq x y ≡ false) names → IsAbsent x names
others_absent x [] h = tt
others_absent x (y ∷ names) h = (other_way x y h.0, others_absent x names h.1)

away : (name : List ℕ) (names : List (List ℕ)) (place : ℕ) (x : List ℕ) → slice_get names place ≡ Some name
    → AllByRecursion (λ y. bytes_eq x y ≡ false) names → bytes_eq x name ≡ false
away name [] place x at h = cc
away name (y ∷ names) zero x at h = let same : y ≡ name = cc in ap (bytes_eq x) (sym same) ∙ h.0
away name (y ∷ names) (suc place) x at h = away name names place x at h.1

-- the name at a place of a list of `String`s
pub text_there : {Z : Type 0} (names : List (String Z)) (place : ℕ) (x : String Z) (name : List ℕ) → slice_get (texts names) place ≡ Some name → string_bytes (get_or names place x) ≡ name
text_there names place x name at = sym (get_or-map string_bytes names place x) ∙ get_or_from_slice_get (texts names) place name (string_bytes x) at

-- ---- rows, one for each name, of which those of other names have no member that passes

module _ {B : Type 0} (row : List ℕ → List B) (p : B → Bool) (name : List ℕ) (none : (x : List ℕ) → bytes_eq x name ≡ false → filter p (row x) ≡ []) where
  pub no_row : (names : List (List ℕ)) → IsAbsent name names → filter p (flat_map row names) ≡ []
  no_row [] h = refl
  no_row (x ∷ names) h = filter-append p (row x) (flat_map row names) ∙ (λ i. none x h.0 i ++ no_row names h.1 i)

  pub one_row : (names : List (List ℕ)) (place : ℕ) → IsDistinct bytes_eq names → slice_get names place ≡ Some name → filter p (flat_map row names) ≡ filter p (row name)
  one_row [] place distinct at = cc
  one_row (x ∷ names) zero distinct at =
      let same : x ≡ name = cc in
      filter-append p (row x) (flat_map row names)
      ∙ (λ i. filter p (row (same i)) ++ filter p (flat_map row names))
      ∙ ap (λ l. filter p (row name) ++ l) (no_row names (subst (λ y. IsAbsent y names) same (others_absent x names (IsDistinct-head bytes_eq x names distinct))))
      ∙ append-nil (filter p (row name))
  one_row (x ∷ names) (suc place) distinct at =
      filter-append p (row x) (flat_map row names)
      ∙ ap (λ l. l ++ filter p (flat_map row names)) (none x (away name names place x at (IsDistinct-head bytes_eq x names distinct)))
      ∙ one_row names place (IsDistinct-tail bytes_eq x names distinct) at

-- ---- those of one person

-- whether a request is of a person
abbrev pub is_of : List ℕ → Triple → Bool
is_of person t = bytes_eq t.person person

all_of : (person : List ℕ) (action : List ℕ) (resources : List (List ℕ)) → filter (is_of person) (with_resources person action resources) ≡ with_resources person action resources
all_of person action [] = refl
all_of person action (r ∷ resources) = λ i. cond (same_name person i) (triple_of person action r ∷ all_of person action resources i) (all_of person action resources i)

own_row : (person : List ℕ) (actions resources : List (List ℕ)) → filter (is_of person) (with_actions person actions resources) ≡ with_actions person actions resources
own_row person [] resources = refl
own_row person (a ∷ actions) resources =
    filter-append (is_of person) (with_resources person a resources) (with_actions person actions resources)
    ∙ (λ i. all_of person a resources i ++ own_row person actions resources i)

none_of : (x person action : List ℕ) (resources : List (List ℕ)) → bytes_eq x person ≡ false → filter (is_of person) (with_resources x action resources) ≡ []
none_of x person action [] e = refl
none_of x person action (r ∷ resources) e = λ i. cond (e i) (triple_of x action r ∷ none_of x person action resources e i) (none_of x person action resources e i)

other_row : (actions resources : List (List ℕ)) (person x : List ℕ) → bytes_eq x person ≡ false → filter (is_of person) (with_actions x actions resources) ≡ []
other_row [] resources person x e = refl
other_row (a ∷ actions) resources person x e =
    filter-append (is_of person) (with_resources x a resources) (with_actions x actions resources)
    ∙ (λ i. none_of x person a resources e i ++ other_row actions resources person x e i)

-- ---- those of one action and one resource

-- whether a request is of an action and a resource
abbrev pub is_to : List ℕ → List ℕ → Triple → Bool
is_to action resource t = bytes_eq t.action action && bytes_eq t.resource resource

and_false : (b : Bool) → (b && false) ≡ false
and_false true = refl
and_false false = refl

no_such_action : (p x action resource : List ℕ) (resources : List (List ℕ)) → bytes_eq x action ≡ false → filter (is_to action resource) (with_resources p x resources) ≡ []
no_such_action p x action resource [] e = refl
no_such_action p x action resource (r ∷ resources) e =
    let rest = no_such_action p x action resource resources e in
    λ i. cond (e i && bytes_eq r resource) (triple_of p x r ∷ rest i) (rest i)

no_such_resource : (p action resource x : List ℕ) → bytes_eq x resource ≡ false → filter (is_to action resource) (triple_of p action x ∷ []) ≡ []
no_such_resource p action resource x e = ap (λ b. cond b (triple_of p action x ∷ []) []) (ap (λ b. bytes_eq action action && b) e ∙ and_false (bytes_eq action action))

no_such_resources : (p x action resource : List ℕ) (resources : List (List ℕ)) → IsAbsent resource resources → filter (is_to action resource) (with_resources p x resources) ≡ []
no_such_resources p x action resource [] h = refl
no_such_resources p x action resource (r ∷ resources) h =
    let rest = no_such_resources p x action resource resources h.1 in
    let out = ap (λ b. bytes_eq x action && b) h.0 ∙ and_false (bytes_eq x action) in
    λ i. cond (out i) (triple_of p x r ∷ rest i) (rest i)

module _ (action resource : List ℕ) (actions resources : List (List ℕ)) where
  one_resource : (place : ℕ) (p : List ℕ) → IsDistinct bytes_eq resources → slice_get resources place ≡ Some resource
      → filter (is_to action resource) (with_resources p action resources) ≡ triple_of p action resource ∷ []
  one_resource place p distinct at =
      ap (filter (is_to action resource)) (sym (flat_map_single (triple_of p action) resources))
      ∙ one_row (λ x. triple_of p action x ∷ []) (is_to action resource) resource (no_such_resource p action resource) resources place distinct at
      ∙ (λ i. cond (same_name action i && same_name resource i) (triple_of p action resource ∷ []) [])

  module _ (column depth : ℕ) (distinct_actions : IsDistinct bytes_eq actions) (distinct_resources : IsDistinct bytes_eq resources)
      (at : slice_get actions column ≡ Some action) (under : slice_get resources depth ≡ Some resource) where
    one_person : (p : List ℕ) → filter (is_to action resource) (with_actions p actions resources) ≡ triple_of p action resource ∷ []
    one_person p =
        one_row (λ x. with_resources p x resources) (is_to action resource) action (λ x. no_such_action p x action resource resources) actions column distinct_actions at
        ∙ one_resource depth p distinct_resources under

    one_each : (people : List (List ℕ)) → filter (is_to action resource) (all_triples people actions resources) ≡ map (λ p. triple_of p action resource) people
    one_each [] = refl
    one_each (p ∷ people) =
        filter-append (is_to action resource) (with_actions p actions resources) (all_triples people actions resources)
        ∙ (λ i. one_person p i ++ one_each people i)

  none_with_action : (people : List (List ℕ)) → IsAbsent action actions → filter (is_to action resource) (all_triples people actions resources) ≡ []
  none_with_action [] h = refl
  none_with_action (p ∷ people) h =
      filter-append (is_to action resource) (with_actions p actions resources) (all_triples people actions resources)
      ∙ (λ i. no_row (λ x. with_resources p x resources) (is_to action resource) action (λ x. no_such_action p x action resource resources) actions h i ++ none_with_action people h i)

  none_with_resource : (p : List ℕ) (xs : List (List ℕ)) → IsAbsent resource resources → filter (is_to action resource) (with_actions p xs resources) ≡ []
  none_with_resource p [] h = refl
  none_with_resource p (x ∷ xs) h =
      filter-append (is_to action resource) (with_resources p x resources) (with_actions p xs resources)
      ∙ (λ i. no_such_resources p x action resource resources h i ++ none_with_resource p xs h i)

  none_with_resources : (people : List (List ℕ)) → IsAbsent resource resources → filter (is_to action resource) (all_triples people actions resources) ≡ []
  none_with_resources [] h = refl
  none_with_resources (p ∷ people) h =
      filter-append (is_to action resource) (with_actions p actions resources) (all_triples people actions resources)
      ∙ (λ i. none_with_resource p actions h i ++ none_with_resources people h i)

-- ---- answers

-- a request with its answer
abbrev pub told : (Triple → Answer) → Triple → Triple × Answer
told f t = (t, f t)

-- a test of the requests
filtered : (f : Triple → Answer) (p : Triple → Bool) (ts : List Triple) → filter (λ c. p c.0) (zip ts (map f ts)) ≡ map (told f) (filter p ts)
filtered f p [] = refl
filtered f p (t ∷ ts) = by (filtered f p ts) (p t) where
  by : filter (λ c. p c.0) (zip ts (map f ts)) ≡ map (told f) (filter p ts) → (b : Bool)
      → cond b ((t, f t) ∷ filter (λ c. p c.0) (zip ts (map f ts))) (filter (λ c. p c.0) (zip ts (map f ts))) ≡ map (told f) (cond b (t ∷ filter p ts) (filter p ts))
  by rest true = ap (λ l. (t, f t) ∷ l) rest
  by rest false = rest

zip_front : (f : Triple → Answer) (ts : List Triple) (rest : List Answer) → zip ts (map f ts ++ rest) ≡ map (told f) ts
zip_front f [] rest = refl
zip_front f (t ∷ ts) rest = ap (λ l. (t, f t) ∷ l) (zip_front f ts rest)

-- the row of the name at a place is next behind the rows before it
row_from : {B : Type 0} (row : List ℕ → List B) (n : ℕ) → ((x : List ℕ) → length (row x) ≡ n)
    → (names : List (List ℕ)) (place : ℕ) (name : List ℕ) → slice_get names place ≡ Some name
    → drop (place * n) (flat_map row names) ≡ row name ++ flat_map row (drop (suc place) names)
row_from row n long [] place name at = cc
row_from row n long (x ∷ names) zero name at =
    let same : x ≡ name = cc in
    let none : zero * n ≡ 0 = omega arith in
    ap (λ m. drop m (row x ++ flat_map row names)) none ∙ ap (λ y. row y ++ flat_map row names) same
row_from row n long (x ∷ names) (suc place) name at =
    let all = row x ++ flat_map row names in
    let more : suc place * n ≡ n + place * n = omega arith in
    ap (λ m. drop m all) more
    ∙ sym (drop-drop (place * n) n all)
    ∙ ap (drop (place * n)) (drop_at (row x) (flat_map row names) n (long x))
    ∙ row_from row n long names place name at

-- a person with its answer to an action and a resource
abbrev told_to : (Triple → Answer) → List ℕ → List ℕ → List ℕ → List ℕ × Answer
told_to f action resource p = (p, f (triple_of p action resource))

people_told : (f : Triple → Answer) (action resource : List ℕ) (people : List (List ℕ))
    → map (λ c. (c.0.person, c.1)) (map (told f) (map (λ p. triple_of p action resource) people)) ≡ map (told_to f action resource) people
people_told f action resource [] = refl
people_told f action resource (p ∷ people) = ap (λ l. (p, f (triple_of p action resource)) ∷ l) (people_told f action resource people)

column_more : (n : ℕ) (p : List ℕ) (people : List (List ℕ)) (xs ys : List Answer) (x : Answer) → xs ≡ x ∷ ys → column n (p ∷ people) xs ≡ (p, x) ∷ column n people (drop n xs)
column_more n p people xs ys x e = ap (column n (p ∷ people)) e ∙ ap (λ l. (p, x) ∷ column n people (drop n l)) (sym e)

module _ (f : Triple → Answer) (people actions resources : List (List ℕ)) where
  abbrev table : List (Triple × Answer)
  table = zip (all_triples people actions resources) (map f (all_triples people actions resources))

  -- ---- a person's cells

  module _ (person : List ℕ) where
    pub cells_by_place : (row : ℕ) → IsDistinct bytes_eq people → slice_get people row ≡ Some person
        → zip (all_triples (person ∷ []) actions resources) (drop (row * (length actions * length resources)) (map f (all_triples people actions resources))) ≡ cells_of person table
    cells_by_place row distinct at =
        let n = length actions * length resources in
        let own = with_actions person actions resources in
        let later = all_triples (drop (suc row) people) actions resources in
        let behind : drop (row * n) (map f (all_triples people actions resources)) ≡ map f own ++ map f later =
        drop-map f (row * n) (all_triples people actions resources)
        ∙ ap (map f) (row_from (λ p. with_actions p actions resources) n (λ p. length-with_actions p resources actions) people row person at)
        ∙ map-append f own later in
        (λ i. zip (append-nil own i) (behind i))
        ∙ zip_front f own (map f later)
        ∙ ap (map (told f)) (sym (own_row person actions resources)
        ∙ sym (one_row (λ p. with_actions p actions resources) (is_of person) person (other_row actions resources person) people row distinct at))
        ∙ sym (filtered f (is_of person) (all_triples people actions resources))

    pub no_cells : has_name person people ≡ false → [] ≡ cells_of person table
    no_cells none = sym (filtered f (is_of person) (all_triples people actions resources)
        ∙ ap (map (told f)) (no_row (λ p. with_actions p actions resources) (is_of person) person (other_row actions resources person) people (absent person people none)))

  -- ---- the answers to an action and a resource

  module _ (action resource : List ℕ) where
    others_left : filter (is_to action resource) (all_triples people actions resources) ≡ [] → [] ≡ answers_to action resource table
    others_left e = sym (ap (map (λ c. (c.0.person, c.1))) (filtered f (is_to action resource) (all_triples people actions resources) ∙ ap (map (told f)) e))

    pub no_answers_action : has_name action actions ≡ false → [] ≡ answers_to action resource table
    no_answers_action none = others_left (none_with_action action resource actions resources people (absent action actions none))

    pub no_answers_resource : has_name resource resources ≡ false → [] ≡ answers_to action resource table
    no_answers_resource none = others_left (none_with_resources action resource actions resources people (absent resource resources none))

-- a column by its places
column_by_place : (f : Triple → Answer) (actions resources : List (List ℕ)) (action resource : List ℕ) (j k : ℕ)
    → slice_get actions j ≡ Some action → slice_get resources k ≡ Some resource → (people : List (List ℕ))
    → column (length actions * length resources) people (drop (j * length resources + k) (map f (all_triples people actions resources))) ≡ map (told_to f action resource) people
column_by_place f actions resources action resource j k at under [] = refl
column_by_place f actions resources action resource j k at under (p ∷ people) =
    let n = length actions * length resources in
    let place = j * length resources + k in
    let own = with_actions p actions resources in
    let all = all_triples (p ∷ people) actions resources in
    let later = all_triples people actions resources in
    let same : (0 * length actions + j) * length resources + k ≡ place = grind arith in
    let there : slice_get all place ≡ Some (triple_of p action resource) = ap (slice_get all) (sym same) ∙ triple_at (p ∷ people) actions resources 0 j k p action resource refl at under in
    let told : slice_get (map f all) place ≡ Some (f (triple_of p action resource)) = slice_get-map f all place ∙ ap (option_map f) there in
    let on : n + place ≡ place + n = omega arith in
    let behind : drop n (drop place (map f all)) ≡ drop place (map f later) =
    drop-drop n place (map f all)
    ∙ ap (λ m. drop m (map f all)) (sym on)
    ∙ sym (drop-drop place n (map f all))
    ∙ ap (drop place) (drop-map f n all ∙ ap (map f) (drop_at own later n (length-with_actions p resources actions))) in
    column_more n p people (drop place (map f all)) (drop (place + 1) (map f all)) (f (triple_of p action resource)) (drop_from (map f all) place (f (triple_of p action resource)) told)
    ∙ ap (λ l. (p, f (triple_of p action resource)) ∷ l) (ap (column n people) behind ∙ column_by_place f actions resources action resource j k at under people)

pub answers_by_place : (f : Triple → Answer) (people actions resources : List (List ℕ)) (action resource : List ℕ) (j k : ℕ) → IsDistinct bytes_eq actions → IsDistinct bytes_eq resources
    → slice_get actions j ≡ Some action → slice_get resources k ≡ Some resource
    → column (length actions * length resources) people (drop (j * length resources + k * 1) (map f (all_triples people actions resources)))
    ≡ answers_to action resource (table f people actions resources)
answers_by_place f people actions resources action resource j k distinct_actions distinct_resources at under =
    let all = all_triples people actions resources in
    let same : j * length resources + k * 1 ≡ j * length resources + k = omega arith in
    ap (λ m. column (length actions * length resources) people (drop m (map f all))) same
    ∙ column_by_place f actions resources action resource j k at under people
    ∙ sym (people_told f action resource people)
    ∙ sym (ap (map (λ c. (c.0.person, c.1))) (filtered f (is_to action resource) all
    ∙ ap (map (told f)) (one_each action resource actions resources j k distinct_actions distinct_resources at under people)))
