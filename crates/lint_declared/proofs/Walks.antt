-- What is found at a place and inside of it.
use Rattle.std.proofs.Common.{◌≡◌, ◌⊎◌, inl, inr, ℕ, zero, suc, ◌<◌, ◌≤◌, ◌+◌, false, true, List, [], ◌∷◌, ◌++◌, length, get_or, take, map, Option, Some, None, codes, refl, sym, ap, ◌∙◌, subst, arith}
use mathlib.Core.List.{append_assoc}
use Rattle.std.specs.Prelude.{decimal, is_some}
use Rattle.std.specs.List.{All, Contains, flat_map}
use Rattle.std.proofs.lemmas.List.{get_or_default}
use Rattle.std.proofs.lemmas.List.Elements.{All-append, All-cons, All-contains, All-more, All-nil, All-weaker, Contains-append_left, Contains-append_right}
use Rattle.std.proofs.lemmas.List.Folds.{flat_map-map}
use Rattle.serde_json.specs.Data.{Data}
use Rattle.serde_json.specs.Find.{as_array, get}
use Rattle.serde_json.specs.View.{items_of}
use Rattle.lint_places.specs.Places.{Spot, at_key, at_keys, at_numbers, in_list, inside, scope_at, scope_in, scope_of_member}
use Rattle.lint_places.specs.Parts.{Row, item, rows}
use Rattle.lint_places.specs.Told.{Scope}
use Rattle.lint_places.specs.declared.part.Part.{Part}
use Rattle.lint_declared.specs.Asked.{asked, finds_one}
use Rattle.lint_declared.specs.Compared.{literals, designators}
use Rattle.lint_declared.specs.Undeclared.{Finds, FindsHere, FindsIn, IsAllDeclared, IsLiteralOf, IsWrongBy, StandsIn, is_designator, is_undeclared, is_wrong, spot}
use Rattle.lint_declared.specs.proofs_only.Found.{FindsDesignator, StraysIn}
use Rattle.ent_values.specs.declared.value.Value.{Value}
use Rattle.lint_declared.specs.declared.attribute.DeclaredAttribute.{DeclaredAttribute}
use Rattle.lint_declared.specs.declared.designator.Undeclared.{Undeclared}
use Rattle.lint_declared.proofs.Places.{All-flat_map, All-members, Contains-flat_map, Contains-member, fallback, length-map, listed_is, member_at, member_is}

-- all are declared where it isn't one that is undeclared, and all inside are declared
all_declared : (given : List DeclaredAttribute) (s : Spot) → is_wrong given s ≡ false → All (IsAllDeclared given) (inside s) → IsAllDeclared given s
all_declared given s here inner zero spot is = subst (λ t. is_wrong given t ≡ false) (sym is) here
all_declared given s here inner (suc n) spot (t, is_in, h) = All-contains (IsAllDeclared given) (inside s) t inner is_in n spot h

-- what stands in a part inside stands in the part
stands_inside : (given : List DeclaredAttribute) (found : Undeclared) (s t : Spot) → Contains (inside s) t → StandsIn given found t → StandsIn given found s
stands_inside given found s t is_in h = record {
  spot = h.spot;
  level = suc h.level;
  is_part = (t, is_in, h.is_part);
  is_there = h.is_there;
}

-- what stands at the place itself
stands_here : (given : List DeclaredAttribute) (found : Undeclared) (s : Spot) → IsWrongBy given found s found.value → StandsIn given found s
stands_here given found s there = record { spot = s; level = 0; is_part = refl; is_there = there }

-- a designator that is found there
pub designator_here : (given : List DeclaredAttribute) (found : Undeclared) (s : Spot) → FindsDesignator given s (Some found) → StandsIn given found s
designator_here given found s h = stands_here given found s (subst (λ v. IsWrongBy given found s v) (sym h.0) h.1)

by_literal : (given : List DeclaredAttribute) (found : Undeclared) (s : Spot) (v : Option Value) → is_some v ≡ true
    → IsLiteralOf given found (literals s.part (s.pointer, s.json)) (designators s.part (s.pointer, s.json)) → IsWrongBy given found s v
by_literal given found s None some h = absurd cc
by_literal given found s (Some v) some h = h

-- what is found there, where no designator is
pub literal_here : (given : List DeclaredAttribute) (o : Option Undeclared) (s : Spot) → is_undeclared given s ≡ false
    → StraysIn given (literals s.part (s.pointer, s.json)) (designators s.part (s.pointer, s.json)) o → FindsHere given s o
literal_here given None s declared h = rw (declared, h) refl
literal_here given (Some found) s declared h = stands_here given found s (by_literal given found s found.value h.0 h.1)

-- a designator is undeclared where nothing declared is asked for
pub undeclared_by : (given : List DeclaredAttribute) (s : Spot) (o : Option DeclaredAttribute) → is_designator s.part ≡ true → o ≡ asked s.json → finds_one given o ≡ false → is_undeclared given s ≡ true
undeclared_by given s o designator is none = rw (designator, ← is, none) refl

-- what is found at the keys is found in the part
pub found_at_keys : (given : List DeclaredAttribute) (found : Undeclared) (o : Option Undeclared) (s : Spot) → o ≡ Some found → FindsIn given (at_keys s) o → Finds given s (Some found)
found_at_keys given found o s is all =
    let h : FindsIn given (at_keys s) (Some found) = subst (λ p. FindsIn given (at_keys s) p) is all in
    stands_inside given found s h.0 (Contains-append_left (at_keys s) (in_list s (item s.part)) h.0 h.1) h.2

-- where nothing is found there, what is found in the list is found in the part
pub found_in_list : (given : List DeclaredAttribute) (o : Option Undeclared) (s : Spot) → is_wrong given s ≡ false → FindsIn given (at_keys s) None → FindsIn given (in_list s (item s.part)) o → Finds given s o
found_in_list given None s here keys h = all_declared given s here (All-append (IsAllDeclared given) (at_keys s) (in_list s (item s.part)) keys h)
found_in_list given (Some found) s here keys h = stands_inside given found s h.0 (Contains-append_right (at_keys s) (in_list s (item s.part)) h.0 h.1) h.2

-- what is found at a place is found among it alone
pub found_alone : (given : List DeclaredAttribute) (o : Option Undeclared) (s : Spot) → Finds given s o → FindsIn given (s ∷ []) o
found_alone given None s h = All-cons (IsAllDeclared given) s [] h (All-nil (IsAllDeclared given))
found_alone given (Some found) s h = (s, (0, omega arith, refl), h)

-- ---- keys

-- nothing is found at a row
abbrev pub RowIsDeclared : List DeclaredAttribute → List ℕ → Part → Data → Row → Type 0
RowIsDeclared given pointer part d row = (scope : Scope) → All (IsAllDeclared given) (at_key (spot pointer part scope d) row (get row.0 d))

-- nothing is found at any
pub none_at_keys : {R : Type 0} (row : R → Row) (given : List DeclaredAttribute) (pointer : List ℕ) (part : Part) (d : Data) (scope : Scope) (rs : List R) → map row rs ≡ rows part
    → All (λ r. RowIsDeclared given pointer part d (row r)) rs → All (IsAllDeclared given) (at_keys (spot pointer part scope d))
none_at_keys row given pointer part d scope rs same h =
    let f : Row → List Spot = λ r. at_key (spot pointer part scope d) r (get r.0 d) in
    let each = All-flat_map (IsAllDeclared given) (λ r. f (row r)) rs
    (All-weaker (λ r. RowIsDeclared given pointer part d (row r)) (λ r. All (IsAllDeclared given) (f (row r))) (λ r all. all scope) rs h) in
    subst (λ xs. All (IsAllDeclared given) xs) (sym (flat_map-map f row rs) ∙ ap (flat_map f) same) each

-- what is found at a row is found at the keys
pub found_at_row : {R : Type 0} (row : R → Row) (given : List DeclaredAttribute) (found : Undeclared) (o : Option Undeclared) (s : Spot) (rs : List R) (i : ℕ) (d : R) → map row rs ≡ rows s.part
    → i < length rs → o ≡ Some found → FindsIn given (at_key s (row (get_or rs i d)) (get (row (get_or rs i d)).0 s.json)) o → FindsIn given (at_keys s) (Some found)
found_at_row row given found o s rs i d same lt is all =
    let f : Row → List Spot = λ q. at_key s q (get q.0 s.json) in
    let r = get_or rs i d in
    let h : FindsIn given (f (row r)) (Some found) = subst (λ p. FindsIn given (f (row r)) p) is all in
    let inner = Contains-flat_map (λ q. f (row q)) rs r h.0 (i, lt, get_or_default rs i r d lt) h.1 in
    (h.0, subst (λ xs. Contains xs h.0) (sym (flat_map-map f row rs) ∙ ap (flat_map f) same) inner, h.2)

-- one row more at which nothing is found
pub one_more_row : {R : Type 0} (row : R → Row) (given : List DeclaredAttribute) (o : Option Undeclared) (pointer : List ℕ) (part : Part) (d : Data) (rs : List R) (i : ℕ) (e : R) → i < length rs → o ≡ None
    → ((scope : Scope) → FindsIn given (at_key (spot pointer part scope d) (row (get_or rs i e)) (get (row (get_or rs i e)).0 d)) o)
    → All (λ r. RowIsDeclared given pointer part d (row r)) (take i rs) → All (λ r. RowIsDeclared given pointer part d (row r)) (take (i + 1) rs)
one_more_row row given o pointer part d rs i e lt none here before =
    All-more (λ r. RowIsDeclared given pointer part d (row r)) rs i e lt before
    (λ scope. subst (λ q. FindsIn given (at_key (spot pointer part scope d) (row (get_or rs i e)) (get (row (get_or rs i e)).0 d)) q) none (here scope))

-- what is found at the place of a key is found at the row
pub found_at_key : (given : List DeclaredAttribute) (pointer inner : List ℕ) (part : Part) (d e : Data) (row : Row) (o : Option Undeclared) → Some e ≡ get row.0 d
    → inner ≡ pointer ++ (codes "/" ++ row.0) → ((scope : Scope) → Finds given (spot inner row.1 scope e) o) → (scope : Scope) → FindsIn given (at_key (spot pointer part scope d) row (get row.0 d)) o
found_at_key given pointer inner part d e row o is same h scope =
    let there = scope_at row.1 (scope_in part scope d) in
    subst (λ v. FindsIn given (at_key (spot pointer part scope d) row v) o) is
    (found_alone given o (spot (pointer ++ codes "/" ++ row.0) row.1 there e) (subst (λ p. Finds given (spot p row.1 there e) o) (same ∙ sym (append_assoc pointer (codes "/") row.0)) (h there)))

-- ---- members

-- nothing is found at a member of a list
abbrev pub MemberIsDeclared : List DeclaredAttribute → List ℕ → Part → ℕ → Data → Type 0
MemberIsDeclared given pointer item k d = (scope : Scope) → IsAllDeclared given (spot (pointer ++ codes "/" ++ decimal k) item scope d)

-- nothing is found at the first of them
abbrev pub FirstAreDeclared : {J : Type 0} (content : J → Data) → List DeclaredAttribute → List ℕ → Part → List J → ℕ → Type 0
FirstAreDeclared {J} content given pointer item vs n = (k : ℕ) (m : J) → k < n → MemberIsDeclared given pointer item k (content (get_or vs k m))

also_behind : (k i : ℕ) → (k < i) ⊎ (k ≡ i) → (suc k < suc i) ⊎ (suc k ≡ suc i)
also_behind k i (inl lt) = inl (omega (arith, lt))
also_behind k i (inr same) = inr (ap suc same)

-- a number up to another is below it or is it
split : (k i : ℕ) → k < i + 1 → (k < i) ⊎ (k ≡ i)
split zero zero lt = inr refl
split zero (suc i) lt = inl (omega arith)
split (suc k) zero lt = absurd (omega (arith, lt))
split (suc k) (suc i) lt = also_behind k i (split k i (omega (arith, lt)))

one_of_them : {J : Type 0} (content : J → Data) (given : List DeclaredAttribute) (pointer : List ℕ) (p : Part) (vs : List J) (i : ℕ) (v : J) → i < length vs → v ≡ get_or vs i v
    → MemberIsDeclared given pointer p i (content v) → FirstAreDeclared content given pointer p vs i → (k : ℕ) (m : J) → (k < i) ⊎ (k ≡ i) → MemberIsDeclared given pointer p k (content (get_or vs k m))
one_of_them content given pointer p vs i v lt is here before k m (inl below) = before k m below
one_of_them content given pointer p vs i v lt is here before k m (inr same) =
    subst (λ j. MemberIsDeclared given pointer p j (content (get_or vs j m))) (sym same)
    (subst (λ w. MemberIsDeclared given pointer p i (content w)) (is ∙ get_or_default vs i v m lt) here)

-- one more
pub one_more : {J : Type 0} (content : J → Data) (given : List DeclaredAttribute) (o : Option Undeclared) (pointer : List ℕ) (p : Part) (vs : List J) (i : ℕ) (v : J) → i < length vs → v ≡ get_or vs i v → o ≡ None
    → ((scope : Scope) → Finds given (spot (pointer ++ codes "/" ++ decimal i) p scope (content v)) o) → FirstAreDeclared content given pointer p vs i → FirstAreDeclared content given pointer p vs (i + 1)
one_more content given o pointer p vs i v lt is none here before k m le =
    one_of_them content given pointer p vs i v lt is (λ scope. subst (λ q. Finds given (spot (pointer ++ codes "/" ++ decimal i) p scope (content v)) q) none (here scope)) before k m (split k i le)

-- nothing is found at any
pub none_in_list : {J : Type 0} (content : J → Data) (given : List DeclaredAttribute) (s : Spot) (p : Part) (vs : List J) (n : ℕ) → as_array s.json ≡ Some (items_of (map content vs)) → length vs ≤ n
    → FirstAreDeclared content given s.pointer p vs n → All (IsAllDeclared given) (in_list s (Some p))
none_in_list content given s p vs n same le h =
    let ds = map content vs in
    rw (listed_is s.json ds same)
    (All-members (IsAllDeclared given) s p ds ds (λ k d lt.
    let v = fallback content vs k lt in
    subst (λ e. IsAllDeclared given (member_at s p ds k e)) (member_is content vs k v d lt) (h k v (omega (arith, lt, length-map content vs, le)) (scope_of_member s.part s.scope ds k))))

-- what is found at a member is found in the list
pub found_at_member : {J : Type 0} (content : J → Data) (given : List DeclaredAttribute) (found : Undeclared) (o : Option Undeclared) (s : Spot) (p : Part) (vs : List J) (i : ℕ) (v : J)
    → as_array s.json ≡ Some (items_of (map content vs)) → i < length vs → v ≡ get_or vs i v → o ≡ Some found
    → ((scope : Scope) → Finds given (spot (s.pointer ++ codes "/" ++ decimal i) p scope (content v)) o) → FindsIn given (in_list s (Some p)) (Some found)
found_at_member content given found o s p vs i v same lt is some h =
    let ds = map content vs in
    let lt_ds : i < length ds = omega (arith, lt, length-map content vs) in
    let scope = scope_of_member s.part s.scope ds i in
    let here = member_at s p ds i (content v) in
    let there = subst (λ e. Contains (at_numbers s p ds 0 ds) (member_at s p ds i e)) (sym (member_is content vs i v (content v) lt_ds) ∙ ap content (sym is)) (Contains-member s p ds ds i (content v) lt_ds) in
    rw (listed_is s.json ds same) (here, there, subst (λ q. Finds given here q) some (h scope))
