-- Loops over what gives lists, one after another, as a request's categories and their attributes give values.
use Rattle.std.proofs.Common.{◌≡◌, ℕ, ◌+◌, ◌<◌, ◌≤◌, false, List, [], ◌∷◌, ◌++◌, length, drop, get_or, refl, sym, ap, ◌∙◌, append_assoc, arith, length-append, subst, Option, None}
use Rattle.std.specs.List.{flat_map}
use Rattle.std.specs.Prelude.{MatchOption}
use Rattle.std.proofs.Math.ListN.{drop_of_length-le}
use Rattle.std.proofs.lemmas.List.{append-nil}
use Rattle.std.proofs.lemmas.List.Concat.{flat_map-append}
use Rattle.std.proofs.lemmas.List.Elements.{All-append, All-same}
use Rattle.ent_values.specs.Bags.{AllOfType}
use Rattle.ent_values.specs.Types.{datatype_of}
use Rattle.ent_values.specs.declared.datatype.DataType.{DataType}
use Rattle.ent_values.specs.declared.value.Value.{Value}
use Rattle.ent_policy.specs.declared.document.Designator.{Designator}
use Rattle.ent_request.specs.declared.own.Sought.{Sought}
use Rattle.ent_request.specs.declared.request.Category.{Category}
use Rattle.ent_request.specs.declared.request.Request.{Request}
use Rattle.ent_request.specs.Own.{attributes_in, own_values, values_in}
use Rattle.ent_request.specs.proofs_only.Sought.{AreSeveral, IsWhole, designator_of, values_of}
use Rattle.ent_request.proofs.Lists.{at_item}

-- what stands where there is none
pub is_none : {A : Type 0} (o : Option A) (P : Type 0) (Q : A → Type 0) → o ≡ None → P → MatchOption o P Q
is_none o P Q is p = subst (λ r. MatchOption r P Q) (sym is) p

flat_map-flat_map : {X Y A : Type 0} (g : Y → List A) (f : X → List Y) (xs : List X) → flat_map g (flat_map f xs) ≡ flat_map (λ x. flat_map g (f x)) xs
flat_map-flat_map g f [] = refl
flat_map-flat_map g f (x ∷ xs) = flat_map-append g (f x) (flat_map f xs) ∙ ap (λ vs. flat_map g (f x) ++ vs) (flat_map-flat_map g f xs)

-- a designator that names what is looked for names it
pub own_of : (s : Sought) (d : Designator) (request : Request) → designator_of s ≡ record d { must_be_present = false } → own_values (designator_of s) request ≡ own_values d request
own_of s d request is = ap (λ e. own_values e request) is

-- the request's own values are those of each category
by_category : (d : Designator) (request : Request) → own_values d request ≡ flat_map (values_of d) request.categories
by_category d request = flat_map-flat_map (values_in d) (attributes_in d.category) request.categories

-- where these are its categories
pub of_categories : (d : Designator) (request : Request) (categories : List Category) → categories ≡ request.categories → flat_map (values_of d) categories ≡ own_values d request
of_categories d request categories is = ap (flat_map (values_of d)) is ∙ sym (by_category d request)

module _ {X A : Type 0} (f : X → List A) (xs : List X) (i : ℕ) where
  -- what an item and those behind it give
  left : (x : X) → i < length xs → x ≡ get_or xs i x → flat_map f (drop i xs) ≡ f x ++ flat_map f (drop (i + 1) xs)
  left x below at = ap (flat_map f) (at_item xs i x below at)

  none_left : length xs ≤ i → flat_map f (drop i xs) ≡ []
  none_left past = ap (flat_map f) (drop_of_length-le xs past)

  -- one item more is added
  pub adds_on : (all so_far more : List A) (x : X) → so_far ++ flat_map f (drop i xs) ≡ all → i < length xs → x ≡ get_or xs i x → more ≡ so_far ++ f x
      → more ++ flat_map f (drop (i + 1) xs) ≡ all
  adds_on all so_far more x is below at more-is =
      let later = flat_map f (drop (i + 1) xs) in
      ap (λ vs. vs ++ later) more-is ∙ append_assoc so_far (f x) later ∙ ap (λ vs. so_far ++ vs) (sym (left x below at)) ∙ is

  pub adds_all : (all so_far : List A) → so_far ++ flat_map f (drop i xs) ≡ all → length xs ≤ i → so_far ≡ all
  adds_all all so_far is past = sym (append-nil so_far) ∙ ap (λ vs. so_far ++ vs) (sym (none_left past)) ∙ is

-- one slice has all that the items before i give, and its values have that type
pub record IsSoFar {X : Type 0} (datatype : DataType) (f : X → List Value) (xs : List X) (i : ℕ) (so_far : List Value) : Type 0 where
  pub values : so_far ++ flat_map f (drop i xs) ≡ flat_map f xs
  pub types : AllOfType datatype so_far

module _ {X : Type 0} (datatype : DataType) (f : X → List Value) (xs : List X) (i : ℕ) (so_far : List Value) (is : IsSoFar datatype f xs i so_far) where
  pub next_so_far : (x : X) (here more : List Value) → i < length xs → x ≡ get_or xs i x → here ≡ f x → AllOfType datatype here → more ≡ so_far ++ here
      → IsSoFar datatype f xs (i + 1) more
  next_so_far x here more below at here-is typed more-is = record {
    values = adds_on f xs i (flat_map f xs) so_far more x is.values below at (more-is ∙ ap (λ vs. so_far ++ vs) here-is);
    types = All-same (λ value. datatype_of value ≡ datatype) more (so_far ++ here) more-is (All-append (λ value. datatype_of value ≡ datatype) so_far here is.types typed);
  }

  -- where one item gives several, or with those before it, there are several in all
  pub several_with : (x : X) (here : List Value) → i < length xs → x ≡ get_or xs i x → here ≡ f x → AreSeveral (so_far ++ here) → AreSeveral (flat_map f xs)
  several_with x here below at here-is two =
      let later = flat_map f (drop (i + 1) xs) in
      let all : (so_far ++ here) ++ later ≡ flat_map f xs = adds_on f xs i (flat_map f xs) so_far (so_far ++ here) x is.values below at (ap (λ vs. so_far ++ vs) here-is) in
      omega (arith, two, ap length all, length-append (so_far ++ here) later)

  pub several_of : (x : X) → i < length xs → x ≡ get_or xs i x → AreSeveral (f x) → AreSeveral (flat_map f xs)
  several_of x below at two = several_with x (f x) below at refl (omega (arith, two, length-append so_far (f x)))

  pub whole : length xs ≤ i → IsWhole datatype (flat_map f xs) so_far
  whole past = (adds_all f xs i (flat_map f xs) so_far is.values past, is.types)
