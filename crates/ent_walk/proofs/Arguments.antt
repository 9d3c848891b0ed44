-- Arguments of which some are evaluated, and their types.
use Rattle.std.proofs.Common.{◌≡◌, ℕ, ◌+◌, ◌<◌, ◌≤◌, Bool, true, false, List, [], ◌∷◌, ◌++◌, length, map, drop, get_or, refl, sym, ap, ◌∙◌, subst, append_assoc, Option, Some, None}
use Rattle.std.specs.Prelude.{unwrap_or, if◌then◌else◌, not, IsSome, option_map, option_and_then}
use Rattle.std.specs.List.{list_any, list_all}
use Rattle.std.proofs.Math.ListN.{drop_of_length-le}
use Rattle.std.proofs.lemmas.List.{append-nil, map-append}
use Rattle.ent_values.specs.declared.value.Value.TheVariants as value
use Rattle.ent_functions.specs.Applied.{applied}
use Rattle.ent_functions.specs.Arguments.{type_of_arg}
use Rattle.ent_functions.specs.Types.{boolean, first_order_type, result_type_of, same_type}
use Rattle.ent_functions.specs.declared.arg.Arg.{Arg}
use Rattle.ent_functions.specs.declared.arg.Arg.TheVariants.{One, Many, Fun}
use Rattle.ent_functions.specs.declared.function.Function.{Function}
use Rattle.ent_functions.specs.declared.function.Function.TheVariants as functions
use Rattle.ent_functions.specs.declared.types.ArgType.{ArgType}
use Rattle.ent_policy.specs.Typing.{all_typed}
use Rattle.ent_walk.specs.declared.evaluated.Evaluated.{Evaluated}
use Rattle.ent_walk.specs.declared.evaluated.Evaluated.TheVariants.{Known, Indeterminate}
use Rattle.ent_walk.specs.Expression.{application, arguments_of, decides, evaluated_of, fault_in, fault_unless, faults, is_result, result_of}
use Rattle.ent_trace.specs.proofs_only.Noted.{Notes, noting}
use Rattle.ent_request.specs.Part.{Part, notes_of, seen_parts, values}
use Rattle.ent_walk.specs.proofs_only.Typed.{HasType}
use Rattle.ent_walk.proofs.Booleans.{find_behind, find_none}
use Rattle.ent_walk.proofs.Going.{IsGoing, goes_on, noting_both, stops_at, values_to, values_to-next}
use Rattle.ent_request.proofs.Lists.{at_item}

known_arguments : (done : List Arg) → arguments_of (map Known done) ≡ done
known_arguments [] = refl
known_arguments (a ∷ done) = ap (λ rest. a ∷ rest) (known_arguments done)

result_unsettled : (f : Function) (vs : List Evaluated) (done : List Arg) → list_any (is_result f) vs ≡ false → vs ≡ map Known done → result_of f vs ≡ evaluated_of (applied f done)
result_unsettled f vs done none is =
    ap (λ o. unwrap_or o (evaluated_of (applied f (arguments_of vs)))) (find_none (is_result f) vs none) ∙ ap (λ given. evaluated_of (applied f given)) (ap arguments_of is ∙ known_arguments done)

result_settled : (f : Function) (vs : List Evaluated) (v : Evaluated) (ws : List Evaluated) → list_any (is_result f) vs ≡ false → is_result f v ≡ true → result_of f (vs ++ v ∷ ws) ≡ v
result_settled f vs v ws none is = ap (λ o. unwrap_or o (evaluated_of (applied f (arguments_of (vs ++ v ∷ ws))))) (find_behind (is_result f) vs v ws none is)

no_faults : (f : Function) (vs : List Evaluated) (v : Evaluated) (ws : List Evaluated) → list_any (is_result f) vs ≡ false → is_result f v ≡ true → faults f (vs ++ v ∷ ws) ≡ []
no_faults f vs v ws none is = ap (λ o. fault_unless f o (applied f (arguments_of (vs ++ v ∷ ws)))) (find_behind (is_result f) vs v ws none is)

its_fault : (f : Function) (vs : List Evaluated) (done : List Arg) → list_any (is_result f) vs ≡ false → vs ≡ map Known done → faults f vs ≡ fault_in f (applied f done)
its_fault f vs done none is =
    ap (λ o. fault_unless f o (applied f (arguments_of vs))) (find_none (is_result f) vs none) ∙ ap (λ given. fault_in f (applied f given)) (ap arguments_of is ∙ known_arguments done)

-- ---- types

some_if : (b : Bool) (t : ArgType) → IsSome (if b then Some t else None) → (if b then Some t else None) ≡ Some t
some_if true t some = refl
some_if false t some = absurd (cc)

or_typed : (types : Option (List ArgType)) → IsSome (option_and_then (result_type_of functions.Or) types) → option_and_then (result_type_of functions.Or) types ≡ Some boolean
unfolding result_type_of first_order_type
or_typed None some = absurd (cc)
or_typed (Some ts) some = some_if (list_all (λ type. same_type type boolean) ts) boolean some

and_typed : (types : Option (List ArgType)) → IsSome (option_and_then (result_type_of functions.And) types) → option_and_then (result_type_of functions.And) types ≡ Some boolean
unfolding result_type_of first_order_type
and_typed None some = absurd (cc)
and_typed (Some ts) some = some_if (list_all (λ type. same_type type boolean) ts) boolean some

decided_typed : (f : Function) (b : Bool) (types : Option (List ArgType)) → decides f b ≡ true → IsSome (option_and_then (result_type_of f) types) → option_and_then (result_type_of f) types ≡ Some boolean
decided_typed functions.Or b types is some = or_typed types some
decided_typed functions.And b types is some = and_typed types some
decided_typed (functions.Equal e) b types is some = absurd (cc)
decided_typed (functions.Compare c o) b types is some = absurd (cc)
decided_typed functions.Add b types is some = absurd (cc)
decided_typed functions.Subtract b types is some = absurd (cc)
decided_typed functions.Multiply b types is some = absurd (cc)
decided_typed functions.Divide b types is some = absurd (cc)
decided_typed functions.Mod b types is some = absurd (cc)
decided_typed functions.Abs b types is some = absurd (cc)
decided_typed functions.Not b types is some = absurd (cc)
decided_typed (functions.OneAndOnly e) b types is some = absurd (cc)
decided_typed (functions.BagSize e) b types is some = absurd (cc)
decided_typed (functions.IsIn e) b types is some = absurd (cc)
decided_typed (functions.Bag e) b types is some = absurd (cc)
decided_typed (functions.Intersection e) b types is some = absurd (cc)
decided_typed (functions.Union e) b types is some = absurd (cc)
decided_typed (functions.AtLeastOneMemberOf e) b types is some = absurd (cc)
decided_typed (functions.Subset e) b types is some = absurd (cc)
decided_typed (functions.SetEquals e) b types is some = absurd (cc)
decided_typed functions.Concatenate b types is some = absurd (cc)
decided_typed functions.StartsWith b types is some = absurd (cc)
decided_typed functions.EndsWith b types is some = absurd (cc)
decided_typed functions.Contains b types is some = absurd (cc)
decided_typed functions.DateAdd b types is some = absurd (cc)
decided_typed functions.DateSubtract b types is some = absurd (cc)
decided_typed functions.AnyOf b types is some = absurd (cc)
decided_typed functions.AllOf b types is some = absurd (cc)

settled_typed : (f : Function) (v : Evaluated) (types : Option (List ArgType)) → is_result f v ≡ true → IsSome (option_and_then (result_type_of f) types) → HasType (option_and_then (result_type_of f) types) v
settled_typed f (Indeterminate status) types is some = tt
settled_typed f (Known (One (value.Boolean b))) types is some = decided_typed f b types is some
settled_typed f (Known (One (value.Text t))) types is some = absurd (cc)
settled_typed f (Known (One (value.Integer t))) types is some = absurd (cc)
settled_typed f (Known (One (value.Date t))) types is some = absurd (cc)
settled_typed f (Known (One (value.AnyUri t))) types is some = absurd (cc)
settled_typed f (Known (One (value.YearMonth t))) types is some = absurd (cc)
settled_typed f (Known (One (value.Time t))) types is some = absurd (cc)
settled_typed f (Known (One (value.DateTime t))) types is some = absurd (cc)
settled_typed f (Known (Many bag)) types is some = absurd (cc)
settled_typed f (Known (Fun g)) types is some = absurd (cc)

-- the first of several types is one, where all are
first_some : (t : Option ArgType) (others : List (Option ArgType)) → IsSome (all_typed (t ∷ others)) → IsSome t
first_some None others some = some
first_some (Some t) others some = refl

mapped_some : {A B : Type 0} (f : A → B) (o : Option A) → IsSome (option_map f o) → IsSome o
mapped_some f None some = some
mapped_some f (Some a) some = refl

chained_some : {A B : Type 0} (f : A → Option B) (o : Option A) → IsSome (option_and_then f o) → IsSome o
chained_some f None some = some
chained_some f (Some a) some = refl

after_first : (a : Arg) (t : Option ArgType) (done : List Arg) (others : List (Option ArgType)) → t ≡ Some (type_of_arg a)
    → option_map (λ ts. map type_of_arg done ++ ts) (all_typed (t ∷ others)) ≡ option_map (λ ts. map type_of_arg (done ++ a ∷ []) ++ ts) (all_typed others)
after_first a t done others is = ap (λ u. option_map (λ ts. map type_of_arg done ++ ts) (all_typed (u ∷ others))) is ∙ at (all_typed others) where
  at : (o : Option (List ArgType)) → option_map (λ ts. map type_of_arg done ++ ts) (option_map (λ ts. type_of_arg a ∷ ts) o) ≡ option_map (λ ts. map type_of_arg (done ++ a ∷ []) ++ ts) o
  at None = refl
  at (Some ts) = ap Some (sym (append_assoc (map type_of_arg done) (type_of_arg a ∷ []) ts) ∙ ap (λ us. us ++ ts) (sym (map-append type_of_arg done (a ∷ []))))

-- none of the first i arguments is the result, and `done` are what they come to; the types of those left follow theirs
pub record AreEvaluated {X : Type 0} (f : Function) (part : X → Part Evaluated) (type : X → Option ArgType) (xs : List X) (i : ℕ) (done : List Arg) (start now : Notes) : Type 0 where
  pub going : IsGoing (is_result f) part xs i start now
  pub known : values_to part xs i ≡ map Known done
  pub typed : option_map (λ ts. map type_of_arg done ++ ts) (all_typed (map type (drop i xs))) ≡ all_typed (map type xs)

module _ {X : Type 0} (f : Function) (part : X → Part Evaluated) (type : X → Option ArgType) (xs : List X) (i : ℕ) (done : List Arg) (start now : Notes) where
  pub argument_typed : (x : X) → i < length xs → x ≡ get_or xs i x → AreEvaluated f part type xs i done start now → IsSome (option_and_then (result_type_of f) (all_typed (map type xs))) → IsSome (type x)
  argument_typed x below at so_far some =
      let all = subst IsSome (sym so_far.typed) (chained_some (result_type_of f) (all_typed (map type xs)) some) in
      let left = mapped_some (λ ts. map type_of_arg done ++ ts) (all_typed (map type (drop i xs))) all in
      first_some (type x) (map type (drop (i + 1) xs)) (subst (λ ys. IsSome (all_typed (map type ys))) (at_item xs i x below at) left)

  pub next_argument : (x : X) (v : Evaluated) (a : Arg) (more : List Arg) (next : Notes) → i < length xs → x ≡ get_or xs i x → AreEvaluated f part type xs i done start now
      → v ≡ (part x).value → next ≡ noting now (part x).notes → HasType (type x) v → v ≡ Known a → is_result f v ≡ false → more ≡ done ++ a ∷ []
      → AreEvaluated f part type xs (i + 1) more start next
  next_argument x v a more next below at so_far v-is next-is has a-is not more-is = record {
    going = goes_on (is_result f) part xs i x start now next below at so_far.going (ap (is_result f) (sym v-is) ∙ not) next-is;
    known = values_to-next part xs i x below at ∙ ap (λ w. values_to part xs i ++ w ∷ []) (sym v-is ∙ a-is) ∙ ap (λ ws. ws ++ Known a ∷ []) so_far.known ∙ sym (map-append Known done (a ∷ [])) ∙ ap (map Known) (sym more-is);
    typed = ap (λ ds. option_map (λ ts. map type_of_arg ds ++ ts) (all_typed (map type (drop (i + 1) xs)))) more-is ∙ sym (after_first a (type x) done (map type (drop (i + 1) xs)) (subst (HasType (type x)) a-is has))
        ∙ ap (λ ys. option_map (λ ts. map type_of_arg done ++ ts) (all_typed (map type ys))) (sym (at_item xs i x below at)) ∙ so_far.typed;
  }

  pub settled-value : (x : X) (v : Evaluated) → i < length xs → x ≡ get_or xs i x → AreEvaluated f part type xs i done start now → v ≡ (part x).value → is_result f v ≡ true
      → v ≡ result_of f (values (map part xs))
  settled-value x v below at so_far v-is fixed =
      sym (ap (result_of f) (so_far.going.all ∙ ap (λ ys. values_to part xs i ++ values (map part ys)) (at_item xs i x below at) ∙ ap (λ w. values_to part xs i ++ w ∷ values (map part (drop (i + 1) xs))) (sym v-is))
      ∙ result_settled f (values_to part xs i) v (values (map part (drop (i + 1) xs))) so_far.going.passed fixed)

  pub settled-notes : (x : X) (v : Evaluated) (next : Notes) → i < length xs → x ≡ get_or xs i x → AreEvaluated f part type xs i done start now → v ≡ (part x).value → is_result f v ≡ true
      → next ≡ noting now (part x).notes → next ≡ noting start (application f (map part xs)).notes
  settled-notes x v next below at so_far v-is fixed next-is =
      let seen = notes_of (seen_parts (is_result f) (map part xs)) in
      let none : faults f (values (map part xs)) ≡ [] =
      ap (faults f) (so_far.going.all ∙ ap (λ ys. values_to part xs i ++ values (map part ys)) (at_item xs i x below at) ∙ ap (λ w. values_to part xs i ++ w ∷ values (map part (drop (i + 1) xs))) (sym v-is))
      ∙ no_faults f (values_to part xs i) v (values (map part (drop (i + 1) xs))) so_far.going.passed fixed in
      (stops_at (is_result f) part xs i x start now next below at so_far.going (ap (is_result f) (sym v-is) ∙ fixed) next-is).notes
      ∙ ap (noting start) (sym (append-nil seen) ∙ ap (λ ns. seen ++ ns) (sym none))

  all_left : length xs ≤ i → AreEvaluated f part type xs i done start now → Some (map type_of_arg done) ≡ all_typed (map type xs)
  all_left past so_far =
      ap Some (sym (append-nil (map type_of_arg done))) ∙ ap (λ ys. option_map (λ ts. map type_of_arg done ++ ts) (all_typed (map type ys))) (sym (drop_of_length-le xs past)) ∙ so_far.typed

  pub all-types : length xs ≤ i → AreEvaluated f part type xs i done start now → result_type_of f (map type_of_arg done) ≡ option_and_then (result_type_of f) (all_typed (map type xs))
  all-types past so_far = ap (option_and_then (result_type_of f)) (all_left past so_far)

  pub all-value : length xs ≤ i → AreEvaluated f part type xs i done start now → evaluated_of (applied f done) ≡ result_of f (values (map part xs))
  all-value past so_far =
      sym (ap (result_of f) (so_far.going.all ∙ ap (λ ys. values_to part xs i ++ values (map part ys)) (drop_of_length-le xs past) ∙ append-nil (values_to part xs i))
      ∙ result_unsettled f (values_to part xs i) done so_far.going.passed so_far.known)

  pub all-notes : length xs ≤ i → AreEvaluated f part type xs i done start now → (next : Notes) → next ≡ noting now (fault_in f (applied f done)) → next ≡ noting start (application f (map part xs)).notes
  all-notes past so_far next next-is =
      let seen = notes_of (seen_parts (is_result f) (map part xs)) in
      let now-is : now ≡ noting start seen = ap (λ ys. noting now (notes_of (seen_parts (is_result f) (map part ys)))) (sym (drop_of_length-le xs past)) ∙ so_far.going.notes in
      let fault : faults f (values (map part xs)) ≡ fault_in f (applied f done) =
      ap (faults f) (so_far.going.all ∙ ap (λ ys. values_to part xs i ++ values (map part ys)) (drop_of_length-le xs past) ∙ append-nil (values_to part xs i))
      ∙ its_fault f (values_to part xs i) done so_far.going.passed so_far.known in
      next-is ∙ ap (λ n. noting n (fault_in f (applied f done))) now-is ∙ noting_both start seen (fault_in f (applied f done)) ∙ ap (λ ns. noting start (seen ++ ns)) (sym fault)

pub settled-type : (f : Function) (v : Evaluated) (types : Option (List ArgType)) → is_result f v ≡ true → IsSome (option_and_then (result_type_of f) types) → HasType (option_and_then (result_type_of f) types) v
settled-type f v types is some = settled_typed f v types is some
