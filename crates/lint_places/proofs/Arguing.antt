-- Arguments that are judged together: how they are read, and that the same is told of each by itself.
use Rattle.std.proofs.Common.{◌≡◌, ℕ, ◌+◌, ◌<◌, ◌≤◌, min, List, [], ◌∷◌, ◌++◌, append-nil, append_assoc, length, get_or, drop, map, add-one, drop-cons, Bool, true, false, Option, Some, None, is_some, nat_lt, Result, Ok, Err, bytes_eq, codes, refl, sym, ap, ◌∙◌, arith}
use Rattle.std.specs.Prelude.{if◌then◌else◌, option_map}
use Rattle.std.proofs.lemmas.Bool.{false≢true}
use Rattle.std.proofs.lemmas.List.{at_drop_all, length-map}
use Rattle.serde_json.specs.Data.{Data}
use Rattle.ent_json.specs.Objects.{one_member}
use Rattle.ent_policy.specs.First.{earlier, first_of, if_so}
use Rattle.ent_policy.specs.Limits.{length_fault}
use Rattle.ent_policy.specs.declared.fault.DocFault.{DocFault}
use Rattle.ent_policy.specs.declared.fault.DocFault.TheVariants as fault
use Rattle.ent_policy.specs.declared.raw.RawAssignment.{RawAssignment}
use Rattle.ent_policy.specs.declared.raw.RawExpression.{RawExpression}
use Rattle.ent_policy.specs.declared.raw.RawVariableDefinition.{RawVariableDefinition}
use Rattle.ent_polform.specs.Expressions.{expression_of}
use Rattle.ent_polform.specs.Objects.{◌>>=◌}
use Rattle.lint_places.specs.Told.{Scope, argument_by, argument_told, arguments_told, first_fault, function_told, of_assignments, of_expression, variables_in, whole_told}
use Rattle.lint_places.specs.proofs_only.Clear.{is_later}
use Rattle.lint_places.specs.proofs_only.Together.{argument_as, arguments_as, assigned, assigned_told, before, expression_as, function_as}
use Rattle.lint_places.proofs.Ranks.{rank, rank_earlier, rank_most, rank_of_later}
use Rattle.lint_places.proofs.Together.{told_together}

-- ---- as they are read one after another

module _ {J : Type 0} (content : J → Data) (values : List J) where
  -- those so far before those from the i-th on
  abbrev pub judged_from : List RawAssignment → ℕ → Option (List RawAssignment)
  judged_from all i = option_map (λ ws. all ++ ws) (arguments_as (map content (drop i values)))

  pub judged_first : judged_from [] 0 ≡ arguments_as (map content values)
  judged_first = by (arguments_as (map content values))
    where
      by : (o : Option (List RawAssignment)) → option_map (λ ws. [] ++ ws) o ≡ o
      by None = refl
      by (Some ws) = refl

  next : (all : List RawAssignment) (i : ℕ) (v : J) (o : Option (Option RawAssignment)) → i < length values → v ≡ get_or values i v
      → o ≡ argument_as (content v) (one_member (content v)) → judged_from all i ≡ option_map (λ ws. all ++ ws) (before o (arguments_as (map content (drop (i + 1) values))))
  next all i v o lt here is = rw (add-one, drop-cons values i v, ← here, is) refl

  pub none_next : (all : List RawAssignment) (i : ℕ) (v : J) (whole : Option (List RawAssignment)) → i < length values → v ≡ get_or values i v
      → None ≡ argument_as (content v) (one_member (content v)) → judged_from all i ≡ whole → None ≡ whole
  none_next all i v whole lt here is so_far = sym (next all i v None lt here is) ∙ so_far

  pub function_next : (all : List RawAssignment) (i : ℕ) (v : J) (whole : Option (List RawAssignment)) → i < length values → v ≡ get_or values i v
      → Some None ≡ argument_as (content v) (one_member (content v)) → judged_from all i ≡ whole → judged_from all (i + 1) ≡ whole
  function_next all i v whole lt here is so_far = sym (next all i v (Some None) lt here is) ∙ so_far

  pub expression_next : (all more : List RawAssignment) (i : ℕ) (v : J) (w : RawAssignment) (whole : Option (List RawAssignment)) → i < length values → v ≡ get_or values i v
      → Some (Some w) ≡ argument_as (content v) (one_member (content v)) → more ≡ all ++ w ∷ [] → judged_from all i ≡ whole → judged_from more (i + 1) ≡ whole
  expression_next all more i v w whole lt here is put so_far =
      rw put (by (arguments_as (map content (drop (i + 1) values)))) ∙ sym (next all i v (Some (Some w)) lt here is) ∙ so_far
    where
      by : (o : Option (List RawAssignment)) → option_map (λ ws. (all ++ w ∷ []) ++ ws) o ≡ option_map (λ ws. all ++ ws) (option_map (λ ws. w ∷ ws) o)
      by None = refl
      by (Some ws) = ap (λ l. Some l) (append_assoc all (w ∷ []) ws)

  pub none_left : (all : List RawAssignment) (i : ℕ) (whole : Option (List RawAssignment)) → length values ≤ i → judged_from all i ≡ whole → Some all ≡ whole
  none_left all i whole le so_far =
      sym (at_drop_all (λ vs. option_map (λ ws. all ++ ws) (arguments_as (map content vs))) values i le ∙ ap (λ l. Some l) (append-nil all)) ∙ so_far

-- ---- what is told of each

-- what is told of an expression, where the variables are read so
abbrev told_with : Result (List RawVariableDefinition) DocFault → RawExpression → Option DocFault
told_with r e = first_fault (r >>= λ vs. Ok (of_expression e vs))

-- the expressions as which arguments are judged, by which the same is told
record AreExpressions (s : Scope) (ds : List Data) (ws : List RawAssignment) : Type 0 where
  expressions : List RawExpression
  are : ws ≡ map assigned expressions
  told : first_of (map (argument_told s) ds) ≡ first_of (map (told_with (variables_in s)) expressions)

module _ (s : Scope) where
  function_more : (d m : Data) (ds : List Data) (ws : List RawAssignment) (f : Option DocFault) → function_told m ≡ f → argument_told s d ≡ function_told m
      → before (function_as f) (arguments_as ds) ≡ Some ws → ((vs : List RawAssignment) → arguments_as ds ≡ Some vs → AreExpressions s ds vs) → AreExpressions s (d ∷ ds) ws
  function_more d m ds ws None known is all rest =
      let less = rest ws all in
      record { expressions = less.expressions; are = less.are; told = ap (λ o. earlier o (first_of (map (argument_told s) ds))) (is ∙ known) ∙ less.told }
  function_more d m ds ws (Some f) known is all rest = absurd cc

  expression_more : (d : Data) (ds : List Data) (ws : List RawAssignment) (r : Result RawExpression DocFault) → expression_of d ≡ r → argument_told s d ≡ whole_told s d
      → before (expression_as r) (arguments_as ds) ≡ Some ws → ((vs : List RawAssignment) → arguments_as ds ≡ Some vs → AreExpressions s ds vs) → AreExpressions s (d ∷ ds) ws
  unfolding whole_told
  expression_more d ds ws (Err f) known is all rest = absurd cc
  expression_more d ds ws (Ok e) known is all rest = by (arguments_as ds) refl all
    where
      here : argument_told s d ≡ told_with (variables_in s) e
      here = is ∙ ap (λ q. first_fault (q >>= λ x. variables_in s >>= λ vs. Ok (of_expression x vs))) known

      by : (o : Option (List RawAssignment)) → arguments_as ds ≡ o → option_map (λ l. assigned e ∷ l) o ≡ Some ws → AreExpressions s (d ∷ ds) ws
      by None read put = absurd cc
      by (Some vs) read put =
          let less = rest vs read in
          let whole : assigned e ∷ vs ≡ ws = cc in
          record {
            expressions = e ∷ less.expressions;
            are = sym whole ∙ ap (λ l. assigned e ∷ l) less.are;
            told = ap (λ o. earlier o (first_of (map (argument_told s) ds))) here ∙ ap (earlier (told_with (variables_in s) e)) less.told;
          }

  one_more : (d : Data) (ds : List Data) (ws : List RawAssignment) (o : Option (List ℕ × Data)) → one_member d ≡ o
      → before (argument_as d o) (arguments_as ds) ≡ Some ws → ((vs : List RawAssignment) → arguments_as ds ≡ Some vs → AreExpressions s ds vs) → AreExpressions s (d ∷ ds) ws
  unfolding argument_told
  one_more d ds ws None is all rest = absurd cc
  one_more d ds ws (Some m) is all rest = by (bytes_eq m.0 (codes "Function")) refl all
    where
      by : (b : Bool) → bytes_eq m.0 (codes "Function") ≡ b → before (if b then function_as (function_told m.1) else expression_as (expression_of d)) (arguments_as ds) ≡ Some ws
          → AreExpressions s (d ∷ ds) ws
      by true named all =
          function_more d m.1 ds ws (function_told m.1) refl (ap (argument_by s d) is ∙ ap (λ b. if b then function_told m.1 else whole_told s d) named) all rest
      by false named all =
          expression_more d ds ws (expression_of d) refl (ap (argument_by s d) is ∙ ap (λ b. if b then function_told m.1 else whole_told s d) named) all rest

  are_expressions : (ds : List Data) (ws : List RawAssignment) → arguments_as ds ≡ Some ws → AreExpressions s ds ws
  are_expressions [] ws is = let none : [] ≡ ws = cc in record { expressions = []; are = sym none; told = refl }
  are_expressions (d ∷ ds) ws is = one_more d ds ws (one_member d) refl is (are_expressions ds)

-- what is told behind depths is what has its place
same_late : (a b : Option DocFault) → rank a ≡ rank b → 8 ≤ rank b → a ≡ b
same_late a b same late = by a b same late
  where
    only_type : (f : DocFault) → 8 ≤ rank (Some f) → Some f ≡ Some fault.«Type»
    only_type fault.Form h = absurd (omega (arith, h))
    only_type fault.Identifier h = absurd (omega (arith, h))
    only_type fault.Version h = absurd (omega (arith, h))
    only_type fault.Algorithm h = absurd (omega (arith, h))
    only_type fault.Function h = absurd (omega (arith, h))
    only_type fault.Variable h = absurd (omega (arith, h))
    only_type fault.Size h = absurd (omega (arith, h))
    only_type fault.Depth h = absurd (omega (arith, h))
    only_type fault.«Type» h = refl

    below : (f : DocFault) → rank (Some f) ≡ 9 → ⊥
    below f h = absurd (omega (arith, ap rank (only_type f (omega (arith, h))), h))

    by : (a b : Option DocFault) → rank a ≡ rank b → 8 ≤ rank b → a ≡ b
    by None None same late = refl
    by None (Some g) same late = absurd (below g (sym same))
    by (Some f) None same late = absurd (below f same)
    by (Some f) (Some g) same late = only_type f (omega (arith, same, late)) ∙ sym (only_type g late)

-- where the variables can't be read, that is told of each
of_unread : (f : DocFault) (e : RawExpression) (es : List RawExpression) → rank (first_of (map (told_with (Err f)) (e ∷ es))) ≡ rank (Some f)
of_unread f e [] = rank_earlier (Some f) None ∙ least (rank (Some f)) (rank_below f)
  where
    least : (n : ℕ) → n ≤ 9 → min n 9 ≡ n
    least n le = omega (arith, le)

    rank_below : (f : DocFault) → rank (Some f) ≤ 9
    rank_below f = rank_most (Some f)
of_unread f e (x ∷ xs) = rank_earlier (Some f) (first_of (map (told_with (Err f)) (x ∷ xs))) ∙ ap (min (rank (Some f))) (of_unread f x xs) ∙ twice (rank (Some f))
  where
    twice : (n : ℕ) → min n n ≡ n
    twice n = omega arith

told_by_rank : (r : Result (List RawVariableDefinition) DocFault) (e : RawExpression) (es : List RawExpression)
    → 8 ≤ rank (first_fault (r >>= λ vs. Ok (of_assignments (map assigned (e ∷ es)) vs)))
    → rank (first_of (map (told_with r) (e ∷ es))) ≡ rank (first_fault (r >>= λ vs. Ok (of_assignments (map assigned (e ∷ es)) vs)))
told_by_rank (Err f) e es late = of_unread f e es
told_by_rank (Ok vs) e es late = told_together vs e es late

-- a list that isn't too long
pub not_long : {J : Type 0} (content : J → Data) (values : List J) (o : Option DocFault) → o ≡ length_fault values → is_some o ≡ false → length_fault (map content values) ≡ None
not_long content values None is short = ap (λ n. if_so (nat_lt 256 n) fault.Size) (length-map values content) ∙ sym is
not_long content values (Some f) is short = absurd (false≢true (sym short))

-- what is told of them together is told of them each by itself
pub seen : (s : Scope) (ds : List Data) (ws : List RawAssignment) (told : Option DocFault) → length_fault ds ≡ None → Some ws ≡ arguments_as ds → (ws ≡ [] → ⊥)
    → told ≡ assigned_told s ws → is_later fault.Depth told ≡ true → told ≡ arguments_told s ds
unfolding assigned_told arguments_told
seen s ds ws told short read some is late = by (are_expressions s ds ws (sym read))
  where
    found : 8 ≤ rank told
    found = let place : 7 < rank told = rank_of_later fault.Depth told late in omega (arith, place)

    by_list : (es : List RawExpression) → ws ≡ map assigned es → first_of (map (argument_told s) ds) ≡ first_of (map (told_with (variables_in s)) es) → told ≡ first_of (map (argument_told s) ds)
    by_list [] are same = absurd (some are)
    by_list (e ∷ es) are same =
        let all : told ≡ first_fault (variables_in s >>= λ vs. Ok (of_assignments (map assigned (e ∷ es)) vs)) =
        is ∙ ap (λ l. first_fault (variables_in s >>= λ vs. Ok (of_assignments l vs))) are in
        let ranked = told_by_rank (variables_in s) e es (omega (arith, found, ap rank all)) in
        sym (same_late (first_of (map (argument_told s) ds)) told (ap rank same ∙ ranked ∙ sym (ap rank all)) found)

    by : AreExpressions s ds ws → told ≡ earlier (length_fault ds) (first_of (map (argument_told s) ds))
    by read_as = by_list read_as.expressions read_as.are read_as.told ∙ sym (ap (λ o. earlier o (first_of (map (argument_told s) ds))) short)
