-- Names that are gathered in a set.
use Rattle.std.proofs.Common.{◌≡◌, ℕ, ◌+◌, ◌<◌, ◌≤◌, List, [], ◌∷◌, ◌++◌, length, map, take, get_or, Bool, true, false, ◌||◌, cond, Bor, refl, sym, ap, ◌∙◌, subst, bytes_eq}
use Rattle.std.proofs.Math.Bool.{or-false, or-true, or_assoc}
use Rattle.std.proofs.lemmas.List.{append-nil, take_all, take_more}
use Rattle.std.proofs.lemmas.List.Concat.{flat_map-append}
use Rattle.std.proofs.lemmas.List.Folds.{list_any-append}
use Rattle.std.proofs.lemmas.Map.Text.{is_eq-slice_cmp}
use Rattle.std.specs.BTreeSet.{BTreeSet, UpdatesBy}
use Rattle.std.specs.Cmp.Lexicographic.{slice_cmp}
use Rattle.std.specs.Ordering.{is_eq, nat_cmp}
use Rattle.std.specs.List.{flat_map}
use Rattle.ent_functions.specs.declared.function.Function.{Function}
use Rattle.lint_meaning.specs.proofs_only.Adding.{Adds}
use Rattle.ent_policy.proofs.Ids.{same_id, text_cmp}
use Rattle.ent_policy.specs.Limits.{is_among}
use Rattle.ent_policy.specs.Variables.{variables, variables_step}
use Rattle.ent_policy.specs.declared.expression.Expression.{Expression}
use Rattle.ent_policy.specs.declared.expression.Expression.TheFolds.{fold-roll-Expression}
use Rattle.ent_policy.specs.declared.expression.Expression.TheOpen.{Expression-F}
use Rattle.ent_policy.specs.declared.expression.Expression.TheVariants as expression
use Rattle.ent_policy.specs.proofs_only.Order.{has_id}

-- no name more
pub none_added : (s : BTreeSet (Bor (List ℕ))) → Adds s [] s
none_added s = record { known = λ id. sym (or-false (has_id s id)) }

-- one name more
one_added : (s n : BTreeSet (Bor (List ℕ))) (key : Bor (List ℕ)) → UpdatesBy text_cmp (text_cmp key) s n true → Adds s (key.now ∷ []) n
one_added s n key updates = record {
  known = λ id.
      let here : has_id n id ≡ cond (is_eq (slice_cmp nat_cmp key.now id)) true (has_id s id) = updates.0 (record { ref_ptr = (0, 0); now = id }) in
      here ∙ rw (is_eq-slice_cmp key.now id, same_id.symm key.now id) (turned (has_id s id) (bytes_eq id key.now));
}
  where
    turned : (a b : Bool) → cond b true a ≡ (a || (b || false))
    turned a true = sym (or-true a)
    turned a false = sym (or-false a)

-- the names of two parts
pub both_added : (s n m : BTreeSet (Bor (List ℕ))) (first second : List (List ℕ)) → Adds s first n → Adds n second m → Adds s (first ++ second) m
both_added s n m first second one other = record {
  known = λ id.
      other.known id ∙ ap (λ b. b || is_among second id) (one.known id)
      ∙ or_assoc (has_id s id) (is_among first id) (is_among second id)
      ∙ ap (λ b. has_id s id || b) (sym (list_any-append (bytes_eq id) first second));
}

module _ {X : Type 0} (names : X → List (List ℕ)) (xs : List X) (i : ℕ) (s : BTreeSet (Bor (List ℕ))) where
  -- those of some parts, and of the next one
  pub next_added : (x : X) (n m : BTreeSet (Bor (List ℕ))) → i < length xs → x ≡ get_or xs i x → Adds n (names x) m
      → Adds s (flat_map names (take i xs)) n → Adds s (flat_map names (take (i + 1) xs)) m
  next_added x n m lt is one so_far =
      let next : flat_map names (take (i + 1) xs) ≡ flat_map names (take i xs) ++ names x =
      ap (flat_map names) (take_more xs i x lt) ∙ rw (← is) (flat_map-append names (take i xs) (x ∷ [])) ∙ ap (λ more. flat_map names (take i xs) ++ more) (append-nil (names x)) in
      rw next (both_added s n m (flat_map names (take i xs)) (names x) so_far one)

  -- those of all parts
  pub all_added : (n : BTreeSet (Bor (List ℕ))) → length xs ≤ i → Adds s (flat_map names (take i xs)) n → Adds s (flat_map names xs) n
  all_added n le so_far = rw (take_all i xs le) at so_far

-- a variable names itself
variable_names : (id : List ℕ) → variables (expression.Variable id) ≡ id ∷ []
unfolding Rattle.ent_policy.specs.declared.expression.Expression.TheViews.roll-Expression denote.Hole.Carrier.roll
variable_names id = fold-roll-Expression (List (List ℕ)) variables_step (Expression-F.Variable id)

pub variable_added : (e : Expression) (id : List ℕ) (s n : BTreeSet (Bor (List ℕ))) (key : Bor (List ℕ))
    → e ≡ expression.Variable id → key.now ≡ id → UpdatesBy text_cmp (text_cmp key) s n true → Adds s (variables e) n
variable_added e id s n key is same updates =
    let names : variables e ≡ key.now ∷ [] = ap variables is ∙ variable_names id ∙ ap (λ x. x ∷ []) (sym same) in
    subst (λ ids. Adds s ids n) (sym names) (one_added s n key updates)

-- an application names what its arguments name
of_each : (es : List Expression) → flat_map (λ ids. ids) (map variables es) ≡ flat_map variables es
of_each [] = refl
of_each (e ∷ es) = ap (λ rest. variables e ++ rest) (of_each es)

pub application_names : (f : Function) (es : List Expression) → variables (expression.Apply f es) ≡ flat_map variables es
unfolding Rattle.ent_policy.specs.declared.expression.Expression.TheViews.roll-Expression denote.Hole.Carrier.roll
application_names f es = fold-roll-Expression (List (List ℕ)) variables_step (Expression-F.Apply f es) ∙ of_each es
