-- The variables to which definitions refer, as sets have them.
use Rattle.std.proofs.Common.{◌≡◌, ℕ, suc, ◌+◌, ◌<◌, List, [], ◌∷◌, ◌++◌, length, get_or, map, take, Bool, true, false, ◌||◌, cond, Option, Some, None, Bor, bytes_eq, refl, sym, ◌∙◌}
use Rattle.std.specs.BTreeSet.{BTreeSet, UpdatesBy}
use Rattle.std.specs.List.{list_any}
use Rattle.std.proofs.Math.Bool.{or-false, or-true}
use Rattle.std.specs.Global.{Vec}
use Rattle.std.proofs.lemmas.List.{map_more, map_push}
use Rattle.std.proofs.lemmas.List.Folds.{list_any-append}
use Rattle.std.proofs.lemmas.Map.Text.{is_eq-slice_cmp}
use Rattle.ent_policy.specs.declared.raw.RawExpression.{RawExpression}
use Rattle.ent_policy.specs.declared.raw.RawExpression.TheFolds.{fold-roll-RawExpression}
use Rattle.ent_policy.specs.declared.raw.RawExpression.TheOpen.{RawExpression-F}
use Rattle.ent_policy.specs.declared.raw.RawExpression.TheVariants as raw
use Rattle.ent_policy.specs.declared.raw.RawVariableDefinition.{RawVariableDefinition}
use Rattle.ent_policy.specs.proofs_only.Order.{has_id}
use Rattle.ent_policy.proofs.Ids.{text_cmp}
use Rattle.lint_places.specs.Led.{numbers_of, referring, refers, refers_step, refers_to}
use Rattle.lint_places.specs.proofs_only.Rows.{by_noted}

-- an expression that is a variable refers to it alone
pub refers_variable : (q id : List ℕ) → refers q (raw.Variable id) ≡ bytes_eq id q
unfolding Rattle.ent_policy.specs.declared.raw.RawExpression.TheViews.roll-RawExpression denote.Hole.Carrier.roll
refers_variable q id = fold-roll-RawExpression Bool (refers_step q) (RawExpression-F.Variable id)

-- one more id
pub noted_one : (s n : BTreeSet (Bor (List ℕ))) (key : Bor (List ℕ)) (id : List ℕ) → key.now ≡ id → UpdatesBy text_cmp (text_cmp key) s n true → (q : List ℕ) → has_id n q ≡ (has_id s q || bytes_eq id q)
noted_one s n key id same updates q =
    updates.0 (record { ref_ptr = (0, 0); now = q }) ∙ rw (is_eq-slice_cmp key.now q, same) (turned (has_id s q) (bytes_eq id q))
  where
    turned : (a b : Bool) → cond b true a ≡ (a || b)
    turned a true = sym (or-true a)
    turned a false = sym (or-false a)

-- one more expression
pub noted_more : (es : List RawExpression) (i : ℕ) (e : RawExpression) (a b c : List ℕ → Bool) → i < length es → e ≡ get_or es i e
    → ((q : List ℕ) → b q ≡ (a q || list_any (λ x. x) (map (refers q) (take i es)))) → ((q : List ℕ) → c q ≡ (b q || refers q e))
    → (q : List ℕ) → c q ≡ (a q || list_any (λ x. x) (map (refers q) (take (i + 1) es)))
noted_more es i e a b c lt here before next q =
    let more : map (refers q) (take (i + 1) es) ≡ map (refers q) (take i es) ++ refers q e ∷ [] = rw (← here) at (map_more (refers q) es i e lt) in
    next q ∙ rw (before q, more, list_any-append (λ x. x) (map (refers q) (take i es)) (refers q e ∷ [])) (grouped (a q) (list_any (λ x. x) (map (refers q) (take i es))) (refers q e))
  where
    grouped : (x y z : Bool) → ((x || y) || z) ≡ (x || (y || (z || false)))
    grouped true y z = refl
    grouped false true z = refl
    grouped false false z = sym (or-false z)

-- numbers by one test and by another
numbers_by : {A B : Type 0} (p : A → Bool) (r : B → Bool) (n : ℕ) (xs : List A) (ys : List B) → map p xs ≡ map r ys → numbers_of p n xs ≡ numbers_of r n ys
numbers_by p r n [] [] e = refl
numbers_by p r n [] (y ∷ ys) e = absurd cc
numbers_by p r n (x ∷ xs) [] e = absurd cc
numbers_by p r n (x ∷ xs) (y ∷ ys) e =
    let head : p x ≡ r y = cc in
    let tail : map p xs ≡ map r ys = cc in
    rw (head, numbers_by p r (suc n) xs ys tail) refl

-- the numbers of those that refer to a variable are found by the sets
pub found_by_noted : (noted : List (BTreeSet (Bor (List ℕ)))) (vs : List (Option RawVariableDefinition)) → ((q : List ℕ) → map (λ ids. has_id ids q) noted ≡ map (refers_to q) vs)
    → (v : Option RawVariableDefinition) → by_noted noted v ≡ referring vs v
found_by_noted noted vs h None = refl
found_by_noted noted vs h (Some v) = numbers_by (λ ids. has_id ids v.id) (refers_to v.id) 0 noted vs (h v.id)

-- one more row
pub rows_more : (f : Option RawVariableDefinition → List ℕ) (rows : List (Vec ℕ)) (row : Vec ℕ) (vs : List (Option RawVariableDefinition)) (i : ℕ) (v : Option RawVariableDefinition)
    → i < length vs → v ≡ get_or vs i v → map (λ r. r.items) rows ≡ map f (take i vs) → row.items ≡ f v → map (λ r. r.items) (rows ++ row ∷ []) ≡ map f (take (i + 1) vs)
rows_more f rows row vs i v lt here before is =
    let more : map f (take (i + 1) vs) ≡ map f (take i vs) ++ f v ∷ [] = rw (← here) at (map_more f vs i v lt) in
    rw (map_push (λ (r : Vec ℕ). r.items) rows row, before, is, more) refl
