-- The ids of definitions, as a set has them.
use Rattle.std.proofs.Common.{◌≡◌, ℕ, ◌+◌, ◌<◌, List, [], ◌∷◌, ◌++◌, length, get_or, map, take, not, Bool, true, Bor, Result, Ok, inr, refl, sym, ap, subst, ◌∙◌}
use Rattle.std.proofs.lemmas.List.{map_more}
use Rattle.std.specs.BTreeSet.{BTreeSet, UpdatesBy}
use Rattle.std.specs.List.{list_all}
use Rattle.ent_policy.specs.Limits.{is_among}
use Rattle.ent_policy.specs.declared.raw.RawVariableDefinition.{RawVariableDefinition}
use Rattle.ent_policy.specs.proofs_only.Order.{has_id}
use Rattle.ent_policy.proofs.Ids.{known_push, text_cmp}
use Rattle.ent_policy.proofs.References.{all_agree}
use Rattle.serde_json.specs.Data.{Data}
use Rattle.ent_policy.specs.declared.fault.DocFault.{DocFault}
use Rattle.ent_policy.specs.declared.fault.DocFault.TheVariants as fault
use Rattle.ent_polform.specs.Form.{definition_of}
use Rattle.lint_places.specs.Told.{each}
use Rattle.lint_places.specs.proofs_only.Clear.{AreFree}
use Rattle.lint_places.specs.proofs_only.Suspects.{HasIds, MayBeUsing, names_of, uses}

-- one more of them
pub ids_more : (vs : List RawVariableDefinition) (i : ℕ) (v : RawVariableDefinition) (s n : BTreeSet (Bor (List ℕ))) (key : Bor (List ℕ)) → i < length vs → v ≡ get_or vs i v → key.now ≡ v.id
    → HasIds (take i vs) s → UpdatesBy text_cmp (text_cmp key) s n true → HasIds (take (i + 1) vs) n
ids_more vs i v s n key lt here same so_far updates q =
    let next : names_of (take (i + 1) vs) ≡ names_of (take i vs) ++ key.now ∷ [] = rw (← here, ← same) at (map_more (λ (v : RawVariableDefinition). v.id) vs i v lt) in
    known_push (names_of (take i vs)) s n key so_far updates q ∙ ap (λ ids. is_among ids q) (sym next)

-- which definitions use another variable
pub using_by_set : (us : List RawVariableDefinition) (s : BTreeSet (Bor (List ℕ))) → HasIds us s → (vs : List RawVariableDefinition)
    → map (λ v. not (list_all (has_id s) (uses v.expression))) vs ≡ map (λ v. not (list_all (is_among (names_of us)) (uses v.expression))) vs
using_by_set us s h [] = refl
using_by_set us s h (v ∷ vs) = rw (all_agree (has_id s) (is_among (names_of us)) (uses v.expression) (λ q m. h q), using_by_set us s h vs) refl

ok_same : {A : Type 0} (x y : A) → ◌≡◌ {A = Result A DocFault} (Ok x) (Ok y) → x ≡ y
ok_same x y e = cc

-- so the flags are of those that use a variable which isn't defined
pub using_is : (ds : List Data) (us again others : List RawVariableDefinition) (flags : List Bool) (s : BTreeSet (Bor (List ℕ))) (first second : List RawVariableDefinition)
    → each definition_of ds ≡ Ok us → each definition_of ds ≡ Ok again → AreFree fault.Variable (again ++ others) → first ≡ us → HasIds first s → second ≡ us
    → flags ≡ map (λ v. not (list_all (has_id s) (uses v.expression))) second → MayBeUsing ds flags
using_is ds us again others flags s first second read reread free a ids b is = inr (record {
  variables = us;
  are_read = read;
  end = (others, subst (λ (vs : List RawVariableDefinition). AreFree fault.Variable (vs ++ others)) (ok_same again us (sym reread ∙ read)) free);
  are = is ∙ ap (map (λ v. not (list_all (has_id s) (uses v.expression)))) b ∙ using_by_set us s (subst (λ (vs : List RawVariableDefinition). HasIds vs s) a ids) us;
})
