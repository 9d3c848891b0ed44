-- Policy sets and documents that are written read back.
use Rattle.std.proofs.Common.{◌≡◌, ℕ, List, [], ◌∷◌, ◌++◌, map, true, Option, Some, None, Result, Ok, codes, refl, sym, ap, subst, ◌∙◌}
use Rattle.std.specs.List.{AllByRecursion, flat_map}
use Rattle.std.proofs.lemmas.List.Folds.{flat_map-map}
use Rattle.serde_json.specs.Data as json
use Rattle.serde_json.specs.Data.{Data}
use Rattle.serde_json.specs.View.{items_of}
use Rattle.ent_values.specs.ReadBack.{HasFewYears, IsReal}
use Rattle.ent_values.specs.declared.value.Value.{Value}
use Rattle.ent_combine.proofs.Naming.{policy_ids_read_back}
use Rattle.ent_combine.specs.Identifiers.{policy_algorithm_of, policy_id_of}
use Rattle.ent_combine.specs.declared.outcome.PolicyAlg.{PolicyAlg}
use Rattle.ent_policy.specs.First.{first_of}
use Rattle.ent_policy.specs.Children.{as_child}
use Rattle.ent_policy.specs.Limits.{child_limits, given_fault, length_fault, limit_fault, name_fault, policy_fault, set_limits, target_fault}
use Rattle.ent_policy.specs.Reading as reading
use Rattle.ent_policy.specs.Reading.{child_read, document_read, known, policy_read, reference_read, set_read, version_read}
use Rattle.ent_policy.specs.Versions.{is_version, version_of, version_text}
use Rattle.ent_policy.specs.declared.document.Policy.{Policy}
use Rattle.ent_policy.specs.declared.document.PolicySet.{PolicySet}
use Rattle.ent_policy.specs.declared.document.Child.{Child}
use Rattle.ent_policy.specs.declared.document.Child.TheFolds.{fold-roll-Child, fold_out-PolicySet}
use Rattle.ent_policy.specs.declared.document.Child.TheOpen.{Child-F}
use Rattle.ent_policy.specs.declared.document.Child.TheVariants as children
use Rattle.ent_policy.specs.declared.document.Tree.{Tree}
use Rattle.ent_policy.specs.declared.document.Tree.TheVariants as trees
use Rattle.ent_policy.specs.declared.fault.DocFault.{DocFault}
use Rattle.ent_policy.specs.declared.fault.DocFault.TheVariants as faults
use Rattle.ent_policy.specs.declared.key.Reference.{Reference}
use Rattle.ent_policy.specs.declared.raw.RawChild.{RawChild}
use Rattle.ent_policy.specs.declared.raw.RawChild.TheFolds.{fold-roll-RawChild, ind-RawPolicySet, map-RawChild, map-RawPolicySet}
use Rattle.ent_policy.specs.declared.raw.RawChild.TheOpen.{RawChild-F, RawPolicySet-F}
use Rattle.ent_policy.specs.declared.raw.RawChild.TheVariants as raw_children
use Rattle.ent_policy.specs.declared.raw.RawChild.TheViews.{roll-RawChild, roll-RawPolicySet}
use Rattle.ent_policy.specs.declared.raw.RawDocument.{RawDocument}
use Rattle.ent_policy.specs.declared.raw.RawDocument.TheVariants as raw
use Rattle.ent_policy.specs.declared.raw.RawPolicy.{RawPolicy}
use Rattle.ent_policy.specs.declared.raw.RawPolicySet.{RawPolicySet}
use Rattle.ent_policy.proofs.Numbers.{is_version_of}
use Rattle.ent_policy.proofs.WhatIsRead.{set_is_read}
use Rattle.ent_policy.proofs.Wholes.{ReadOf, neither}
use Rattle.ent_polform.specs.Form.{child_of, policy_of, raw_named, raw_of, set_by}
use Rattle.ent_polform.specs.Given.{given_of}
use Rattle.ent_polform.specs.Objects.{◌>>=◌, each_by}
use Rattle.ent_policy.specs.Values.{child_values, document_values, given_values, policy_values, target_values, values_in_level, values_in_set}
use Rattle.ent_polform.specs.Targets.{target_or_empty}
use Rattle.ent_json.specs.Members.{filled_list, only_member, optional}
use Rattle.ent_polform.specs.Written.{child_step, child_written, policy_written, reference_written, set_with, target_written, written}
use Rattle.ent_polform.specs.proofs_only.Written.{set_written}
use Rattle.ent_polform.proofs.Back.{Back, Returns, alike, both_few, both_of, each_back, made_back, none_there}
use Rattle.ent_polform.proofs.BackGiven.{advice_of, both_back, given_in, obligations_of}
use Rattle.ent_polform.proofs.BackPolicies.{policy_back, version_back}
use Rattle.ent_polform.proofs.BackReferences.{ReferenceReturns, kind_back, reference_back}
use Rattle.ent_polform.proofs.BackTargets.{target_back}
use Rattle.ent_polform.proofs.NestedLemmas.{child_of-step}
use Rattle.ent_polform.proofs.WrittenLemmas.{set_is_written}

abbrev pub TreeReturns : Tree → Type 0
TreeReturns = Returns (λ x. raw_of (written x)) document_read (λ x. limit_fault (as_child x)) document_values

abbrev ChildReturns : Child → Type 0
ChildReturns = Returns (λ x. child_of (child_written x)) child_read limit_fault child_values

abbrev PolicyReturns : Policy → Type 0
PolicyReturns = Returns (λ x. policy_of (policy_written x)) policy_read policy_fault policy_values

abbrev set_faults : PolicySet → List (Option DocFault)
set_faults s = name_fault s.id ∷ length_fault (map limit_fault s.children) ∷ target_fault s.target ∷ first_of (map limit_fault s.children) ∷ given_fault s.given ∷ []

abbrev set_fault : PolicySet → Option DocFault
set_fault s = first_of (set_faults s)

abbrev pub set_values : PolicySet → List Value
set_values s = target_values s.target ++ (flat_map child_values s.children ++ given_values s.given)

abbrev SetReturns : PolicySet → Type 0
SetReturns = Returns (λ x. set_by child_of (set_written x)) set_read set_fault set_values

-- ---- policy sets

set_form : (f : Data → Result RawChild DocFault) (id version algorithm : List ℕ) (target : Option Data) (children obligations advice : List Data) →
    set_by f (json.object (optional (codes "AdviceExpressions") (filled_list advice) (optional (codes "Children") (filled_list children) (optional (codes "ObligationExpressions") (filled_list obligations)
    (json.member (codes "PolicyCombiningAlgId") (json.string algorithm) (json.member (codes "PolicySetId") (json.string id) (optional (codes "Target") target
    (json.member (codes "Version") (json.string version) json.no_members))))))))
    ≡ (target_or_empty target >>= λ t. each_by f (items_of children) >>= λ cs. given_in obligations advice >>= λ g. Ok (record { id = id; version = version; algorithm = algorithm; target = t; children = cs; given = g }))
unfolding set_by given_of
set_form f id version algorithm None [] [] [] = refl
set_form f id version algorithm None [] [] (a ∷ rest) = refl
set_form f id version algorithm None [] (o ∷ os) [] = refl
set_form f id version algorithm None [] (o ∷ os) (a ∷ rest) = refl
set_form f id version algorithm None (c ∷ cs) [] [] = refl
set_form f id version algorithm None (c ∷ cs) [] (a ∷ rest) = refl
set_form f id version algorithm None (c ∷ cs) (o ∷ os) [] = refl
set_form f id version algorithm None (c ∷ cs) (o ∷ os) (a ∷ rest) = refl
set_form f id version algorithm (Some t) [] [] [] = refl
set_form f id version algorithm (Some t) [] [] (a ∷ rest) = refl
set_form f id version algorithm (Some t) [] (o ∷ os) [] = refl
set_form f id version algorithm (Some t) [] (o ∷ os) (a ∷ rest) = refl
set_form f id version algorithm (Some t) (c ∷ cs) [] [] = refl
set_form f id version algorithm (Some t) (c ∷ cs) [] (a ∷ rest) = refl
set_form f id version algorithm (Some t) (c ∷ cs) (o ∷ os) [] = refl
set_form f id version algorithm (Some t) (c ∷ cs) (o ∷ os) (a ∷ rest) = refl

algorithm_back : (a : PolicyAlg) → policy_algorithm_of (policy_id_of a) ≡ Some a
algorithm_back a = (policy_ids_read_back (policy_id_of a) a).1 refl

set_back : (s : PolicySet) → is_version s.version ≡ true → AllByRecursion ChildReturns s.children → SetReturns s
unfolding set_written
set_back s version children clean real =
    let none = none_there (set_faults s) clean in
    let first = target_values s.target in
    let second = flat_map child_values s.children in
    let both = both_of IsReal first _ real in
    let inside = both_of IsReal second (given_values s.given) both.1 in
    let t = target_back s.target none.1.1.0 both.0 in
    let cs = each_back child_of child_written child_read limit_fault child_values s.children children none.1.1.1.0 inside.0 in
    let g = both_back s.given inside.1 in (
      record { id = s.id; version = version_text s.version; algorithm = policy_id_of s.algorithm; target = t.0; children = cs.0; given = g.0 },
      (
        set_form child_of s.id (version_text s.version) (policy_id_of s.algorithm) (target_written s.target) (map child_written s.children) (obligations_of s.given) (advice_of s.given) ∙ rw (t.1.0, cs.1.0, g.1.0) refl,
        record {
          same = λ few.
              let parts = both_of HasFewYears first _ few in
              let others = both_of HasFewYears second (given_values s.given) parts.1 in
              let members = cs.1.1.same others.0 in
              rw (version_back s.version version, algorithm_back s.algorithm, t.1.1.same parts.0, ap (λ r. r.value) members, ap (λ r. r.fault) members, g.1.1.same others.1) refl;
          few = λ clear.
              let named = neither (reading.policy_algorithm_read (policy_id_of s.algorithm)).fault _ (neither (version_read (version_text s.version)).fault _ clear).1 in
              let parts = neither (reading.target_read t.0).fault _ named.1 in
              let others = neither (reading.each_read child_read cs.0).fault _ parts.1 in
              both_few first _ (t.1.1.few parts.0) (both_few second (given_values s.given) (cs.1.1.few others.0) (g.1.1.few (neither (reading.given_read g.0).fault None others.1).0));
        },
      ),
    )

-- ---- documents and children

limit_of_set : (s : PolicySet) → limit_fault (children.Set s) ≡ set_fault s
unfolding Rattle.ent_policy.specs.declared.document.Child.TheViews.roll-Child denote.Hole.Carrier.roll
limit_of_set s =
    fold-roll-Child (Option DocFault) (Option DocFault) child_limits set_limits (Child-F.Set s) ∙ fold_out-PolicySet (Option DocFault) (Option DocFault) child_limits set_limits s

pub values_of_set : (s : PolicySet) → child_values (children.Set s) ≡ set_values s
unfolding Rattle.ent_policy.specs.declared.document.Child.TheViews.roll-Child denote.Hole.Carrier.roll
values_of_set s =
    fold-roll-Child (List Value) (List Value) values_in_level values_in_set (Child-F.Set s) ∙ fold_out-PolicySet (List Value) (List Value) values_in_level values_in_set s
    ∙ ap (λ l. target_values s.target ++ (l ++ given_values s.given)) (flat_map-map (λ l. l) child_values s.children)

-- where its inside reads back, so does a document, and so it does as a child
policy_returns : (p : Policy) → PolicyReturns p → ChildReturns (children.Policy p) × TreeReturns (trees.Policy p)
unfolding Rattle.ent_policy.specs.declared.raw.RawChild.TheViews.roll-RawChild Rattle.ent_policy.specs.declared.document.Child.TheViews.roll-Child denote.Hole.Carrier.roll raw_named raw_of
policy_returns p returns =
    let spelled : child_written (children.Policy p) ≡ only_member (codes "Policy") (policy_written p) = fold-roll-Child Data Data child_step set_with (Child-F.Policy p) in
    let holds : child_values (children.Policy p) ≡ policy_values p = fold-roll-Child (List Value) (List Value) values_in_level values_in_set (Child-F.Policy p) in
    let inside : limit_fault (children.Policy p) ≡ None → AllByRecursion IsReal (child_values (children.Policy p)) → Back (policy_of (policy_written p)) policy_read (policy_values p) p =
    λ clean real.
    returns (sym (fold-roll-Child (Option DocFault) (Option DocFault) child_limits set_limits (Child-F.Policy p)) ∙ clean) (subst (AllByRecursion IsReal) holds real) in (
      λ clean real. let b = inside clean real in (
        raw_children.Policy b.0,
        (
          ap child_of spelled ∙ child_of-step (only_member (codes "Policy") (policy_written p)) ∙ rw b.1.0 refl,
          alike (fold-roll-RawChild (ReadOf Child) (ReadOf PolicySet) reading.child_step reading.set_step (RawChild-F.Policy b.0)) holds (made_back (λ x. children.Policy x) b.1.1),
        ),
      ),
      λ clean real. let b = inside clean real in (raw.Policy b.0, (ap raw_of spelled ∙ rw b.1.0 refl, alike refl holds (made_back (λ x. trees.Policy x) b.1.1))),
    )

set_returns : (s : PolicySet) → SetReturns s → ChildReturns (children.Set s) × TreeReturns (trees.Set s)
unfolding raw_named raw_of
set_returns s returns =
    let holds = values_of_set s in
    let inside : limit_fault (children.Set s) ≡ None → AllByRecursion IsReal (child_values (children.Set s)) → Back (set_by child_of (set_written s)) set_read (set_values s) s =
    λ clean real. returns (sym (limit_of_set s) ∙ clean) (subst (AllByRecursion IsReal) holds real) in (
      λ clean real. let b = inside clean real in (
        raw_children.Set b.0,
        (
          ap child_of (set_is_written s) ∙ child_of-step (only_member (codes "PolicySet") (set_written s)) ∙ rw b.1.0 refl,
          alike (set_is_read b.0) holds (made_back (λ x. children.Set x) b.1.1),
        ),
      ),
      λ clean real. let b = inside clean real in (raw.Set b.0, (ap raw_of (set_is_written s) ∙ rw b.1.0 refl, alike refl holds (made_back (λ x. trees.Set x) b.1.1))),
    )

reference_returns : (r : Reference) → ReferenceReturns r → ChildReturns (children.Reference r)
unfolding Rattle.ent_policy.specs.declared.raw.RawChild.TheViews.roll-RawChild Rattle.ent_policy.specs.declared.document.Child.TheViews.roll-Child denote.Hole.Carrier.roll reference_written
reference_returns r b clean real = (
  raw_children.Reference b.0,
  (
    ap child_of (fold-roll-Child Data Data child_step set_with (Child-F.Reference r)) ∙ child_of-step (reference_written r) ∙ rw (kind_back r.kind, b.1.0) refl,
    alike (fold-roll-RawChild (ReadOf Child) (ReadOf PolicySet) reading.child_step reading.set_step (RawChild-F.Reference b.0))
        (fold-roll-Child (List Value) (List Value) values_in_level values_in_set (Child-F.Reference r)) (made_back (λ x. children.Reference x) b.1.1),
  ),
)

-- ---- what is read of a document

-- what is read of a text is a version, also where the text is none
version_is_one : (text : List ℕ) → is_version (version_read text).value ≡ true
version_is_one text = at (version_of text) refl
  where
    at : (o : Option (List ℕ)) → version_of text ≡ o → is_version (known (0 ∷ []) faults.Version o).value ≡ true
    at None h = refl
    at (Some v) h = is_version_of text v h

abbrev RawChildReturns : RawChild → Type 0
RawChildReturns c = ChildReturns (child_read c).value

abbrev RawSetReturns : RawPolicySet → Type 0
RawSetReturns s = SetReturns (set_read s).value

children_back : (cs : List ((c : RawChild) × RawChildReturns c)) → AllByRecursion ChildReturns (map (λ r. r.value) (map child_read (map (λ c. c.0) cs)))
children_back [] = tt
children_back (c ∷ cs) = (c.1, children_back cs)

policy_again : (p : RawPolicy) → PolicyReturns (policy_read p).value
unfolding policy_read
policy_again p = policy_back (policy_read p).value (version_is_one p.version)

layer : (y : RawChild-F ((c : RawChild) × RawChildReturns c) ((s : RawPolicySet) × RawSetReturns s)) → RawChildReturns (roll-RawChild (map-RawChild ((c : RawChild) × RawChildReturns c) ((s : RawPolicySet) × RawSetReturns s) RawChild RawPolicySet (λ e. e.0) (λ e. e.0) y))
unfolding Rattle.ent_policy.specs.declared.raw.RawChild.TheViews.roll-RawChild denote.Hole.Carrier.roll
layer (RawChild-F.Policy p) =
    subst (λ (r : ReadOf Child). ChildReturns r.value) (sym (fold-roll-RawChild (ReadOf Child) (ReadOf PolicySet) reading.child_step reading.set_step (RawChild-F.Policy p)))
    (policy_returns (policy_read p).value (policy_again p)).0
layer (RawChild-F.Set s) = subst (λ (r : ReadOf Child). ChildReturns r.value) (sym (set_is_read s.0)) (set_returns (set_read s.0).value s.1).0
layer (RawChild-F.Reference r) =
    subst (λ (r : ReadOf Child). ChildReturns r.value) (sym (fold-roll-RawChild (ReadOf Child) (ReadOf PolicySet) reading.child_step reading.set_step (RawChild-F.Reference r)))
    (reference_returns (reference_read r).value (reference_back r))

set_layer : (y : RawPolicySet-F ((c : RawChild) × RawChildReturns c) ((s : RawPolicySet) × RawSetReturns s)) → RawSetReturns (roll-RawPolicySet (map-RawPolicySet ((c : RawChild) × RawChildReturns c) ((s : RawPolicySet) × RawSetReturns s) RawChild RawPolicySet (λ e. e.0) (λ e. e.0) y))
unfolding denote.Hole.Carrier.roll
set_layer y = set_back _ (version_is_one y.version) (children_back y.children)

set_again : (s : RawPolicySet) → RawSetReturns s
set_again = ind-RawPolicySet RawChildReturns RawSetReturns (λ x y is. subst (λ z. RawChildReturns (roll-RawChild z)) is (layer y)) (λ x y is. subst (λ z. RawSetReturns (roll-RawPolicySet z)) is (set_layer y))

-- what is written of what is read of a document reads back
pub document_back : (d : RawDocument) → TreeReturns (document_read d).value
document_back (raw.Policy p) = (policy_returns (policy_read p).value (policy_again p)).1
document_back (raw.Set s) = (set_returns (set_read s).value (set_again s)).1
