-- Entries list what comes of tests.
use Rattle.std.proofs.Common.{◌≡◌, ℕ, zero, suc, ◌+◌, ◌-◌, ◌<◌, ◌≤◌, Bool, true, false, ◌&&◌, List, [], ◌∷◌, ◌++◌, append-nil, get_or, length, map, take, refl, sym, ap, ap₂, ◌∙◌, subst, Option, Some, None, arith}
use Rattle.std.proofs.Math.Path.{fun_ext}
use Rattle.std.proofs.lemmas.List.{take_all, take_more}
use Rattle.std.proofs.lemmas.List.Concat.{flat_map-append}
use Rattle.std.specs.Prelude.{if◌then◌else◌}
use Rattle.std.specs.List.{AllByRecursion, flat_map, list_all}
use Rattle.ent_policy.specs.Typing as typing
use Rattle.ent_policy.specs.Typing.{condition_is_typed, definition_is_typed, given_is_typed, policy_is_typed, rule_is_typed, target_is_typed}
use Rattle.ent_policy.specs.declared.document.Child.{Child}
use Rattle.ent_policy.specs.declared.document.Child.TheFolds.{fold-roll-Child, fold_out-PolicySet}
use Rattle.ent_policy.specs.declared.document.Child.TheOpen.{Child-F}
use Rattle.ent_policy.specs.declared.document.Child.TheVariants as children
use Rattle.ent_policy.specs.declared.document.Effect.{Effect}
use Rattle.ent_policy.specs.declared.document.Policy.{Policy}
use Rattle.ent_policy.specs.declared.document.PolicySet.{PolicySet}
use Rattle.ent_policy.specs.declared.document.Rule.{Rule}
use Rattle.ent_policy.specs.declared.document.Target.{Target}
use Rattle.ent_policy.specs.declared.document.Tree.{Tree}
use Rattle.ent_policy.specs.declared.expression.VariableDefinition.{VariableDefinition}
use Rattle.ent_policy.specs.declared.given.GivenExpressions.{GivenExpressions}
use Rattle.ent_policy.specs.declared.key.DocKey.{DocKey}
use Rattle.ent_policy.specs.declared.key.Reference.{Reference}
use Rattle.ent_request.specs.Looks.{Looks}
use Rattle.ent_request.specs.Part.{without_look}
use Rattle.ent_request.specs.declared.answer.Answer.{Answer}
use Rattle.ent_request.specs.declared.request.Request.{Request}
use Rattle.ent_walk.proofs.Typing.{both_true}
use Rattle.ent_walk.specs.Given.{effect_of, finished, given_with}
use Rattle.memo_plan.specs.Heard.{Came, Tests, child_came, came_of_rule, element_came, found_came, heard, named, node_came, refer_came, root_came, set_came}
use Rattle.ent_walk.specs.Node.{policy_key, set_key}
use Rattle.ent_walk.specs.Target.{is_no_match, target_part}
use Rattle.ent_walk.specs.proofs_only.Typed.{fit_step, is_fit, set_is_fit}
use Rattle.memo_plan.specs.Plan.{Fits, IsPlan, IsTyped, ItemFits, Scene, entry_came, goes_on, nothing_given, skip_of}
use Rattle.memo_plan.specs.Run.{run}
use Rattle.memo_plan.specs.declared.task.Entry.{Entry}
use Rattle.memo_plan.specs.declared.task.Item.TheVariants as item
use Rattle.memo_plan.specs.declared.task.TestTask.TheVariants as task
use Rattle.memo_plan.specs.declared.task.Within.{Within}
use Rattle.memo_plan.specs.proofs_only.Entries.{AreEntries, Lists, child_tests, children_tests, element_entries, entry, found_tests, named_entries, no_given, policy_tests, reference_tests, rule_entries, set_tests, test_entry}
use Rattle.memo_plan.proofs.Runs.{segment_below, segment_by, segment_none, segment_one, segment_then}

-- ---- lists of entries

-- of each entry
all_joined : (P : Entry → Type 0) (es ds : List Entry) → AllByRecursion P es → AllByRecursion P ds → AllByRecursion P (es ++ ds)
all_joined P [] ds first second = second
all_joined P (e ∷ es) ds first second = (first.0, all_joined P es ds first.1 second)

all_first : (P : Entry → Type 0) (es ds : List Entry) → AllByRecursion P (es ++ ds) → AllByRecursion P es
all_first P [] ds all = tt
all_first P (e ∷ es) ds all = (all.0, all_first P es ds all.1)

all_later : (P : Entry → Type 0) (es ds : List Entry) → AllByRecursion P (es ++ ds) → AllByRecursion P ds
all_later P [] ds all = all
all_later P (e ∷ es) ds all = all_later P es ds all.1

abbrev FitsAt : Looks → Entry → Type 0
FitsAt looks e = ItemFits looks e.item

abbrev fits_in : List Entry → Scene → Type 0
fits_in es w = Fits es w.looks

lists_then : (es ds : List Entry) (f g : Scene → List Came) → Lists es f → Lists ds g → Lists (es ++ ds) (λ w. f w ++ g w)
lists_then es ds f g first second =
    segment_then entry_came goes_on skip_of (fits_in (es ++ ds)) es ds f g (λ w fits more. first w (all_first (FitsAt w.looks) es ds fits) more) (λ w fits more. second w (all_later (FitsAt w.looks) es ds fits) more)

lists_same : (es : List Entry) (f g : Scene → List Came) → ((w : Scene) → f w ≡ g w) → Lists es f → Lists es g
lists_same es f g same lists = segment_by entry_came goes_on skip_of (fits_in es) (fits_in es) es f g (λ w fit. fit) (λ w fit. same w) lists

pub are_none : (looks : Looks) → AreEntries looks (λ w. []) []
are_none looks = record { typed = tt; fits = tt; lists = segment_none entry_came goes_on skip_of (fits_in []) }

pub are_joined : (looks : Looks) (f g : Scene → List Came) (es ds : List Entry) → AreEntries looks f es → AreEntries looks g ds → AreEntries looks (λ w. f w ++ g w) (es ++ ds)
are_joined looks f g es ds first second = record {
  typed = all_joined IsTyped es ds first.typed second.typed;
  fits = all_joined (FitsAt looks) es ds first.fits second.fits;
  lists = lists_then es ds f g first.lists second.lists;
}

pub are_same : (looks : Looks) (f g : Scene → List Came) (es : List Entry) → ((w : Scene) → f w ≡ g w) → AreEntries looks f es → AreEntries looks g es
are_same looks f g es same are = record { typed = are.typed; fits = are.fits; lists = lists_same es f g same are.lists }

-- ---- rules

lists_rule : (within : Within) (rule : Rule) → Lists (rule_entries within rule) (λ w. came_of_rule w.looks w.request within.definitions within.path rule)
lists_rule within rule =
    let fits = fits_in (rule_entries within rule) in
    let decision = test_entry (task.Decision within rule) 0 in
    let test = test_entry (task.Condition within rule) 1 in
    segment_below entry_came goes_on skip_of fits (test_entry (task.RuleTarget rule) 2) (test ∷ (decision ∷ [])) (λ w. entry_came test w ∷ (if goes_on test (entry_came test w) then entry_came decision w ∷ [] else [])) refl
    (segment_below entry_came goes_on skip_of fits test (decision ∷ []) (λ w. entry_came decision w ∷ []) refl (segment_one entry_came goes_on skip_of fits decision refl))

are_rules : (looks : Looks) (within : Within) (rules : List Rule) → list_all (rule_is_typed within.definitions) rules ≡ true
    → AreEntries looks (λ w. flat_map (came_of_rule w.looks w.request within.definitions within.path) rules) (flat_map (rule_entries within) rules)
unfolding rule_is_typed
are_rules looks within [] typed = are_none looks
are_rules looks within (r ∷ rs) typed =
    let both = both_true (rule_is_typed within.definitions r) (list_all (rule_is_typed within.definitions) rs) typed in
    let parts = both_true (target_is_typed r.target && condition_is_typed within.definitions r.condition) (given_is_typed within.definitions r.given) both.0 in
    let first = both_true (target_is_typed r.target) (condition_is_typed within.definitions r.condition) parts.0 in
    are_joined looks (λ w. came_of_rule w.looks w.request within.definitions within.path r) (λ w. flat_map (came_of_rule w.looks w.request within.definitions within.path) rs)
    (rule_entries within r) (flat_map (rule_entries within) rs)
    (record { typed = (first.0, (first.1, (parts.1, tt))); fits = (tt, (tt, (tt, tt))); lists = lists_rule within r })
    (are_rules looks within rs both.1)

-- ---- elements

negated : {A : Type 0} (b : Bool) (xs : List A) → (if (if b then false else true) then xs else []) ≡ (if b then [] else xs)
negated true xs = refl
negated false xs = refl

lists_element : (x : Target) (es : List Entry) (f : Scene → List Came) → Lists es f
    → Lists (element_entries x es) (λ w. element_came (heard (target_part w.looks w.request x)) nothing_given (f w))
lists_element x es f inner =
    let fits = fits_in (element_entries x es) in
    let own = entry item.Given 0 in
    let whole = test_entry (task.Target x) (length (own ∷ es)) in
    segment_by entry_came goes_on skip_of fits fits (whole ∷ (own ∷ es)) (λ w. entry_came whole w ∷ (if goes_on whole (entry_came whole w) then entry_came own w ∷ f w else []))
    (λ w. element_came (heard (target_part w.looks w.request x)) nothing_given (f w))
    (λ w fit. fit) (λ w fit. ap (λ cs. entry_came whole w ∷ cs) (negated (is_no_match (heard (target_part w.looks w.request x)).value) (entry_came own w ∷ f w)))
    (segment_below entry_came goes_on skip_of fits whole (own ∷ es) (λ w. entry_came own w ∷ f w) refl
    (segment_then entry_came goes_on skip_of fits (own ∷ []) es (λ w. entry_came own w ∷ []) f (segment_one entry_came goes_on skip_of fits own refl) (λ w fit more. inner w fit.1.1 more)))

are_element : (looks : Looks) (x : Target) (es : List Entry) (f : Scene → List Came) → target_is_typed x ≡ true → AreEntries looks f es
    → AreEntries looks (λ w. element_came (heard (target_part w.looks w.request x)) nothing_given (f w)) (element_entries x es)
are_element looks x es f typed are = record {
  typed = (typed, (tt, are.typed));
  fits = (tt, (tt, are.fits));
  lists = lists_element x es f are.lists;
}

-- an element that gives nothing itself comes to what its children come to
finished_nothing : (looks : Looks) (request : Request) (definitions : List VariableDefinition) (given : GivenExpressions) → given ≡ no_given → (λ (a : Answer). heard (finished looks request definitions given a)) ≡ nothing_given
finished_nothing looks request definitions given none =
    ap (λ g. λ (a : Answer). heard (finished looks request definitions g a)) none ∙ fun_ext (λ a. ap heard (at a (effect_of a.decision)))
  where
    at : (a : Answer) (o : Option Effect) → given_with looks request definitions no_given o a ≡ without_look a
    at a None = refl
    at a (Some effect) = ap₂ (λ os more. without_look (record { decision = a.decision; status = a.status; why = a.why; obligations = os; advice = more })) (append-nil a.obligations) (append-nil a.advice)

pub are_policy : (looks : Looks) (path : List DocKey) (policy : Policy) (within : Within) → policy.given ≡ no_given → policy_is_typed policy ≡ true → within.definitions ≡ policy.variables → within.path ≡ path ++ policy_key policy ∷ []
    → AreEntries looks (policy_tests path policy) (element_entries policy.target (flat_map (rule_entries within) policy.rules))
unfolding policy_is_typed
are_policy looks path policy within none typed definitions here =
    let outer = both_true (target_is_typed policy.target && list_all (definition_is_typed policy.variables) policy.variables && list_all (rule_is_typed policy.variables) policy.rules) (given_is_typed policy.variables policy.given) typed in
    let inner = both_true (target_is_typed policy.target && list_all (definition_is_typed policy.variables) policy.variables) (list_all (rule_is_typed policy.variables) policy.rules) outer.0 in
    let first = both_true (target_is_typed policy.target) (list_all (definition_is_typed policy.variables) policy.variables) inner.0 in
    let rules = are_rules looks within policy.rules (subst (λ ds. list_all (rule_is_typed ds) policy.rules ≡ true) (sym definitions) inner.1) in
    are_same looks _ (policy_tests path policy) (element_entries policy.target (flat_map (rule_entries within) policy.rules))
    (λ w. ap₂ (λ own cs. element_came (heard (target_part w.looks w.request policy.target)) own cs) (sym (finished_nothing w.looks w.request policy.variables policy.given none))
    (ap₂ (λ ds keys. flat_map (came_of_rule w.looks w.request ds keys) policy.rules) definitions here))
    (are_element looks policy.target (flat_map (rule_entries within) policy.rules) (λ w. flat_map (came_of_rule w.looks w.request within.definitions within.path) policy.rules) first.0 rules)

-- ---- sets

flat_map_map : {X Y Z : Type 0} (f : X → Y) (g : Y → List Z) (xs : List X) → flat_map g (map f xs) ≡ flat_map (λ x. g (f x)) xs
flat_map_map f g [] = refl
flat_map_map f g (x ∷ xs) = ap (λ zs. g (f x) ++ zs) (flat_map_map f g xs)

pub are_set : (looks : Looks) (hops : ℕ) (path here : List DocKey) (set : PolicySet) (es : List Entry) → set.given ≡ no_given → target_is_typed set.target ≡ true → here ≡ path ++ set_key set.id set.version ∷ []
    → AreEntries looks (children_tests hops here set.children) es → AreEntries looks (set_tests hops path set) (element_entries set.target es)
are_set looks hops path here set es none typed at are =
    are_same looks _ (set_tests hops path set) (element_entries set.target es) same (are_element looks set.target es (children_tests hops here set.children) typed are)
  where
    refers : Scene → Reference → Tests
    refers w = refer_came w.looks w.request hops

    same : (w : Scene) → element_came (heard (target_part w.looks w.request set.target)) nothing_given (children_tests hops here set.children w) ≡ set_tests hops path set w
    same w =
        ap₂ (λ own cs. element_came (heard (target_part w.looks w.request set.target)) own cs) (sym (finished_nothing w.looks w.request [] set.given none))
        (ap (λ keys. children_tests hops keys set.children w) at ∙ sym (flat_map_map (node_came w.looks w.request (refers w)) (λ (t : Tests). t (path ++ set_key set.id set.version ∷ [])) set.children))
        ∙ sym (ap (λ (t : Tests). t path) (fold_out-PolicySet Tests Tests (child_came w.looks w.request (refers w)) (set_came w.looks w.request) set))

-- the children of a set, one after the other
pub are_children : (looks : Looks) (hops : ℕ) (path : List DocKey) (children : List Child) (i : ℕ) (child : Child) (es more : List Entry) → i < length children → child ≡ get_or children i child
    → AreEntries looks (children_tests hops path (take i children)) es → AreEntries looks (child_tests hops path child) more
    → AreEntries looks (children_tests hops path (take (i + 1) children)) (es ++ more)
are_children looks hops path children i child es more below at are one =
    are_same looks (λ w. children_tests hops path (take i children) w ++ child_tests hops path child w) (children_tests hops path (take (i + 1) children)) (es ++ more) same
    (are_joined looks (children_tests hops path (take i children)) (child_tests hops path child) es more are one)
  where
    same : (w : Scene) → children_tests hops path (take i children) w ++ child_tests hops path child w ≡ children_tests hops path (take (i + 1) children) w
    same w =
        ap (λ cs. children_tests hops path (take i children) w ++ cs) (sym (append-nil (child_tests hops path child w)))
        ∙ sym (flat_map-append (λ c. child_tests hops path c w) (take i children) (child ∷ []))
        ∙ sym (ap (λ cs. children_tests hops path cs w) (take_more children i child below ∙ ap (λ c. take i children ++ c ∷ []) (sym at)))

pub all_children : (looks : Looks) (hops : ℕ) (path : List DocKey) (children : List Child) (i : ℕ) (es : List Entry) → length children ≤ i
    → AreEntries looks (children_tests hops path (take i children)) es → AreEntries looks (children_tests hops path children) es
all_children looks hops path children i es end are = subst (λ cs. AreEntries looks (children_tests hops path cs) es) (take_all i children end) are

-- a policy as a child
pub are_child : (looks : Looks) (hops : ℕ) (path : List DocKey) (policy : Policy) (es : List Entry) → AreEntries looks (policy_tests path policy) es → AreEntries looks (child_tests hops path (children.Policy policy)) es
are_child looks hops path policy es are = are_same looks (policy_tests path policy) (child_tests hops path (children.Policy policy)) es same are where
  same : (w : Scene) → policy_tests path policy w ≡ child_tests hops path (children.Policy policy) w
  same w = sym (ap (λ c. child_tests hops path c w) (sym (children.rolls-Policy policy))
      ∙ ap (λ (t : Tests). t path) (fold-roll-Child Tests Tests (child_came w.looks w.request (refer_came w.looks w.request hops)) (set_came w.looks w.request) (Child-F.Policy policy)))

-- a set that can be evaluated as a child can be evaluated
pub set_fits : (set : PolicySet) → is_fit (children.Set set) ≡ true → set_is_fit set ≡ true
set_fits set fit = sym (ap is_fit (sym (children.rolls-Set set)) ∙ fold-roll-Child Bool Bool typing.child_step fit_step (Child-F.Set set)) ∙ fit

-- ---- references

pub none_followed : (looks : Looks) (hops : ℕ) (path : List DocKey) (reference : Reference) → hops ≡ 0 → AreEntries looks (reference_tests hops path reference) []
none_followed looks hops path reference none = subst (λ n. AreEntries looks (reference_tests n path reference) []) (sym none) (are_none looks)

are_named : (looks : Looks) (hops : ℕ) (path : List DocKey) (reference : Reference) (copy : Option Tree) (below : List Entry) → looks.document reference ≡ copy
    → AreEntries looks (found_tests hops path copy) below → AreEntries looks (reference_tests (suc hops) path reference) (named_entries reference copy below)
are_named looks hops path reference copy below is are = record {
  typed = (tt, are.typed);
  fits = (is, are.fits);
  lists = λ w fits more.
      ap (λ cs. named copy ∷ cs) (are.lists w fits.1 more)
      ∙ ap (λ o. named o ∷ (found_came (node_came w.looks w.request (refer_came w.looks w.request hops)) o path ++ run entry_came goes_on skip_of 0 more w)) (sym fits.0);
}

-- a reference is followed while one may be
pub one_followed : (looks : Looks) (hops : ℕ) (path : List DocKey) (reference : Reference) (copy : Option Tree) (below : List Entry) → 0 < hops → looks.document reference ≡ copy
    → AreEntries looks (found_tests (hops - 1) path copy) below → AreEntries looks (reference_tests hops path reference) (named_entries reference copy below)
one_followed looks zero path reference copy below left is are = absurd (omega (arith, left))
one_followed looks (suc hops) path reference copy below left is are =
    let back : suc hops - 1 ≡ hops = omega arith in
    are_named looks hops path reference copy below is (subst (λ n. AreEntries looks (found_tests n path copy) below) back are)

-- ---- plans

pub is_plan : (looks : Looks) (root : Reference) (entries : List Entry) → looks.root ≡ Some root → length entries ≤ 2048 → AreEntries looks (reference_tests 7 [] root) entries → IsPlan looks entries
is_plan looks root entries at few are = record {
  few = few;
  typed = are.typed;
  fits = are.fits;
  lists = λ w same fits.
      ap (λ es. run entry_came goes_on skip_of 0 es w) (sym (append-nil entries)) ∙ are.lists w fits []
      ∙ append-nil (reference_tests 7 [] root w) ∙ sym (ap (root_came w.looks w.request) (same ∙ at));
}
