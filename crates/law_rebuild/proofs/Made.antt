-- What holds of the edits that led to a state holds of those that make it anew.
use Rattle.std.proofs.Common.{◌≡◌, ℕ, zero, suc, ◌+◌, Bool, List, [], ◌∷◌, ◌++◌, Option, Some, None, Result, Ok, Err, refl, ap, subst, ◌∙◌, arith}
use Rattle.std.specs.Prelude.{◌||◌, ◌&&◌, map, nat_eq, nat_le, nat_lt, not, length, slice_index_or, slice_set}
use Rattle.std.specs.Cmp.Lexicographic.{pointwise}
use Rattle.std.specs.FinMap.{empty, entries, get, get-empty}
use Rattle.std.specs.List.{AllByRecursion, Contains, enumerate_from, flat_map}
use Rattle.std.specs.Result.{result_unwrap_or}
use Rattle.std.proofs.lemmas.List.Elements.{All-contains_itself}
use Rattle.ent_values.specs.Calendar.{Day}
use Rattle.ent_values.specs.declared.date_time.DateTime.{DateTime}
use Rattle.ent_values.specs.declared.value.Value.{Value}
use Rattle.ent_policy.specs.Key.{key_of}
use Rattle.ent_policy.specs.Names.{is_bad_name}
use Rattle.ent_policy.specs.declared.document.Tree.{Tree}
use Rattle.ent_policy.specs.declared.key.DocKey.{DocKey}
use Rattle.ent_policy.specs.declared.key.Reference.{Reference}
use Rattle.ent_finder.proofs.Totals.{key_cmp_total, row_cmp_total}
use Rattle.ent_finder.proofs.Keys.{key_cmp_antisymmetric}
use Rattle.ent_finder.proofs.RowKeys.{row_cmp_antisymmetric}
use Rattle.ent_finder.specs.Rows.{Source, row_cmp, source_at, with_row}
use Rattle.ent_finder.specs.Slots.{Docs, document_count, key_cmp, module_at, with_document}
use Rattle.ent_finder.specs.declared.row.RowKey.{RowKey}
use Rattle.ent_request.proofs.Keys.{by_recursion}
use Rattle.ent_request.specs.Environment.{of_day, of_moment}
use Rattle.ent_request.specs.declared.environment.Environment.{Environment}
use Rattle.ent_table.proofs.Changes.{less_names, more_names}
use Rattle.ent_table.specs.declared.edit.Edit.{Edit}
use Rattle.ent_table.specs.declared.edit.Edit.TheVariants.{AddPolicy, ReplacePolicy, WithdrawPolicy, SetAttribute, AddName, DropName, SetRoot, SetDay}
use Rattle.ent_table.specs.declared.edit.Edit.TheVariants.{SetMoment}
use Rattle.ent_table.specs.declared.edit.EditFault.{EditFault}
use Rattle.ent_table.specs.declared.edit.EditFault.TheVariants.{NotThere, AlreadyThere, Limit, Reserved, BadValue, UnknownModule}
use Rattle.ent_table.specs.declared.edit.List.{List as Which}
use Rattle.ent_table.specs.declared.edit.List.TheVariants as which
use Rattle.ent_table.specs.Names.{has_name, list_of}
use Rattle.ent_table.specs.State.{State}
use Rattle.ent_table.specs.Step.{exceeds, holds, is_bad_row, is_last, is_module, is_reserved, is_source, next, step, with_environment, with_policy, with_values}
use Rattle.law_rebuild.specs.Laws.{ReachedEditsWereMade}
use Rattle.law_rebuild.specs.Rebuilding.{all_documents, all_rows, as_added, document_edit, edited, emptied, emptied_modules, emptied_source, environment_edits}
use Rattle.law_rebuild.specs.Rebuilding.{module_edits, name_edits, reached, rebuilding, root_edits, row_edit, source_edits}
use Rattle.law_rebuild.proofs.HeldKept.{insert_keeps, no_module, no_rows, remove_keeps}
use Rattle.law_rebuild.proofs.Kept.{allowed}
use Rattle.law_rebuild.proofs.Maps.{got_all}
use Rattle.law_rebuild.proofs.NamesKept.{all_filter, all_push}

all_append : {A : Type 0} (P : A → Type 0) (xs ys : List A) → AllByRecursion P xs → AllByRecursion P ys → AllByRecursion P (xs ++ ys)
all_append P [] ys h g = g
all_append P (x ∷ xs) ys h g = (h.0, all_append P xs ys h.1 g)

all_map : {A B : Type 0} (P : B → Type 0) (f : A → B) (xs : List A) → AllByRecursion (λ x. P (f x)) xs → AllByRecursion P (map f xs)
all_map P f [] h = tt
all_map P f (x ∷ xs) h = (h.0, all_map P f xs h.1)

all_from_map : {A B : Type 0} (P : B → Type 0) (f : A → B) (xs : List A) → AllByRecursion P (map f xs) → AllByRecursion (λ x. P (f x)) xs
all_from_map P f [] h = tt
all_from_map P f (x ∷ xs) h = (h.0, all_from_map P f xs h.1)

-- what holds of each module and its number, with another module in place of one
set_at_each : {A : Type 0} (P : ℕ → A → Type 0) (d : A) (xs : List A) (n : ℕ) (y : A) → P n y → ((i : ℕ) → P i (slice_index_or xs i d)) → (i : ℕ)
    → P i (slice_index_or (slice_set xs n y) i d)
set_at_each P d [] n y here rest i = rest i
set_at_each P d (x ∷ xs) zero y here rest zero = here
set_at_each P d (x ∷ xs) zero y here rest (suc i) = rest (suc i)
set_at_each P d (x ∷ xs) (suc n) y here rest zero = rest 0
set_at_each P d (x ∷ xs) (suc n) y here rest (suc i) = set_at_each (λ j. P (suc j)) d xs n y here (λ j. rest (suc j)) i

-- what holds of each module and its number, by number
all_numbered : {A : Type 0} (P : ℕ → A → Type 0) (d : A) (i : ℕ) (xs : List A) → ((j : ℕ) → P (i + j) (slice_index_or xs j d))
    → AllByRecursion (λ m. P m.0 m.1) (enumerate_from i xs)
all_numbered P d i [] h = tt
all_numbered P d i (x ∷ xs) h =
    let here : i + 0 ≡ i = omega arith in (
      subst (λ n. P n x) here (h 0),
      all_numbered P d (i + 1) xs (λ j. let later : i + suc j ≡ (i + 1) + j = omega arith in subst (λ n. P n (slice_index_or xs j d)) later (h (suc j))),
    )

all_flat_map : {A B : Type 0} (P : B → Type 0) (f : A → List B) (xs : List A) → AllByRecursion (λ x. AllByRecursion P (f x)) xs
    → AllByRecursion P (flat_map f xs)
all_flat_map P f [] h = tt
all_flat_map P f (x ∷ xs) h = all_append P (f x) (flat_map f xs) h.0 (all_flat_map P f xs h.1)

-- everything in a state could come from an edit of which P holds
pub record IsMadeOf (P : Edit → Type 0) (s : State) : Type 0 where
  pub documents : (number : ℕ) (key : DocKey) (document : Tree) → get (module_at s.held.modules number) key ≡ Some document → P (AddPolicy number document)
  pub rows : (number : ℕ) (key : RowKey) (values : List Value) → get (source_at s.held.sources number).rows key ≡ Some values
      → P (SetAttribute number key values)
  pub environment : AllByRecursion P (environment_edits s.held.environment)
  pub root : (root : Reference) → s.held.root ≡ Some root → P (SetRoot (Some root))
  pub people : AllByRecursion (λ name. P (AddName which.People name)) s.names.people
  pub actions : AllByRecursion (λ name. P (AddName which.Actions name)) s.names.actions
  pub resources : AllByRecursion (λ name. P (AddName which.Resources name)) s.names.resources

module _ (P : Edit → Type 0) where
  nothing_made : (s : State) → IsMadeOf P (emptied s)
  nothing_made s = record {
    documents =
        λ number key document is. let none : get (module_at (emptied_modules s.held.modules) number) key ≡ None = ap (λ (m : Docs). get m key)
        (no_module s.held.modules number) ∙ get-empty key_cmp key in cc;
    rows = λ number key values is.
        let none : get (source_at (map emptied_source s.held.sources) number).rows key ≡ None = ap (λ m. get m key) (no_rows s.held.sources number)
        ∙ get-empty row_cmp key in
        cc;
    environment = tt;
    root = λ root is. cc;
    people = tt;
    actions = tt;
    resources = tt;
  }

  -- ---- the edits that make it anew

  each_document : (number : ℕ) (m : Docs) → ((key : DocKey) (document : Tree) → get m key ≡ Some document → P (AddPolicy number document))
      → AllByRecursion P (module_edits (number, m))
  each_document number m h = all_map P (document_edit number) (entries m) (got_all key_cmp_total (λ key document. P (AddPolicy number document)) m h)

  each_row : (number : ℕ) (c : Source) → ((key : RowKey) (values : List Value) → get c.rows key ≡ Some values → P (SetAttribute number key values))
      → AllByRecursion P (source_edits (number, c))
  each_row number c h = all_map P (row_edit number) (entries c.rows) (got_all row_cmp_total (λ key values. P (SetAttribute number key values)) c.rows h)

  the_root : (o : Option Reference) → ((root : Reference) → o ≡ Some root → P (SetRoot (Some root))) → AllByRecursion P (root_edits o)
  the_root None h = tt
  the_root (Some root) h = (h root refl, tt)

  pub made_anew : (s : State) → IsMadeOf P s → AllByRecursion P (rebuilding s)
  made_anew s made =
      all_append P (all_documents s.held.modules) _
      (all_flat_map P module_edits (enumerate_from 0 s.held.modules)
      (all_numbered (λ n m. AllByRecursion P (module_edits (n, m))) empty 0 s.held.modules
      (λ j. let same : j ≡ 0 + j = omega arith in subst (λ n. AllByRecursion P (module_edits (n, module_at s.held.modules j))) same
      (each_document j (module_at s.held.modules j) (made.documents j)))))
      (all_append P (all_rows s.held.sources) _
      (all_flat_map P source_edits (enumerate_from 0 s.held.sources)
      (all_numbered (λ n c. AllByRecursion P (source_edits (n, c))) (record { categories = []; rows = empty }) 0 s.held.sources
      (λ j. let same : j ≡ 0 + j = omega arith in subst (λ n. AllByRecursion P (source_edits (n, source_at s.held.sources j))) same
      (each_row j (source_at s.held.sources j) (made.rows j)))))
      (all_append P (environment_edits s.held.environment) _ made.environment
      (all_append P (root_edits s.held.root) _ (the_root s.held.root made.root)
      (all_append P (name_edits which.People s.names.people) _ (all_map P (AddName which.People) s.names.people made.people)
      (all_append P (name_edits which.Actions s.names.actions) _ (all_map P (AddName which.Actions) s.names.actions made.actions)
      (all_map P (AddName which.Resources) s.names.resources made.resources))))))

  -- ---- one edit

  reaches : (s u t : State) → ◌≡◌ {A = Result State EditFault} (Ok u) (Ok t) → IsMadeOf P u → IsMadeOf P t
  reaches s u t e made = let same : u ≡ t = cc in subst (λ (v : State). IsMadeOf P v) same made

  abbrev IsUnder : ℕ → Option Tree → Type 0
  IsUnder number None = Unit {0}
  IsUnder number (Some document) = P (AddPolicy number document)

  put_in : (number : ℕ) (m : Docs) (key : DocKey) (o : Option Tree) → ((q : DocKey) (d : Tree) → get m q ≡ Some d → P (AddPolicy number d)) → IsUnder number o
      → (q : DocKey) (d : Tree) → get (with_document m key o) q ≡ Some d → P (AddPolicy number d)
  put_in number m key None rest here = remove_keeps key_cmp_total key_cmp_antisymmetric (λ q d. P (AddPolicy number d)) m key rest
  put_in number m key (Some d) rest here = insert_keeps key_cmp_total key_cmp_antisymmetric (λ q d. P (AddPolicy number d)) m key d here rest

  policy_made : (s : State) (number : ℕ) (key : DocKey) (o : Option Tree) → IsMadeOf P s → IsUnder number o → IsMadeOf P (next (with_policy s number key o))
  policy_made s number key o made here = record {
    documents =
        set_at_each (λ i m. (q : DocKey) (d : Tree) → get m q ≡ Some d → P (AddPolicy i d)) empty s.held.modules number
        (with_document (module_at s.held.modules number) key o)
        (put_in number (module_at s.held.modules number) key o (made.documents number) here) made.documents;
    rows = made.rows;
    environment = made.environment;
    root = made.root;
    people = made.people;
    actions = made.actions;
    resources = made.resources;
  }

  put_row : (number : ℕ) (c : Source) (key : RowKey) (values : List Value)
      → ((q : RowKey) (vs : List Value) → get c.rows q ≡ Some vs → P (SetAttribute number q vs)) → P (SetAttribute number key values)
      → (q : RowKey) (vs : List Value) → get (with_row c.rows key values) q ≡ Some vs → P (SetAttribute number q vs)
  put_row number c key [] rest here = remove_keeps row_cmp_total row_cmp_antisymmetric (λ q vs. P (SetAttribute number q vs)) c.rows key rest
  put_row number c key (v ∷ vs) rest here =
      insert_keeps row_cmp_total row_cmp_antisymmetric (λ q vs. P (SetAttribute number q vs)) c.rows key (v ∷ vs) here rest

  row_made : (s : State) (number : ℕ) (key : RowKey) (values : List Value) → IsMadeOf P s → P (SetAttribute number key values)
      → IsMadeOf P (next (with_values s number key values))
  row_made s number key values made here =
      let old = source_at s.held.sources number in
      let new : Source = record old { rows = with_row old.rows key values } in
      record {
        documents = made.documents;
        rows =
            set_at_each (λ i (c : Source). (q : RowKey) (vs : List Value) → get c.rows q ≡ Some vs → P (SetAttribute i q vs))
            (record { categories = []; rows = empty }) s.held.sources number new
            (put_row number old key values (made.rows number) here) made.rows;
        environment = made.environment;
        root = made.root;
        people = made.people;
        actions = made.actions;
        resources = made.resources;
      }

  name_made : (s : State) (list : Which) (name : List ℕ) → IsMadeOf P s → P (AddName list name) → IsMadeOf P (more_names s list name)
  name_made s which.People name made here = record {
    documents = made.documents;
    rows = made.rows;
    environment = made.environment;
    root = made.root;
    people = all_push (λ x. P (AddName which.People x)) s.names.people name made.people here;
    actions = made.actions;
    resources = made.resources;
  }
  name_made s which.Actions name made here = record {
    documents = made.documents;
    rows = made.rows;
    environment = made.environment;
    root = made.root;
    people = made.people;
    actions = all_push (λ x. P (AddName which.Actions x)) s.names.actions name made.actions here;
    resources = made.resources;
  }
  name_made s which.Resources name made here = record {
    documents = made.documents;
    rows = made.rows;
    environment = made.environment;
    root = made.root;
    people = made.people;
    actions = made.actions;
    resources = all_push (λ x. P (AddName which.Resources x)) s.names.resources name made.resources here;
  }

  abbrev is_other : List ℕ → List ℕ → Bool
  is_other name x = not (pointwise nat_eq name x)

  less_made : (s : State) (list : Which) (name : List ℕ) → IsMadeOf P s → IsMadeOf P (less_names s list name)
  less_made s which.People name made = record {
    documents = made.documents;
    rows = made.rows;
    environment = made.environment;
    root = made.root;
    people = all_filter (λ x. P (AddName which.People x)) (is_other name) s.names.people made.people;
    actions = made.actions;
    resources = made.resources;
  }
  less_made s which.Actions name made = record {
    documents = made.documents;
    rows = made.rows;
    environment = made.environment;
    root = made.root;
    people = made.people;
    actions = all_filter (λ x. P (AddName which.Actions x)) (is_other name) s.names.actions made.actions;
    resources = made.resources;
  }
  less_made s which.Resources name made = record {
    documents = made.documents;
    rows = made.rows;
    environment = made.environment;
    root = made.root;
    people = made.people;
    actions = made.actions;
    resources = all_filter (λ x. P (AddName which.Resources x)) (is_other name) s.names.resources made.resources;
  }

  -- the edit of a day, of a moment
  the_day : (o : Option Day) → P (SetDay o) → AllByRecursion P (environment_edits (of_day o))
  the_day None here = tt
  the_day (Some day) here = (here, tt)

  the_moment : (o : Option DateTime) → P (SetMoment o) → AllByRecursion P (environment_edits (of_moment o))
  the_moment None here = tt
  the_moment (Some moment) here = (here, tt)

  environment_made : (s : State) (environment : Environment) → IsMadeOf P s → AllByRecursion P (environment_edits environment)
      → IsMadeOf P (next (with_environment s environment))
  environment_made s environment made here = record {
    documents = made.documents;
    rows = made.rows;
    environment = here;
    root = made.root;
    people = made.people;
    actions = made.actions;
    resources = made.resources;
  }

  root_made : (s : State) (o : Option Reference) → IsMadeOf P s → P (SetRoot o) → IsMadeOf P (next (record s { held = record s.held { root = o } }))
  root_made s o made here = record {
    documents = made.documents;
    rows = made.rows;
    environment = made.environment;
    root = λ root is. subst (λ (x : Option Reference). P (SetRoot x)) is here;
    people = made.people;
    actions = made.actions;
    resources = made.resources;
  }

  pub step_made : (s t : State) (e : Edit) → IsMadeOf P s → P (as_added e) → step s e ≡ Ok t → IsMadeOf P t
  step_made s t (AddPolicy number d) made here h =
      let a = allowed (is_module s number && holds s number (key_of d)) AlreadyThere _ t h in
      let b = allowed (is_last s || nat_le s.limits.documents (document_count s.held.modules)) Limit _ t a.1 in
      let c = allowed (not (is_module s number)) UnknownModule _ t b.1 in
      reaches s (next (with_policy s number (key_of d) (Some d))) t c.1 (policy_made s number (key_of d) (Some d) made here)
  step_made s t (ReplacePolicy number d) made here h =
      let a = allowed (is_module s number && not (holds s number (key_of d))) NotThere _ t h in
      let b = allowed (is_last s) Limit _ t a.1 in
      let c = allowed (not (is_module s number)) UnknownModule _ t b.1 in
      reaches s (next (with_policy s number (key_of d) (Some d))) t c.1 (policy_made s number (key_of d) (Some d) made here)
  step_made s t (WithdrawPolicy number key) made here h =
      let a = allowed (is_module s number && not (holds s number key)) NotThere _ t h in
      let b = allowed (is_last s) Limit _ t a.1 in
      let c = allowed (is_bad_name key.id) BadValue _ t b.1 in
      let e = allowed (not (is_module s number)) UnknownModule _ t c.1 in
      reaches s (next (with_policy s number key None)) t e.1 (policy_made s number key None made tt)
  step_made s t (SetAttribute number key values) made here h =
      let a = allowed (is_last s || nat_lt 256 (length values)) Limit _ t h in
      let b = allowed (is_reserved key.category key.attribute) Reserved _ t a.1 in
      let c = allowed (is_bad_row key values) BadValue _ t b.1 in
      let e = allowed (not (is_source s number key.category)) UnknownModule _ t c.1 in
      reaches s (next (with_values s number key values)) t e.1 (row_made s number key values made here)
  step_made s t (AddName list name) made here h =
      let a = allowed (has_name name (list_of list s.names)) AlreadyThere _ t h in
      let b = allowed (is_last s || exceeds s list name) Limit _ t a.1 in
      let c = allowed (is_bad_name name) BadValue _ t b.1 in
      reaches s (more_names s list name) t c.1 (name_made s list name made here)
  step_made s t (DropName list name) made here h =
      let a = allowed (not (has_name name (list_of list s.names))) NotThere _ t h in
      let b = allowed (is_last s) Limit _ t a.1 in
      reaches s (less_names s list name) t b.1 (less_made s list name made)
  step_made s t (SetRoot o) made here h =
      let a = allowed (is_last s) Limit _ t h in
      reaches s (next (record s { held = record s.held { root = o } })) t a.1 (root_made s o made here)
  step_made s t (SetDay o) made here h =
      let a = allowed (is_last s) Limit _ t h in
      reaches s (next (with_environment s (of_day o))) t a.1 (environment_made s (of_day o) made (the_day o here))
  step_made s t (SetMoment o) made here h =
      let a = allowed (is_last s) Limit _ t h in
      reaches s (next (with_environment s (of_moment o))) t a.1 (environment_made s (of_moment o) made (the_moment o here))

  -- ---- several edits

  edit_made : (s : State) (e : Edit) → IsMadeOf P s → P (as_added e) → IsMadeOf P (edited s e)
  edit_made s e made here = by (step s e) (λ t is. step_made s t e made here is)
    where
      by : (r : Result State EditFault) → ((t : State) → r ≡ Ok t → IsMadeOf P t) → IsMadeOf P (result_unwrap_or r s)
      by (Ok t) h = h t refl
      by (Err fault) h = made

  pub reached_made : (s : State) (es : List Edit) → IsMadeOf P s → AllByRecursion (λ e. P (as_added e)) es → IsMadeOf P (reached s es)
  reached_made s [] made all = made
  reached_made s (e ∷ es) made all = reached_made (edited s e) es (edit_made s e made all.0) all.1

pub edits_were_made : ReachedEditsWereMade
edits_were_made s es =
    let P : Edit → Type 0 = Contains (map as_added es) in
    let all : AllByRecursion (λ e. P (as_added e)) es = all_from_map P as_added es (by_recursion P (map as_added es) (All-contains_itself (map as_added es))) in
    made_anew P (reached (emptied s) es) (reached_made P (emptied s) es (nothing_made P s) all)
