-- What a service holds reads back.
use Rattle.std.proofs.Common.{◌≡◌, ℕ, ◌+◌, Bool, true, false, cond, List, [], ◌∷◌, ◌++◌, map, Option, Some, None}
use Rattle.std.proofs.Common.{codes, option_map, subst, IsUtf8}
use Rattle.std.specs.Prelude.{filter_map, find, if◌then◌else◌, slice_get, unwrap_or}
use Rattle.std.specs.FinMap.{entries}
use Rattle.std.specs.List.{AllByRecursion, cons_option, enumerate_from, filter, flat_map}
use Rattle.std.specs.Str.{bytes_eq}
use Rattle.serde_json.specs.Data as json
use Rattle.ent_values.specs.ReadBack.{IsReal}
use Rattle.ent_values.specs.declared.value.Value.{Value}
use Rattle.ent_values.specs.declared.value.Value.TheVariants as values
use Rattle.ent_policy.specs.Values.{document_values}
use Rattle.ent_policy.specs.declared.document.Designator.{Designator}
use Rattle.ent_policy.specs.declared.document.Tree.{Tree}
use Rattle.ent_policy.specs.declared.key.DocKey.{DocKey}
use Rattle.ent_policy.specs.declared.key.Reference.{Reference}
use Rattle.ent_policy.proofs.Within.{passed_within}
use Rattle.ent_polform.specs.Written.{value_written}
use Rattle.ent_finder.specs.Finding.{is_latest, most_recent, most_recent_of_each, named, names}
use Rattle.ent_finder.specs.Looking.{looked, names_row, values_of, values_of_each}
use Rattle.ent_finder.specs.Rows.{Source, is_filled, supports}
use Rattle.ent_finder.specs.Slots.{Docs}
use Rattle.ent_finder.specs.declared.row.AttrKey.{AttrKey}
use Rattle.ent_finder.specs.declared.row.RowKey.{RowKey}
use Rattle.ent_request.specs.Environment.{date_in, date_time_in, time_in}
use Rattle.ent_request.specs.Held.{looks_in}
use Rattle.ent_request.specs.Listed.{listed}
use Rattle.ent_request.specs.Own.{attributes_in, attributes_of, is_designated, values_among, values_in}
use Rattle.ent_request.specs.Sources.{known_values}
use Rattle.ent_request.specs.declared.environment.Environment.{Environment}
use Rattle.ent_request.specs.declared.environment.Environment.TheVariants as environments
use Rattle.ent_request.specs.declared.request.Attribute.{Attribute}
use Rattle.ent_request.specs.declared.request.Category.{Category}
use Rattle.ent_table.specs.State.{State}
use Rattle.ent_table.specs.declared.edit.Edit.{Edit}
use Rattle.ent_table.specs.declared.edit.Edit.TheVariants.{AddPolicy, SetAttribute}
use Rattle.ent_table.specs.declared.edit.List.{List as Which}
use Rattle.ent_table.specs.declared.edit.List.TheVariants as which
use Rattle.law_rebuild.specs.Rebuilding.{all_documents, all_rows, document_edit, environment_edits, module_edits}
use Rattle.law_rebuild.specs.Rebuilding.{name_edits, rebuilding, root_edits, row_edit, source_edits}
use Rattle.ent_dump.specs.Edits.{edit_data}
use Rattle.law_restart.specs.Carried.{IsRead}
use Rattle.law_restart.proofs.Utf8Data.{IfThere, IsUtf8Data}
use Rattle.law_restart.proofs.Utf8Values.{IsUtf8Value, value_written_utf8}
use Rattle.law_compared.proofs.GoodExpressions.{AreGoodLooks, IsGoodRequest, IsGoodTree}
use Rattle.law_compared.proofs.GoodFunctions.{AreGood, IsGood, IsSmall, good_both, text_is_good}
use Rattle.law_compared.proofs.GoodParts.{AreSmall, list_all, optional_parts}

-- ---- lists

all_parts : {A : Type 0} (P : A → Type 0) (xs ys : List A) → AllByRecursion P (xs ++ ys)
    → AllByRecursion P xs × AllByRecursion P ys
all_parts P [] ys h = (tt, h)
all_parts P (x ∷ xs) ys h = let more = all_parts P xs ys h.1 in ((h.0, more.0), more.1)

all_filter : {A : Type 0} (P : A → Type 0) (p : A → Bool) (xs : List A) → AllByRecursion P xs
    → AllByRecursion P (filter p xs)
all_filter P p [] h = tt
all_filter P p (x ∷ xs) h = by (p x) (all_filter P p xs h.1)
  where
    by : (b : Bool) → AllByRecursion P (filter p xs) → AllByRecursion P (cond b (x ∷ filter p xs) (filter p xs))
    by true more = (h.0, more)
    by false more = more

all_find : {A : Type 0} (P : A → Type 0) (p : A → Bool) (xs : List A) → AllByRecursion P xs → IfThere P (find p xs)
all_find P p [] h = tt
all_find P p (x ∷ xs) h = by (p x) (all_find P p xs h.1)
  where
    by : (b : Bool) → IfThere P (find p xs) → IfThere P (cond b (Some x) (find p xs))
    by true more = h.0
    by false more = more

-- ---- values

real_small : (v : Value) → IsReal v → IsSmall v
real_small (values.Integer n) h = h
real_small (values.Text text) h = tt
real_small (values.Boolean b) h = tt
real_small (values.Date day) h = tt
real_small (values.AnyUri uri) h = tt
real_small (values.YearMonth months) h = tt
real_small (values.Time time) h = tt
real_small (values.DateTime moment) h = tt

all_real : (vs : List Value) → AllByRecursion IsReal vs → AreSmall vs
all_real [] h = tt
all_real (v ∷ vs) h = (real_small v h.0, all_real vs h.1)

all_good : (vs : List Value) → AllByRecursion IsReal vs → AllByRecursion IsUtf8Data (map value_written vs)
    → AreGood vs
all_good [] h u = tt
all_good (v ∷ vs) h u = (record { small = real_small v h.0; utf8 = u.0 }, all_good vs h.1 u.1)

-- the lines of edits are UTF-8
abbrev IsUtf8Edit : Edit → Type 0
IsUtf8Edit e = IsUtf8Data (edit_data e)

-- ---- documents

good_document : (number : ℕ) (t : Tree) → IsRead (AddPolicy number t) → IsUtf8Edit (AddPolicy number t) → IsGoodTree t
unfolding edit_data
good_document number t h u = record { small = all_real (document_values t) (passed_within t h); utf8 = u.2.1 }

read_documents : (number : ℕ) (es : List (DocKey × Tree)) → AllByRecursion IsRead (map (document_edit number) es)
    → AllByRecursion IsUtf8Edit (map (document_edit number) es)
    → AllByRecursion (λ (e : DocKey × Tree). IsGoodTree e.1) es
read_documents number [] h u = tt
read_documents number (e ∷ es) h u = (good_document number e.1 h.0 u.0, read_documents number es h.1 u.1)

recent_good : (r : Reference) (docs : Docs) → AllByRecursion (λ (e : DocKey × Tree). IsGoodTree e.1) (entries docs)
    → IfThere IsGoodTree (most_recent r docs)
recent_good r docs h = by (find (is_latest (named r docs)) (named r docs))
    (all_find (λ (e : DocKey × Tree). IsGoodTree e.1) (is_latest (named r docs)) (named r docs)
    (all_filter (λ (e : DocKey × Tree). IsGoodTree e.1) (λ (e : DocKey × Tree). names r e.0) (entries docs) h))
  where
    by : (o : Option (DocKey × Tree)) → IfThere (λ (e : DocKey × Tree). IsGoodTree e.1) o
        → IfThere IsGoodTree (option_map (λ (e : DocKey × Tree). e.1) o)
    by None g = tt
    by (Some e) g = g

abbrev of_each : Reference → ℕ → List Docs → List (ℕ × Tree)
of_each r n modules =
    filter_map (λ m. option_map (λ document. (m.0, document)) (most_recent r m.1)) (enumerate_from n modules)

each_good : (r : Reference) (n : ℕ) (modules : List Docs)
    → AllByRecursion IsRead (flat_map module_edits (enumerate_from n modules))
    → AllByRecursion IsUtf8Edit (flat_map module_edits (enumerate_from n modules))
    → AllByRecursion (λ (x : ℕ × Tree). IsGoodTree x.1) (of_each r n modules)
each_good r n [] h u = tt
each_good r n (m ∷ ms) h u =
    let both = all_parts IsRead (module_edits (n, m)) (flat_map module_edits (enumerate_from (n + 1) ms)) h in
    let lines = all_parts IsUtf8Edit (module_edits (n, m)) (flat_map module_edits (enumerate_from (n + 1) ms)) u in
    by (most_recent r m) (recent_good r m (read_documents n (entries m) both.0 lines.0))
    (each_good r (n + 1) ms both.1 lines.1)
  where
    by : (o : Option Tree) → IfThere IsGoodTree o
        → AllByRecursion (λ (x : ℕ × Tree). IsGoodTree x.1) (of_each r (n + 1) ms)
        → AllByRecursion (λ (x : ℕ × Tree). IsGoodTree x.1)
        (cons_option (option_map (λ document. (n, document)) o) (of_each r (n + 1) ms))
    by None g more = more
    by (Some t) g more = (g, more)

first_good : (xs : List (ℕ × Tree)) → AllByRecursion (λ (x : ℕ × Tree). IsGoodTree x.1) xs → (t : Tree)
    → option_map (λ (x : ℕ × Tree). x.1) (slice_get xs 0) ≡ Some t → IsGoodTree t
first_good [] h t is = absurd cc
first_good (x ∷ xs) h t is = let there : x.1 ≡ t = cc in subst IsGoodTree there h.0

-- ---- rows

good_row : (number : ℕ) (key : RowKey) (vs : List Value) → IsRead (SetAttribute number key vs)
    → IsUtf8Edit (SetAttribute number key vs) → AreGood vs
unfolding edit_data
good_row number key vs h u =
    let issuer = optional_parts (codes "issuer") (option_map json.string key.issuer) _ u.2.2.2.2 in
    all_good vs h.real (list_all (map value_written vs) issuer.1.2.2.1)

-- each value of rows is such a value
abbrev AreGoodRows : List (RowKey × List Value) → Type 0
AreGoodRows = AllByRecursion (λ (e : RowKey × List Value). AreGood e.1)

read_rows : (number : ℕ) (es : List (RowKey × List Value)) → AllByRecursion IsRead (map (row_edit number) es)
    → AllByRecursion IsUtf8Edit (map (row_edit number) es) → AreGoodRows es
read_rows number [] h u = tt
read_rows number (e ∷ es) h u = (good_row number e.0 e.1 h.0 u.0, read_rows number es h.1 u.1)

all_values : (es : List (RowKey × List Value)) → AreGoodRows es
    → AreGood (flat_map (λ (e : RowKey × List Value). e.1) es)
all_values [] h = tt
all_values (e ∷ es) h = good_both e.1 _ h.0 (all_values es h.1)

abbrev IsGoodSource : Source → Type 0
IsGoodSource s = AreGoodRows (entries s.rows)

each_source : (n : ℕ) (sources : List Source)
    → AllByRecursion IsRead (flat_map source_edits (enumerate_from n sources))
    → AllByRecursion IsUtf8Edit (flat_map source_edits (enumerate_from n sources))
    → AllByRecursion IsGoodSource sources
each_source n [] h u = tt
each_source n (s ∷ ss) h u =
    let both = all_parts IsRead (source_edits (n, s)) (flat_map source_edits (enumerate_from (n + 1) ss)) h in
    let lines = all_parts IsUtf8Edit (source_edits (n, s)) (flat_map source_edits (enumerate_from (n + 1) ss)) u in
    (read_rows n (entries s.rows) both.0 lines.0, each_source (n + 1) ss both.1 lines.1)

each_values : (key : AttrKey) (ss : List Source) → AllByRecursion IsGoodSource ss
    → AllByRecursion AreGood (map (λ (s : Source). values_of key s.rows) ss)
each_values key [] h = tt
each_values key (s ∷ ss) h = (
  all_values _ (all_filter (λ (e : RowKey × List Value). AreGood e.1)
      (λ (e : RowKey × List Value). names_row key e.0) (entries s.rows) h.0),
  each_values key ss h.1,
)

looked_good : (key : AttrKey) (ss : List Source) → AllByRecursion IsGoodSource ss → AreGood (looked key ss)
looked_good key ss h =
    by (find is_filled (values_of_each key ss))
    (all_find AreGood is_filled (values_of_each key ss) (each_values key (filter (supports key.category) ss)
    (all_filter IsGoodSource (supports key.category) ss h)))
  where
    by : (o : Option (List Value)) → IfThere AreGood o → AreGood (unwrap_or o [])
    by None g = tt
    by (Some vs) g = g

-- ---- the time

real_good : (v : Value) → IsSmall v → IsUtf8Value v → IsGood v
real_good v h u = record { small = h; utf8 = value_written_utf8 v u }

record AreGoodTimes (e : Environment) : Type 0 where
  date : AreGood (known_values values.Date (date_in e))
  time : AreGood (known_values values.Time (time_in e))
  date_time : AreGood (known_values values.DateTime (date_time_in e))

times_good : (e : Environment) → AllByRecursion IsRead (environment_edits e) → AreGoodTimes e
times_good environments.Empty h = record { date = tt; time = tt; date_time = tt }
times_good (environments.Day day) h =
    record { date = (real_good (values.Date day) tt h.0, tt); time = tt; date_time = tt }
times_good (environments.Moment moment) h = record {
  date = (real_good (values.Date moment.date) tt h.0.0, tt);
  time = (real_good (values.Time moment.time) tt h.0.1, tt);
  date_time = (real_good (values.DateTime moment) tt h.0, tt);
}

-- ---- names

names_utf8 : (list : Which) (names : List (List ℕ)) → AllByRecursion IsUtf8Edit (name_edits list names)
    → AllByRecursion IsUtf8 names
unfolding edit_data
names_utf8 list [] u = tt
names_utf8 list (name ∷ names) u = (u.0.2.1, names_utf8 list names u.1)

-- ---- a state

-- what a state looks up, and its names, read back
pub record IsGoodState (s : State) : Type 0 where
  pub looks : AreGoodLooks (looks_in s.held)
  pub people : AllByRecursion IsUtf8 s.names.people
  pub actions : AllByRecursion IsUtf8 s.names.actions
  pub resources : AllByRecursion IsUtf8 s.names.resources

-- a state that is made of edits that were read, of UTF-8 lines
pub good_state : (s : State) → AllByRecursion IsRead (rebuilding s) → AllByRecursion IsUtf8Edit (rebuilding s)
    → IsGoodState s
good_state s h u =
    let documents = all_parts IsRead (all_documents s.held.modules) _ h in
    let lines = all_parts IsUtf8Edit (all_documents s.held.modules) _ u in
    let rows = all_parts IsRead (all_rows s.held.sources) _ documents.1 in
    let others = all_parts IsUtf8Edit (all_rows s.held.sources) _ lines.1 in
    let environment = all_parts IsRead (environment_edits s.held.environment) _ rows.1 in
    let later = all_parts IsUtf8Edit (environment_edits s.held.environment) _ others.1 in
    let root = all_parts IsUtf8Edit (root_edits s.held.root) _ later.1 in
    let people = all_parts IsUtf8Edit (name_edits which.People s.names.people) _ root.1 in
    let actions = all_parts IsUtf8Edit (name_edits which.Actions s.names.actions) _ people.1 in
    let times = times_good s.held.environment environment.0 in
    record {
      looks = record {
        documents = λ r t is. first_good (most_recent_of_each r s.held.modules)
            (each_good r 0 s.held.modules documents.0 lines.0) t is;
        found = λ key. looked_good key s.held.sources (each_source 0 s.held.sources rows.0 others.0);
        date = times.date;
        time = times.time;
        date_time = times.date_time;
      };
      people = names_utf8 which.People s.names.people people.0;
      actions = names_utf8 which.Actions s.names.actions actions.0;
      resources = names_utf8 which.Resources s.names.resources actions.1;
    }

-- ---- a request of the table

abbrev AreGoodAttributes : List Attribute → Type 0
AreGoodAttributes = AllByRecursion (λ (a : Attribute). AreGood a.bag.values)

attributes_both : (cs : List Category) (id : List ℕ)
    → AllByRecursion (λ (c : Category). AreGoodAttributes c.attributes) cs → AreGoodAttributes (attributes_of id cs)
attributes_both [] id h = tt
attributes_both (c ∷ cs) id h =
    appended (attributes_in id c) (attributes_of id cs) (by (bytes_eq c.id id)) (attributes_both cs id h.1)
  where
    by : (b : Bool) → AreGoodAttributes (if b then c.attributes else [])
    by true = h.0
    by false = tt

    appended : (xs ys : List Attribute) → AreGoodAttributes xs → AreGoodAttributes ys → AreGoodAttributes (xs ++ ys)
    appended [] ys p q = q
    appended (x ∷ xs) ys p q = (p.0, appended xs ys p.1 q)

among_good : (d : Designator) (as_ : List Attribute) → AreGoodAttributes as_ → AreGood (values_among d as_)
among_good d [] h = tt
among_good d (a ∷ as_) h =
    good_both (values_in d a) (values_among d as_) (by (is_designated d a)) (among_good d as_ h.1)
  where
    by : (b : Bool) → AreGood (if b then a.bag.values else [])
    by true = h.0
    by false = tt

one_good : (text : List ℕ) → IsUtf8 text → AreGood (values.Text text ∷ [])
one_good text u = (text_is_good text u, tt)

pub listed_good : (person action resource : List ℕ) → IsUtf8 person → IsUtf8 action → IsUtf8 resource
    → IsGoodRequest (listed person action resource)
listed_good person action resource p a r d =
    among_good d (attributes_of d.category (listed person action resource).categories)
    (attributes_both (listed person action resource).categories d.category
    ((one_good person p, tt), ((one_good action a, tt), ((one_good resource r, tt), tt))))
