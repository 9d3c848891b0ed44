-- For which question a key is looked up, and of which listed requests.
use Rattle.std.proofs.Common.{◌≡◌, ℕ, Bool, true, false, ◌&&◌, List, [], ◌∷◌, ◌++◌, Option, Some, None, refl, sym, ap, subst, ◌∙◌}
use Rattle.std.specs.Prelude.{◌||◌, bytes_eq, if◌then◌else◌, is_none, option_and_then}
use Rattle.std.specs.BTreeSet.{insert_key}
use Rattle.std.specs.Cmp.{tied_itself}
use Rattle.std.specs.List.{AllByRecursion, flat_map, list_any}
use Rattle.std.specs.Ordering.{is_eq, match_ordering}
use Rattle.std.specs.declared.cmp.Ordering.{Ordering}
use Rattle.std.specs.declared.cmp.Ordering.TheVariants.{Less, Equal, Greater}
use Rattle.std.proofs.lemmas.List.Elements.{All-contains}
use Rattle.std.proofs.lemmas.List.Folds.{list_any-append, list_any_none}
use Rattle.std.proofs.lemmas.Slice.Eq.{bytes_eq-Decides}
use Rattle.ent_values.specs.Same.{same_type}
use Rattle.ent_values.specs.declared.datatype.DataType.{DataType}
use Rattle.ent_values.specs.declared.datatype.DataType.TheVariants as types
use Rattle.ent_values.specs.declared.value.Value.{Value}
use Rattle.ent_values.specs.declared.value.Value.TheVariants as value
use Rattle.ent_values.proofs.Values.{same_type-Decides}
use Rattle.ent_policy.specs.declared.document.Designator.{Designator}
use Rattle.ent_finder.specs.declared.row.AttrKey.{AttrKey}
use Rattle.ent_request.specs.contracts.key.ReadKeyOrd.TheImpl.Laws.{total-law}
use Rattle.ent_request.specs.declared.key.ReadKey.{ReadKey}
use Rattle.ent_request.specs.declared.key.ReadKey.TheVariants as key
use Rattle.ent_request.specs.declared.question.Asked.{Asked}
use Rattle.ent_request.specs.declared.question.Question.{Question}
use Rattle.ent_request.specs.declared.question.Question.TheVariants.{Root, Ref, Of}
use Rattle.ent_request.specs.declared.readers.NamePlace.TheVariants.{Person, Action, Resource}
use Rattle.ent_request.specs.declared.readers.Readers.TheVariants.{Named, Nobody}
use Rattle.ent_request.specs.declared.request.Request.{Request}
use Rattle.ent_request.specs.Listed.{listed}
use Rattle.ent_request.specs.Noted.{has_key, noted, read_cmp, with_key}
use Rattle.ent_request.specs.Own.{is_empty, own_values}
use Rattle.ent_request.specs.QuestionOf.{KeysAreOfOneQuestion, of_environment, question_of}
use Rattle.ent_request.specs.Questions.{same_question}
use Rattle.ent_request.specs.Readers.{KeysNameTheListed, ListedLookUps, is_own, is_reader, looks_up, readers_in}
use Rattle.ent_request.specs.Sources.{asks_for, designator_for, entity_keys, entity_of, id_attribute, key_for, keys_of, only_text, source_keys}
use Rattle.ent_request.specs.Uris as uris
use Rattle.ent_request.proofs.Keys.{read_cmp-IsAntisymmetric}
use Rattle.ent_request.proofs.Lists.{from_recursion}
use Rattle.ent_request.proofs.Sames.{question-Decides}

-- ---- Booleans

and_parts : (a b : Bool) → (a && b) ≡ true → (a ≡ true) × (b ≡ true)
and_parts true b h = (refl, h)
and_parts false b h = absurd (cc)

not_true : (b : Bool) → (b ≡ true → ⊥) → b ≡ false
not_true true h = absurd (h refl)
not_true false h = refl

none_of : {A : Type 0} (o : Option A) → is_none o ≡ true → o ≡ None
none_of None h = refl
none_of (Some x) h = absurd (cc)

-- ---- the question of a key

-- what asks for an attribute of the environment asks for nothing else
asks_it : (attribute : List ℕ) (type : DataType) (a : Asked) → asks_for attribute type (designator_for a) ≡ true → Of a ≡ of_environment attribute type
asks_it attribute type a h =
    let first = and_parts (bytes_eq a.category uris.environment) _ h in
    let second = and_parts (bytes_eq a.attribute attribute) _ first.1 in
    let third = and_parts (same_type a.datatype type) (is_none a.issuer) second.1 in
    let category : a.category ≡ uris.environment = (bytes_eq-Decides a.category uris.environment).0 first.0 in
    let asked : a.attribute ≡ attribute = (bytes_eq-Decides a.attribute attribute).0 second.0 in
    let datatype : a.datatype ≡ type = (same_type-Decides a.datatype type).0 third.0 in
    let issuer : a.issuer ≡ None = none_of a.issuer third.1 in
    λ i. Of (record { category = category i; attribute = asked i; datatype = datatype i; issuer = issuer i })

-- what holds of the date, the time, both together and the key of each entity holds of the keys for which an attribute is looked up
source_all : (P : ReadKey → Type 0) (request : Request) (d : Designator) → (asks_for uris.current_date types.Date d ≡ true → P key.CurrentDate) → (asks_for uris.current_time types.Time d ≡ true → P key.CurrentTime)
    → (asks_for uris.current_date_time types.DateTime d ≡ true → P key.CurrentDateTime) → ((entity : List ℕ) → entity_of request d.category ≡ Some entity → P (key.Attr (key_for d entity))) → AllByRecursion P (source_keys request d)
source_all P request d date time both entity = at (asks_for uris.current_date types.Date d) (asks_for uris.current_time types.Time d) (asks_for uris.current_date_time types.DateTime d) refl refl refl where
  of : (o : Option (List ℕ)) → entity_of request d.category ≡ o → AllByRecursion P (entity_keys d o)
  of None e = tt
  of (Some x) e = (entity x e, tt)

  at : (a b c : Bool) → asks_for uris.current_date types.Date d ≡ a → asks_for uris.current_time types.Time d ≡ b → asks_for uris.current_date_time types.DateTime d ≡ c
      → AllByRecursion P (if a then key.CurrentDate ∷ [] else (if b then key.CurrentTime ∷ [] else (if c then key.CurrentDateTime ∷ [] else entity_keys d (entity_of request d.category))))
  at true b c x y z = (date x, tt)
  at false true c x y z = (time y, tt)
  at false false true x y z = (both z, tt)
  at false false false x y z = of (entity_of request d.category) refl

keys_all : (P : ReadKey → Type 0) (request : Request) (a : Asked) → AllByRecursion P (source_keys request (designator_for a)) → AllByRecursion P (keys_of request (Of a))
keys_all P request a all = at (is_empty (own_values (designator_for a) request)) where
  at : (b : Bool) → AllByRecursion P (if b then source_keys request (designator_for a) else [])
  at true = all
  at false = tt

of_their_question : (request : Request) (question : Question) → AllByRecursion (λ k. question ≡ question_of k) (keys_of request question)
of_their_question request Root = (refl, tt)
of_their_question request (Ref reference) = (refl, tt)
of_their_question request (Of a) =
    keys_all (λ k. Of a ≡ question_of k) request a
    (source_all (λ k. Of a ≡ question_of k) request (designator_for a) (asks_it uris.current_date types.Date a) (asks_it uris.current_time types.Time a) (asks_it uris.current_date_time types.DateTime a) (λ entity e. refl))

pub of_one_question : KeysAreOfOneQuestion
of_one_question request question k there =
    All-contains (λ x. question ≡ question_of x) (keys_of request question) k (from_recursion (λ x. question ≡ question_of x) (keys_of request question) (of_their_question request question)) there

-- ---- the name in a key

abbrev NamesIts : Request → ReadKey → Type 0
NamesIts request k = (x : AttrKey) → k ≡ key.Attr x → entity_of request x.category ≡ Some x.entity

same_attr : (x y : AttrKey) → key.Attr x ≡ key.Attr y → x ≡ y
same_attr x y e = cc

named : (request : Request) (question : Question) → AllByRecursion (NamesIts request) (keys_of request question)
named request Root = (λ x e. absurd (cc), tt)
named request (Ref reference) = (λ x e. absurd (cc), tt)
named request (Of a) =
    keys_all (NamesIts request) request a
    (source_all (NamesIts request) request (designator_for a) (λ h x e. absurd (cc)) (λ h x e. absurd (cc)) (λ h x e. absurd (cc))
    (λ entity is x e. subst (λ y. entity_of request y.category ≡ Some y.entity) (same_attr (key_for (designator_for a) entity) x e) is))

pub name_theirs : KeysNameTheListed
name_theirs person action resource question k there =
    let request = listed person action resource in
    All-contains (NamesIts request) (keys_of request question) (key.Attr k) (from_recursion (NamesIts request) (keys_of request question) (named request question)) there k refl

-- ---- whether a key is among those that are noted

equal : (r : Ordering) → is_eq r ≡ true → r ≡ Equal
equal Less h = cc
equal Equal h = refl
equal Greater h = cc

same_key : (a b : ReadKey) → is_eq (read_cmp a b) ≡ true → a ≡ b
same_key a b h = read_cmp-IsAntisymmetric a b (equal _ h)

key_itself : (a b : ReadKey) → a ≡ b → is_eq (read_cmp a b) ≡ true
key_itself a b e = ap (λ x. is_eq (read_cmp x b)) e ∙ ap is_eq (tied_itself total-law b)

pub has_key-with : (keys : List ReadKey) (more k : ReadKey) → has_key (with_key keys more) k ≡ (is_eq (read_cmp k more) || has_key keys k)
has_key-with [] more k = refl
has_key-with (x ∷ xs) more k = at (read_cmp more x) refl (has_key-with xs more k) where
  turned : (a b c : Bool) → (a || (b || c)) ≡ (b || (a || c))
  turned true true c = refl
  turned true false c = refl
  turned false b c = refl

  again : (a b : Bool) → (a || b) ≡ (a || (a || b))
  again true b = refl
  again false b = refl

  at : (o : Ordering) → read_cmp more x ≡ o → has_key (insert_key read_cmp xs more) k ≡ (is_eq (read_cmp k more) || has_key xs k)
      → has_key (match_ordering o (more ∷ x ∷ xs) (x ∷ xs) (x ∷ insert_key read_cmp xs more)) k ≡ (is_eq (read_cmp k more) || (is_eq (read_cmp k x) || has_key xs k))
  at Less is later = refl
  at Equal is later = again (is_eq (read_cmp k x)) (has_key xs k) ∙ ap (λ y. is_eq (read_cmp k y) || (is_eq (read_cmp k x) || has_key xs k)) (sym (read_cmp-IsAntisymmetric more x is))
  at Greater is later = ap (λ b. is_eq (read_cmp k x) || b) later ∙ turned (is_eq (read_cmp k x)) (is_eq (read_cmp k more)) (has_key xs k)

pub has_key-noted : (keys more : List ReadKey) (k : ReadKey) → has_key (noted keys more) k ≡ (has_key more k || has_key keys k)
has_key-noted keys [] k = refl
has_key-noted keys (x ∷ more) k =
    has_key-noted (with_key keys x) more k ∙ ap (λ b. has_key more k || b) (has_key-with keys x k) ∙ turned (has_key more k) (is_eq (read_cmp k x)) (has_key keys k) where
      turned : (a b c : Bool) → (a || (b || c)) ≡ ((b || a) || c)
      turned true true c = refl
      turned true false c = refl
      turned false true c = refl
      turned false false c = refl

or_false : (b : Bool) → (b || false) ≡ b
or_false true = refl
or_false false = refl

any_flat : {A B : Type 0} (p : B → Bool) (f : A → List B) (xs : List A) → list_any p (flat_map f xs) ≡ list_any (λ x. list_any p (f x)) xs
any_flat p f [] = refl
any_flat p f (x ∷ xs) = list_any-append p (f x) (flat_map f xs) ∙ ap (λ b. list_any p (f x) || b) (any_flat p f xs)

any_same : {A : Type 0} (p q : A → Bool) → ((x : A) → p x ≡ q x) → (xs : List A) → list_any p xs ≡ list_any q xs
any_same p q same [] = refl
any_same p q same (x ∷ xs) = ap (λ b. b || list_any p xs) (same x) ∙ ap (λ b. q x || b) (any_same p q same xs)

any_both : {A : Type 0} (p : A → Bool) (b : Bool) (xs : List A) → list_any (λ x. p x && b) xs ≡ (list_any p xs && b)
any_both p b [] = refl
any_both p b (x ∷ xs) = ap (λ c. (p x && b) || c) (any_both p b xs) ∙ spread (p x) (list_any p xs) b where
  spread : (a c d : Bool) → ((a && d) || (c && d)) ≡ ((a || c) && d)
  spread true true true = refl
  spread true true false = refl
  spread true false true = refl
  spread true false false = refl
  spread false c d = refl

-- ---- of which listed requests a key is looked up for its question

module _ (person action resource : List ℕ) where
  abbrev request : Request
  request = listed person action resource

  -- a key of values with another entity is another key
  entity_tells : (k : AttrKey) (entity : List ℕ) → is_eq (read_cmp (key.Attr k) (key.Attr (record k { entity = entity }))) ≡ bytes_eq k.entity entity
  entity_tells k entity = by (is_eq (read_cmp (key.Attr k) (key.Attr (record k { entity = entity })))) (bytes_eq k.entity entity) refl refl where
    by : (a b : Bool) → is_eq (read_cmp (key.Attr k) (key.Attr (record k { entity = entity }))) ≡ a → bytes_eq k.entity entity ≡ b → a ≡ b
    by true true x y = refl
    by false false x y = refl
    by true false x y =
        let same : k ≡ record k { entity = entity } = same_attr k (record k { entity = entity }) (same_key (key.Attr k) (key.Attr (record k { entity = entity })) x) in
        let yes : bytes_eq k.entity entity ≡ true = (bytes_eq-Decides k.entity entity).1 (ap (λ z. z.entity) same) in
        absurd (cc)
    by false true x y =
        let same : k.entity ≡ entity = (bytes_eq-Decides k.entity entity).0 y in
        let yes : is_eq (read_cmp (key.Attr k) (key.Attr (record k { entity = entity }))) ≡ true = key_itself (key.Attr k) (key.Attr (record k { entity = entity })) (ap (λ e. key.Attr (record k { entity = e })) same) in
        absurd (cc)

  -- what is asked for a key of values
  abbrev asked_for : AttrKey → Asked
  asked_for k = record { category = k.category; attribute = k.attribute; datatype = k.datatype; issuer = k.issuer }

  abbrev Tells : AttrKey → Type 0
  Tells k = has_key (keys_of request (Of (asked_for k))) (key.Attr k) ≡ looks_up person action resource (key.Attr k)

  -- in a category whose id attribute a listed request has, and no other attribute
  its_name : (k : AttrKey) (b : Bool) (name : List ℕ) (v : Value) → own_values (designator_for (asked_for k)) request ≡ (if b then v ∷ [] else []) ++ [] → is_own k ≡ b
      → source_keys request (designator_for (asked_for k)) ≡ key.Attr (record k { entity = name }) ∷ [] → is_reader (readers_in k.category) k.entity person action resource ≡ bytes_eq k.entity name → Tells k
  its_name k b name v own is keys reader =
      ap (λ vs. has_key (if is_empty vs then source_keys request (designator_for (asked_for k)) else []) (key.Attr k)) own ∙ at b
      ∙ ap (λ c. is_reader (if c then Nobody else readers_in k.category) k.entity person action resource) (sym is) where
        at : (c : Bool) → has_key (if is_empty ((if c then v ∷ [] else []) ++ []) then source_keys request (designator_for (asked_for k)) else []) (key.Attr k)
            ≡ is_reader (if c then Nobody else readers_in k.category) k.entity person action resource
        at true = refl
        at false = ap (λ ks. has_key ks (key.Attr k)) keys ∙ or_false (is_eq (read_cmp (key.Attr k) (key.Attr (record k { entity = name })))) ∙ entity_tells k name ∙ sym reader

  -- the same key in a category
  abbrev in_category : AttrKey → List ℕ → AttrKey
  in_category k category = record k { category = category }

  of_person : (k : AttrKey) → Tells (in_category k uris.access_subject)
  of_person k = at k.issuer refl where
    at : (o : Option (List ℕ)) → k.issuer ≡ o → Tells (in_category k uris.access_subject)
    at None e =
        its_name (in_category k uris.access_subject) (bytes_eq uris.subject_id k.attribute && (same_type types.Text k.datatype && true)) person (value.Text person)
        (ap (λ i. own_values (designator_for (record { category = uris.access_subject; attribute = k.attribute; datatype = k.datatype; issuer = i })) request) e)
        (ap (λ i. bytes_eq uris.subject_id k.attribute && (same_type types.Text k.datatype && is_none i)) e) refl refl
    at (Some x) e =
        its_name (in_category k uris.access_subject) (bytes_eq uris.subject_id k.attribute && (same_type types.Text k.datatype && false)) person (value.Text person)
        (ap (λ i. own_values (designator_for (record { category = uris.access_subject; attribute = k.attribute; datatype = k.datatype; issuer = i })) request) e)
        (ap (λ i. bytes_eq uris.subject_id k.attribute && (same_type types.Text k.datatype && is_none i)) e) refl refl

  of_action : (k : AttrKey) → Tells (in_category k uris.action)
  of_action k = at k.issuer refl where
    at : (o : Option (List ℕ)) → k.issuer ≡ o → Tells (in_category k uris.action)
    at None e =
        its_name (in_category k uris.action) (bytes_eq uris.action_id k.attribute && (same_type types.Text k.datatype && true)) action (value.Text action)
        (ap (λ i. own_values (designator_for (record { category = uris.action; attribute = k.attribute; datatype = k.datatype; issuer = i })) request) e)
        (ap (λ i. bytes_eq uris.action_id k.attribute && (same_type types.Text k.datatype && is_none i)) e) refl refl
    at (Some x) e =
        its_name (in_category k uris.action) (bytes_eq uris.action_id k.attribute && (same_type types.Text k.datatype && false)) action (value.Text action)
        (ap (λ i. own_values (designator_for (record { category = uris.action; attribute = k.attribute; datatype = k.datatype; issuer = i })) request) e)
        (ap (λ i. bytes_eq uris.action_id k.attribute && (same_type types.Text k.datatype && is_none i)) e) refl refl

  of_resource : (k : AttrKey) → Tells (in_category k uris.resource)
  of_resource k = at k.issuer refl where
    at : (o : Option (List ℕ)) → k.issuer ≡ o → Tells (in_category k uris.resource)
    at None e =
        its_name (in_category k uris.resource) (bytes_eq uris.resource_id k.attribute && (same_type types.Text k.datatype && true)) resource (value.Text resource)
        (ap (λ i. own_values (designator_for (record { category = uris.resource; attribute = k.attribute; datatype = k.datatype; issuer = i })) request) e)
        (ap (λ i. bytes_eq uris.resource_id k.attribute && (same_type types.Text k.datatype && is_none i)) e) refl refl
    at (Some x) e =
        its_name (in_category k uris.resource) (bytes_eq uris.resource_id k.attribute && (same_type types.Text k.datatype && false)) resource (value.Text resource)
        (ap (λ i. own_values (designator_for (record { category = uris.resource; attribute = k.attribute; datatype = k.datatype; issuer = i })) request) e)
        (ap (λ i. bytes_eq uris.resource_id k.attribute && (same_type types.Text k.datatype && is_none i)) e) refl refl

  -- a key is another one
  abbrev Apart : AttrKey → ReadKey → Type 0
  Apart k x = is_eq (read_cmp (key.Attr k) x) ≡ false

  -- in any other category
  of_others : (k : AttrKey) → readers_in k.category ≡ Nobody → id_attribute k.category ≡ None → Tells k
  of_others k nobody none = list_any_none (λ x. is_eq (read_cmp (key.Attr k) x)) (keys_of request (Of (asked_for k))) (from_recursion (Apart k) (keys_of request (Of (asked_for k))) apart) ∙ sym (at (is_own k)) where
    nothing : (o : Option (List ℕ)) (entity : List ℕ) → o ≡ None → o ≡ Some entity → ⊥
    nothing o entity a b = absurd (cc)

    entity_none : entity_of request k.category ≡ None
    entity_none = ap (option_and_then (only_text request k.category)) none

    apart : AllByRecursion (Apart k) (keys_of request (Of (asked_for k)))
    apart =
        keys_all (Apart k) request (asked_for k)
        (source_all (Apart k) request (designator_for (asked_for k)) (λ h. refl) (λ h. refl) (λ h. refl) (λ entity e. absurd (nothing (entity_of request k.category) entity entity_none e)))

    at : (b : Bool) → is_reader (if b then Nobody else readers_in k.category) k.entity person action resource ≡ false
    at true = refl
    at false = ap (λ o. is_reader o k.entity person action resource) nobody

  of_values : (k : AttrKey) → Tells k
  of_values k = at (bytes_eq k.category uris.access_subject) (bytes_eq k.category uris.resource) (bytes_eq k.category uris.action) refl refl refl where
    here : (category : List ℕ) → k.category ≡ category → Tells (in_category k category) → Tells k
    here category is there = subst (λ c. Tells (in_category k c)) (sym is) there

    others : (a b c : Bool) → bytes_eq k.category uris.access_subject ≡ a → bytes_eq k.category uris.resource ≡ b → bytes_eq k.category uris.action ≡ c
        → (readers_in k.category ≡ (if a then Named Person else (if b then Named Resource else (if c then Named Action else Nobody))))
        × (id_attribute k.category ≡ (if a then Some uris.subject_id else (if b then Some uris.resource_id else (if c then Some uris.action_id else None))))
    others a b c x y z = (
      λ i. if x i then Named Person else (if y i then Named Resource else (if z i then Named Action else Nobody)),
      λ i. if x i then Some uris.subject_id else (if y i then Some uris.resource_id else (if z i then Some uris.action_id else None)),
    )

    at : (a b c : Bool) → bytes_eq k.category uris.access_subject ≡ a → bytes_eq k.category uris.resource ≡ b → bytes_eq k.category uris.action ≡ c → Tells k
    at true b c x y z = here uris.access_subject ((bytes_eq-Decides k.category uris.access_subject).0 x) (of_person k)
    at false true c x y z = here uris.resource ((bytes_eq-Decides k.category uris.resource).0 y) (of_resource k)
    at false false true x y z = here uris.action ((bytes_eq-Decides k.category uris.action).0 z) (of_action k)
    at false false false x y z = let o = others false false false x y z in of_others k o.0 o.1

  its_question : (k : ReadKey) → has_key (keys_of request (question_of k)) k ≡ looks_up person action resource k
  its_question key.Root = ap (λ b. b || false) (key_itself key.Root key.Root refl)
  its_question (key.Ref reference) = ap (λ b. b || false) (key_itself (key.Ref reference) (key.Ref reference) refl)
  its_question (key.Attr k) = of_values k
  its_question key.CurrentDate = ap (λ b. b || false) (key_itself key.CurrentDate key.CurrentDate refl)
  its_question key.CurrentTime = ap (λ b. b || false) (key_itself key.CurrentTime key.CurrentTime refl)
  its_question key.CurrentDateTime = ap (λ b. b || false) (key_itself key.CurrentDateTime key.CurrentDateTime refl)

  has_all : (P : ReadKey → Type 0) (keys : List ReadKey) (k : ReadKey) → AllByRecursion P keys → has_key keys k ≡ true → P k
  has_all P [] k all h = absurd (cc)
  has_all P (x ∷ xs) k all h = at (is_eq (read_cmp k x)) refl h (has_all P xs k all.1) where
    at : (b : Bool) → is_eq (read_cmp k x) ≡ b → (b || has_key xs k) ≡ true → (has_key xs k ≡ true → P k) → P k
    at true is h later = subst P (sym (same_key k x is)) all.0
    at false is h later = later h

  one_question : (k : ReadKey) (q : Question) → has_key (keys_of request q) k ≡ (same_question (question_of k) q && looks_up person action resource k)
  one_question k q = by (same_question (question_of k) q) refl where
    by : (b : Bool) → same_question (question_of k) q ≡ b → has_key (keys_of request q) k ≡ (b && looks_up person action resource k)
    by true e = ap (λ x. has_key (keys_of request x) k) (sym ((question-Decides (question_of k) q).0 e)) ∙ its_question k
    by false e = not_true (has_key (keys_of request q) k) (λ h. apart (has_all (λ x. q ≡ question_of x) (keys_of request q) k (of_their_question request q) h)) where
      apart : q ≡ question_of k → ⊥
      apart same =
          let yes : same_question (question_of k) q ≡ true = (question-Decides (question_of k) q).1 (sym same) in
          absurd (cc)

pub listed_look_ups : ListedLookUps
listed_look_ups person action resource questions k =
    let request = listed person action resource in
    let p : ReadKey → Bool = λ x. is_eq (read_cmp k x) in
    has_key-noted [] (flat_map (keys_of request) questions) k ∙ or_false (has_key (flat_map (keys_of request) questions) k) ∙ any_flat p (keys_of request) questions
    ∙ any_same (λ q. has_key (keys_of request q) k) (λ q. same_question (question_of k) q && looks_up person action resource k) (one_question person action resource k) questions
    ∙ any_both (same_question (question_of k)) (looks_up person action resource k) questions
