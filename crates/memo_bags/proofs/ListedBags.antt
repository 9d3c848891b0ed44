-- What questions find for listed requests: what those about a name find rests on it alone, and the others find the same for each.
use Rattle.std.proofs.Common.{◌≡◌, ℕ, Bool, true, false, ◌&&◌, List, [], ◌∷◌, ◌++◌, Option, Some, None, slice_get, refl, sym, ap, subst, ◌∙◌}
use Rattle.std.specs.Prelude.{bytes_eq, if◌then◌else◌, is_none, option_and_then}
use Rattle.std.proofs.lemmas.Slice.Eq.{bytes_eq-Decides}
use Rattle.ent_values.specs.Bags.{Contents}
use Rattle.ent_values.specs.Same.{same_type}
use Rattle.ent_values.specs.declared.datatype.DataType.TheVariants as types
use Rattle.ent_values.specs.declared.value.Value.{Value}
use Rattle.ent_values.specs.declared.value.Value.TheVariants as value
use Rattle.ent_request.specs.declared.question.Asked.{Asked}
use Rattle.ent_request.specs.declared.question.Question.{Question}
use Rattle.ent_request.specs.declared.question.Question.TheVariants.{Root, Ref, Of}
use Rattle.ent_request.specs.declared.readers.NamePlace.{NamePlace}
use Rattle.ent_request.specs.declared.readers.NamePlace.TheVariants.{Person, Action, Resource}
use Rattle.ent_request.specs.declared.request.Request.{Request}
use Rattle.ent_walk.specs.Law.{FindsSame}
use Rattle.ent_request.specs.Listed.{about, listed, named}
use Rattle.ent_request.specs.Looks.{Looks}
use Rattle.memo_bags.specs.Found.{IsAtTime, IsAttribute, bag_for, bag_in, place_in, place_of}
use Rattle.ent_request.specs.Own.{is_empty, own_values, values_among}
use Rattle.ent_request.specs.Readers.{is_own, name_at}
use Rattle.ent_request.specs.Sources.{asks_for, designator_for, entity_of, entity_values, id_attribute, key_for, known_values, only_text, source_values, values_of}
use Rattle.ent_request.specs.Uris as uris
use Rattle.memo_bags.specs.proofs_only.Ready.{FindsForName}
use Rattle.memo_bags.proofs.Growing.{some_same}

-- what the category of a question tells of its place
place_tells : (category : List ℕ) (x y z : Bool) → bytes_eq category uris.access_subject ≡ x → bytes_eq category uris.resource ≡ y → bytes_eq category uris.action ≡ z
    → place_in category ≡ (if x then Some Person else (if y then Some Resource else (if z then Some Action else None)))
place_tells category x y z p q r = λ i. if p i then Some Person else (if q i then Some Resource else (if r i then Some Action else None))

module _ (looks : Looks) (person action resource : List ℕ) where
  abbrev request : Request
  request = listed person action resource

  abbrev Tells : Asked → List ℕ → Type 0
  Tells a name = values_of looks request a ≡ (bag_in looks a name).values

  -- in a category whose id attribute a listed request has, and no other attribute
  its_name : (a : Asked) (b : Bool) (name : List ℕ) → own_values (designator_for a) request ≡ (if b then value.Text name ∷ [] else []) ++ [] → is_own (key_for (designator_for a) name) ≡ b
      → source_values looks request (designator_for a) ≡ looks.values (key_for (designator_for a) name) → Tells a name
  its_name a b name own is source =
      ap (λ vs. if is_empty vs then source_values looks request (designator_for a) else vs) own ∙ at b
      ∙ ap (λ c. if c then value.Text name ∷ [] else looks.values (key_for (designator_for a) name)) (sym is) where
        at : (c : Bool) → (if is_empty ((if c then value.Text name ∷ [] else []) ++ []) then source_values looks request (designator_for a) else ((if c then value.Text name ∷ [] else []) ++ []))
            ≡ (if c then value.Text name ∷ [] else looks.values (key_for (designator_for a) name))
        at true = refl
        at false = source

  -- the same question in a category
  abbrev in_category : Asked → List ℕ → Asked
  in_category a category = record a { category = category }

  of_person : (a : Asked) → Tells (in_category a uris.access_subject) person
  of_person a = at a.issuer refl where
    at : (o : Option (List ℕ)) → a.issuer ≡ o → Tells (in_category a uris.access_subject) person
    at None e =
        its_name (in_category a uris.access_subject) (bytes_eq uris.subject_id a.attribute && (same_type types.Text a.datatype && true)) person
        (ap (λ i. own_values (designator_for (record { category = uris.access_subject; attribute = a.attribute; datatype = a.datatype; issuer = i })) request) e)
        (ap (λ i. bytes_eq uris.subject_id a.attribute && (same_type types.Text a.datatype && is_none i)) e) refl
    at (Some x) e =
        its_name (in_category a uris.access_subject) (bytes_eq uris.subject_id a.attribute && (same_type types.Text a.datatype && false)) person
        (ap (λ i. own_values (designator_for (record { category = uris.access_subject; attribute = a.attribute; datatype = a.datatype; issuer = i })) request) e)
        (ap (λ i. bytes_eq uris.subject_id a.attribute && (same_type types.Text a.datatype && is_none i)) e) refl

  of_action : (a : Asked) → Tells (in_category a uris.action) action
  of_action a = at a.issuer refl where
    at : (o : Option (List ℕ)) → a.issuer ≡ o → Tells (in_category a uris.action) action
    at None e =
        its_name (in_category a uris.action) (bytes_eq uris.action_id a.attribute && (same_type types.Text a.datatype && true)) action
        (ap (λ i. own_values (designator_for (record { category = uris.action; attribute = a.attribute; datatype = a.datatype; issuer = i })) request) e)
        (ap (λ i. bytes_eq uris.action_id a.attribute && (same_type types.Text a.datatype && is_none i)) e) refl
    at (Some x) e =
        its_name (in_category a uris.action) (bytes_eq uris.action_id a.attribute && (same_type types.Text a.datatype && false)) action
        (ap (λ i. own_values (designator_for (record { category = uris.action; attribute = a.attribute; datatype = a.datatype; issuer = i })) request) e)
        (ap (λ i. bytes_eq uris.action_id a.attribute && (same_type types.Text a.datatype && is_none i)) e) refl

  of_resource : (a : Asked) → Tells (in_category a uris.resource) resource
  of_resource a = at a.issuer refl where
    at : (o : Option (List ℕ)) → a.issuer ≡ o → Tells (in_category a uris.resource) resource
    at None e =
        its_name (in_category a uris.resource) (bytes_eq uris.resource_id a.attribute && (same_type types.Text a.datatype && true)) resource
        (ap (λ i. own_values (designator_for (record { category = uris.resource; attribute = a.attribute; datatype = a.datatype; issuer = i })) request) e)
        (ap (λ i. bytes_eq uris.resource_id a.attribute && (same_type types.Text a.datatype && is_none i)) e) refl
    at (Some x) e =
        its_name (in_category a uris.resource) (bytes_eq uris.resource_id a.attribute && (same_type types.Text a.datatype && false)) resource
        (ap (λ i. own_values (designator_for (record { category = uris.resource; attribute = a.attribute; datatype = a.datatype; issuer = i })) request) e)
        (ap (λ i. bytes_eq uris.resource_id a.attribute && (same_type types.Text a.datatype && is_none i)) e) refl

  -- what a question about the name at a place finds is told by that name
  of_place : (a : Asked) (place : NamePlace) → place_in a.category ≡ Some place → Tells a (name_at place person action resource)
  of_place a place is = at (bytes_eq a.category uris.access_subject) (bytes_eq a.category uris.resource) (bytes_eq a.category uris.action) refl refl refl where
    here : (category : List ℕ) (p : NamePlace) → a.category ≡ category → place_in a.category ≡ Some p → Tells (in_category a category) (name_at p person action resource) → Tells a (name_at place person action resource)
    here category p same its there =
        subst (λ c. Tells (in_category a c) (name_at place person action resource)) (sym same)
        (subst (λ x. Tells (in_category a category) (name_at x person action resource)) (some_same p place (sym its ∙ is)) there)

    nowhere : None ≡ Some place → ⊥
    nowhere e = absurd (cc)

    at : (x y z : Bool) → bytes_eq a.category uris.access_subject ≡ x → bytes_eq a.category uris.resource ≡ y → bytes_eq a.category uris.action ≡ z → Tells a (name_at place person action resource)
    at true y z p q r = here uris.access_subject Person ((bytes_eq-Decides a.category uris.access_subject).0 p) (place_tells a.category true y z p q r) (of_person a)
    at false true z p q r = here uris.resource Resource ((bytes_eq-Decides a.category uris.resource).0 q) (place_tells a.category false true z p q r) (of_resource a)
    at false false true p q r = here uris.action Action ((bytes_eq-Decides a.category uris.action).0 r) (place_tells a.category false false true p q r) (of_action a)
    at false false false p q r = absurd (nowhere (sym (place_tells a.category false false false p q r) ∙ is))

  -- what one that is about no name finds is told by the look-ups
  abbrev elsewhere : Asked → List Value
  elsewhere a =
      let d = designator_for a in
      if asks_for uris.current_date types.Date d then known_values value.Date looks.date
      else (if asks_for uris.current_time types.Time d then known_values value.Time looks.time
      else (if asks_for uris.current_date_time types.DateTime d then known_values value.DateTime looks.date_time
      else []))

  other_category : (category other : List ℕ) → bytes_eq category other ≡ false → bytes_eq other category ≡ false
  other_category category other differs = by (bytes_eq other category) refl where
    by : (b : Bool) → bytes_eq other category ≡ b → b ≡ false
    by false e = refl
    by true e =
        let yes : bytes_eq category other ≡ true = (bytes_eq-Decides category other).1 (sym ((bytes_eq-Decides other category).0 e)) in
        absurd (cc)

  of_none : (a : Asked) → place_in a.category ≡ None → values_of looks request a ≡ elsewhere a
  of_none a is = at (bytes_eq a.category uris.access_subject) (bytes_eq a.category uris.resource) (bytes_eq a.category uris.action) refl refl refl where
    somewhere : {p : NamePlace} → Some p ≡ None → ⊥
    somewhere e = absurd (cc)

    at : (x y z : Bool) → bytes_eq a.category uris.access_subject ≡ x → bytes_eq a.category uris.resource ≡ y → bytes_eq a.category uris.action ≡ z → values_of looks request a ≡ elsewhere a
    at true y z p q r = absurd (somewhere (sym (place_tells a.category true y z p q r) ∙ is))
    at false true z p q r = absurd (somewhere (sym (place_tells a.category false true z p q r) ∙ is))
    at false false true p q r = absurd (somewhere (sym (place_tells a.category false false true p q r) ∙ is))
    at false false false p q r =
        let d = designator_for a in
        let people : bytes_eq uris.access_subject a.category ≡ false = other_category a.category uris.access_subject p in
        let resources : bytes_eq uris.resource a.category ≡ false = other_category a.category uris.resource q in
        let actions : bytes_eq uris.action a.category ≡ false = other_category a.category uris.action r in
        let own : own_values d request ≡ [] = λ i. values_among d
        ((if people i then (named uris.access_subject uris.subject_id person).attributes else [])
        ++ ((if actions i then (named uris.action uris.action_id action).attributes else []) ++ ((if resources i then (about resource).attributes else []) ++ []))) in
        let id : id_attribute a.category ≡ None = λ i. if p i then Some uris.subject_id else (if q i then Some uris.resource_id else (if r i then Some uris.action_id else None)) in
        let entity : entity_of request a.category ≡ None = ap (option_and_then (only_text request a.category)) id in
        ap (λ vs. if is_empty vs then source_values looks request d else vs) own
        ∙ ap (λ o. if asks_for uris.current_date types.Date d then known_values value.Date looks.date
        else (if asks_for uris.current_time types.Time d then known_values value.Time looks.time
        else (if asks_for uris.current_date_time types.DateTime d then known_values value.DateTime looks.date_time
        else entity_values looks d o))) entity

-- what is found for a name is found for each listed request with it
pub found_for : (looks : Looks) (questions : List Question) (bags : List Contents) (place : NamePlace) (name : List ℕ) (n k : ℕ) (a : Asked) → slice_get questions n ≡ Some (Of a) → place_in a.category ≡ Some place
    → slice_get bags k ≡ Some (bag_in looks a name) → FindsForName looks questions bags place name n k
found_for looks questions bags place name n k a at is there person action resource same =
    let values : values_of looks (listed person action resource) a ≡ (bag_in looks a name).values = of_place looks person action resource a place is ∙ ap (λ x. (bag_in looks a x).values) same in
    let made : List Value → Contents = λ vs. record { datatype = a.datatype; values = vs } in
    (Of a, (at, there ∙ ap (λ vs. Some (made vs)) (sym values)))

-- where a question is about no name, it finds the same for each
pub none_same : (looks : Looks) (person action resource someone something somewhere : List ℕ) (x : Question) → place_of x ≡ None
    → FindsSame looks (listed person action resource) looks (listed someone something somewhere) x
none_same looks person action resource someone something somewhere Root is = refl
none_same looks person action resource someone something somewhere (Ref reference) is = refl
none_same looks person action resource someone something somewhere (Of a) is = of_none looks person action resource a is ∙ sym (of_none looks someone something somewhere a is)

-- a question that finds equal bags finds the same
pub bags_same : (looks : Looks) (q r : Request) (x : Question) → bag_for looks q x ≡ bag_for looks r x → FindsSame looks q looks r x
bags_same looks q r Root same = refl
bags_same looks q r (Ref reference) same = refl
bags_same looks q r (Of a) same = ap (λ (b : Contents). b.values) same

-- where it asks for an attribute, it finds the same whatever else is held, at the same time
pub none_alike : (s t : Looks) → IsAtTime s t → (person action resource someone something somewhere : List ℕ) (x : Question) → place_of x ≡ None → IsAttribute x
    → FindsSame s (listed person action resource) t (listed someone something somewhere) x
none_alike s t time person action resource someone something somewhere Root is attribute = absurd attribute
none_alike s t time person action resource someone something somewhere (Ref reference) is attribute = absurd attribute
none_alike s t time person action resource someone something somewhere (Of a) is attribute =
    let d = designator_for a in
    let same : elsewhere t someone something somewhere a ≡ elsewhere s person action resource a = λ i.
    if asks_for uris.current_date types.Date d then known_values value.Date (time.0 i)
    else (if asks_for uris.current_time types.Time d then known_values value.Time (time.1.0 i)
    else (if asks_for uris.current_date_time types.DateTime d then known_values value.DateTime (time.1.1 i)
    else [])) in
    of_none s person action resource a is ∙ sym same ∙ sym (of_none t someone something somewhere a is)

-- and so does one that finds equal bags
pub bags_alike : (s t : Looks) (q r : Request) (x : Question) → IsAttribute x → bag_for s q x ≡ bag_for t r x → FindsSame s q t r x
bags_alike s t q r Root attribute same = absurd attribute
bags_alike s t q r (Ref reference) attribute same = absurd attribute
bags_alike s t q r (Of a) attribute same = ap (λ (b : Contents). b.values) same
