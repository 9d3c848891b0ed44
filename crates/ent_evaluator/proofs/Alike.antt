-- A request that has the values of a listed one is answered as that.
use Rattle.std.proofs.Common.{◌≡◌, ℕ, Bool, true, false, ◌&&◌, List, [], ◌∷◌, ◌++◌, Option, Some, None, refl, sym, ap, subst, ◌∙◌}
use Rattle.std.specs.Prelude.{bytes_eq, if◌then◌else◌, is_none, option_and_then}
use Rattle.std.specs.List.{AllByRecursion, flat_map}
use Rattle.std.proofs.lemmas.Option.{none-some, same_Some}
use Rattle.std.proofs.lemmas.Slice.Eq.{bytes_eq-Decides}
use Rattle.ent_values.specs.Same.{same_type}
use Rattle.ent_values.specs.declared.datatype.DataType.TheVariants as types
use Rattle.ent_values.specs.declared.value.Value.{Value}
use Rattle.ent_values.specs.declared.value.Value.TheVariants as value
use Rattle.ent_values.proofs.Values.{same_type-Decides}
use Rattle.ent_policy.specs.declared.document.Designator.{Designator}
use Rattle.ent_request.specs.declared.question.Asked.{Asked}
use Rattle.ent_request.specs.declared.question.Question.{Question}
use Rattle.ent_request.specs.declared.question.Question.TheVariants as question
use Rattle.ent_request.specs.declared.request.Attribute.{Attribute}
use Rattle.ent_request.specs.declared.request.Category.{Category}
use Rattle.ent_request.specs.declared.request.Request.{Request}
use Rattle.ent_request.specs.Listed.{listed, named}
use Rattle.ent_request.specs.Looks.{Looks}
use Rattle.ent_request.specs.Own.{has_issuer, is_empty, sole_value, values_in}
use Rattle.ent_request.specs.Sources.{asks_for, designator_for, entity_values, id_attribute, known_values, text_of, values_of}
use Rattle.ent_request.specs.Uris as uris
use Rattle.ent_request.specs.proofs_only.Sought.{values_of as values_by}
use Rattle.ent_request.proofs.Apart.{of_categories}
use Rattle.ent_request.proofs.Lists.{from_recursion}
use Rattle.ent_walk.specs.Answer.{answer, asked}
use Rattle.ent_walk.specs.Law.{FindsSame}
use Rattle.ent_walk.proofs.AnswersRest.{findings-rest}
use Rattle.ent_eval.specs.declared.who.Who.{Who}
use Rattle.ent_evaluator.specs.proofs_only.Named.{HasValuesOf, names_in, of_three, sole_text, text_alone, text_in}
use Rattle.ent_evaluator.specs.proofs_only.Named.{text_of as text_of_id}

-- ---- a request that has the values of another finds what that finds

module _ (looks : Looks) (q r : Request) (same : HasValuesOf q r) where
  -- the same is found for what is asked
  finds_values : (a : Asked) → values_of looks q a ≡ values_of looks r a
  finds_values a =
      let d = designator_for a in
      λ i. if is_empty (same d i) then
      (if asks_for uris.current_date types.Date d then known_values value.Date looks.date
      else (if asks_for uris.current_time types.Time d then known_values value.Time looks.time
      else (if asks_for uris.current_date_time types.DateTime d then known_values value.DateTime looks.date_time
      else entity_values looks d (option_and_then (λ (attribute : List ℕ). option_and_then text_of (sole_value
      (same (record { category = d.category; attribute = attribute; datatype = types.Text; issuer = None; must_be_present = false }) i)))
      (id_attribute d.category)))))
      else same d i

  finds : (x : Question) → FindsSame looks q looks r x
  finds question.Root = refl
  finds (question.Ref reference) = refl
  finds (question.Of a) = finds_values a

  all_find : (xs : List Question) → AllByRecursion (FindsSame looks q looks r) xs
  all_find [] = tt
  all_find (x ∷ xs) = (finds x, all_find xs)

  pub answered_alike : answer looks r ≡ answer looks q
  answered_alike = (findings-rest looks looks q r (from_recursion (FindsSame looks q looks r) (asked looks q) (all_find (asked looks q)))).0

-- ---- a request of three ids alone has the values of the listed one

both : (a b : Bool) → (a && b) ≡ true → (a ≡ true) × (b ≡ true)
both true b h = (refl, h)
both false b h = absurd (cc)

where_so : {A : Type 0} (b : Bool) (o : Option A) (x : A) → (if b then o else None) ≡ Some x → (b ≡ true) × (o ≡ Some x)
where_so true o x h = (refl, h)
where_so false o x h = absurd (none-some x h)

nothing : {A : Type 0} (o : Option A) → is_none o ≡ true → o ≡ None
nothing None h = refl
nothing (Some x) h = absurd (cc)

one_text : (vs : List Value) (text : List ℕ) → sole_text vs ≡ Some text → vs ≡ value.Text text ∷ []
one_text [] text h = absurd (none-some text h)
one_text (value.Text t ∷ []) text h = ap (λ (x : List ℕ). value.Text x ∷ []) (same_Some t text h)
one_text (value.Boolean x ∷ []) text h = absurd (none-some text h)
one_text (value.Integer x ∷ []) text h = absurd (none-some text h)
one_text (value.Date x ∷ []) text h = absurd (none-some text h)
one_text (value.AnyUri x ∷ []) text h = absurd (none-some text h)
one_text (value.YearMonth x ∷ []) text h = absurd (none-some text h)
one_text (value.Time x ∷ []) text h = absurd (none-some text h)
one_text (value.DateTime x ∷ []) text h = absurd (none-some text h)
one_text (value.Text t ∷ w ∷ vs) text h = absurd (none-some text h)
one_text (value.Boolean x ∷ w ∷ vs) text h = absurd (none-some text h)
one_text (value.Integer x ∷ w ∷ vs) text h = absurd (none-some text h)
one_text (value.Date x ∷ w ∷ vs) text h = absurd (none-some text h)
one_text (value.AnyUri x ∷ w ∷ vs) text h = absurd (none-some text h)
one_text (value.YearMonth x ∷ w ∷ vs) text h = absurd (none-some text h)
one_text (value.Time x ∷ w ∷ vs) text h = absurd (none-some text h)
one_text (value.DateTime x ∷ w ∷ vs) text h = absurd (none-some text h)

-- the attribute of a category that is named so
abbrev attribute_of : List ℕ → List ℕ → Attribute
attribute_of id text = record { id = id; issuer = None; bag = record { datatype = types.Text; values = value.Text text ∷ [] }; included = false }

-- an attribute of that text alone has its values, whether it is to stand in the result or not
alone_attribute : (id text : List ℕ) (a : Attribute) (d : Designator) → text_of_id id a ≡ Some text → values_in d a ≡ values_in d (attribute_of id text)
alone_attribute id text a d h =
    let so = where_so ((bytes_eq a.id id && is_none a.issuer) && same_type a.bag.datatype types.Text) (sole_text a.bag.values) text h in
    let tests = both (bytes_eq a.id id && is_none a.issuer) (same_type a.bag.datatype types.Text) so.0 in
    let first = both (bytes_eq a.id id) (is_none a.issuer) tests.0 in
    let the_id : a.id ≡ id = (bytes_eq-Decides a.id id).0 first.0 in
    let the_issuer : a.issuer ≡ None = nothing a.issuer first.1 in
    let the_type : a.bag.datatype ≡ types.Text = (same_type-Decides a.bag.datatype types.Text).0 tests.1 in
    let the_values : a.bag.values ≡ value.Text text ∷ [] = one_text a.bag.values text so.1 in
    λ i. if bytes_eq (the_id i) d.attribute && (same_type (the_type i) d.datatype && has_issuer d.issuer (the_issuer i)) then the_values i else []

-- so has the list of it
alone_attributes : (id text : List ℕ) (as_ : List Attribute) (d : Designator) (b : Bool) → text_in id as_ ≡ Some text
    → flat_map (values_in d) (if b then as_ else []) ≡ flat_map (values_in d) (if b then attribute_of id text ∷ [] else [])
alone_attributes id text [] d b h = absurd (none-some text h)
alone_attributes id text (a ∷ []) d true h = ap (λ (vs : List Value). vs ++ []) (alone_attribute id text a d h)
alone_attributes id text (a ∷ []) d false h = refl
alone_attributes id text (a ∷ a' ∷ as_) d b h = absurd (none-some text h)

-- and so has the category
alone_category : (id attribute text : List ℕ) → id_attribute id ≡ Some attribute → (c : Category) (d : Designator) → text_alone id c ≡ Some text
    → values_by d c ≡ values_by d (named id attribute text)
alone_category id attribute text is c d h =
    let h' : (if bytes_eq c.id id then text_in attribute c.attributes else None) ≡ Some text =
    subst (λ (o : Option (List ℕ)). option_and_then (λ (a : List ℕ). if bytes_eq c.id id then text_in a c.attributes else None) o ≡ Some text) is h in
    let so = where_so (bytes_eq c.id id) (text_in attribute c.attributes) text h' in
    let the_id : c.id ≡ id = (bytes_eq-Decides c.id id).0 so.0 in
    ap (λ (x : List ℕ). flat_map (values_in d) (if bytes_eq x d.category then c.attributes else [])) the_id
    ∙ alone_attributes attribute text c.attributes d (bytes_eq id d.category) so.1

module _ (q : Request) (s a r : Category) (are : s ∷ a ∷ r ∷ [] ≡ q.categories) where
  three_values : (person action resource : List ℕ) → text_alone uris.access_subject s ≡ Some person → text_alone uris.action a ≡ Some action → text_alone uris.resource r ≡ Some resource
      → HasValuesOf q (listed person action resource)
  three_values person action resource p o e d =
      let first = alone_category uris.access_subject uris.subject_id person refl s d p in
      let second = alone_category uris.action uris.action_id action refl a d o in
      let third = alone_category uris.resource uris.resource_id resource refl r d e in
      sym (of_categories d q (s ∷ a ∷ r ∷ []) are)
      ∙ (λ i. first i ++ (second i ++ (third i ++ [])))
      ∙ of_categories d (listed person action resource) (listed person action resource).categories refl

  of_names : (w : Who) (p o e : Option (List ℕ)) → text_alone uris.access_subject s ≡ p → text_alone uris.action a ≡ o → text_alone uris.resource r ≡ e
      → of_three p o e ≡ Some w → HasValuesOf q (listed w.person w.action w.resource)
  of_names w (Some person) (Some action) (Some resource) p o e h =
      subst (λ (x : Who). HasValuesOf q (listed x.person x.action x.resource)) (same_Some (record { person = person; action = action; resource = resource }) w h)
      (three_values person action resource p o e)
  of_names w None o e _ _ _ h = absurd (none-some w h)
  of_names w (Some person) None e _ _ _ h = absurd (none-some w h)
  of_names w (Some person) (Some action) None _ _ _ h = absurd (none-some w h)

has_names : (q : Request) (cs : List Category) (w : Who) → cs ≡ q.categories → names_in cs ≡ Some w → HasValuesOf q (listed w.person w.action w.resource)
has_names q [] w are h = absurd (none-some w h)
has_names q (s ∷ []) w are h = absurd (none-some w h)
has_names q (s ∷ a ∷ []) w are h = absurd (none-some w h)
has_names q (s ∷ a ∷ r ∷ []) w are h =
    of_names q s a r are w (text_alone uris.access_subject s) (text_alone uris.action a) (text_alone uris.resource r) refl refl refl h
has_names q (s ∷ a ∷ r ∷ c ∷ cs) w are h = absurd (none-some w h)

-- a request of three ids alone is answered as the listed one
pub listed_alike : (looks : Looks) (q : Request) (w : Who) → names_in q.categories ≡ Some w
    → answer looks (listed w.person w.action w.resource) ≡ answer looks q
listed_alike looks q w h = answered_alike looks q (listed w.person w.action w.resource) (has_names q q.categories w refl h)
