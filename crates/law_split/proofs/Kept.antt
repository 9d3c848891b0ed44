-- A part stays a part over an edit.
use Rattle.std.proofs.Common.{◌≡◌, ℕ, ◌+◌, List, [], ◌∷◌, ◌++◌, Bool, true, false, cond, Some, None, Result, Ok}
use Rattle.std.proofs.Common.{refl, sym, ap, ◌∙◌, append-nil}
use Rattle.std.specs.Prelude.{◌||◌, filter, nat_eq, not}
use Rattle.std.specs.Cmp.Lexicographic.{bytes_decides, pointwise}
use Rattle.std.proofs.lemmas.Bool.{false≢true}
use Rattle.std.proofs.lemmas.List.Elements.{filter-append}
use Rattle.ent_table.specs.declared.edit.Edit.{Edit}
use Rattle.ent_table.specs.declared.edit.Edit.TheVariants.{AddName, AddPolicy, DropName, ReplacePolicy, SetAttribute, SetDay, SetMoment, SetRoot, WithdrawPolicy}
use Rattle.ent_table.specs.declared.edit.EditFault.{EditFault}
use Rattle.ent_table.specs.declared.edit.EditFault.TheVariants.{AlreadyThere, BadValue, Limit, NotThere, Reserved, UnknownModule}
use Rattle.ent_table.specs.declared.edit.List.TheVariants.{Actions, People, Resources}
use Rattle.ent_request.specs.Held.{Held}
use Rattle.ent_table.specs.Names.{has_name, others, with_name, without_name}
use Rattle.ent_table.specs.State.{State}
use Rattle.ent_policy.specs.Key.{key_of}
use Rattle.ent_request.specs.Environment.{of_day, of_moment}
use Rattle.ent_table.specs.Step.{next, step, with_environment, with_policy, with_root, with_values}
use Rattle.law_rebuild.proofs.Kept.{allowed}
use Rattle.law_split.specs.Split.{IsPart, is_told}

-- ---- names that pass a test

module _ (own : List ℕ → Bool) (x : List ℕ) where
  same : (y : List ℕ) → pointwise nat_eq x y ≡ true → own x ≡ own y
  same y e = ap own ((bytes_decides x y).0 e)

  -- one of its own is there where it is among all
  pub own_there : own x ≡ true → (xs : List (List ℕ)) → has_name x (filter own xs) ≡ has_name x xs
  own_there h [] = refl
  own_there h (y ∷ xs) = by (own_there h xs) (own y) (pointwise nat_eq x y) refl refl
    where
      by : has_name x (filter own xs) ≡ has_name x xs → (a b : Bool) → own y ≡ a → pointwise nat_eq x y ≡ b
          → has_name x (cond a (y ∷ filter own xs) (filter own xs)) ≡ (b || has_name x xs)
      by rest true b e f = λ i. f i || rest i
      by rest false true e f = absurd (false≢true (sym e ∙ sym (same y f) ∙ h))
      by rest false false e f = rest

  -- put last
  pub own_added : own x ≡ true → (xs : List (List ℕ)) → filter own xs ++ x ∷ [] ≡ filter own (xs ++ x ∷ [])
  own_added h xs = sym (filter-append own xs (x ∷ []) ∙ (λ i. filter own xs ++ cond (h i) (x ∷ []) []))

  pub other_added : own x ≡ false → (xs : List (List ℕ)) → filter own xs ≡ filter own (xs ++ x ∷ [])
  other_added h xs = sym (filter-append own xs (x ∷ []) ∙ (λ i. filter own xs ++ cond (h i) (x ∷ []) []) ∙ append-nil (filter own xs))

  -- taken out
  pub own_dropped : (xs : List (List ℕ)) → others x (filter own xs) ≡ filter own (others x xs)
  own_dropped [] = refl
  own_dropped (y ∷ xs) = by (own_dropped xs) (own y) (not (pointwise nat_eq x y)) refl refl
    where
      by : others x (filter own xs) ≡ filter own (others x xs) → (a b : Bool) → own y ≡ a → not (pointwise nat_eq x y) ≡ b
          → others x (cond a (y ∷ filter own xs) (filter own xs)) ≡ filter own (cond b (y ∷ others x xs) (others x xs))
      by rest true true e f =
          (λ i. cond (f i) (y ∷ rest i) (rest i))
          ∙ sym (λ i. cond (e i) (y ∷ filter own (others x xs)) (filter own (others x xs)))
      by rest true false e f = λ i. cond (f i) (y ∷ rest i) (rest i)
      by rest false true e f = rest ∙ sym (λ i. cond (e i) (y ∷ filter own (others x xs)) (filter own (others x xs)))
      by rest false false e f = rest

  pub other_dropped : own x ≡ false → (xs : List (List ℕ)) → filter own xs ≡ filter own (others x xs)
  other_dropped h [] = refl
  other_dropped h (y ∷ xs) = by (other_dropped h xs) (own y) (pointwise nat_eq x y) refl refl
    where
      by : filter own xs ≡ filter own (others x xs) → (a b : Bool) → own y ≡ a → pointwise nat_eq x y ≡ b
          → cond a (y ∷ filter own xs) (filter own xs) ≡ filter own (cond (not b) (y ∷ others x xs) (others x xs))
      by rest true true e f = absurd (false≢true (sym h ∙ same y f ∙ e))
      by rest true false e f = ap (λ l. y ∷ l) rest ∙ sym (λ i. cond (e i) (y ∷ filter own (others x xs)) (filter own (others x xs)))
      by rest false true e f = rest
      by rest false false e f = rest ∙ sym (λ i. cond (e i) (y ∷ filter own (others x xs)) (filter own (others x xs)))

-- ---- what an edit that is accepted does

-- one thing is changed
abbrev pub effect : State → Edit → State
effect s (AddPolicy number d) = with_policy s number (key_of d) (Some d)
effect s (ReplacePolicy number d) = with_policy s number (key_of d) (Some d)
effect s (WithdrawPolicy number key) = with_policy s number key None
effect s (SetAttribute number key values) = with_values s number key values
effect s (AddName list name) = record s { names = with_name list name s.names }
effect s (DropName list name) = record s { names = without_name list name s.names }
effect s (SetRoot root) = with_root s root
effect s (SetDay day) = with_environment s (of_day day)
effect s (SetMoment moment) = with_environment s (of_moment moment)

ends : (u t : State) → ◌≡◌ {A = Result State EditFault} (Ok u) (Ok t) → t ≡ u
ends u t h = cc

pub effected : (s t : State) (e : Edit) → step s e ≡ Ok t → t ≡ next (effect s e)
effected s t (AddPolicy number d) h = ends _ t (allowed _ UnknownModule _ t (allowed _ Limit _ t (allowed _ AlreadyThere _ t h).1).1).1
effected s t (ReplacePolicy number d) h = ends _ t (allowed _ UnknownModule _ t (allowed _ Limit _ t (allowed _ NotThere _ t h).1).1).1
effected s t (WithdrawPolicy number key) h =
    ends _ t (allowed _ UnknownModule _ t (allowed _ BadValue _ t (allowed _ Limit _ t (allowed _ NotThere _ t h).1).1).1).1
effected s t (SetAttribute number key values) h =
    ends _ t (allowed _ UnknownModule _ t (allowed _ BadValue _ t (allowed _ Reserved _ t (allowed _ Limit _ t h).1).1).1).1
effected s t (AddName list name) h = ends _ t (allowed _ BadValue _ t (allowed _ Limit _ t (allowed _ AlreadyThere _ t h).1).1).1
effected s t (DropName list name) h = ends _ t (allowed _ Limit _ t (allowed _ NotThere _ t h).1).1
effected s t (SetRoot root) h = ends _ t (allowed _ Limit _ t h).1
effected s t (SetDay day) h = ends _ t (allowed _ Limit _ t h).1
effected s t (SetMoment moment) h = ends _ t (allowed _ Limit _ t h).1

-- ---- a part

module _ (own : List ℕ → Bool) (whole part : State) (is : IsPart own whole part) where
  -- what is held is another
  of_held : (f : Held → Held) → IsPart own (record whole { held = f whole.held }) (record part { held = f part.held })
  of_held f = record { held = ap f is.held; people = is.people; actions = is.actions; resources = is.resources }

  -- another list
  of_actions : (f : List (List ℕ) → List (List ℕ))
      → IsPart own (record whole { names = record whole.names { actions = f whole.names.actions } }) (record part { names = record part.names { actions = f part.names.actions } })
  of_actions f = record { held = is.held; people = is.people; actions = ap f is.actions; resources = is.resources }

  of_resources : (f : List (List ℕ) → List (List ℕ))
      → IsPart own (record whole { names = record whole.names { resources = f whole.names.resources } }) (record part { names = record part.names { resources = f part.names.resources } })
  of_resources f = record { held = is.held; people = is.people; actions = is.actions; resources = ap f is.resources }

  of_people : (xs ys : List (List ℕ)) → ys ≡ filter own xs
      → IsPart own (record whole { names = record whole.names { people = xs } }) (record part { names = record part.names { people = ys } })
  of_people xs ys h = record { held = is.held; people = h; actions = is.actions; resources = is.resources }

pub part_told : (own : List ℕ → Bool) (whole part : State) (e : Edit) → IsPart own whole part → is_told own e ≡ true → IsPart own (effect whole e) (effect part e)
part_told own whole part (AddPolicy number d) is h = of_held own whole part is (λ held. (with_policy (record whole { held = held }) number (key_of d) (Some d)).held)
part_told own whole part (ReplacePolicy number d) is h = of_held own whole part is (λ held. (with_policy (record whole { held = held }) number (key_of d) (Some d)).held)
part_told own whole part (WithdrawPolicy number key) is h = of_held own whole part is (λ held. (with_policy (record whole { held = held }) number key None).held)
part_told own whole part (SetAttribute number key values) is h = of_held own whole part is (λ held. (with_values (record whole { held = held }) number key values).held)
part_told own whole part (AddName People name) is h =
    of_people own whole part is _ _ (ap (λ xs. xs ++ name ∷ []) is.people ∙ own_added own name h whole.names.people)
part_told own whole part (AddName Actions name) is h = of_actions own whole part is (λ xs. xs ++ name ∷ [])
part_told own whole part (AddName Resources name) is h = of_resources own whole part is (λ xs. xs ++ name ∷ [])
part_told own whole part (DropName People name) is h =
    of_people own whole part is _ _ (ap (others name) is.people ∙ own_dropped own name whole.names.people)
part_told own whole part (DropName Actions name) is h = of_actions own whole part is (others name)
part_told own whole part (DropName Resources name) is h = of_resources own whole part is (others name)
part_told own whole part (SetRoot root) is h = of_held own whole part is (λ held. record held { root = root })
part_told own whole part (SetDay day) is h = of_held own whole part is (λ held. record held { environment = of_day day })
part_told own whole part (SetMoment moment) is h = of_held own whole part is (λ held. record held { environment = of_moment moment })

pub part_not_told : (own : List ℕ → Bool) (whole part : State) (e : Edit) → IsPart own whole part → is_told own e ≡ false → IsPart own (effect whole e) part
part_not_told own whole part (AddName People name) is h = of_people own whole part is _ _ (is.people ∙ other_added own name h whole.names.people)
part_not_told own whole part (DropName People name) is h = of_people own whole part is _ _ (is.people ∙ other_dropped own name h whole.names.people)
part_not_told own whole part (AddName Actions name) is h = absurd (false≢true (sym h))
part_not_told own whole part (AddName Resources name) is h = absurd (false≢true (sym h))
part_not_told own whole part (DropName Actions name) is h = absurd (false≢true (sym h))
part_not_told own whole part (DropName Resources name) is h = absurd (false≢true (sym h))
part_not_told own whole part (AddPolicy number d) is h = absurd (false≢true (sym h))
part_not_told own whole part (ReplacePolicy number d) is h = absurd (false≢true (sym h))
part_not_told own whole part (WithdrawPolicy number key) is h = absurd (false≢true (sym h))
part_not_told own whole part (SetAttribute number key values) is h = absurd (false≢true (sym h))
part_not_told own whole part (SetRoot root) is h = absurd (false≢true (sym h))
part_not_told own whole part (SetDay day) is h = absurd (false≢true (sym h))
part_not_told own whole part (SetMoment moment) is h = absurd (false≢true (sym h))
