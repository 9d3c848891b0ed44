-- No list gets a name twice.
use Rattle.std.proofs.Common.{◌≡◌, ℕ, Bool, true, false, List, [], ◌∷◌, ◌++◌, Result, Ok, refl, sym, subst}
use Rattle.std.specs.Prelude.{◌||◌, cond, filter, nat_eq, not}
use Rattle.std.specs.Cmp.Lexicographic.{bytes_decides, pointwise}
use Rattle.std.specs.List.{AllByRecursion, IsDistinct}
use Rattle.ent_table.specs.Doubles.{HasNoDoubles, NoNameIsTwice}
use Rattle.ent_table.specs.declared.edit.Edit.{Edit}
use Rattle.ent_table.specs.declared.edit.Edit.TheVariants.{AddPolicy, ReplacePolicy, WithdrawPolicy, SetAttribute, AddName, DropName, SetRoot, SetDay, SetMoment}
use Rattle.ent_table.specs.declared.edit.EditFault.{EditFault}
use Rattle.ent_table.specs.declared.edit.EditFault.TheVariants.{NotThere, AlreadyThere, Limit, BadValue, Reserved, UnknownModule}
use Rattle.ent_table.specs.declared.edit.List.{List as Which}
use Rattle.ent_table.specs.declared.edit.List.TheVariants as which
use Rattle.ent_table.specs.Names.{Names, has_name, list_of, others, with_list, with_name, without_name}
use Rattle.ent_table.specs.State.{State}
use Rattle.ent_table.specs.Step.{step, unless}

-- ---- one list

abbrev Distinct : List (List ℕ) → Type 0
Distinct = IsDistinct (pointwise nat_eq)

both_false : (a b : Bool) → (a || b) ≡ false → (a ≡ false) × (b ≡ false)
both_false true b h = cc
both_false false b h = (refl, h)

flipped : (x y : List ℕ) → pointwise nat_eq x y ≡ false → pointwise nat_eq y x ≡ false
flipped x y h = by (pointwise nat_eq y x) refl
  where
    by : (b : Bool) → pointwise nat_eq y x ≡ b → b ≡ false
    by true t = let same : pointwise nat_eq x y ≡ true = (bytes_decides x y).1 (sym ((bytes_decides y x).0 t)) in cc
    by false t = refl

all_push : {A : Type 0} (P : A → Type 0) (xs : List A) (x : A) → AllByRecursion P xs → P x → AllByRecursion P (xs ++ x ∷ [])
all_push P [] x h p = (p, tt)
all_push P (y ∷ xs) x h p = (h.0, all_push P xs x h.1 p)

-- with a new name put last
distinct_push : (xs : List (List ℕ)) (x : List ℕ) → Distinct xs → has_name x xs ≡ false → Distinct (xs ++ x ∷ [])
unfolding IsDistinct
distinct_push [] x h new = (tt, tt)
distinct_push (y ∷ xs) x h new =
    let parts = both_false (pointwise nat_eq x y) (has_name x xs) new in
    (all_push (λ z. pointwise nat_eq y z ≡ false) xs x h.0 (flipped x y parts.0), distinct_push xs x h.1 parts.1)

all_filter : {A : Type 0} (P : A → Type 0) (q : A → Bool) (xs : List A) → AllByRecursion P xs → AllByRecursion P (filter q xs)
all_filter P q [] h = tt
all_filter P q (x ∷ xs) h = by (q x) (all_filter P q xs h.1)
  where
    by : (b : Bool) → AllByRecursion P (filter q xs) → AllByRecursion P (cond b (x ∷ filter q xs) (filter q xs))
    by true rest = (h.0, rest)
    by false rest = rest

-- with some of its names
distinct_filter : (q : List ℕ → Bool) (xs : List (List ℕ)) → Distinct xs → Distinct (filter q xs)
unfolding IsDistinct
distinct_filter q [] h = tt
distinct_filter q (x ∷ xs) h = by (q x) (all_filter (λ z. pointwise nat_eq x z ≡ false) q xs h.0) (distinct_filter q xs h.1)
  where
    by : (b : Bool) → AllByRecursion (λ z. pointwise nat_eq x z ≡ false) (filter q xs) → Distinct (filter q xs)
        → Distinct (cond b (x ∷ filter q xs) (filter q xs))
    by true apart rest = (apart, rest)
    by false apart rest = rest

-- ---- the three lists

listed_once : (list : Which) (names : Names) → HasNoDoubles names → Distinct (list_of list names)
listed_once which.People names h = h.0
listed_once which.Actions names h = h.1
listed_once which.Resources names h = h.2

one_list : (list : Which) (xs : List (List ℕ)) (names : Names) → HasNoDoubles names → Distinct xs → HasNoDoubles (with_list list xs names)
one_list which.People xs names h d = (d, h.1, h.2)
one_list which.Actions xs names h d = (h.0, d, h.2)
one_list which.Resources xs names h d = (h.0, h.1, d)

name_more : (list : Which) (name : List ℕ) (names : Names)
    → HasNoDoubles names → has_name name (list_of list names) ≡ false → HasNoDoubles (with_name list name names)
name_more list name names h new =
    one_list list (list_of list names ++ name ∷ []) names h (distinct_push (list_of list names) name (listed_once list names h) new)

name_less : (list : Which) (name : List ℕ) (names : Names) → HasNoDoubles names → HasNoDoubles (without_name list name names)
name_less list name names h =
    one_list list (others name (list_of list names)) names h
    (distinct_filter (λ x. not (pointwise nat_eq name x)) (list_of list names) (listed_once list names h))

-- ---- an accepted edit

-- no test stood, and what follows is accepted
allowed : {t : State} (stands : Bool) (fault : EditFault) (rest : Result State EditFault) → unless stands fault rest ≡ Ok t → (stands ≡ false) × (rest ≡ Ok t)
allowed true fault rest h = cc
allowed false fault rest h = (refl, h)

-- of what is accepted at last the names are those
ends : {t : State} (u : State) → ◌≡◌ {A = Result State EditFault} (Ok u) (Ok t) → HasNoDoubles u.names → HasNoDoubles t.names
ends {t} u h d = let same : u ≡ t = cc in subst (λ (s : State). HasNoDoubles s.names) same d

step_keeps : (s t : State) (edit : Edit) → HasNoDoubles s.names → step s edit ≡ Ok t → HasNoDoubles t.names
step_keeps s t (AddPolicy number d) h e = ends _ (allowed _ UnknownModule _ (allowed _ Limit _ (allowed _ AlreadyThere _ e).1).1).1 h
step_keeps s t (ReplacePolicy number d) h e = ends _ (allowed _ UnknownModule _ (allowed _ Limit _ (allowed _ NotThere _ e).1).1).1 h
step_keeps s t (WithdrawPolicy number key) h e =
    ends _ (allowed _ UnknownModule _ (allowed _ BadValue _ (allowed _ Limit _ (allowed _ NotThere _ e).1).1).1).1 h
step_keeps s t (SetAttribute number key values) h e =
    ends _ (allowed _ UnknownModule _ (allowed _ BadValue _ (allowed _ Reserved _ (allowed _ Limit _ e).1).1).1).1 h
step_keeps s t (AddName list name) h e =
    let new = allowed (has_name name (list_of list s.names)) AlreadyThere _ e in
    ends _ (allowed _ BadValue _ (allowed _ Limit _ new.1).1).1 (name_more list name s.names h new.0)
step_keeps s t (DropName list name) h e = ends _ (allowed _ Limit _ (allowed _ NotThere _ e).1).1 (name_less list name s.names h)
step_keeps s t (SetRoot root) h e = ends _ (allowed _ Limit _ e).1 h
step_keeps s t (SetDay day) h e = ends _ (allowed _ Limit _ e).1 h
step_keeps s t (SetMoment moment) h e = ends _ (allowed _ Limit _ e).1 h

pub no_name_is_twice : NoNameIsTwice
unfolding IsDistinct
no_name_is_twice = (λ held limits. (tt, tt, tt), step_keeps)
