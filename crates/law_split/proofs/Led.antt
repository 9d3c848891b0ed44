-- A split stays one over a run of edits.
use Rattle.std.proofs.Common.{◌≡◌, ℕ, zero, suc, map, ◌<◌, List, [], ◌∷◌, length, Bool, true, false, cond, get_or, Some, Result, Ok, Err}
use Rattle.std.proofs.Common.{refl, sym, ap, subst, ◌∙◌, arith, inl, inr, ⊎_elim}
use Rattle.std.specs.Prelude.{◌⊎◌, filter, not, slice_get}
use Rattle.std.proofs.lemmas.Bool.{eq-eqb}
use Rattle.std.specs.Result.{result_unwrap_or}
use Rattle.std.proofs.lemmas.List.{length-map}
use Rattle.ent_table.specs.declared.edit.Edit.{Edit}
use Rattle.ent_table.specs.declared.edit.Edit.TheVariants.{AddName, AddPolicy, DropName, ReplacePolicy, SetAttribute, SetDay, SetMoment, SetRoot, WithdrawPolicy}
use Rattle.ent_table.specs.declared.edit.EditFault.{EditFault}
use Rattle.ent_table.specs.declared.edit.EditFault.TheVariants.{AlreadyThere, BadValue, Limit, NotThere, Reserved, UnknownModule}
use Rattle.ent_table.specs.declared.edit.List.{List as Which}
use Rattle.ent_table.specs.declared.edit.List.TheVariants.{Actions, People, Resources}
use Rattle.ent_request.specs.Held.{Held}
use Rattle.ent_table.specs.Names.{has_name, list_of}
use Rattle.ent_table.specs.State.{State, initial}
use Rattle.ent_policy.specs.Key.{key_of}
use Rattle.ent_table.specs.Doubles.{HasNoDoubles}
use Rattle.law_rebuild.specs.Rebuilding.{and_then, stepped}
use Rattle.ent_table.specs.Step.{is_module, is_source, module_holds, module_lacks, next, step, unless}
use Rattle.ent_table.proofs.Doubles.{no_name_is_twice}
use Rattle.law_rebuild.proofs.Kept.{allowed}
use Rattle.law_split.specs.Laws.{NewReviewsAreASplit, SplitsAreKept, WholesAccept}
use Rattle.law_split.specs.Split.{IsPart, is_of, is_told, told}
use Rattle.law_split.proofs.Kept.{effect, effected, own_there, part_not_told, part_told}

-- ---- one edit

-- what serials and limits are doesn't matter
pub kept : (own : List ℕ → Bool) (whole part w : State) (e : Edit) (b : Bool) (p : State) → IsPart own whole part → step whole e ≡ Ok w
    → is_told own e ≡ b → cond b (step part e) (Ok part) ≡ Ok p → IsPart own w p
kept own whole part w e true p is first h second =
    let now = part_told own whole part e is h in
    let a : w ≡ next (effect whole e) = effected whole w e first in
    let b : p ≡ next (effect part e) = effected part p e second in
    record {
      held = ap (λ (s : State). s.held) b ∙ now.held ∙ sym (ap (λ (s : State). s.held) a);
      people = ap (λ (s : State). s.names.people) b ∙ now.people ∙ sym (ap (λ (s : State). filter own s.names.people) a);
      actions = ap (λ (s : State). s.names.actions) b ∙ now.actions ∙ sym (ap (λ (s : State). s.names.actions) a);
      resources = ap (λ (s : State). s.names.resources) b ∙ now.resources ∙ sym (ap (λ (s : State). s.names.resources) a);
    }
kept own whole part w e false p is first h second =
    let now = part_not_told own whole part e is h in
    let a : w ≡ next (effect whole e) = effected whole w e first in
    let b : p ≡ part = cc in
    record {
      held = ap (λ (s : State). s.held) b ∙ now.held ∙ sym (ap (λ (s : State). s.held) a);
      people = ap (λ (s : State). s.names.people) b ∙ now.people ∙ sym (ap (λ (s : State). filter own s.names.people) a);
      actions = ap (λ (s : State). s.names.actions) b ∙ now.actions ∙ sym (ap (λ (s : State). s.names.actions) a);
      resources = ap (λ (s : State). s.names.resources) b ∙ now.resources ∙ sym (ap (λ (s : State). s.names.resources) a);
    }

-- ---- accepted by the whole

-- accepted as that state, or a limit is reached
abbrev pub IsTaken : Result State EditFault → State → Type 0
IsTaken r u = (r ≡ Ok u) ⊎ (r ≡ Err Limit)

past : (a : Bool) (x : EditFault) (r : Result State EditFault) (u : State) → a ≡ false → IsTaken r u → IsTaken (unless a x r) u
past a x r u e g = subst (λ b. IsTaken (unless b x r) u) (sym e) g

within : (a : Bool) (r : Result State EditFault) (u : State) → IsTaken r u → IsTaken (unless a Limit r) u
within true r u g = inr refl
within false r u g = g

-- a part that takes an edit
module _ (own : List ℕ → Bool) (whole part t : State) (is : IsPart own whole part) where
  alike : (test : Held → Bool) → test part.held ≡ false → test whole.held ≡ false
  alike test e = ap test (sym is.held) ∙ e

  -- a name is there in both, or in neither
  same_there : (list : Which) (name : List ℕ) → is_told own (AddName list name) ≡ true → has_name name (list_of list whole.names) ≡ has_name name (list_of list part.names)
  same_there People name h = sym (ap (has_name name) is.people ∙ own_there own name h whole.names.people)
  same_there Actions name h = sym (ap (has_name name) is.actions)
  same_there Resources name h = sym (ap (has_name name) is.resources)

  same_list : (list : Which) (name : List ℕ) → is_told own (DropName list name) ≡ true → is_told own (AddName list name) ≡ true
  same_list People name h = h
  same_list Actions name h = refl
  same_list Resources name h = refl

  pub taken : (e : Edit) → is_told own e ≡ true → step part e ≡ Ok t → IsTaken (step whole e) (next (effect whole e))
  taken (AddPolicy number d) h s =
      let a = allowed _ AlreadyThere _ t s in
      let b = allowed _ Limit _ t a.1 in
      let c = allowed _ UnknownModule _ t b.1 in
      past _ AlreadyThere _ _ (alike (λ held. module_holds (record whole { held = held }) number (key_of d)) a.0)
      (within _ _ _ (past _ UnknownModule _ _ (alike (λ held. not (is_module (record whole { held = held }) number)) c.0) (inl refl)))
  taken (ReplacePolicy number d) h s =
      let a = allowed _ NotThere _ t s in
      let b = allowed _ Limit _ t a.1 in
      let c = allowed _ UnknownModule _ t b.1 in
      past _ NotThere _ _ (alike (λ held. module_lacks (record whole { held = held }) number (key_of d)) a.0)
      (within _ _ _ (past _ UnknownModule _ _ (alike (λ held. not (is_module (record whole { held = held }) number)) c.0) (inl refl)))
  taken (WithdrawPolicy number key) h s =
      let a = allowed _ NotThere _ t s in
      let b = allowed _ Limit _ t a.1 in
      let c = allowed _ BadValue _ t b.1 in
      let d = allowed _ UnknownModule _ t c.1 in
      past _ NotThere _ _ (alike (λ held. module_lacks (record whole { held = held }) number key) a.0)
      (within _ _ _ (past _ BadValue _ _ c.0 (past _ UnknownModule _ _ (alike (λ held. not (is_module (record whole { held = held }) number)) d.0) (inl refl))))
  taken (SetAttribute number key values) h s =
      let a = allowed _ Limit _ t s in
      let b = allowed _ Reserved _ t a.1 in
      let c = allowed _ BadValue _ t b.1 in
      let d = allowed _ UnknownModule _ t c.1 in
      within _ _ _ (past _ Reserved _ _ b.0 (past _ BadValue _ _ c.0
      (past _ UnknownModule _ _ (alike (λ held. not (is_source (record whole { held = held }) number key.category)) d.0) (inl refl))))
  taken (AddName list name) h s =
      let a = allowed _ AlreadyThere _ t s in
      let b = allowed _ Limit _ t a.1 in
      let c = allowed _ BadValue _ t b.1 in
      past _ AlreadyThere _ _ (same_there list name h ∙ a.0) (within _ _ _ (past _ BadValue _ _ c.0 (inl refl)))
  taken (DropName list name) h s =
      let a = allowed _ NotThere _ t s in
      past _ NotThere _ _ (ap not (same_there list name (same_list list name h)) ∙ a.0) (within _ _ _ (inl refl))
  taken (SetRoot root) h s = within _ _ _ (inl refl)
  taken (SetDay day) h s = within _ _ _ (inl refl)
  taken (SetMoment moment) h s = within _ _ _ (inl refl)

-- ---- a run

-- what was accepted at first, and then
pub first_step : (r : Result State EditFault) (f : State → Result State EditFault) (p : State) → and_then r f ≡ Ok p → (u : State) × ((r ≡ Ok u) × (f u ≡ Ok p))
first_step (Ok u) f p h = (u, (refl, h))
first_step (Err fault) f p h = cc

-- a part is told an edit, or it isn't, and then the others
pub one_more : (own : List ℕ → Bool) (part p : State) (e : Edit) (es : List Edit) (b : Bool) → stepped part (cond b (e ∷ told own es) (told own es)) ≡ Ok p
    → (u : State) × ((cond b (step part e) (Ok part) ≡ Ok u) × (stepped u (told own es) ≡ Ok p))
one_more own part p e es true h = first_step (step part e) (λ t. stepped t (told own es)) p h
one_more own part p e es false h = (part, (refl, h))

pub kept_all : (own : List ℕ → Bool) (es : List Edit) (whole part w p : State) → IsPart own whole part
    → stepped whole es ≡ Ok w → stepped part (told own es) ≡ Ok p → IsPart own w p
kept_all own [] whole part w p is first second =
    let a : whole ≡ w = cc in
    let b : part ≡ p = cc in
    subst (λ (s : State). IsPart own s p) a (subst (λ (s : State). IsPart own whole s) b is)
kept_all own (e ∷ es) whole part w p is first second =
    let a = first_step (step whole e) (λ t. stepped t es) w first in
    let b = one_more own part p e es (is_told own e) second in
    kept_all own es a.0 b.0 w p (kept own whole part a.0 e (is_told own e) b.0 is a.1.0 refl b.1.0) a.1.1 b.1.1

-- a part behind an edit of the whole
abbrev pub behind : (List ℕ → Bool) → Edit → State → State
behind own e part = result_unwrap_or (cond (is_told own e) (step part e) (Ok part)) part

module _ (part_of : List ℕ → ℕ) (count : ℕ) (placed : (person : List ℕ) → part_of person < count) where
  -- a part that is told an edit
  listener : (e : Edit) → (n : ℕ) × ((n < count) × (is_told (is_of part_of n) e ≡ true))
  listener (AddName People name) = (part_of name, (placed name, eq-eqb (part_of name) (part_of name) refl))
  listener (DropName People name) = (part_of name, (placed name, eq-eqb (part_of name) (part_of name) refl))
  listener (AddName Actions name) = (0, (omega (arith, placed []), refl))
  listener (AddName Resources name) = (0, (omega (arith, placed []), refl))
  listener (DropName Actions name) = (0, (omega (arith, placed []), refl))
  listener (DropName Resources name) = (0, (omega (arith, placed []), refl))
  listener (AddPolicy number d) = (0, (omega (arith, placed []), refl))
  listener (ReplacePolicy number d) = (0, (omega (arith, placed []), refl))
  listener (WithdrawPolicy number key) = (0, (omega (arith, placed []), refl))
  listener (SetAttribute number key values) = (0, (omega (arith, placed []), refl))
  listener (SetRoot root) = (0, (omega (arith, placed []), refl))
  listener (SetDay day) = (0, (omega (arith, placed []), refl))
  listener (SetMoment moment) = (0, (omega (arith, placed []), refl))

  -- each of so many is a part
  abbrev pub ArePartsOf : State → (ℕ → State) → Type 0
  ArePartsOf whole parts = (n : ℕ) → n < count → IsPart (is_of part_of n) whole (parts n)

  -- each takes what it is told
  abbrev pub Take : List Edit → (ℕ → State) → (ℕ → State) → Type 0
  Take es starts ends = (n : ℕ) → n < count → stepped (starts n) (told (is_of part_of n) es) ≡ Ok (ends n)

  module _ (e : Edit) (es : List Edit) (whole : State) (starts ends : ℕ → State) (are : ArePartsOf whole starts) (take : Take (e ∷ es) starts ends) where
    pub first_taken : IsTaken (step whole e) (next (effect whole e))
    first_taken =
        let l = listener e in
        let own = is_of part_of l.0 in
        let heard : stepped (starts l.0) (e ∷ told own es) ≡ Ok (ends l.0) =
        ap (λ b. stepped (starts l.0) (cond b (e ∷ told own es) (told own es))) (sym l.1.1) ∙ take l.0 l.1.0 in
        let f = first_step (step (starts l.0) e) (λ t. stepped t (told own es)) (ends l.0) heard in
        taken own whole (starts l.0) f.0 (are l.0 l.1.0) e l.1.1 f.1.0

    pub others_taken : Take es (λ n. behind (is_of part_of n) e (starts n)) ends
    others_taken n below =
        let own = is_of part_of n in
        let o = one_more own (starts n) (ends n) e es (is_told own e) (take n below) in
        ap (λ r. stepped (result_unwrap_or r (starts n)) (told own es)) o.1.0 ∙ o.1.1

    pub parts_behind : step whole e ≡ Ok (next (effect whole e)) → ArePartsOf (next (effect whole e)) (λ n. behind (is_of part_of n) e (starts n))
    parts_behind first n below =
        let own = is_of part_of n in
        let o = one_more own (starts n) (ends n) e es (is_told own e) (take n below) in
        subst (λ (r : Result State EditFault). IsPart own (next (effect whole e)) (result_unwrap_or r (starts n))) (sym o.1.0)
        (kept own whole (starts n) (next (effect whole e)) e (is_told own e) o.0 (are n below) first refl o.1.0)

  pub taken_all : (es : List Edit) (whole : State) (starts ends : ℕ → State) → ArePartsOf whole starts → Take es starts ends
      → ((w : State) × (stepped whole es ≡ Ok w)) ⊎ (stepped whole es ≡ Err Limit)
  taken_all [] whole starts ends are take = inl (whole, refl)
  taken_all (e ∷ es) whole starts ends are take =
      by (λ first. taken_all es (next (effect whole e)) (λ n. behind (is_of part_of n) e (starts n)) ends
      (parts_behind e es whole starts ends are take first) (others_taken e es whole starts ends are take))
      (first_taken e es whole starts ends are take)
    where
      by : (step whole e ≡ Ok (next (effect whole e)) → ((w : State) × (stepped (next (effect whole e)) es ≡ Ok w)) ⊎ (stepped (next (effect whole e)) es ≡ Err Limit))
          → IsTaken (step whole e) (next (effect whole e)) → ((w : State) × (stepped whole (e ∷ es) ≡ Ok w)) ⊎ (stepped whole (e ∷ es) ≡ Err Limit)
      by later (inl first) = ⊎_elim
          (λ r. inl (r.0, ap (λ q. and_then q (λ t. stepped t es)) first ∙ r.1))
          (λ r. inr (ap (λ q. and_then q (λ t. stepped t es)) first ∙ r))
          (later first)
      by later (inr limit) = inr (ap (λ q. and_then q (λ t. stepped t es)) limit)

-- ---- the laws

there : {X : Type 0} (xs : List X) (i : ℕ) → i < length xs → (x : X) × (slice_get xs i ≡ Some x)
there [] i below = absurd (omega (arith, below))
there (x ∷ xs) zero below = (x, refl)
there (x ∷ xs) (suc i) below = there xs i (omega arith)

inside : {X : Type 0} (xs : List X) (i : ℕ) (x : X) → slice_get xs i ≡ Some x → i < length xs
inside [] i x e = cc
inside (y ∷ xs) zero x e = omega arith
inside (y ∷ xs) (suc i) x e = let below : i < length xs = inside xs i x e in omega arith

pub read : {X : Type 0} (xs : List X) (i : ℕ) (d : X) → i < length xs → slice_get xs i ≡ Some (get_or xs i d)
read [] i d below = absurd (omega (arith, below))
read (x ∷ xs) zero d below = refl
read (x ∷ xs) (suc i) d below = read xs i d (omega arith)

no_doubles : (es : List Edit) (s t : State) → HasNoDoubles s.names → stepped s es ≡ Ok t → HasNoDoubles t.names
no_doubles [] s t h e = let same : s ≡ t = cc in subst (λ (u : State). HasNoDoubles u.names) same h
no_doubles (edit ∷ es) s t h e =
    let f = first_step (step s edit) (λ u. stepped u es) t e in
    no_doubles es f.0 t (no_name_is_twice.1 s f.0 edit h f.1.0) f.1.1

pub splits_are_kept : SplitsAreKept
splits_are_kept part_of edits start whole starts parts split first led = record {
  placed = λ person. omega (arith, split.placed person, led.as_many);
  once = no_doubles edits start whole split.once first;
  each = λ number part e.
      let s = there starts number (omega (arith, inside parts number part e, led.as_many)) in
      kept_all (is_of part_of number) edits start s.0 whole part (split.each number s.0 s.1) first (led.each number s.0 part s.1 e);
}

pub wholes_accept : WholesAccept
wholes_accept part_of edits start starts parts split led =
    let first = λ (n : ℕ). get_or starts n start in
    let last = λ (n : ℕ). get_or parts n start in
    taken_all part_of (length starts) split.placed edits start first last
    (λ n below. split.each n (first n) (read starts n start below))
    (λ n below. led.each n (first n) (last n) (read starts n start below) (read parts n start (omega (arith, led.as_many))))

at_map : {X Y : Type 0} (f : X → Y) (xs : List X) (i : ℕ) (y : Y) → slice_get (map f xs) i ≡ Some y → (x : X) × (f x ≡ y)
at_map f [] i y e = cc
at_map f (x ∷ xs) zero y e = (x, cc)
at_map f (x ∷ xs) (suc i) y e = at_map f xs i y e

pub new_reviews_are_a_split : NewReviewsAreASplit
new_reviews_are_a_split part_of held limits each placed = record {
  placed = λ person. omega (arith, placed person, length-map each (initial held));
  once = no_name_is_twice.0 held limits;
  each = λ number part e.
      let one = at_map (initial held) each number part e in
      subst (λ (p : State). IsPart (is_of part_of number) (initial held limits) p) one.1
      (record { held = refl; people = refl; actions = refl; resources = refl });
}
