-- A whole whose limits are large enough.
use Rattle.std.proofs.Common.{◌≡◌, ℕ, zero, suc, ◌+◌, ◌*◌, ◌<◌, ◌≤◌, ◌^◌, List, [], ◌∷◌, ◌++◌, length, Bool, true, false, cond, get_or, Result, Ok, Err}
use Rattle.std.proofs.Common.{refl, sym, ap, subst, ◌∙◌, arith, ⊎_elim, length-append}
use Rattle.std.specs.Prelude.{◌||◌, ◌⊎◌, map, nat_eq, nat_le, nat_lt, not}
use Rattle.std.specs.Cmp.Lexicographic.{pointwise}
use Rattle.std.specs.Result.{result_unwrap_or}
use Rattle.std.proofs.lemmas.Bool.{le-ltb, leb-false, lt-leb, or_from, or_parts}
use Rattle.std.proofs.lemmas.Nat.{mul-le}
use Rattle.ent_table.specs.declared.edit.Edit.{Edit}
use Rattle.ent_table.specs.declared.edit.Edit.TheVariants.{AddName, AddPolicy, DropName, ReplacePolicy, SetAttribute, SetDay, SetMoment, SetRoot, WithdrawPolicy}
use Rattle.ent_table.specs.declared.edit.EditFault.{EditFault}
use Rattle.ent_table.specs.declared.edit.EditFault.TheVariants.{AlreadyThere, BadValue, Limit, NotThere, Reserved, UnknownModule}
use Rattle.ent_table.specs.declared.edit.List.{List as Which}
use Rattle.ent_table.specs.declared.edit.List.TheVariants.{Actions, People, Resources}
use Rattle.ent_request.specs.Held.{Held}
use Rattle.ent_table.specs.declared.limits.Limits.{Limits}
use Rattle.ent_table.specs.Names.{Names, cell_count, list_of, with_name}
use Rattle.ent_table.specs.State.{State, initial}
use Rattle.ent_finder.specs.Slots.{document_count}
use Rattle.ent_table.specs.Step.{exceeds, is_last, limit_of, next, step, unless}
use Rattle.law_rebuild.specs.Rebuilding.{and_then, stepped}
use Rattle.law_rebuild.proofs.Kept.{allowed}
use Rattle.law_rebuild.proofs.NamesKept.{fewer_left}
use Rattle.law_split.specs.Laws.{SplitsHaveAWhole}
use Rattle.law_split.specs.Split.{IsPart, is_of, is_told, told}
use Rattle.law_split.proofs.Kept.{effect, effected}
use Rattle.law_split.proofs.Led.{ArePartsOf, Take, behind, first_taken, new_reviews_are_a_split, one_more, others_taken, parts_behind, read, splits_are_kept}

-- ---- whether a limit is reached

abbrev pub limited : State → Edit → Bool
limited s (AddPolicy number d) = is_last s || nat_le s.limits.documents (document_count s.held.modules)
limited s (ReplacePolicy number d) = is_last s
limited s (WithdrawPolicy number key) = is_last s
limited s (SetAttribute number key values) = is_last s || nat_lt 256 (length values)
limited s (AddName list name) = is_last s || exceeds s list name
limited s (DropName list name) = is_last s
limited s (SetRoot root) = is_last s
limited s (SetDay day) = is_last s
limited s (SetMoment moment) = is_last s

-- an accepted edit reached none
not_reached : (s t : State) (e : Edit) → step s e ≡ Ok t → limited s e ≡ false
not_reached s t (AddPolicy number d) h = (allowed _ Limit _ t (allowed _ AlreadyThere _ t h).1).0
not_reached s t (ReplacePolicy number d) h = (allowed _ Limit _ t (allowed _ NotThere _ t h).1).0
not_reached s t (WithdrawPolicy number key) h = (allowed _ Limit _ t (allowed _ NotThere _ t h).1).0
not_reached s t (SetAttribute number key values) h = (allowed _ Limit _ t h).0
not_reached s t (AddName list name) h = (allowed _ Limit _ t (allowed _ AlreadyThere _ t h).1).0
not_reached s t (DropName list name) h = (allowed _ Limit _ t (allowed _ NotThere _ t h).1).0
not_reached s t (SetRoot root) h = (allowed _ Limit _ t h).0
not_reached s t (SetDay day) h = (allowed _ Limit _ t h).0
not_reached s t (SetMoment moment) h = (allowed _ Limit _ t h).0

-- ---- and where none is, none is told

abbrev IsLimit : Result State EditFault → Type 0
IsLimit r = r ≡ Err Limit

another : (a : Bool) (x : EditFault) (r : Result State EditFault) → (x ≡ Limit → ⊥) → IsLimit (unless a x r) → IsLimit r
another true x r other h = let same : x ≡ Limit = cc in absurd (other same)
another false x r other h = h

spared : (a : Bool) (r : Result State EditFault) → a ≡ false → IsLimit (unless a Limit r) → IsLimit r
spared a r e h = subst (λ b. IsLimit (unless b Limit r)) e h

not_ok : (u : State) → IsLimit (Ok u) → ⊥
not_ok u h = cc

not_told : (s : State) (e : Edit) → limited s e ≡ false → IsLimit (step s e) → ⊥
not_told s (AddPolicy number d) f h = not_ok _ (another _ UnknownModule _ (λ e. cc) (spared _ _ f (another _ AlreadyThere _ (λ e. cc) h)))
not_told s (ReplacePolicy number d) f h = not_ok _ (another _ UnknownModule _ (λ e. cc) (spared _ _ f (another _ NotThere _ (λ e. cc) h)))
not_told s (WithdrawPolicy number key) f h =
    not_ok _ (another _ UnknownModule _ (λ e. cc) (another _ BadValue _ (λ e. cc) (spared _ _ f (another _ NotThere _ (λ e. cc) h))))
not_told s (SetAttribute number key values) f h =
    not_ok _ (another _ UnknownModule _ (λ e. cc) (another _ BadValue _ (λ e. cc) (another _ Reserved _ (λ e. cc) (spared _ _ f h))))
not_told s (AddName list name) f h = not_ok _ (another _ BadValue _ (λ e. cc) (spared _ _ f (another _ AlreadyThere _ (λ e. cc) h)))
not_told s (DropName list name) f h = not_ok _ (spared _ _ f (another _ NotThere _ (λ e. cc) h))
not_told s (SetRoot root) f h = not_ok _ (spared _ _ f h)
not_told s (SetDay day) f h = not_ok _ (spared _ _ f h)
not_told s (SetMoment moment) f h = not_ok _ (spared _ _ f h)

-- ---- a whole with room for so many edits more, beside a part

pub record HasRoom (n : ℕ) (part whole : State) : Type 0 where
  pub people : length whole.names.people + n ≤ whole.limits.people
  pub actions : length whole.names.actions ≤ whole.limits.actions
  pub resources : length whole.names.resources ≤ whole.limits.resources
  pub cells : whole.limits.people * (whole.limits.actions * whole.limits.resources) ≤ whole.limits.cells
  pub serial : whole.serial + n ≤ 2 ^ 63
  pub documents_of : part.limits.documents ≤ whole.limits.documents
  pub actions_of : part.limits.actions ≤ whole.limits.actions
  pub resources_of : part.limits.resources ≤ whole.limits.resources

few_cells : (p a r : ℕ) (limits : Limits) → p ≤ limits.people → a ≤ limits.actions → r ≤ limits.resources
    → limits.people * (limits.actions * limits.resources) ≤ limits.cells → nat_lt limits.cells (p * (a * r)) ≡ false
few_cells p a r limits x y z cells =
    le-ltb limits.cells (p * (a * r))
    (omega (arith, mul-le p (a * r) limits.people (limits.actions * limits.resources) x (mul-le a r limits.actions limits.resources y z), cells))

one_longer : (xs : List (List ℕ)) (x : List ℕ) → length (xs ++ x ∷ []) ≡ length xs + 1
one_longer xs x = length-append xs (x ∷ []) ∙ omega arith

-- the limit of a list is one of those of a name more
first_limit : (s : State) (list : Which) (name : List ℕ) → (is_last s || exceeds s list name) ≡ false
    → nat_le (limit_of list s.limits) (length (list_of list s.names)) ≡ false
first_limit s list name h =
    (or_parts (nat_le (limit_of list s.limits) (length (list_of list s.names))) (nat_lt s.limits.cells (cell_count (with_name list name s.names)))
    (or_parts (is_last s) (exceeds s list name) h).1).0

module _ (n : ℕ) (own : List ℕ → Bool) (whole part : State) (is : IsPart own whole part) (room : HasRoom (suc n) part whole) where
  not_last : is_last whole ≡ false
  not_last = lt-leb (2 ^ 63) whole.serial (omega (arith, room.serial))

  pub has_room : (e : Edit) → (is_told own e ≡ true → limited part e ≡ false) → limited whole e ≡ false
  has_room (AddPolicy number d) h =
      let f = leb-false part.limits.documents (document_count part.held.modules) (or_parts (is_last part) (nat_le part.limits.documents (document_count part.held.modules)) (h refl)).1 in
      let same = ap (λ (held : Held). document_count held.modules) is.held in
      or_from _ _ not_last (lt-leb whole.limits.documents (document_count whole.held.modules) (omega (arith, f, same, room.documents_of)))
  has_room (ReplacePolicy number d) h = not_last
  has_room (WithdrawPolicy number key) h = not_last
  has_room (SetAttribute number key values) h = or_from _ _ not_last (or_parts _ _ (h refl)).1
  has_room (AddName People name) h =
      or_from _ _ not_last (or_from _ _ (lt-leb whole.limits.people (length whole.names.people) (omega (arith, room.people)))
      (few_cells (length (whole.names.people ++ name ∷ [])) (length whole.names.actions) (length whole.names.resources) whole.limits
      (omega (arith, one_longer whole.names.people name, room.people)) room.actions room.resources room.cells))
  has_room (AddName Actions name) h =
      let f = leb-false part.limits.actions (length part.names.actions) (first_limit part Actions name (h refl)) in
      let same = ap length is.actions in
      let below : length whole.names.actions < whole.limits.actions = omega (arith, f, same, room.actions_of) in
      or_from _ _ not_last (or_from _ _ (lt-leb whole.limits.actions (length whole.names.actions) below)
      (few_cells (length whole.names.people) (length (whole.names.actions ++ name ∷ [])) (length whole.names.resources) whole.limits
      (omega (arith, room.people)) (omega (arith, one_longer whole.names.actions name, below)) room.resources room.cells))
  has_room (AddName Resources name) h =
      let f = leb-false part.limits.resources (length part.names.resources) (first_limit part Resources name (h refl)) in
      let same = ap length is.resources in
      let below : length whole.names.resources < whole.limits.resources = omega (arith, f, same, room.resources_of) in
      or_from _ _ not_last (or_from _ _ (lt-leb whole.limits.resources (length whole.names.resources) below)
      (few_cells (length whole.names.people) (length whole.names.actions) (length (whole.names.resources ++ name ∷ [])) whole.limits
      (omega (arith, room.people)) room.actions (omega (arith, one_longer whole.names.resources name, below)) room.cells))
  has_room (DropName list name) h = not_last
  has_room (SetRoot root) h = not_last
  has_room (SetDay day) h = not_last
  has_room (SetMoment moment) h = not_last

  -- ---- and behind it

  alike : (w : State) → w.names ≡ whole.names → w.limits ≡ whole.limits → w.serial ≡ whole.serial + 1 → HasRoom n part w
  alike w names limits serial = record {
    people = omega (arith, room.people, ap (λ (x : Names). length x.people) names, ap (λ (l : Limits). l.people) limits);
    actions = omega (arith, room.actions, ap (λ (x : Names). length x.actions) names, ap (λ (l : Limits). l.actions) limits);
    resources = omega (arith, room.resources, ap (λ (x : Names). length x.resources) names, ap (λ (l : Limits). l.resources) limits);
    cells = subst (λ (l : Limits). l.people * (l.actions * l.resources) ≤ l.cells) (sym limits) room.cells;
    serial = omega (arith, room.serial, serial);
    documents_of = omega (arith, room.documents_of, ap (λ (l : Limits). l.documents) limits);
    actions_of = omega (arith, room.actions_of, ap (λ (l : Limits). l.actions) limits);
    resources_of = omega (arith, room.resources_of, ap (λ (l : Limits). l.resources) limits);
  }

  listed : (names : Names) → length names.people ≤ length whole.names.people + 1 → length names.actions ≤ whole.limits.actions
      → length names.resources ≤ whole.limits.resources → HasRoom n part (next (record whole { names = names }))
  listed names people actions resources = record {
    people = omega (arith, room.people, people);
    actions = actions;
    resources = resources;
    cells = room.cells;
    serial = omega (arith, room.serial);
    documents_of = room.documents_of;
    actions_of = room.actions_of;
    resources_of = room.resources_of;
  }

  pub room_behind : (e : Edit) → limited whole e ≡ false → HasRoom n part (next (effect whole e))
  room_behind (AddPolicy number d) h = alike _ refl refl refl
  room_behind (ReplacePolicy number d) h = alike _ refl refl refl
  room_behind (WithdrawPolicy number key) h = alike _ refl refl refl
  room_behind (SetAttribute number key values) h = alike _ refl refl refl
  room_behind (AddName People name) h = listed _ (omega (arith, one_longer whole.names.people name)) room.actions room.resources
  room_behind (AddName Actions name) h =
      let f = leb-false whole.limits.actions (length whole.names.actions) (first_limit whole Actions name h) in
      listed _ (omega arith) (omega (arith, one_longer whole.names.actions name, f)) room.resources
  room_behind (AddName Resources name) h =
      let f = leb-false whole.limits.resources (length whole.names.resources) (first_limit whole Resources name h) in
      listed _ (omega arith) room.actions (omega (arith, one_longer whole.names.resources name, f))
  room_behind (DropName People name) h = listed _ (omega (arith, fewer_left (λ x. not (pointwise nat_eq name x)) whole.names.people)) room.actions room.resources
  room_behind (DropName Actions name) h =
      listed _ (omega arith) (omega (arith, fewer_left (λ x. not (pointwise nat_eq name x)) whole.names.actions, room.actions)) room.resources
  room_behind (DropName Resources name) h =
      listed _ (omega arith) room.actions (omega (arith, fewer_left (λ x. not (pointwise nat_eq name x)) whole.names.resources, room.resources))
  room_behind (SetRoot root) h = alike _ refl refl refl
  room_behind (SetDay day) h = alike _ refl refl refl
  room_behind (SetMoment moment) h = alike _ refl refl refl

-- ---- the part keeps its limits

same_limits : (s : State) (e : Edit) → (effect s e).limits ≡ s.limits
same_limits s (AddPolicy number d) = refl
same_limits s (ReplacePolicy number d) = refl
same_limits s (WithdrawPolicy number key) = refl
same_limits s (SetAttribute number key values) = refl
same_limits s (AddName list name) = refl
same_limits s (DropName list name) = refl
same_limits s (SetRoot root) = refl
same_limits s (SetDay day) = refl
same_limits s (SetMoment moment) = refl

limits_behind : (part u : State) (e : Edit) (b : Bool) → cond b (step part e) (Ok part) ≡ Ok u → u.limits ≡ part.limits
limits_behind part u e true h = ap (λ (s : State). s.limits) (effected part u e h) ∙ same_limits part e
limits_behind part u e false h = let same : part ≡ u = cc in ap (λ (s : State). s.limits) (sym same)

with_limits_of : (n : ℕ) (part p whole : State) → p.limits ≡ part.limits → HasRoom n part whole → HasRoom n p whole
with_limits_of n part p whole same room = record {
  people = room.people;
  actions = room.actions;
  resources = room.resources;
  cells = room.cells;
  serial = room.serial;
  documents_of = omega (arith, room.documents_of, ap (λ (l : Limits). l.documents) same);
  actions_of = omega (arith, room.actions_of, ap (λ (l : Limits). l.actions) same);
  resources_of = omega (arith, room.resources_of, ap (λ (l : Limits). l.resources) same);
}

-- ---- a run

module _ (part_of : List ℕ → ℕ) (count : ℕ) (placed : (person : List ℕ) → part_of person < count) where
  some : zero < count
  some = omega (arith, placed [])

  module _ (e : Edit) (es : List Edit) (whole : State) (starts ends : ℕ → State) (are : ArePartsOf part_of count placed whole starts)
      (take : Take part_of count placed (e ∷ es) starts ends) (room : HasRoom (suc (length es)) (starts zero) whole) where
    abbrev own : List ℕ → Bool
    own = is_of part_of zero

    abbrev then : (u : State) × ((cond (is_told own e) (step (starts zero) e) (Ok (starts zero)) ≡ Ok u) × (stepped u (told own es) ≡ Ok (ends zero)))
    then = one_more own (starts zero) (ends zero) e es (is_told own e) (take zero some)

    free : limited whole e ≡ false
    free = has_room (length es) own whole (starts zero) (are zero some) room e
        (λ t. not_reached (starts zero) then.0 e (ap (λ b. cond b (step (starts zero) e) (Ok (starts zero))) (sym t) ∙ then.1.0))

    one_accepted : step whole e ≡ Ok (next (effect whole e))
    one_accepted = ⊎_elim (λ ok. ok) (λ limit. absurd (not_told whole e free limit)) (first_taken part_of count placed e es whole starts ends are take)

    room_left : HasRoom (length es) (behind own e (starts zero)) (next (effect whole e))
    room_left =
        let same : behind own e (starts zero) ≡ then.0 = ap (λ r. result_unwrap_or r (starts zero)) then.1.0 in
        with_limits_of (length es) (starts zero) (behind own e (starts zero)) (next (effect whole e))
        (ap (λ (s : State). s.limits) same ∙ limits_behind (starts zero) then.0 e (is_told own e) then.1.0)
        (room_behind (length es) own whole (starts zero) (are zero some) room e free)

  all_accepted : (es : List Edit) (whole : State) (starts ends : ℕ → State) → ArePartsOf part_of count placed whole starts → Take part_of count placed es starts ends
      → HasRoom (length es) (starts zero) whole → (w : State) × (stepped whole es ≡ Ok w)
  all_accepted [] whole starts ends are take room = (whole, refl)
  all_accepted (e ∷ es) whole starts ends are take room =
      let first = one_accepted e es whole starts ends are take room in
      let rest = all_accepted es (next (effect whole e)) (λ n. behind (is_of part_of n) e (starts n)) ends
      (parts_behind part_of count placed e es whole starts ends are take first) (others_taken part_of count placed e es whole starts ends are take)
      (room_left e es whole starts ends are take room) in
      (rest.0, ap (λ q. and_then q (λ t. stepped t es)) first ∙ rest.1)

-- ---- the law

-- limits with room for so many edits, beside those of a part
abbrev ample : ℕ → Limits → Limits
ample n limits = record {
  people = n;
  actions = limits.actions;
  resources = limits.resources;
  cells = n * (limits.actions * limits.resources);
  documents = limits.documents;
}

pub splits_have_a_whole : SplitsHaveAWhole
splits_have_a_whole part_of edits held each parts placed few led =
    let none : State = initial held (record { people = 0; actions = 0; resources = 0; cells = 0; documents = 0 }) in
    let starts = map (initial held) each in
    let first = λ (n : ℕ). get_or starts n none in
    let last = λ (n : ℕ). get_or parts n none in
    let limits = ample (length edits) (first zero).limits in
    let start = initial held limits in
    let split = new_reviews_are_a_split part_of held limits each placed in
    let whole = all_accepted part_of (length starts) split.placed edits start first last
    (λ n below. split.each n (first n) (read starts n none below))
    (λ n below. led.each n (first n) (last n) (read starts n none below) (read parts n none (omega (arith, led.as_many, below))))
    (record {
      people = omega arith;
      actions = omega arith;
      resources = omega arith;
      cells = omega arith;
      serial = omega (arith, few);
      documents_of = omega arith;
      actions_of = omega arith;
      resources_of = omega arith;
    }) in
    (limits, (whole.0, (whole.1, splits_are_kept part_of edits start whole.0 starts parts split whole.1 led)))
