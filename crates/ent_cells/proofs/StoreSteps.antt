-- What each step of a change makes of the cells and of their groups.
use Rattle.std.proofs.Common.{◌≡◌, ◌≢◌, ℕ, List, [], true, Option, Some, None, map, option_map, IfSome, slice_index_or as get_or, refl, sym, ap, subst, ◌∙◌}
use Rattle.std.specs.Prelude.{Err, Ok, OnErr, Result}
use Rattle.std.proofs.lemmas.Option.{same_Some}
use Rattle.slab.specs.Slab.{Slab, Updates, get}
use Rattle.ent_eval.specs.declared.pdp.ListedEvaluation.{ListedEvaluation}
use Rattle.ent_request.specs.declared.question.Question.{Question}
use Rattle.ent_request.specs.Listed.{listed}
use Rattle.ent_request.specs.Looks.{Looks}
use Rattle.ent_request.specs.Questions.{AreNumbers, BeginsWith, at_numbers, keys_at}
use Rattle.ent_index.specs.declared.groups.Groups.{Groups}
use Rattle.ent_index.specs.Groups.{IsNamed, holds, numbers_of}
use Rattle.ent_index.proofs.Views.{some_none}
use Rattle.ent_cells.proofs.Grouped.{Stays, begins_itself, grouped_stays, held_stays, others_stay}
use Rattle.ent_cells.proofs.Seen.{all_same, get_by, still_by, updates_by}
use Rattle.ent_cells.specs.declared.cell.Cell.{Cell}
use Rattle.ent_cells.specs.declared.cell.Grouped.{Grouped}
use Rattle.ent_eval.specs.declared.who.Who.{Who}
use Rattle.ent_cells.specs.Cell.{Said, says}
use Rattle.ent_cells.specs.Entries.{Entry}
use Rattle.ent_cells.specs.proofs_only.Entries.{Becomes, Inserts, IsFree, entry_of_cell, given_up, no_entries, settled}
use Rattle.ent_cells.specs.proofs_only.Grouping.{IsGrouped, IsHeld, IsStore, KeepsCell, KeepsOthers, entry_in, replaced, replaced_by, said_in, said_of, seen, unready}
use Rattle.ent_cells.specs.proofs_only.Phases.{made_ready}

pub get_seen : (q : List Question) (g : Groups) (s : Slab Cell) (c : ℕ) → get (seen q g s) c ≡ option_map (entry_in q g) (get s c)
get_seen q g s c = get_by (entry_in q g) s c

pub updates_to : {A : Type 0} (old new : Slab A) (key : ℕ) (x y : Option A) → Updates old new key x → x ≡ y → Updates old new key y
updates_to old new key x y u e = record { changed = u.changed ∙ e; others = u.others }

-- ---- a change under one key

module _ (q q' : List Question) (g g' : Groups) (s t : Slab Cell) (key : ℕ) (begins : BeginsWith q' q) (others : KeepsOthers key g g') (same : (c : ℕ) → c ≢ key → get t c ≡ get s c) (is : IsStore q g s) where
  elsewhere : (c : ℕ) (cell : Cell) → c ≢ key → IsHeld q g c cell → (entry_in q' g' cell ≡ entry_in q g cell) × IsHeld q' g' c cell
  elsewhere c cell apart held = held_stays q q' g g' begins c (λ n. others.groups n c apart) (λ p a r. others.names p a r c apart) cell held

  pub change_seen : (slot : Option Cell) → get t key ≡ slot → Updates (seen q g s) (seen q' g' t) key (option_map (entry_in q' g') slot)
  change_seen slot here = updates_by (entry_in q g) (entry_in q' g') (IsHeld q g) (IsHeld q' g') s t key same elsewhere is slot here

  pub change_store : ((cell : Cell) → get t key ≡ Some cell → IsHeld q' g' key cell) → IsStore q' g' t
  change_store here = still_by (entry_in q g) (entry_in q' g') (IsHeld q g) (IsHeld q' g') s t key same elsewhere is here

  -- there is no cell under it then
  pub gone_store : get t key ≡ None → IsStore q' g' t
  gone_store none = change_store (λ cell e. absurd (some_none cell (sym e ∙ none)))

  pub gone_seen : get t key ≡ None → Updates (seen q g s) (seen q' g' t) key None
  gone_seen none = change_seen None none

-- the others stay, and under the key there is no cell
pub vacant_store : (q q' : List Question) (g g' : Groups) (s : Slab Cell) (key : ℕ) → BeginsWith q' q → KeepsOthers key g g' → IsStore q g s → get s key ≡ None → IsStore q' g' s
vacant_store q q' g g' s key begins others is none = gone_store q q' g g' s s key begins others (λ _ _. refl) is none

pub vacant_seen : (q q' : List Question) (g g' : Groups) (s : Slab Cell) (key : ℕ) → BeginsWith q' q → KeepsOthers key g g' → IsStore q g s → get s key ≡ None → seen q' g' s ≡ seen q g s
vacant_seen q q' g g' s key begins others is none =
    all_same (entry_in q g) (entry_in q' g') s
    (λ c cell e. (elsewhere q q' g g' s s key begins others (λ _ _. refl) is c cell (λ same. some_none cell (sym e ∙ ap (get s) same ∙ none)) (is c cell e)).0)

-- ---- more room

pub roomier_store : (q : List Question) (g : Groups) (s t : Slab Cell) → t ≡ record s { capacity = t.capacity } → IsStore q g s → IsStore q g t
roomier_store q g s t e is = subst (IsStore q g) (sym e) is

pub roomier_seen : (q : List Question) (g : Groups) (s t : Slab Cell) → t ≡ record s { capacity = t.capacity } → seen q g t ≡ seen q g s
roomier_seen q g s t e = ap (seen q g) e

-- ---- what is said of a cell, by an evaluation

module _ (q : List Question) (g : Groups) (looks : Looks) (x : Who) (e : ListedEvaluation) (said : Grouped) (answer : said.answer ≡ e.answer) (failed : said.failed ≡ e.failed) (numbers : numbers_of g said.group ≡ e.asked) (says_so : said_in q x e ≡ says looks x) where
  pub said_right : said_of q g x said ≡ says looks x
  said_right = (λ i. record { answer = answer i; reads = keys_at (listed x.person x.action x.resource) (at_numbers q (numbers i)); failed = failed i }) ∙ says_so

pub is_grouped : (q : List Question) (g : Groups) (c : ℕ) (said : Grouped) (ns : List ℕ) → holds g said.group c ≡ true → numbers_of g said.group ≡ ns → AreNumbers q ns → IsGrouped q g c said
is_grouped q g c said ns there numbers within = record { there = there; within = subst (AreNumbers q) (sym numbers) within }

-- ---- something is made ready of a cell

module _ (q q' : List Question) (g g' : Groups) (s t : Slab Cell) (key : ℕ) (said : Grouped) (begins : BeginsWith q' q) (stays : Stays g g') (is : IsStore q g s) (free : IsFree (get (seen q g s) key))
    (up : (cell : Cell) → get s key ≡ Some cell → Updates s t key (Some (record cell { next = Some said }))) (grouped : IsGrouped q' g' key said) where
  some_at : (o : Option Cell) → get s key ≡ o → (cell : Cell) × (o ≡ Some cell)
  some_at None e = absurd (subst IsFree (get_seen q g s key ∙ ap (option_map (entry_in q g)) e) free)
  some_at (Some cell) e = (cell, refl)

  module _ (cell : Cell) (held : get s key ≡ Some cell) where
    kept : (entry_in q' g' cell ≡ entry_in q g cell) × IsHeld q' g' key cell
    kept = held_stays q q' g g' begins key (λ n. stays.groups n key) (λ p a r. stays.names p a r key) cell (is key cell held)

    ready_store : IsStore q' g' t
    ready_store =
        change_store q q' g g' s t key begins (others_stay key g g' stays) (up cell held).others is
        (λ x e. subst (IsHeld q' g' key) (same_Some (record cell { next = Some said }) x (sym (up cell held).changed ∙ e)) (record { said = kept.1.said; next = grouped; named = kept.1.named }))

    ready_seen : (looks : Looks) → said_of q' g' cell.who said ≡ says looks cell.who → (e : Entry) → get (seen q g s) key ≡ Some e → Updates (seen q g s) (seen q' g' t) key (Some (made_ready looks e))
    ready_seen looks right e at =
        let same : entry_in q g cell ≡ e = same_Some (entry_in q g cell) e (sym (get_seen q g s key ∙ ap (option_map (entry_in q g)) held) ∙ at) in
        updates_to (seen q g s) (seen q' g' t) key (Some (entry_in q' g' (record cell { next = Some said }))) (Some (made_ready looks e))
        (change_seen q q' g g' s t key begins (others_stay key g g' stays) (up cell held).others is (Some (record cell { next = Some said })) (up cell held).changed)
        (ap (λ (n : Said). Some (record { kept = (entry_in q' g' cell).kept; next = Some n })) right
        ∙ ap (λ (x : Entry). Some (made_ready looks x)) (kept.0 ∙ same))

  pub prepared_store : IsStore q' g' t
  prepared_store = let at = some_at (get s key) refl in ready_store at.0 at.1

  pub prepared_seen : (looks : Looks) (x : Who) → ((cell : Cell) → get s key ≡ Some cell → cell.who ≡ x) → said_of q' g' x said ≡ says looks x → Becomes (made_ready looks) key (seen q g s) (seen q' g' t)
  prepared_seen looks x who right =
      let at = some_at (get s key) refl in
      ready_seen at.0 at.1 looks (subst (λ (y : Who). said_of q' g' y said ≡ says looks y) (sym (who at.0 at.1)) right)

-- ---- what is ready of a cell is said of it, or given up

module _ (q : List Question) (g g' : Groups) (s t : Slab Cell) (key : ℕ) (is : IsStore q g s) (keeps : KeepsCell t key g g') where
  -- of a cell one answer is left
  module _ (cell : Cell) (held : get s key ≡ Some cell) (said : Grouped) (grouped : IsGrouped q g key said) (up : Updates s t key (Some (record { who = cell.who; said = said; next = None }))) where
    kept_said : (said_of q g' cell.who said ≡ said_of q g cell.who said) × IsGrouped q g' key said
    kept_said = grouped_stays q q g g' (begins_itself q) key cell.who said grouped (keeps.own (record { who = cell.who; said = said; next = None }) up.changed)

    left_store : IsStore q g' t
    left_store =
        change_store q q g g' s t key (begins_itself q) keeps.others up.others is
        (λ x e. subst (IsHeld q g' key) (same_Some (record { who = cell.who; said = said; next = None }) x (sym up.changed ∙ e))
        (record { said = kept_said.1; next = tt; named = keeps.names cell.who.person cell.who.action cell.who.resource (is key cell held).named }))

    left_seen : Updates (seen q g s) (seen q g' t) key (Some (record { kept = record { who = cell.who; said = said_of q g cell.who said }; next = None }))
    left_seen =
        updates_to (seen q g s) (seen q g' t) key (Some (entry_in q g' (record { who = cell.who; said = said; next = None }))) (Some (record { kept = record { who = cell.who; said = said_of q g cell.who said }; next = None }))
        (change_seen q q g g' s t key (begins_itself q) keeps.others up.others is (Some (record { who = cell.who; said = said; next = None })) up.changed)
        (ap (λ (n : Said). Some (record { kept = record { who = cell.who; said = n }; next = None })) kept_said.0)

  -- the entry of a cell that is there
  entry_at : (cell : Cell) → get s key ≡ Some cell → (e : Entry) → get (seen q g s) key ≡ Some e → entry_in q g cell ≡ e
  entry_at cell held e at = same_Some (entry_in q g cell) e (sym (get_seen q g s key ∙ ap (option_map (entry_in q g)) held) ∙ at)

  no_entry : get s key ≡ None → (e : Entry) → get (seen q g s) key ≡ Some e → ⊥
  no_entry none e at = some_none e (sym at ∙ get_seen q g s key ∙ ap (option_map (entry_in q g)) none)

  said_by : (cell : Cell) → get s key ≡ Some cell → (o : Option Grouped) → cell.next ≡ o → Updates s t key (Some (replaced_by cell o))
      → IsStore q g' t × Updates (seen q g s) (seen q g' t) key (Some (settled (record { kept = (entry_in q g cell).kept; next = option_map (said_of q g cell.who) o })))
  said_by cell held None e up = (left_store cell held cell.said (is key cell held).said up, left_seen cell held cell.said (is key cell held).said up)
  said_by cell held (Some said) e up =
      let grouped : IsGrouped q g key said = subst (λ (o : Option Grouped). IfSome o (IsGrouped q g key)) e (is key cell held).next in
      (left_store cell held said grouped up, left_seen cell held said grouped up)

  pub replaced_store : (o : Option Cell) → get s key ≡ o → Updates s t key (option_map replaced o) → IsStore q g' t
  replaced_store None e up = gone_store q q g g' s t key (begins_itself q) keeps.others up.others is up.changed
  replaced_store (Some cell) e up = (said_by cell e cell.next refl up).0

  pub replaced_seen : (o : Option Cell) → get s key ≡ o → Updates s t key (option_map replaced o) → Becomes settled key (seen q g s) (seen q g' t)
  replaced_seen None e up x at = absurd (no_entry e x at)
  replaced_seen (Some cell) e up x at =
      updates_to (seen q g s) (seen q g' t) key (Some (settled (entry_in q g cell))) (Some (settled x)) (said_by cell e cell.next refl up).1 (ap (λ (y : Entry). Some (settled y)) (entry_at cell e x at))

  pub given_up_store : (o : Option Cell) → get s key ≡ o → Updates s t key (option_map unready o) → IsStore q g' t
  given_up_store None e up = gone_store q q g g' s t key (begins_itself q) keeps.others up.others is up.changed
  given_up_store (Some cell) e up = left_store cell e cell.said (is key cell e).said up

  pub given_up_seen : (o : Option Cell) → get s key ≡ o → Updates s t key (option_map unready o) → Becomes given_up key (seen q g s) (seen q g' t)
  given_up_seen None e up x at = absurd (no_entry e x at)
  given_up_seen (Some cell) e up x at =
      updates_to (seen q g s) (seen q g' t) key (Some (given_up (entry_in q g cell))) (Some (given_up x)) (left_seen cell e cell.said (is key cell e).said up) (ap (λ (y : Entry). Some (given_up y)) (entry_at cell e x at))

-- ---- a cell is put in

module _ (q q' : List Question) (g g' : Groups) (s t : Slab Cell) (key : ℕ) (x : Who) (said : Grouped) (begins : BeginsWith q' q) (others : KeepsOthers key g g') (is : IsStore q g s) (free : get s key ≡ None)
    (up : Updates s t key (Some (record { who = x; said = said; next = None }))) (grouped : IsGrouped q' g' key said) (named : IsNamed g' x.person x.action x.resource key) where
  pub put_store : IsStore q' g' t
  put_store =
      change_store q q' g g' s t key begins others up.others is
      (λ cell e. subst (IsHeld q' g' key) (same_Some (record { who = x; said = said; next = None }) cell (sym up.changed ∙ e)) (record { said = grouped; next = tt; named = named }))

  pub put_seen : (looks : Looks) → said_of q' g' x said ≡ says looks x → Inserts (entry_of_cell x (says looks x)) (seen q g s) (seen q' g' t) key
  put_seen looks right = (
    get_seen q g s key ∙ ap (option_map (entry_in q g)) free,
    updates_to (seen q g s) (seen q' g' t) key (Some (entry_in q' g' (record { who = x; said = said; next = None }))) (Some (entry_of_cell x (says looks x)))
        (change_seen q q' g g' s t key begins others up.others is (Some (record { who = x; said = said; next = None })) up.changed)
        (ap (λ (n : Said). Some (record { kept = record { who = x; said = n }; next = None })) right),
  )

-- ---- no cells

pub new_store : (q : List Question) (g : Groups) (s : Slab Cell) → s.slots ≡ [] → IsStore q g s
new_store q g s none c cell e = absurd (some_none cell (sym e ∙ ap (λ (slots : List (Option Cell)). get_or slots c None) none))

pub new_seen : (q : List Question) (g : Groups) (s : Slab Cell) → s.slots ≡ [] → seen q g s ≡ no_entries
new_seen q g s none = ap (λ (slots : List (Option Cell)). record { slots = map (option_map (entry_in q g)) slots; vacant_key = 0; capacity = 0 }) none

-- ---- results

pub on_err : {T E P : Type 0} (r : Result T E) → P → OnErr r P
on_err (Ok x) p = tt
on_err (Err e) p = p
