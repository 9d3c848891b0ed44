-- A cell that stays in its groups and under its names is seen as before.
use Rattle.std.proofs.Common.{◌≡◌, ◌≢◌, ◌+◌, ◌&&◌, ℕ, List, [], ◌∷◌, ◌++◌, Bool, true, false, eqb, inl, inr, Option, Some, None, length, length-append, option_map, IfSome, append-nil, refl, sym, ap, subst, ◌∙◌, arith}
use Rattle.std.proofs.lemmas.Bool.{eqb-true}
use Rattle.std.proofs.lemmas.Bool.Decides.{eqb_tells}
use Rattle.std.proofs.lemmas.List.{get_or_append_left}
use Rattle.slab.specs.Slab.{Slab, get}
use Rattle.ent_request.specs.declared.question.Question.{Question}
use Rattle.ent_request.specs.declared.question.Question.TheVariants.{Root}
use Rattle.ent_request.specs.Listed.{listed}
use Rattle.ent_request.specs.Questions.{AreNumbers, BeginsWith, at_numbers, keys_at}
use Rattle.ent_index.specs.declared.groups.Groups.{Groups}
use Rattle.ent_index.specs.declared.names.NameCells.{NameCells}
use Rattle.ent_index.specs.Groups.{HasSameNames, IsNamed, KeepsGroups, KeepsGroupsBut, KeepsNamesBut, holds_in, is_under, numbers_in, numbers_of}
use Rattle.ent_cells.specs.declared.cell.Cell.{Cell}
use Rattle.ent_cells.specs.declared.cell.Grouped.{Grouped}
use Rattle.ent_eval.specs.declared.who.Who.{Who}
use Rattle.ent_cells.specs.proofs_only.Grouping.{IsGrouped, IsHeld, IsStore, KeepsCell, KeepsIn, KeepsOthers, StaysIn, entry_in, said_of, seen}
use Rattle.ent_cells.proofs.Seen.{all_same}

-- ---- more questions

more_numbers : (q q' : List Question) → BeginsWith q' q → (ns : List ℕ) → AreNumbers q ns → AreNumbers q' ns
more_numbers q q' begins [] h = tt
more_numbers q q' begins (n ∷ ns) h =
    let long : length q' ≡ length q + length begins.0 = ap length begins.1 ∙ length-append q begins.0 in
    (omega (arith, h.0, long), more_numbers q q' begins ns h.1)

same_questions : (q more : List Question) (ns : List ℕ) → AreNumbers q ns → at_numbers (q ++ more) ns ≡ at_numbers q ns
same_questions q more [] h = refl
same_questions q more (n ∷ ns) h = (λ i. get_or_append_left q more Root n h.0 i ∷ same_questions q more ns h.1 i)

pub questions_stay : (q q' : List Question) → BeginsWith q' q → (ns : List ℕ) → AreNumbers q ns → at_numbers q' ns ≡ at_numbers q ns
questions_stay q q' begins ns h = ap (λ (x : List Question). at_numbers x ns) begins.1 ∙ same_questions q begins.0 ns h

pub begins_itself : (q : List Question) → BeginsWith q q
begins_itself q = ([], sym (append-nil q))

pub same_begins : (q q' : List Question) → q' ≡ q → BeginsWith q' q
same_begins q q' e = subst (λ (x : List Question). BeginsWith x q) (sym e) (begins_itself q)

-- ---- a cell that stays

module _ (q q' : List Question) (g g' : Groups) (begins : BeginsWith q' q) where
  pub grouped_stays : (c : ℕ) (x : Who) (said : Grouped) → IsGrouped q g c said → StaysIn g g' said.group c → (said_of q' g' x said ≡ said_of q g x said) × IsGrouped q' g' c said
  grouped_stays c x said is stays =
      let kept = stays is.there in
      let same : at_numbers q' (numbers_of g' said.group) ≡ at_numbers q (numbers_of g said.group) =
      ap (at_numbers q') kept.1 ∙ questions_stay q q' begins (numbers_of g said.group) is.within in (
        (λ i. record { answer = said.answer; reads = keys_at (listed x.person x.action x.resource) (same i); failed = said.failed }),
        record {
          there = kept.0;
          within = subst (AreNumbers q') (sym kept.1) (more_numbers q q' begins (numbers_of g said.group) is.within);
        },
      )

  next_stays : (c : ℕ) (x : Who) → ((n : ℕ) → StaysIn g g' n c) → (o : Option Grouped) → IfSome o (IsGrouped q g c) → (option_map (said_of q' g' x) o ≡ option_map (said_of q g x) o) × IfSome o (IsGrouped q' g' c)
  next_stays c x stays None is = (refl, tt)
  next_stays c x stays (Some said) is = let kept = grouped_stays c x said is (stays said.group) in (ap Some kept.0, kept.1)

  pub held_stays : (c : ℕ) → ((n : ℕ) → StaysIn g g' n c) → ((person action resource : List ℕ) → IsNamed g person action resource c → IsNamed g' person action resource c)
      → (cell : Cell) → IsHeld q g c cell → (entry_in q' g' cell ≡ entry_in q g cell) × IsHeld q' g' c cell
  held_stays c stays names cell is =
      let said = grouped_stays c cell.who cell.said is.said (stays cell.said.group) in
      let next = next_stays c cell.who stays cell.next is.next in (
        (λ i. record { kept = record { who = cell.who; said = said.0 i }; next = next.0 i }),
        record { said = said.1; next = next.1; named = names cell.who.person cell.who.action cell.who.resource is.named },
      )

-- ---- each cell stays

pub record Stays (g g' : Groups) : Type 0 where
  pub groups : (n c : ℕ) → StaysIn g g' n c
  pub names : (person action resource : List ℕ) (c : ℕ) → IsNamed g person action resource c → IsNamed g' person action resource c

pub stays_itself : (g : Groups) → Stays g g
stays_itself g = record { groups = λ n c h. (h, refl); names = λ p a r c h. h }

pub same_named : (g g' : Groups) → HasSameNames g g' → (person action resource : List ℕ) (c : ℕ) → IsNamed g person action resource c → IsNamed g' person action resource c
same_named g g' same person action resource c is = record {
  by_person = ap (λ (n : NameCells). is_under n person c) same.persons ∙ is.by_person;
  by_action = ap (λ (n : NameCells). is_under n action c) same.actions ∙ is.by_action;
  by_resource = ap (λ (n : NameCells). is_under n resource c) same.resources ∙ is.by_resource;
}

pub joined_stays : (g g' : Groups) → KeepsGroups g g' → HasSameNames g g' → Stays g g'
joined_stays g g' groups names = record { groups = λ n c h. groups n c refl h; names = same_named g g' names }

module _ (q q' : List Question) (g g' : Groups) (begins : BeginsWith q' q) (stays : Stays g g') (s : Slab Cell) (is : IsStore q g s) where
  pub still_store : IsStore q' g' s
  still_store c cell e = (held_stays q q' g g' begins c (λ n. stays.groups n c) (λ p a r. stays.names p a r c) cell (is c cell e)).1

  pub still_seen : seen q' g' s ≡ seen q g s
  still_seen = all_same (entry_in q g) (entry_in q' g') s (λ c cell e. (held_stays q q' g g' begins c (λ n. stays.groups n c) (λ p a r. stays.names p a r c) cell (is c cell e)).0)

-- ---- the others stay

pub others_stay : (key : ℕ) (g g' : Groups) → Stays g g' → KeepsOthers key g g'
others_stay key g g' stays = record { groups = λ n c apart h. stays.groups n c h; names = λ p a r c apart h. stays.names p a r c h }

pub others_then : (key : ℕ) (g h k : Groups) → KeepsOthers key g h → KeepsOthers key h k → KeepsOthers key g k
others_then key g h k first after = record {
  groups = λ n c apart is.
      let one = first.groups n c apart is in
      let two = after.groups n c apart one.0 in
      (two.0, two.1 ∙ one.1);
  names = λ p a r c apart is. after.names p a r c apart (first.names p a r c apart is);
}

apart_test : (c key : ℕ) → c ≢ key → eqb c key ≡ false
apart_test c key apart = elim (eqb_tells c key) [
  | inl p ↦ absurd (apart p.1)
  | inr p ↦ p.0
]

named_but : (key : ℕ) (g g' : Groups) → KeepsNamesBut key g g' → (person action resource : List ℕ) (c : ℕ) → c ≢ key → IsNamed g person action resource c → IsNamed g' person action resource c
named_but key g g' keeps person action resource c apart is = record {
  by_person = keeps.persons person c (apart_test c key apart) is.by_person;
  by_action = keeps.actions action c (apart_test c key apart) is.by_action;
  by_resource = keeps.resources resource c (apart_test c key apart) is.by_resource;
}

-- a cell is put under its names, or taken out there
pub others_renamed : (key : ℕ) (g g' : Groups) → KeepsNamesBut key g g' → g'.groups ≡ g.groups → KeepsOthers key g g'
others_renamed key g g' names same = record {
  groups = λ n c apart h. (ap (λ x. holds_in x n c) same ∙ h, ap (λ x. numbers_in x n) same);
  names = named_but key g g' names;
}

-- a cell leaves a group
both_not : (a b : Bool) → (a ≡ true → b ≡ true → ⊥) → (a && b) ≡ false
both_not true true f = absurd (f refl refl)
both_not true false f = refl
both_not false b f = refl

pub left_groups : (group key : ℕ) (g g' : Groups) → KeepsGroupsBut group key g g' → (n c : ℕ) → (n ≡ group → c ≡ key → ⊥) → StaysIn g g' n c
left_groups group key g g' keeps n c apart h = keeps n c (both_not (eqb n group) (eqb c key) (λ a b. apart (eqb-true n group a) (eqb-true c key b))) h

pub others_left : (group key : ℕ) (g g' : Groups) → KeepsGroupsBut group key g g' → HasSameNames g g' → KeepsOthers key g g'
others_left group key g g' groups names = record {
  groups = λ n c apart h. left_groups group key g g' groups n c (λ same is. apart is) h;
  names = λ p a r c apart h. same_named g g' names p a r c h;
}

-- ---- one group of a cell stays

pub in_same : (group key : ℕ) (g : Groups) → KeepsIn group key g g
in_same group key g = record { own = λ h. (h, refl); names = λ p a r h. h; others = others_stay key g g (stays_itself g) }

pub in_left : (group kept key : ℕ) (g g' : Groups) → (group ≡ kept → ⊥) → KeepsGroupsBut group key g g' → HasSameNames g g' → KeepsIn kept key g g'
in_left group kept key g g' apart groups names = record {
  own = left_groups group key g g' groups kept key (λ same _. apart (sym same));
  names = λ p a r. same_named g g' names p a r key;
  others = others_left group key g g' groups names;
}

pub cell_same : (t : Slab Cell) (key : ℕ) (g : Groups) → KeepsCell t key g g
cell_same t key g = record { own = λ cell e h. (h, refl); names = λ p a r h. h; others = others_stay key g g (stays_itself g) }

pub cell_in : (t : Slab Cell) (group key : ℕ) (g g' : Groups) → ((cell : Cell) → get t key ≡ Some cell → group ≡ cell.said.group) → KeepsIn group key g g' → KeepsCell t key g g'
cell_in t group key g g' is keeps = record {
  own = λ cell e. subst (λ n. StaysIn g g' n key) (is cell e) keeps.own;
  names = keeps.names;
  others = keeps.others;
}
