-- What is told of the tables of two states is their difference.
use Rattle.std.proofs.Common.{◌≡◌, List, [], ◌∷◌, ◌++◌, map, Bool, true, false, not, Option, Some, None}
use Rattle.std.proofs.Common.{option_map, refl, sym, ap, ◌∙◌, ⊎_elim}
use Rattle.std.specs.Prelude.{◌&&◌, ◌↔◌, if◌then◌else◌, is_some, option_and_then}
use Rattle.std.specs.Bool.{Decides}
use Rattle.std.specs.List.{Contains, filter}
use Rattle.std.proofs.lemmas.Bool.{false≢true}
use Rattle.std.specs.Cmp.Lexicographic.{bytes_decides}
use Rattle.std.proofs.lemmas.List.Elements.{Contains-append_cases, Contains-append_left, Contains-append_right}
use Rattle.std.proofs.lemmas.List.Kept.{IsStrictlySortedBy-filter}
use Rattle.serde_json.specs.Written.{compact_text}
use Rattle.serde_json.specs.Data as json
use Rattle.serde_json.specs.Data.{Data}
use Rattle.ent_json.specs.Line.{data_of}
use Rattle.ent_request.specs.declared.answer.Answer.{Answer}
use Rattle.ent_table.specs.Names.{Triple, is_listed, triples}
use Rattle.ent_table.specs.State.{State, answer_at, answer_to, table_of}
use Rattle.ent_table.proofs.Members.{none_contained, first_contained, passed, passes}
use Rattle.ent_line.specs.Cells.{cell_data, table_reply}
use Rattle.script_compare.specs.Changes.{appeared, both, decision_of, difference, difference_of, is_nothing}
use Rattle.script_compare.specs.Changes.{reasoned, same_decision, told}
use Rattle.script_compare.specs.Tables.{table_in}
use Rattle.law_compared.specs.Difference.{IsAppeared, IsDecided, IsReasoned, IsDifference, cell_at}
use Rattle.law_compared.specs.Difference.{changed, text_order}
use Rattle.law_compared.proofs.Cells.{cell_fits}
use Rattle.law_compared.proofs.Compared.{appeared_told, decided_told, is_appeared, is_decided, is_reasoned}
use Rattle.law_compared.proofs.Compared.{reasoned_told, tells_other}
use Rattle.law_compared.proofs.Rows.{ordered}
use Rattle.law_compared.proofs.GoodHeld.{IsGoodState}
use Rattle.law_compared.proofs.Tables.{answers_good, are_listed, at_text, cell, each_cell, exact, requests, rows}
use Rattle.law_compared.proofs.Tables.{table_read, text}
use Rattle.law_compared.proofs.Tests.{IsOther, IsPlainCell, is_false, not_true, other_told, same_cells, same_told}
use Rattle.law_compared.proofs.Told.{is_empty, nothing_told}

map_both : {A B : Type 0} (f : A → B) (xs ys : List A) → map f xs ++ map f ys ≡ map f (xs ++ ys)
map_both f [] ys = refl
map_both f (x ∷ xs) ys = ap (λ l. f x ∷ l) (map_both f xs ys)

both_true : (a b : Bool) → (a && b) ≡ true → (a ≡ true) × (b ≡ true)
both_true true b h = (refl, h)
both_true false b h = absurd cc

is_true : (b : Bool) → (b ≡ false → ⊥) → b ≡ true
is_true true never = refl
is_true false never = absurd (never refl)

-- a list of nothing is empty, and an empty one of nothing
no_member : {A : Type 0} (f : A → Data) (xs : List A) → ((x : A) → Contains xs x → ⊥) → is_empty (map f xs) ≡ true
no_member f [] none = refl
no_member f (x ∷ xs) none = absurd (none x (first_contained x xs))

empty_of : {A : Type 0} (f : A → Data) (xs : List A) → is_empty (map f xs) ≡ true → (x : A) → Contains xs x → ⊥
empty_of f [] e x h = none_contained x h
empty_of f (y ∷ ys) e x h = false≢true e

-- ---- two states

module _ (s t : State) (good : IsGoodState s) (others : IsGoodState t) where
  abbrev decided_here : List Triple
  decided_here = filter (is_decided text (cell_at s) (cell_at t)) (requests s)

  abbrev appeared_here : List Triple
  appeared_here = filter (is_appeared text (cell_at s) (cell_at t)) (requests t)

  abbrev reasoned_here : List Triple
  reasoned_here = filter (is_reasoned text (cell_at s) (cell_at t)) (requests s)

  abbrev pub told_here : Data
  told_here = told (map (changed s t) (decided_here ++ appeared_here)) (map (changed s t) reasoned_here)

  is_told : difference (rows s) (rows t) ≡ told_here
  is_told =
      let before = decided_told text (cell_at s) (cell_at t) (cell s) (rows t) (at_text t) (requests s)
      (each_cell s) in
      let more = appeared_told text (cell_at s) (cell_at t) (cell t) (rows s) (at_text s) (requests t)
      (each_cell t) in
      let reasons = reasoned_told text (cell_at s) (cell_at t) (cell s) (rows t) (at_text t) (requests s)
      (each_cell s) in
      ap (λ l. told (l ++ appeared (json.object (rows s)) (rows t)) (reasoned (rows s) (json.object (rows t)))) before
      ∙ ap (λ l. told (map (changed s t) decided_here ++ l) (reasoned (rows s) (json.object (rows t)))) more
      ∙ ap (λ l. told l (reasoned (rows s) (json.object (rows t))))
      (map_both (changed s t) decided_here appeared_here)
      ∙ ap (told (map (changed s t) (decided_here ++ appeared_here))) reasons

  -- what is told of the replies
  pub reply_told : difference_of (compact_text (table_reply (table_of s))) (compact_text (table_reply (table_of t))) ≡ Some told_here
  reply_told = ap (λ o. both o (option_and_then table_in (data_of (compact_text (table_reply (table_of t)))))) (table_read s good)
      ∙ ap (both (Some (rows s))) (table_read t others) ∙ ap Some is_told

  -- ---- which requests

  decided_is : (x : Triple) → Contains decided_here x ↔ IsDecided s t x
  decided_is x = (to, from)
    where
      to : Contains decided_here x → IsDecided s t x
      to h =
          let both = passes (is_decided text (cell_at s) (cell_at t)) (requests s) x h in
          let other = not_true (same_decision (cell_at s x) (cell_at t x)) both.1 in record {
            there = (are_listed s x).0 both.0;
            another = λ same. false≢true (sym other ∙ (same_told x (answer_at s x) (answer_at t x)).1 same);
          }

      from : IsDecided s t x → Contains decided_here x
      from is =
          let other = is_false (same_decision (cell_at s x) (cell_at t x))
          (λ e. is.another ((same_told x (answer_at s x) (answer_at t x)).0 e)) in
          passed (is_decided text (cell_at s) (cell_at t)) (requests s) x ((are_listed s x).1 is.there) (ap not other)

  absent : (u : State) (x : Triple) → not (is_some (cell_at u x)) ≡ true → is_listed u.names x ≡ false
  absent u x = by (is_listed u.names x)
    where
      by : (b : Bool)
          → not
          (is_some (option_map (λ (a : Answer). cell_data (x, a))
          (if b then Some (answer_to u x) else None))) ≡ true → b ≡ false
      by true e = absurd (false≢true e)
      by false e = refl

  no_cell : (u : State) (x : Triple) → is_listed u.names x ≡ false → not (is_some (cell_at u x)) ≡ true
  no_cell u x e = rw e refl

  appeared_is : (x : Triple) → Contains appeared_here x ↔ IsAppeared s t x
  appeared_is x = (
    λ h. let both = passes (is_appeared text (cell_at s) (cell_at t)) (requests t) x
        h in record { absent = absent s x both.1; there = (are_listed t x).0 both.0 },
    λ is. passed (is_appeared text (cell_at s) (cell_at t)) (requests t) x ((are_listed t x).1 is.there)
        (no_cell s x is.absent),
  )

  plain : (u : State) → IsGoodState u → (x : Triple) → IsPlainCell x (answer_at u x)
  plain u h x = by (is_listed u.names x) refl
    where
      by : (b : Bool) → is_listed u.names x ≡ b → IsPlainCell x (if b then Some (answer_to u x) else None)
      by true e = (cell_fits x (answer_to u x) (answers_good u h x e)).plain
      by false e = tt

  some_answer : (u : State) (x : Triple) → is_listed u.names x ≡ true → is_some (answer_at u x) ≡ true
  some_answer u x e = rw e refl

  reasoned_is : (x : Triple) → Contains reasoned_here x ↔ IsReasoned s t x
  reasoned_is x = (to, from)
    where
      tells : Decides (tells_other (cell_at s x) (cell_at t x)) (IsOther x (answer_at s x) (answer_at t x))
      tells = other_told x (answer_at s x) (answer_at t x) (plain s good x) (plain t others x)

      to : Contains reasoned_here x → IsReasoned s t x
      to h =
          let both = passes (is_reasoned text (cell_at s) (cell_at t)) (requests s) x h in
          let is = tells.0 both.1 in record {
            there = (are_listed s x).0 both.0;
            same = is.same;
            another = is.another;
          }

      from : IsReasoned s t x → Contains reasoned_here x
      from is =
          passed (is_reasoned text (cell_at s) (cell_at t)) (requests s) x ((are_listed s x).1 is.there)
          (tells.1 (record { there = some_answer s x is.there; same = is.same; another = is.another }))

  pub here_told : IsDifference s t told_here
  here_told = record {
    decided = decided_here;
    appeared = appeared_here;
    reasoned = reasoned_here;
    decided_are =
        record {
          exact = decided_is;
          ascending = IsStrictlySortedBy-filter text_order
              (is_decided text (cell_at s) (cell_at t)) (requests s) (ordered text exact (triples s.names));
        };
    appeared_are =
        record {
          exact = appeared_is;
          ascending = IsStrictlySortedBy-filter text_order
              (is_appeared text (cell_at s) (cell_at t)) (requests t) (ordered text exact (triples t.names));
        };
    reasoned_are =
        record {
          exact = reasoned_is;
          ascending = IsStrictlySortedBy-filter text_order
              (is_reasoned text (cell_at s) (cell_at t)) (requests s) (ordered text exact (triples s.names));
        };
    is = refl;
  }

  -- ---- no change

  abbrev AreSame : Type 0
  AreSame = (x : Triple) → cell_at s x ≡ cell_at t x

  decision_itself : (c : Option Data) → same_decision c c ≡ true
  decision_itself c = (bytes_decides (decision_of c) (decision_of c)).1 refl

  none_decided : AreSame → (x : Triple) → Contains decided_here x → ⊥
  none_decided same x h =
      let alike : same_decision (cell_at s x) (cell_at t x) ≡ true = ap (same_decision (cell_at s x)) (sym (same x))
      ∙ decision_itself (cell_at s x) in
      ((decided_is x).0 h).another ((same_told x (answer_at s x) (answer_at t x)).0 alike)

  none_appeared : AreSame → (x : Triple) → Contains appeared_here x → ⊥
  none_appeared same x h =
      let is = (appeared_is x).0 h in
      let gone = absent t x (ap (λ c. not (is_some c)) (sym (same x)) ∙ no_cell s x is.absent) in
      false≢true (sym gone ∙ is.there)

  none_reasoned : AreSame → (x : Triple) → Contains reasoned_here x → ⊥
  none_reasoned same x h = ((reasoned_is x).0 h).another (same x)

  none_of_both : AreSame → (x : Triple) → Contains (decided_here ++ appeared_here) x → ⊥
  none_of_both same x h =
      ⊎_elim (none_decided same x) (none_appeared same x) (Contains-append_cases decided_here appeared_here x h)

  nothing_of : is_nothing
      told_here ≡ (is_empty (map (changed s t) (decided_here ++ appeared_here)) && is_empty
      (map (changed s t) reasoned_here))
  nothing_of = nothing_told (map (changed s t) (decided_here ++ appeared_here)) (map (changed s t) reasoned_here)

  from_same : AreSame → is_nothing told_here ≡ true
  from_same same =
      nothing_of
      ∙ ap (λ b. b && is_empty (map (changed s t) reasoned_here))
      (no_member (changed s t) (decided_here ++ appeared_here) (none_of_both same))
      ∙ no_member (changed s t) reasoned_here (none_reasoned same)

  to_same : is_nothing told_here ≡ true → AreSame
  to_same e x = by (is_listed s.names x) (is_listed t.names x) refl refl
    where
      empty : (is_empty (map (changed s t) (decided_here ++ appeared_here)) ≡ true)
          × (is_empty (map (changed s t) reasoned_here) ≡ true)
      empty = both_true _ _ (sym nothing_of ∙ e)

      no_change : Contains (decided_here ++ appeared_here) x → ⊥
      no_change = empty_of (changed s t) (decided_here ++ appeared_here) empty.0 x

      no_reason : Contains reasoned_here x → ⊥
      no_reason = empty_of (changed s t) reasoned_here empty.1 x

      listed_same : is_listed s.names x ≡ true → cell_at s x ≡ cell_at t x
      listed_same here =
          let there = (are_listed s x).1 here in
          let same = is_true (same_decision (cell_at s x) (cell_at t x))
          (λ other. no_change (Contains-append_left decided_here appeared_here x
          (passed (is_decided text (cell_at s) (cell_at t)) (requests s) x there (ap not other)))) in
          let rest = is_false (tells_other (cell_at s x) (cell_at t x))
          (λ other. no_reason (passed (is_reasoned text (cell_at s) (cell_at t)) (requests s) x there other)) in
          same_cells x (answer_at s x) (answer_at t x) (plain s good x) (plain t others x) same rest

      by : (b c : Bool) → is_listed s.names x ≡ b → is_listed t.names x ≡ c → cell_at s x ≡ cell_at t x
      by true c here there = listed_same here
      by false true here there =
          absurd
          (no_change (Contains-append_right decided_here appeared_here x
          ((appeared_is x).1 (record { absent = here; there = there }))))
      by false false here there = rw (here, there) refl

  pub nothing_same : (is_nothing told_here ≡ true) ↔ AreSame
  nothing_same = (to_same, from_same)
