-- The tables at serials, over an edit that is logged.
use Rattle.std.proofs.Common.{◌≡◌, ℕ, ◌≤◌, List, [], ◌∷◌, map, nat_eq, Bool, true, false, ◌||◌, Some, None, unwrap_or, refl, sym, ap, subst, ◌∙◌}
use Rattle.std.specs.Prelude.{◌&&◌, if◌then◌else◌}
use Rattle.std.specs.Cmp.{IsEquivalence}
use Rattle.std.specs.Cmp.Lexicographic.{bytes_decides, pointwise}
use Rattle.std.specs.FinMap.{get}
use Rattle.std.specs.List.{AllByRecursion, list_any}
use Rattle.std.specs.Ordering.{is_eq}
use Rattle.std.proofs.lemmas.Cmp.{eq_by_cmp_equiv}
use Rattle.std.proofs.lemmas.List.Elements.{All-from_recursion}
use Rattle.std.proofs.lemmas.List.Folds.{list_any-append}
use Rattle.ent_cells.specs.Cell.{Kept, cell_of}
use Rattle.ent_cells.specs.Old.{AreOld, IsTableOf}
use Rattle.ent_cells.specs.Order.{request_order}
use Rattle.ent_eval.specs.declared.who.Who.{Who}
use Rattle.ent_cells.proofs.Orders.{requests-exact, requests-respected, requests-total}
use Rattle.ent_request.specs.Held.{looks_in}
use Rattle.ent_request.specs.Same.{same_answer}
use Rattle.ent_request.specs.contracts.answer.AnswerEq.TheImpl.Laws.{laws-law}
use Rattle.ent_request.specs.declared.answer.Answer.{Answer}
use Rattle.ent_log.specs.Difference.{IsDifference}
use Rattle.ent_log.specs.Entries.{answers_of as logged_answers, entries_since, first_answer_or, table_before}
use Rattle.ent_log.specs.Maps.{map_before, map_difference}
use Rattle.ent_log.specs.Tables.{IsSameLog, Undoes, table_at}
use Rattle.ent_log.specs.declared.change.LoggedChange.{LoggedChange}
use Rattle.ent_log.specs.declared.entry.OldAnswer.{OldAnswer}
use Rattle.ent_log.specs.declared.log.Log.{Log}
use Rattle.ent_log.proofs.Before.{undoes-listed}
use Rattle.ent_log.proofs.MapDifference.{difference-of_maps}
use Rattle.ent_log.proofs.MapsBefore.{get-map_before, maps-stay}
use Rattle.ent_log.proofs.Unique.{difference-same}
use Rattle.ent_table.specs.declared.edit.List.{List as Which}
use Rattle.ent_table.specs.declared.edit.List.TheVariants as which
use Rattle.ent_table.specs.declared.review_parts.ReviewParts.{ReviewParts}
use Rattle.ent_table.specs.AnswerMap.{answers_of}
use Rattle.ent_table.specs.proofs_only.Change.{Keeps, Stays}
use Rattle.ent_table.specs.Names.{Names, Triple, has_name, is_listed, list_of, triples, with_list, with_name}
use Rattle.ent_table.specs.Fresh.{IsFresh, reviewed, state_of}
use Rattle.ent_table.specs.State.{State, answer_at, answer_to, fresh_cells}
use Rattle.ent_table.specs.proofs_only.Table.{requests_with, unanswered}
use Rattle.ent_table.specs.Tables.{IsFreshAtSerial, Logs, table_at_serial}
use Rattle.ent_table.proofs.AnswerMaps.{get-answers_of, tests}
use Rattle.ent_table.proofs.Changes.{more_names}
use Rattle.ent_table.proofs.Counts.{AllPass, own_listed}
use Rattle.ent_table.proofs.Listed.{any_listed, same_triple}

same_answer_equiv : IsEquivalence same_answer
same_answer_equiv = laws-law

-- ---- a request among those of some values

ordered : (x y : Triple) → is_eq (request_order y x) ≡ same_triple x y
ordered x y = (eq_by_cmp_equiv requests-total).symm y x ∙ tests x y

any_ordered : {X : Type 0} (key : X → Triple) (f : Triple → X) → ((y : Triple) → key (f y) ≡ y) → (x : Triple) (ys : List Triple)
    → list_any (λ e. is_eq (request_order (key e) x)) (map f ys) ≡ list_any (same_triple x) ys
any_ordered key f is x [] = refl
any_ordered key f is x (y ∷ ys) = λ i. (ap (λ z. is_eq (request_order z x)) (is y) ∙ ordered x y) i || any_ordered key f is x ys i

-- ---- the table of a state is that of its fresh cells

listed_at : (s : State) (x : Triple) → is_listed s.names x ≡ true → answer_at s x ≡ Some (answer_to s x)
listed_at s x e = ap (λ (b : Bool). if b then Some (answer_to s x) else None) e

unlisted_at : (s : State) (x : Triple) → is_listed s.names x ≡ false → answer_at s x ≡ None
unlisted_at s x e = ap (λ (b : Bool). if b then Some (answer_to s x) else None) e

all_have : (s : State) (xs : List Triple) → AllPass (is_listed s.names) xs → AllByRecursion (λ e. answer_at s e.who ≡ Some e.said.answer) (map (cell_of (looks_in s.held)) xs)
all_have s [] h = tt
all_have s (x ∷ xs) h = (listed_at s x h.0, all_have s xs h.1)

pub is_table : (s : State) → IsTableOf (fresh_cells s) (answer_at s)
is_table s = record {
  has = all_have s (triples s.names) (own_listed s.names);
  only = λ x h.
      unlisted_at s x
      (sym (any_listed x s.names) ∙ sym (any_ordered (λ (e : Kept). e.who) (cell_of (looks_in s.held)) (λ y. refl) x (triples s.names)) ∙ h);
}

-- the old answers of cells undo an edit of the table
pub undone : (s t : State) (old new : List Kept) (olds : List (OldAnswer Who Answer)) → old ≡ fresh_cells s → new ≡ fresh_cells t → AreOld olds old new → Undoes request_order olds (answer_at s) (answer_at t)
undone s t old new olds was is are =
    are (answer_at s) (answer_at t)
    (subst (λ es. IsTableOf es (answer_at s)) (sym was) (is_table s))
    (subst (λ es. IsTableOf es (answer_at t)) (sym is) (is_table t))

-- ---- a name more

first_or : (p q b : Bool) → ((p || q) && b) ≡ ((p && b) || (q && b))
first_or true true true = refl
first_or true true false = refl
first_or true false true = refl
first_or true false false = refl
first_or false q b = refl

second_or : (p a c r : Bool) → (p && ((a || c) && r)) ≡ ((p && (a && r)) || (p && (c && r)))
second_or true a c r = first_or a c r
second_or false a c r = refl

third_or : (p a r c : Bool) → (p && (a && (r || c))) ≡ ((p && (a && r)) || (p && (a && c)))
third_or true true r c = refl
third_or true false r c = refl
third_or false a r c = refl

listed_more : (names : Names) (list : Which) (name : List ℕ) (x : Triple) → is_listed (with_name list name names) x ≡ (is_listed names x || is_listed (with_list list (name ∷ []) names) x)
listed_more n which.People name x =
    ap (λ b. b && (has_name x.action n.actions && has_name x.resource n.resources)) (list_any-append (pointwise nat_eq x.person) n.people (name ∷ []))
    ∙ first_or (has_name x.person n.people) (has_name x.person (name ∷ [])) (has_name x.action n.actions && has_name x.resource n.resources)
listed_more n which.Actions name x =
    ap (λ b. has_name x.person n.people && (b && has_name x.resource n.resources)) (list_any-append (pointwise nat_eq x.action) n.actions (name ∷ []))
    ∙ second_or (has_name x.person n.people) (has_name x.action n.actions) (has_name x.action (name ∷ [])) (has_name x.resource n.resources)
listed_more n which.Resources name x =
    ap (λ b. has_name x.person n.people && (has_name x.action n.actions && b)) (list_any-append (pointwise nat_eq x.resource) n.resources (name ∷ []))
    ∙ third_or (has_name x.person n.people) (has_name x.action n.actions) (has_name x.resource n.resources) (has_name x.resource (name ∷ []))

-- a name that a list of it alone has isn't in one that lacks it
lacks : (name x : List ℕ) (xs : List (List ℕ)) → has_name name xs ≡ false → has_name x (name ∷ []) ≡ true → has_name x xs ≡ false
lacks name x xs none has = by (pointwise nat_eq x name) refl has where
  by : (b : Bool) → pointwise nat_eq x name ≡ b → (b || false) ≡ true → has_name x xs ≡ false
  by true e h = ap (λ (y : List ℕ). has_name y xs) ((bytes_decides x name).0 e) ∙ none
  by false e h = absurd (let bad : false ≡ true = h in cc)

none_first : (a b c : Bool) → (a ≡ true → b ≡ false) → (a && c) ≡ true → (b && c) ≡ false
none_first true b c none h = ap (λ z. z && c) (none refl)
none_first false b c none h = absurd (let bad : false ≡ true = h in cc)

within : (p a b : Bool) → (a ≡ true → b ≡ false) → (p && a) ≡ true → (p && b) ≡ false
within true a b none h = none h
within false a b none h = refl

new_unlisted : (names : Names) (list : Which) (name : List ℕ) (x : Triple) → has_name name (list_of list names) ≡ false → is_listed (with_list list (name ∷ []) names) x ≡ true → is_listed names x ≡ false
new_unlisted n which.People name x none =
    none_first (has_name x.person (name ∷ [])) (has_name x.person n.people) (has_name x.action n.actions && has_name x.resource n.resources) (lacks name x.person n.people none)
new_unlisted n which.Actions name x none =
    within (has_name x.person n.people) (has_name x.action (name ∷ []) && has_name x.resource n.resources) (has_name x.action n.actions && has_name x.resource n.resources)
    (none_first (has_name x.action (name ∷ [])) (has_name x.action n.actions) (has_name x.resource n.resources) (lacks name x.action n.actions none))
new_unlisted n which.Resources name x none =
    within (has_name x.person n.people) (has_name x.action n.actions && has_name x.resource (name ∷ [])) (has_name x.action n.actions && has_name x.resource n.resources)
    (within (has_name x.action n.actions) (has_name x.resource (name ∷ [])) (has_name x.resource n.resources) (lacks name x.resource n.resources none))

none_before : (s : State) (names : Names) (xs : List Triple) → ((x : Triple) → is_listed names x ≡ true → is_listed s.names x ≡ false) → AllPass (is_listed names) xs
    → AllByRecursion (λ o. o.answer ≡ answer_at s o.key) (unanswered xs)
none_before s names [] new all = tt
none_before s names (x ∷ xs) new all = (sym (unlisted_at s x (new x all.0)), none_before s names xs new all.1)

or_none : (a b : Bool) → b ≡ false → (a || b) ≡ a
or_none true b h = refl
or_none false b h = h

-- that its requests had no answer undoes that a name was added
pub undone_more : (s : State) (list : Which) (name : List ℕ) → has_name name (list_of list s.names) ≡ false
    → Undoes request_order (unanswered (requests_with list name s.names)) (answer_at s) (answer_at (more_names s list name))
undone_more s list name none =
    let new : Names = with_list list (name ∷ []) s.names in
    let olds : List (OldAnswer Who Answer) = unanswered (triples new) in
    undoes-listed request_order olds (answer_at s) (answer_at (more_names s list name)) (requests-respected (answer_at s))
    (All-from_recursion (λ o. o.answer ≡ answer_at s o.key) olds (none_before s new (triples new) (λ x. new_unlisted s.names list name x none) (own_listed new)))
    (λ k h.
    let other : is_listed new k ≡ false = sym (any_listed k new) ∙ sym (any_ordered (λ (o : OldAnswer Who Answer). o.key) (λ x. record { key = x; answer = None }) (λ y. refl) k (triples new)) ∙ h in
    ap (λ (b : Bool). if b then Some (answer_to s k) else None) (listed_more s.names list name k ∙ or_none (is_listed s.names k) (is_listed new k) other))

-- ---- tables as maps

module _ {E A P D : Type 0} where
  -- over an edit whose old answers undo it
  pub kept_over : (old new : ReviewParts E A P D) (between : Log Who Answer) (olds : List (OldAnswer Who Answer)) → IsSameLog old.log between → Logs olds between new.log
      → Undoes request_order olds (answer_at (state_of old)) (answer_at (state_of new)) → Keeps old new
  kept_over old new between olds same logs undoes =
      let s : State = state_of old in
      let t : State = state_of new in
      record {
        from = logs.from ∙ same.from;
        each = λ n le.
            maps-stay requests-total requests-exact olds between new.log logs.kept (answers_of s) (answers_of t)
            (λ k. ap (unwrap_or (first_answer_or request_order olds k None)) (get-answers_of t k) ∙ undoes k ∙ sym (get-answers_of s k))
            n (subst (λ m. n ≤ m) (sym same.serial) le)
            ∙ ap (λ es. map_before request_order (logged_answers (entries_since n es)) (answers_of s)) same.entries;
      }

  -- where the log and the state are as before
  pub kept_stays : (old new : ReviewParts E A P D) → IsSameLog old.log new.log → Stays old new → Keeps old new
  kept_stays old new same stays = record {
    from = same.from;
    each = λ n le i. map_before request_order (logged_answers (entries_since n (same.entries i))) (answers_of (stays i));
  }

  pub kept_itself : (v : ReviewParts E A P D) → Keeps v v
  kept_itself v = record { from = refl; each = λ n le. refl }

  -- the difference of a table at a serial and the present one, as that of their maps
  pub difference_told : (v : ReviewParts E A P D) (n : ℕ) (changes : List (LoggedChange Who Answer))
      → IsDifference request_order same_answer (table_at request_order v.log (answer_at (state_of v)) n) (answer_at (state_of v)) changes
      → changes ≡ map_difference same_answer (table_at_serial (reviewed v) n) (answers_of (state_of v))
  difference_told v n changes d =
      let s : State = state_of v in
      let olds : List (OldAnswer Who Answer) = logged_answers (entries_since n v.log.entries.items) in
      difference-of_maps requests-total same_answer_equiv requests-exact (map_before request_order olds (answers_of s)) (answers_of s) changes
      (difference-same request_order same_answer (table_before request_order olds (answer_at s)) (answer_at s) (get (map_before request_order olds (answers_of s))) (get (answers_of s)) changes
      (λ k. sym (get-map_before requests-total olds (answers_of s) k ∙ ap (unwrap_or (first_answer_or request_order olds k None)) (get-answers_of s k)))
      (λ k. sym (get-answers_of s k))
      d)

  -- the present table is the one at the present serial
  pub table_now : (v : ReviewParts E A P D) → IsFresh v → IsFreshAtSerial (reviewed v)
  table_now v fresh = ap (λ es. map_before request_order (logged_answers es) (answers_of (state_of v))) fresh.closed
