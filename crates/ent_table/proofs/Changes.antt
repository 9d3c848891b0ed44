-- How many answers an edit changes.
use Rattle.std.proofs.Common.{◌≡◌, ℕ, ◌+◌, List, [], ◌∷◌, ◌++◌, length, map, nat_eq, Bool, true, false, refl, sym, ap, subst, ◌∙◌, arith, length-append}
use Rattle.std.specs.Prelude.{◌&&◌, not, filter}
use Rattle.std.specs.Cmp.Lexicographic.{pointwise}
use Rattle.std.proofs.lemmas.List.{length-map}
use Rattle.ent_cells.specs.Cell.{unlike_count}
use Rattle.ent_request.specs.declared.answer.Answer.{Answer}
use Rattle.ent_request.specs.Same.{same_answer}
use Rattle.ent_request.proofs.Sames.{answer-Decides}
use Rattle.ent_table.specs.declared.edit.List.{List as Which}
use Rattle.ent_table.specs.declared.edit.List.TheVariants as which
use Rattle.ent_table.specs.Difference.{differs, changes}
use Rattle.ent_table.specs.Names.{Names, Triple, triples, is_listed, has_name, list_of, others, with_list, with_name, without_name}
use Rattle.ent_table.specs.State.{State, answer_to, fresh}
use Rattle.ent_table.specs.Step.{next}
use Rattle.ent_table.specs.proofs_only.Table.{requests_with}
use Rattle.ent_table.proofs.Counts.{passing, AllPass, none_left, passing-not, passing-same, all_pass, listed_count, has_others, known-own, known-new, known-more, known-others, own_listed}
use Rattle.ent_table.proofs.Places.{length-all_triples}

pub same_self : (a : Answer) → same_answer a a ≡ true
same_self a = (answer-Decides a a).1 refl

-- the difference is counted in two parts
parts : (s t : State) → changes s t ≡ passing (differs s t) (triples t.names) + passing (λ x. not (is_listed t.names x)) (triples s.names)
parts s t = length-append (filter (differs s t) (triples t.names)) (filter (λ x. not (is_listed t.names x)) (triples s.names))

-- ---- the same names

unlike_by : (s t : State) → t.names ≡ s.names → (x : Triple) → is_listed t.names x ≡ true → differs s t x ≡ not (same_answer (answer_to s x) (answer_to t x))
unlike_by s t e x h = rw (h, sym (ap (λ (n : Names). is_listed n x) e) ∙ h)

counted : (s t : State) (xs : List Triple) → unlike_count (map (answer_to s) xs) (map (answer_to t) xs) ≡ passing (λ x. not (same_answer (answer_to s x) (answer_to t x))) xs
counted s t [] = refl
counted s t (x ∷ xs) = by (same_answer (answer_to s x) (answer_to t x)) refl (counted s t xs) where
  by : (b : Bool) → same_answer (answer_to s x) (answer_to t x) ≡ b
      → unlike_count (map (answer_to s) xs) (map (answer_to t) xs) ≡ passing (λ x. not (same_answer (answer_to s x) (answer_to t x))) xs
      → unlike_count (map (answer_to s) (x ∷ xs)) (map (answer_to t) (x ∷ xs)) ≡ passing (λ x. not (same_answer (answer_to s x) (answer_to t x))) (x ∷ xs)
  by true e h = rw e (omega (arith, h))
  by false e h = rw e (omega (arith, h))

pub changes-same_names : (s t : State) → t.names ≡ s.names → changes s t ≡ unlike_count (fresh s) (fresh t)
changes-same_names s t e =
    let listed = own_listed t.names in
    let first : passing (differs s t) (triples t.names) ≡ passing (λ x. not (same_answer (answer_to s x) (answer_to t x))) (triples t.names) =
    passing-same (is_listed t.names) (differs s t) (λ x. not (same_answer (answer_to s x) (answer_to t x))) (unlike_by s t e) (triples t.names) listed in
    let second : passing (λ x. not (is_listed t.names x)) (triples s.names) ≡ 0 =
    subst (λ (n : Names). passing (λ x. not (is_listed t.names x)) (triples n) ≡ 0) e (none_left (is_listed t.names) (triples t.names) listed) in
    let count : unlike_count (fresh s) (fresh t) ≡ passing (λ x. not (same_answer (answer_to s x) (answer_to t x))) (triples t.names) =
    subst (λ (n : Names). unlike_count (map (answer_to s) (triples n)) (fresh t) ≡ passing (λ x. not (same_answer (answer_to s x) (answer_to t x))) (triples t.names)) e (counted s t (triples t.names)) in
    parts s t ∙ omega (arith, first, second, count)

-- ---- a name more

-- the state with a name more
abbrev pub more_names : State → Which → List ℕ → State
more_names s list name = next (record s { names = with_name list name s.names })

new_alone : (s : State) (list : Which) (name : List ℕ) (x : Triple) → is_listed (more_names s list name).names x ≡ true → differs s (more_names s list name) x ≡ not (is_listed s.names x)
new_alone s list name x h = by (is_listed s.names x) refl where
  by : (b : Bool) → is_listed s.names x ≡ b → differs s (more_names s list name) x ≡ not b
  by true e = rw (e, h, same_self (answer_to s x))
  by false e = rw (e, h)

-- the old requests among the new ones
old_among : (s : State) (list : Which) (name : List ℕ) → has_name name (list_of list s.names) ≡ false → passing (is_listed s.names) (triples (with_name list name s.names)) ≡ length (triples s.names)
old_among s which.People name h =
    listed_count s.names s.names.resources s.names.actions (s.names.people ++ name ∷ [])
    ∙ rw (known-new s.names.people name h, known-own s.names.actions, known-own s.names.resources) (sym (length-all_triples s.names.actions s.names.resources s.names.people))
old_among s which.Actions name h =
    listed_count s.names s.names.resources (s.names.actions ++ name ∷ []) s.names.people
    ∙ rw (known-new s.names.actions name h, known-own s.names.people, known-own s.names.resources) (sym (length-all_triples s.names.actions s.names.resources s.names.people))
old_among s which.Resources name h =
    listed_count s.names (s.names.resources ++ name ∷ []) s.names.actions s.names.people
    ∙ rw (known-new s.names.resources name h, known-own s.names.people, known-own s.names.actions) (sym (length-all_triples s.names.actions s.names.resources s.names.people))

-- the old requests are all among the new ones
still_listed : (names : Names) (list : Which) (name : List ℕ) → AllPass (is_listed (with_name list name names)) (triples names)
still_listed names which.People name =
    all_pass _ (triples names)
    (listed_count (with_name which.People name names) names.resources names.actions names.people
    ∙ rw (known-more names.people (name ∷ []), known-own names.actions, known-own names.resources) (sym (length-all_triples names.actions names.resources names.people)))
still_listed names which.Actions name =
    all_pass _ (triples names)
    (listed_count (with_name which.Actions name names) names.resources names.actions names.people
    ∙ rw (known-more names.actions (name ∷ []), known-own names.people, known-own names.resources) (sym (length-all_triples names.actions names.resources names.people)))
still_listed names which.Resources name =
    all_pass _ (triples names)
    (listed_count (with_name which.Resources name names) names.resources names.actions names.people
    ∙ rw (known-more names.resources (name ∷ []), known-own names.people, known-own names.actions) (sym (length-all_triples names.actions names.resources names.people)))

-- with a name more there are as many requests more as the name has
sizes : (names : Names) (list : Which) (name : List ℕ) → length (triples (with_name list name names)) ≡ length (triples names) + length (triples (with_list list (name ∷ []) names))
sizes names which.People name =
    rw (length-all_triples names.actions names.resources (names.people ++ name ∷ []), length-all_triples names.actions names.resources names.people, length-all_triples names.actions names.resources (name ∷ []), length-append names.people (name ∷ [])) (grind arith)
sizes names which.Actions name =
    rw (length-all_triples (names.actions ++ name ∷ []) names.resources names.people, length-all_triples names.actions names.resources names.people, length-all_triples (name ∷ []) names.resources names.people, length-append names.actions (name ∷ [])) (grind arith)
sizes names which.Resources name =
    rw (length-all_triples names.actions (names.resources ++ name ∷ []) names.people, length-all_triples names.actions names.resources names.people, length-all_triples names.actions (name ∷ []) names.people, length-append names.resources (name ∷ [])) (grind arith)

-- those that weren't listed are those of the name
pub new_among : (s : State) (list : Which) (name : List ℕ) → has_name name (list_of list s.names) ≡ false
    → passing (λ x. not (is_listed s.names x)) (triples (with_name list name s.names)) ≡ length (requests_with list name s.names)
new_among s list name h =
    omega (arith, old_among s list name h, passing-not (is_listed s.names) (triples (with_name list name s.names)), sizes s.names list name)

pub changes-name_added : (s : State) (list : Which) (name : List ℕ) → has_name name (list_of list s.names) ≡ false → changes s (more_names s list name) ≡ length (requests_with list name s.names)
changes-name_added s list name h =
    let t = more_names s list name in
    let first : passing (differs s t) (triples t.names) ≡ passing (λ x. not (is_listed s.names x)) (triples t.names) =
    passing-same (is_listed t.names) (differs s t) (λ x. not (is_listed s.names x)) (new_alone s list name) (triples t.names) (own_listed t.names) in
    let second : passing (λ x. not (is_listed t.names x)) (triples s.names) ≡ 0 = none_left (is_listed t.names) (triples s.names) (still_listed s.names list name) in
    parts s t ∙ omega (arith, first, second, new_among s list name h)

-- ---- a name less

-- the state without a name
abbrev pub less_names : State → Which → List ℕ → State
less_names s list name = next (record s { names = without_name list name s.names })

both : (a b c : Bool) → (b ≡ true → c ≡ true) → (a && b) ≡ true → (a && c) ≡ true
both true b c h e = h e
both false b c h e = e

first_of_both : (a b c : Bool) → (a ≡ true → b ≡ true) → (a && c) ≡ true → (b && c) ≡ true
first_of_both true b c h e = rw (h refl) e
first_of_both false b c h e = cc

-- a name that is left was there
was_there : (name x : List ℕ) (xs : List (List ℕ)) → has_name x (others name xs) ≡ true → has_name x xs ≡ true
was_there name x xs h = by (not (pointwise nat_eq name x)) (sym (has_others name x xs) ∙ h) where
  by : (b : Bool) → (b && has_name x xs) ≡ true → has_name x xs ≡ true
  by true e = e
  by false e = cc

-- a request that is left was listed
pub was_listed : (names : Names) (list : Which) (name : List ℕ) (x : Triple) → is_listed (without_name list name names) x ≡ true → is_listed names x ≡ true
was_listed names which.People name x =
    first_of_both (has_name x.person (others name names.people)) (has_name x.person names.people) (has_name x.action names.actions && has_name x.resource names.resources) (was_there name x.person names.people)
was_listed names which.Actions name x =
    both (has_name x.person names.people) (has_name x.action (others name names.actions) && has_name x.resource names.resources) (has_name x.action names.actions && has_name x.resource names.resources)
    (first_of_both (has_name x.action (others name names.actions)) (has_name x.action names.actions) (has_name x.resource names.resources) (was_there name x.action names.actions))
was_listed names which.Resources name x =
    both (has_name x.person names.people) (has_name x.action names.actions && has_name x.resource (others name names.resources)) (has_name x.action names.actions && has_name x.resource names.resources)
    (both (has_name x.action names.actions) (has_name x.resource (others name names.resources)) (has_name x.resource names.resources) (was_there name x.resource names.resources))

-- and its answer stays
rest_alike : (s : State) (list : Which) (name : List ℕ) (x : Triple) → is_listed (less_names s list name).names x ≡ true → differs s (less_names s list name) x ≡ not (is_listed (less_names s list name).names x)
rest_alike s list name x h = rw (was_listed s.names list name x h, h, same_self (answer_to s x))

-- how many of the old requests are left
left_among : (names : Names) (list : Which) (name : List ℕ) → passing (is_listed (without_name list name names)) (triples names) ≡ length (triples (without_name list name names))
left_among names which.People name =
    listed_count (without_name which.People name names) names.resources names.actions names.people
    ∙ rw (known-others name names.people, known-own names.actions, known-own names.resources) (sym (length-all_triples names.actions names.resources (others name names.people)))
left_among names which.Actions name =
    listed_count (without_name which.Actions name names) names.resources names.actions names.people
    ∙ rw (known-others name names.actions, known-own names.people, known-own names.resources) (sym (length-all_triples (others name names.actions) names.resources names.people))
left_among names which.Resources name =
    listed_count (without_name which.Resources name names) names.resources names.actions names.people
    ∙ rw (known-others name names.resources, known-own names.people, known-own names.actions) (sym (length-all_triples names.actions (others name names.resources) names.people))

-- as many answers change as there are cells less
pub changes-name_dropped : (s : State) (list : Which) (name : List ℕ) → changes s (less_names s list name) + length (fresh (less_names s list name)) ≡ length (fresh s)
changes-name_dropped s list name =
    let t = less_names s list name in
    let first : passing (differs s t) (triples t.names) ≡ passing (λ x. not (is_listed t.names x)) (triples t.names) =
    passing-same (is_listed t.names) (differs s t) (λ x. not (is_listed t.names x)) (rest_alike s list name) (triples t.names) (own_listed t.names) in
    let none : passing (λ x. not (is_listed t.names x)) (triples t.names) ≡ 0 = none_left (is_listed t.names) (triples t.names) (own_listed t.names) in
    omega (arith, parts s t, first, none, left_among s.names list name, passing-not (is_listed t.names) (triples s.names), length-map (triples s.names) (answer_to s), length-map (triples t.names) (answer_to t))
