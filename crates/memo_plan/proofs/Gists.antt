-- What is heard of parts, by what is heard of their own parts.
use Rattle.std.proofs.Common.{◌≡◌, ℕ, zero, suc, Bool, true, false, ◌||◌, List, [], ◌∷◌, ◌++◌, map, refl, sym, ap, ap₂, ◌∙◌}
use Rattle.std.specs.Prelude.{get_or, if◌then◌else◌, unwrap_or}
use Rattle.ent_combine.specs.Choose.{choose, is_bad}
use Rattle.ent_combine.specs.Seen.{rest_to_passing, up_to_first, up_to_passing}
use Rattle.ent_combine.specs.declared.chooser.Choice.{Choice}
use Rattle.ent_combine.specs.declared.chooser.Choice.TheVariants as choice
use Rattle.ent_combine.specs.declared.outcome.RuleAlg.{RuleAlg}
use Rattle.ent_policy.specs.declared.document.Rule.{Rule}
use Rattle.ent_policy.specs.declared.key.DocKey.{DocKey}
use Rattle.ent_request.specs.Causes.{are_any}
use Rattle.ent_request.specs.Note.{Note, asks, causes_in, fails, note_of_rule, note_within, passed, passed_over, questions_in}
use Rattle.ent_request.specs.Part.{Part, after_look, and_then, mapped, notes_of, of_rule, seen_parts, settled, values, whole, within, without_look}
use Rattle.ent_request.specs.Plain.{bad, nothing}
use Rattle.ent_request.specs.Questions.{asked_once, is_asked, same_question, with_question}
use Rattle.ent_request.specs.declared.answer.Answer.{Answer}
use Rattle.ent_request.specs.declared.answer.Status.TheVariants.{ProcessingError}
use Rattle.ent_request.specs.declared.question.Question.{Question}
use Rattle.ent_request.proofs.Among.{asked_now, asked_still}
use Rattle.ent_request.proofs.Sames.{question-Decides}
use Rattle.memo_plan.specs.Heard.{Gist, Heard, gist_of, heard}
use Rattle.ent_walk.specs.Judged.{has_failed, judgement_of, stops, with_target}
use Rattle.ent_walk.specs.Node.{children_after, combined, element}
use Rattle.ent_walk.specs.Only.{choice_part, chosen, chosen_part, first_target_status, only_one, results, seen_choice, several, spoils}
use Rattle.ent_walk.specs.Rule.{decided, rule_after}
use Rattle.ent_walk.specs.declared.evaluated.Truth.{Truth}
use Rattle.ent_walk.specs.declared.evaluated.Truth.TheVariants as truth
use Rattle.ent_walk.specs.declared.target.Targeted.{Targeted}
use Rattle.ent_walk.specs.declared.target.Targeted.TheVariants as is

-- ---- questions, each once

still_asked : (questions more : List Question) (q : Question) → is_asked questions q ≡ true → is_asked (asked_once questions more) q ≡ true
still_asked questions [] q there = there
still_asked questions (m ∷ more) q there = still_asked (with_question questions m) more q (asked_still questions q m (is_asked questions m) there)

-- what is asked is so behind others too
asked_behind : (before questions : List Question) (q : Question) → is_asked questions q ≡ true → is_asked (asked_once before questions) q ≡ true
asked_behind before [] q there = absurd (cc)
asked_behind before (p ∷ questions) q there = at (same_question q p) refl there (asked_behind (with_question before p) questions q) where
  at : (b : Bool) → same_question q p ≡ b → (b || is_asked questions q) ≡ true → (is_asked questions q ≡ true → is_asked (asked_once (with_question before p) questions) q ≡ true)
      → is_asked (asked_once (with_question before p) questions) q ≡ true
  at true same h later = still_asked (with_question before p) questions q (ap (is_asked (with_question before p)) ((question-Decides q p).0 same) ∙ asked_now before p)
  at false same h later = later h

once_append : (questions first later : List Question) → asked_once questions (first ++ later) ≡ asked_once (asked_once questions first) later
once_append questions [] later = refl
once_append questions (q ∷ first) later = once_append (with_question questions q) first later

once_with : (before questions : List Question) (q : Question) (b : Bool) → is_asked questions q ≡ b → asked_once before (if b then questions else questions ++ q ∷ []) ≡ with_question (asked_once before questions) q
once_with before questions q true there =
    sym (ap (λ b. if b then asked_once before questions else asked_once before questions ++ q ∷ []) (asked_behind before questions q there))
once_with before questions q false there = once_append before questions (q ∷ [])

pub once_behind : (before questions more : List Question) → asked_once before (asked_once questions more) ≡ asked_once (asked_once before questions) more
once_behind before questions [] = refl
once_behind before questions (q ∷ more) =
    once_behind before (with_question questions q) more ∙ ap (λ qs. asked_once qs more) (once_with before questions q (is_asked questions q) refl)

-- ---- notes

abbrev pub joined : Gist → Gist → Gist
joined g h = record { questions = asked_once g.questions h.questions; failed = g.failed || h.failed }

questions_append : (ns ms : List Note) → questions_in (ns ++ ms) ≡ questions_in ns ++ questions_in ms
questions_append [] ms = refl
questions_append (asks q ∷ ns) ms = ap (λ qs. q ∷ qs) (questions_append ns ms)
questions_append (fails c ∷ ns) ms = questions_append ns ms
questions_append (passed c ∷ ns) ms = questions_append ns ms

any_append : (ns ms : List Note) → are_any (causes_in (ns ++ ms)) ≡ (are_any (causes_in ns) || are_any (causes_in ms))
any_append [] ms = refl
any_append (asks q ∷ ns) ms = any_append ns ms
any_append (fails c ∷ ns) ms = refl
any_append (passed c ∷ ns) ms = refl

pub gist_append : (ns ms : List Note) → gist_of (ns ++ ms) ≡ joined (gist_of ns) (gist_of ms)
gist_append ns ms =
    ap₂ (λ (qs : List Question) (b : Bool). record { questions = qs; failed = b })
    (ap (asked_once []) (questions_append ns ms) ∙ once_append [] (questions_in ns) (questions_in ms)
    ∙ sym (once_behind (asked_once [] (questions_in ns)) [] (questions_in ms)))
    (any_append ns ms)

-- notes that ask the same and fail alike
gist_map : (f : Note → Note) → ((n : Note) (ns : List Note) → questions_in (f n ∷ ns) ≡ questions_in (n ∷ ns)) → ((n : Note) (ns : List Note) → are_any (causes_in (f n ∷ ns)) ≡ are_any (causes_in (n ∷ ns)))
    → (ns : List Note) → gist_of (map f ns) ≡ gist_of ns
gist_map f asks_same fails_same ns = ap₂ (λ (qs : List Question) (b : Bool). record { questions = asked_once [] qs; failed = b }) (questions ns) (any ns) where
  more : (n : Note) (ns ms : List Note) → questions_in ns ≡ questions_in ms → questions_in (n ∷ ns) ≡ questions_in (n ∷ ms)
  more (asks q) ns ms e = ap (λ qs. q ∷ qs) e
  more (fails c) ns ms e = e
  more (passed c) ns ms e = e

  any_more : (n : Note) (ns ms : List Note) → are_any (causes_in ns) ≡ are_any (causes_in ms) → are_any (causes_in (n ∷ ns)) ≡ are_any (causes_in (n ∷ ms))
  any_more (asks q) ns ms e = e
  any_more (fails c) ns ms e = refl
  any_more (passed c) ns ms e = refl

  questions : (ns : List Note) → questions_in (map f ns) ≡ questions_in ns
  questions [] = refl
  questions (n ∷ ns) = asks_same n (map f ns) ∙ more n (map f ns) ns (questions ns)

  any : (ns : List Note) → are_any (causes_in (map f ns)) ≡ are_any (causes_in ns)
  any [] = refl
  any (n ∷ ns) = fails_same n (map f ns) ∙ any_more n (map f ns) ns (any ns)

pub heard_within : {A : Type 0} (key : DocKey) (p : Part A) → heard (within key p) ≡ heard p
heard_within key p = ap (λ (g : Gist). record { value = p.value; gist = g }) (gist_map (note_within key) asked any p.notes) where
  asked : (n : Note) (ns : List Note) → questions_in (note_within key n ∷ ns) ≡ questions_in (n ∷ ns)
  asked (asks q) ns = refl
  asked (fails c) ns = refl
  asked (passed c) ns = refl

  any : (n : Note) (ns : List Note) → are_any (causes_in (note_within key n ∷ ns)) ≡ are_any (causes_in (n ∷ ns))
  any (asks q) ns = refl
  any (fails c) ns = refl
  any (passed c) ns = refl

pub heard_of_rule : {A : Type 0} (id : List ℕ) (p : Part A) → heard (of_rule id p) ≡ heard p
heard_of_rule id p = ap (λ (g : Gist). record { value = p.value; gist = g }) (gist_map (note_of_rule id) asked any p.notes) where
  asked : (n : Note) (ns : List Note) → questions_in (note_of_rule id n ∷ ns) ≡ questions_in (n ∷ ns)
  asked (asks q) ns = refl
  asked (fails c) ns = refl
  asked (passed c) ns = refl

  any : (n : Note) (ns : List Note) → are_any (causes_in (note_of_rule id n ∷ ns)) ≡ are_any (causes_in (n ∷ ns))
  any (asks q) ns = refl
  any (fails c) ns = refl
  any (passed c) ns = refl

-- what fails is heard as much where it is passed over
pub heard_settled : {A : Type 0} (is_so : A → Bool) (p : Part A) → heard (settled is_so p) ≡ heard p
heard_settled is_so p = at (is_so p.value) where
  asked : (n : Note) (ns : List Note) → questions_in (passed_over n ∷ ns) ≡ questions_in (n ∷ ns)
  asked (asks q) ns = refl
  asked (fails c) ns = refl
  asked (passed c) ns = refl

  any : (n : Note) (ns : List Note) → are_any (causes_in (passed_over n ∷ ns)) ≡ are_any (causes_in (n ∷ ns))
  any (asks q) ns = refl
  any (fails c) ns = refl
  any (passed c) ns = refl

  at : (b : Bool) → heard (record { value = p.value; notes = if b then p.notes else map passed_over p.notes }) ≡ heard p
  at true = refl
  at false = ap (λ (g : Gist). record { value = p.value; gist = g }) (gist_map passed_over asked any p.notes)

-- ---- parts

abbrev pub heard_then : {A B : Type 0} → Heard A → (A → Heard B) → Heard B
heard_then h f = record { value = (f h.value).value; gist = joined h.gist (f h.value).gist }

pub heard_and_then : {A B : Type 0} (p : Part A) (f : A → Part B) → heard (and_then p f) ≡ heard_then (heard p) (λ a. heard (f a))
heard_and_then p f = ap (λ (g : Gist). record { value = (f p.value).value; gist = g }) (gist_append p.notes (f p.value).notes)

abbrev pub heard_mapped : {A B : Type 0} → (A → B) → Heard A → Heard B
heard_mapped f h = record { value = f h.value; gist = h.gist }

-- behind something that was heard
abbrev pub behind : {A : Type 0} → Gist → Heard A → Heard A
behind g h = record { value = h.value; gist = joined g h.gist }

pub look_heard : {A : Type 0} (q : Question) (p : Part A) → heard (after_look q p) ≡ behind (gist_of (asks q ∷ [])) (heard p)
look_heard q p = ap (λ (g : Gist). record { value = p.value; gist = g }) (gist_append (asks q ∷ []) p.notes)

-- ---- wholes

abbrev pub gists : {A : Type 0} → List (Heard A) → Gist
gists [] = gist_of []
gists (h ∷ hs) = joined h.gist (gists hs)

abbrev pub value_of : {A : Type 0} → Heard A → A
value_of h = h.value

heard_values : {A : Type 0} (ps : List (Part A)) → values ps ≡ map value_of (map heard ps)
heard_values [] = refl
heard_values (p ∷ ps) = ap (λ vs. p.value ∷ vs) (heard_values ps)

heard_notes : {A : Type 0} (ps : List (Part A)) → gist_of (notes_of ps) ≡ gists (map heard ps)
heard_notes [] = refl
heard_notes (p ∷ ps) = gist_append p.notes (notes_of ps) ∙ ap (joined (gist_of p.notes)) (heard_notes ps)

map_first : {X Y : Type 0} (f : X → Y) (p : X → Bool) (q : Y → Bool) → ((x : X) → q (f x) ≡ p x) → (xs : List X) → map f (up_to_first p xs) ≡ up_to_first q (map f xs)
map_first f p q same [] = refl
map_first f p q same (x ∷ xs) = at (p x) (map_first f p q same xs) ∙ ap (λ b. if b then f x ∷ [] else f x ∷ up_to_first q (map f xs)) (sym (same x)) where
  at : (b : Bool) → map f (up_to_first p xs) ≡ up_to_first q (map f xs) → map f (if b then x ∷ [] else x ∷ up_to_first p xs) ≡ (if b then f x ∷ [] else f x ∷ up_to_first q (map f xs))
  at true later = refl
  at false later = ap (λ ys. f x ∷ ys) later

abbrev pub heard_whole : {A B : Type 0} → (A → Bool) → (List A → B) → List (Heard A) → Heard B
heard_whole fixed of_values hs = record { value = of_values (map value_of hs); gist = gists (up_to_first (λ h. fixed h.value) hs) }

pub whole_heard : {A B : Type 0} (fixed : A → Bool) (of_values : List A → B) (ps : List (Part A)) → heard (whole fixed of_values ps) ≡ heard_whole fixed of_values (map heard ps)
whole_heard {A = A} fixed of_values ps =
    ap₂ (λ v (g : Gist). record { value = v; gist = g }) (ap of_values (heard_values ps))
    (heard_notes (seen_parts fixed ps) ∙ ap gists (map_first heard (λ (p : Part A). fixed p.value) (λ (h : Heard A). fixed h.value) (λ p. refl) ps))

-- ---- rules

abbrev pub heard_under : List DocKey → Rule → Targeted → Heard Truth → (Answer → Heard Answer) → Heard Answer
heard_under path rule is.NoMatch c own = heard (without_look nothing)
heard_under path rule (is.Indeterminate status) c own = heard (without_look (decided path rule (truth.Indeterminate status)))
heard_under path rule is.Match c own = behind c.gist (own (decided path rule c.value))

-- a rule by what is heard of its target, of its condition, and of what it gives itself
abbrev pub heard_rule : List DocKey → Rule → Heard Targeted → Heard Truth → (Answer → Heard Answer) → Heard Answer
heard_rule path rule t c own = behind t.gist (heard_under path rule t.value c own)

pub rule_heard : (id : List ℕ) (t : Part Targeted) (c : Part Truth) (own : Answer → Part Answer) (path : List DocKey) (rule : Rule)
    → heard (of_rule id (and_then t (rule_after own c path rule))) ≡ heard_rule path rule (heard t) (heard c) (λ a. heard (own a))
rule_heard id t c own path rule =
    heard_of_rule id (and_then t (rule_after own c path rule)) ∙ heard_and_then t (rule_after own c path rule) ∙ ap (behind (gist_of t.notes)) (under t.value) where
      under : (v : Targeted) → heard (rule_after own c path rule v) ≡ heard_under path rule v (heard c) (λ a. heard (own a))
      under is.NoMatch = refl
      under (is.Indeterminate status) = refl
      under is.Match = heard_and_then (mapped (decided path rule) c) own

-- ---- elements

abbrev pub heard_after : Targeted → Heard Answer → (Answer → Heard Answer) → Heard Answer
heard_after is.NoMatch p own = heard (without_look nothing)
heard_after is.Match p own = heard_then p own
heard_after (is.Indeterminate status) p own = heard_mapped (with_target (is.Indeterminate status)) p

-- an element by what is heard of its target, of its children, and of what it gives itself
abbrev pub heard_element : Heard Targeted → Heard Answer → (Answer → Heard Answer) → Heard Answer
heard_element t p own = behind t.gist (heard_after t.value p own)

pub element_heard : (key : DocKey) (t : Part Targeted) (p : Part Answer) (own : Answer → Part Answer) → heard (element key t p own) ≡ heard_element (heard t) (heard p) (λ a. heard (own a))
element_heard key t p own =
    heard_and_then (within key t) (λ v. within key (children_after own children v))
    ∙ ap₂ behind (ap (λ (h : Heard Targeted). h.gist) (heard_within key t)) (heard_within key (children_after own children t.value) ∙ after t.value) where
      children : Part Answer
      children = settled has_failed p

      after : (v : Targeted) → heard (children_after own children v) ≡ heard_after v (heard p) (λ a. heard (own a))
      after is.NoMatch = refl
      after is.Match = heard_and_then children own ∙ ap (λ (h : Heard Answer). heard_then h (λ a. heard (own a))) (heard_settled has_failed p)
      after (is.Indeterminate status) = ap (heard_mapped (with_target (is.Indeterminate status))) (heard_settled has_failed p)

-- ---- children

abbrev pub heard_combined : List DocKey → RuleAlg → List (Heard Answer) → Heard Answer
heard_combined here algorithm hs = heard_whole (stops algorithm) (judgement_of here algorithm) hs

pub combined_heard : (here : List DocKey) (algorithm : RuleAlg) (ps : List (Part Answer)) → heard (combined here algorithm ps) ≡ heard_combined here algorithm (map heard ps)
combined_heard here algorithm ps = whole_heard (stops algorithm) (judgement_of here algorithm) ps

-- whether what is heard of targets makes a choice Bad
abbrev spoiled : List (Heard Targeted) → Bool
spoiled hs = is_bad (choose (results (map value_of hs)))

map_append : {X Y : Type 0} (f : X → Y) (xs ys : List X) → map f (xs ++ ys) ≡ map f xs ++ map f ys
map_append f [] ys = refl
map_append f (x ∷ xs) ys = ap (λ zs. f x ∷ zs) (map_append f xs ys)

map_passing : {X Y : Type 0} (f : X → Y) (p : List X → Bool) (q : List Y → Bool) → ((xs : List X) → q (map f xs) ≡ p xs) → (before xs : List X)
    → map f (rest_to_passing p before xs) ≡ rest_to_passing q (map f before) (map f xs)
map_passing f p q same before [] = refl
map_passing f p q same before (x ∷ xs) =
    at (p (before ++ x ∷ [])) (map_passing f p q same (before ++ x ∷ []) xs)
    ∙ ap₂ (λ b ys. if b then f x ∷ [] else f x ∷ rest_to_passing q ys (map f xs)) (sym (same (before ++ x ∷ [])) ∙ ap q (map_append f before (x ∷ []))) (map_append f before (x ∷ [])) where
      at : (b : Bool) → map f (rest_to_passing p (before ++ x ∷ []) xs) ≡ rest_to_passing q (map f (before ++ x ∷ [])) (map f xs)
          → map f (if b then x ∷ [] else x ∷ rest_to_passing p (before ++ x ∷ []) xs) ≡ (if b then f x ∷ [] else f x ∷ rest_to_passing q (map f (before ++ x ∷ [])) (map f xs))
      at true later = refl
      at false later = ap (λ ys. f x ∷ ys) later

abbrev heard_seen : List (Heard Targeted) → List (Heard Targeted)
heard_seen hs = up_to_passing spoiled hs

seen_heard : (ts : List (Part Targeted)) → map heard (seen_choice ts) ≡ heard_seen (map heard ts)
seen_heard ts = map_passing heard spoils spoiled (λ ps. ap (λ vs. is_bad (choose (results vs))) (sym (heard_values ps))) [] ts

abbrev heard_chosen : List (Heard Answer) → Choice → List Targeted → Heard Answer
heard_chosen hs choice.Nobody seen = heard (without_look nothing)
heard_chosen hs (choice.Only place) seen = get_or hs place (heard (without_look nothing))
heard_chosen hs choice.Bad seen = heard (without_look (bad (unwrap_or (first_target_status seen) ProcessingError)))

map_get : {X Y : Type 0} (f : X → Y) (xs : List X) (n : ℕ) (other : X) → f (get_or xs n other) ≡ get_or (map f xs) n (f other)
map_get f [] n other = refl
map_get f (x ∷ xs) zero other = refl
map_get f (x ∷ xs) (suc n) other = map_get f xs n other

chosen_heard : (answers : List (Part Answer)) (c : Choice) (seen : List Targeted)
    → heard (chosen_part answers (chosen c seen)) ≡ heard_chosen (map heard answers) c seen
chosen_heard answers choice.Nobody seen = refl
chosen_heard answers (choice.Only place) seen = map_get heard answers place (without_look nothing)
chosen_heard answers choice.Bad seen = refl

-- the child that is chosen by all targets, behind what is heard of those that were seen
abbrev chosen_behind : List Targeted → Gist → List Targeted → List (Heard Answer) → Heard Answer
chosen_behind all g seen answers =
    behind (joined g (gist_of (several (choose (results all)) (first_target_status seen))))
    (heard_chosen answers (choose (results all)) seen)

abbrev pub heard_only : List (Heard Targeted) → List (Heard Answer) → Heard Answer
heard_only hs answers = chosen_behind (map value_of hs) (gists (heard_seen hs)) (map value_of (heard_seen hs)) answers

pub only_heard : (ts : List (Part Targeted)) (answers : List (Part Answer)) → heard (only_one ts answers) ≡ heard_only (map heard ts) (map heard answers)
only_heard ts answers =
    heard_and_then (choice_part ts) (chosen_part answers)
    ∙ ap (λ (h : Heard Answer). behind (gist_of (choice_part ts).notes) h)
    (chosen_heard answers (choose (results (values ts))) (values (seen_choice ts)))
    ∙ ap (λ (g : Gist). behind g
    (heard_chosen (map heard answers) (choose (results (values ts))) (values (seen_choice ts))))
    (gist_append (notes_of (seen_choice ts))
    (several (choose (results (values ts))) (first_target_status (values (seen_choice ts)))))
    ∙ ap₂ (λ (g : Gist) (vs : List Targeted). chosen_behind (values ts) g vs (map heard answers))
    (heard_notes (seen_choice ts) ∙ ap gists (seen_heard ts))
    (heard_values (seen_choice ts) ∙ ap (map value_of) (seen_heard ts))
    ∙ ap (λ vs. chosen_behind vs (gists (heard_seen (map heard ts))) (map value_of (heard_seen (map heard ts)))
    (map heard answers))
    (heard_values ts)
