-- What is wanted of some keys, and the cells that read it.
use Rattle.std.proofs.Common.{◌≡◌, ℕ, ◌+◌, ◌<◌, ◌≤◌, Bool, true, false, ◌&&◌, List, [], ◌∷◌, ◌++◌, Option, Some, None, length, get_or, slice_get, take, nat_eq, refl, sym, ap, subst, ◌∙◌, ◌⊎◌, inl, inr, arith}
use Rattle.std.specs.Prelude.{◌||◌, eqb}
use Rattle.std.specs.Cmp.{nat_eq_equiv}
use Rattle.std.specs.List.{Contains, IsDistinct, list_any}
use Rattle.std.specs.Option.{option_map_or}
use Rattle.std.proofs.lemmas.List.{take_all}
use Rattle.std.proofs.lemmas.List.Folds.{list_any-append, list_any_at, list_any_more}
use Rattle.std.proofs.lemmas.Slice.Eq.{bytes_eq-Decides}
use Rattle.ent_finder.specs.declared.row.AttrKey.{AttrKey}
use Rattle.ent_request.specs.declared.key.ReadKey.{ReadKey}
use Rattle.ent_request.specs.declared.question.Question.{Question}
use Rattle.ent_request.specs.declared.question.Question.TheVariants.{Root}
use Rattle.ent_request.specs.declared.readers.NamePlace.{NamePlace}
use Rattle.ent_request.specs.declared.readers.NamePlace.TheVariants.{Person, Action, Resource}
use Rattle.ent_request.specs.declared.key.ReadKey.TheVariants.{Attr}
use Rattle.ent_request.specs.declared.readers.Readers.TheVariants.{Named, Nobody}
use Rattle.ent_request.specs.Listed.{listed}
use Rattle.ent_request.specs.Noted.{has_key}
use Rattle.ent_request.specs.QuestionOf.{question_of}
use Rattle.ent_request.specs.Questions.{AreNumbers, at_numbers, is_asked, keys_at, number_of, same_question}
use Rattle.ent_request.specs.Readers.{entity_in, is_reader, looks_up, name_at, readers_of}
use Rattle.ent_request.proofs.Numbered.{found_at}
use Rattle.ent_request.proofs.Numbering.{number_there}
use Rattle.ent_request.proofs.ReadersAre.{listed_look_ups}
use Rattle.slab.proofs.SlabLemmas.{Contains-cons_cases, Contains-entries}
use Rattle.slab.specs.Slab.{Slab, entries, get}
use Rattle.ent_index.specs.declared.group.Group.{Group}
use Rattle.ent_index.specs.declared.groups.Groups.{Groups}
use Rattle.ent_index.specs.declared.wanted.Wanted.{Wanted}
use Rattle.ent_index.specs.Groups.{AreWanted, Covers, is_among, is_member, is_under, is_wanted, numbers_of}
use Rattle.ent_index.specs.proofs_only.Grouped.{roll_under}
use Rattle.ent_index.specs.proofs_only.Groups.{AddsKey, CoversOne, HasAll, HasAllOf, HasAsking, HasMore, names_at}

-- ---- Booleans

both : (a b : Bool) → (a && b) ≡ true → (a ≡ true) × (b ≡ true)
both true b h = (refl, h)
both false b h = absurd (cc)

turned : (a b : Bool) → (a && b) ≡ (b && a)
turned true true = refl
turned true false = refl
turned false true = refl
turned false false = refl

or_false : (b : Bool) → (b || false) ≡ b
or_false true = refl
or_false false = refl

any_same : {A : Type 0} (p q : A → Bool) → ((x : A) → p x ≡ q x) → (xs : List A) → list_any p xs ≡ list_any q xs
any_same p q same [] = refl
any_same p q same (x ∷ xs) = ap (λ b. b || list_any p xs) (same x) ∙ ap (λ b. q x || b) (any_same p q same xs)

-- ---- a key, and what is wanted of it

module _ (person action resource : List ℕ) (questions : List Question) (numbers : List ℕ) (are : AreNumbers questions numbers) where
  abbrev reads : ReadKey → Bool
  reads k = has_key (keys_at (listed person action resource) (at_numbers questions numbers)) k

  -- a question that has no number isn't asked
  unasked : (q : Question) → is_asked questions q ≡ false → (ns : List ℕ) → AreNumbers questions ns → is_asked (at_numbers questions ns) q ≡ false
  unasked q none [] all = refl
  unasked q none (n ∷ ns) all = by (same_question q (get_or questions n Root)) refl (unasked q none ns all.1) where
    by : (b : Bool) → same_question q (get_or questions n Root) ≡ b → is_asked (at_numbers questions ns) q ≡ false → (same_question q (get_or questions n Root) || is_asked (at_numbers questions ns) q) ≡ false
    by false e rest = ap (λ b. b || is_asked (at_numbers questions ns) q) e ∙ rest
    by true e rest =
        let yes : is_asked questions q ≡ true = list_any_at (same_question q) questions n Root all.0 e in
        absurd (cc)

  reads_none : (k : ReadKey) → is_asked questions (question_of k) ≡ false → reads k ≡ false
  reads_none k none =
      listed_look_ups person action resource (at_numbers questions numbers) k ∙ ap (λ b. b && looks_up person action resource k) (unasked (question_of k) none numbers are)

  -- one that has a number is asked where the number is among those
  reads_one : IsDistinct same_question questions → (k : ReadKey) (n : ℕ) (w : Wanted) → number_of questions (question_of k) ≡ Some n → w.number ≡ n → w.readers ≡ readers_of k → w.key.now ≡ k
      → is_wanted person action resource numbers w ≡ reads k
  reads_one distinct k n w is number readers key =
      let at : slice_get questions n ≡ Some (question_of k) = found_at questions (question_of k) n is in
      let asked : is_among numbers n ≡ is_asked (at_numbers questions numbers) (question_of k) =
      any_same (λ x. nat_eq x n) (eqb n) (λ x. nat_eq_equiv.symm x n) numbers ∙ number_there questions n (question_of k) distinct at numbers are in
      ap (λ m. is_reader w.readers (entity_in w.key.now) person action resource && is_among numbers m) number
      ∙ ap (λ r. is_reader r (entity_in w.key.now) person action resource && is_among numbers n) readers
      ∙ ap (λ x. is_reader (readers_of k) (entity_in x) person action resource && is_among numbers n) key
      ∙ turned (looks_up person action resource k) (is_among numbers n) ∙ ap (λ b. b && looks_up person action resource k) asked
      ∙ sym (listed_look_ups person action resource (at_numbers questions numbers) k)

-- ---- the loop over keys

pub wanted_none : (questions : List Question) (keys : List ReadKey) (wanted : List Wanted) → wanted ≡ [] → AreWanted questions (take 0 keys) wanted
wanted_none questions keys wanted is person action resource numbers are = ap (list_any (is_wanted person action resource numbers)) is

pub adds_none : (questions : List Question) (k : ReadKey) (wanted : List Wanted) → is_asked questions (question_of k) ≡ false → AddsKey questions k wanted wanted
adds_none questions k wanted none person action resource numbers are =
    let p = is_wanted person action resource numbers in
    sym (or_false (list_any p wanted)) ∙ ap (λ b. list_any p wanted || b) (sym (reads_none person action resource questions numbers are k none))

pub adds_one : (questions : List Question) (k : ReadKey) (n : ℕ) (w : Wanted) (wanted more : List Wanted) → IsDistinct same_question questions → number_of questions (question_of k) ≡ Some n
    → w.number ≡ n → w.readers ≡ readers_of k → w.key.now ≡ k → more ≡ wanted ++ w ∷ [] → AddsKey questions k wanted more
adds_one questions k n w wanted more distinct is number readers key pushed person action resource numbers are =
    let p = is_wanted person action resource numbers in
    ap (list_any p) pushed ∙ list_any-append p wanted (w ∷ []) ∙ ap (λ b. list_any p wanted || b) (or_false (p w))
    ∙ ap (λ b. list_any p wanted || b) (reads_one person action resource questions numbers are distinct k n w is number readers key)

pub wanted_step : (questions : List Question) (keys : List ReadKey) (i : ℕ) (k : ReadKey) (wanted more : List Wanted) → i < length keys → k ≡ get_or keys i k → AddsKey questions k wanted more
    → AreWanted questions (take i keys) wanted → AreWanted questions (take (i + 1) keys) more
wanted_step questions keys i k wanted more below at adds so_far person action resource numbers are =
    let p = reads person action resource questions numbers are in
    adds person action resource numbers are ∙ ap (λ b. b || p k) (so_far person action resource numbers are) ∙ ap (λ x. list_any p (take i keys) || p x) at ∙ sym (list_any_more p keys i k below)

pub wanted_all : (questions : List Question) (keys : List ReadKey) (i : ℕ) (wanted : List Wanted) → length keys ≤ i → AreWanted questions (take i keys) wanted → AreWanted questions keys wanted
wanted_all questions keys i wanted past so_far = subst (λ ks. AreWanted questions ks wanted) (take_all i keys past) so_far

-- where there are no questions nothing is read
pub nothing_read : (person action resource : List ℕ) (wanted : List Wanted) → list_any (is_wanted person action resource []) wanted ≡ false
nothing_read person action resource [] = refl
nothing_read person action resource (w ∷ wanted) =
    ap (λ b. b || list_any (is_wanted person action resource []) wanted) (turned (is_reader w.readers (entity_in w.key.now) person action resource) false) ∙ nothing_read person action resource wanted

-- ---- what covers

pub covers_one_named : (groups : Groups) (w : Wanted) (place : NamePlace) (k : AttrKey) (roll : Option (List ℕ)) (set : List ℕ) → w.readers ≡ Named place → w.key.now ≡ Attr k
    → roll ≡ roll_under (names_at place groups) k.entity → HasAllOf roll set → CoversOne groups w set
covers_one_named groups w place k roll set readers key is all person action resource g c named holding wanted =
    has roll all (ap (λ o. option_map_or (λ x. is_member x c) o false) is ∙ by place (name readers key (both _ _ wanted).0)) where
      name : w.readers ≡ Named place → w.key.now ≡ Attr k → is_reader w.readers (entity_in w.key.now) person action resource ≡ true → k.entity ≡ name_at place person action resource
      name r e h =
          (bytes_eq-Decides k.entity (name_at place person action resource)).0
          (sym (ap (λ o. is_reader o (entity_in w.key.now) person action resource) r ∙ ap (λ x. is_reader (Named place) (entity_in x) person action resource) e) ∙ h)

      by : (p : NamePlace) → k.entity ≡ name_at p person action resource → is_under (names_at p groups) k.entity c ≡ true
      by Person e = ap (λ n. is_under groups.persons n c) e ∙ named.by_person
      by Action e = ap (λ n. is_under groups.actions n c) e ∙ named.by_action
      by Resource e = ap (λ n. is_under groups.resources n c) e ∙ named.by_resource

      has : (o : Option (List ℕ)) → HasAllOf o set → option_map_or (λ x. is_member x c) o false ≡ true → is_member set c ≡ true
      has None all h = absurd (cc)
      has (Some cells) all h = all c h

pub covers_one_asking : (groups : Groups) (w : Wanted) (set : List ℕ) → HasAsking groups w.number set → CoversOne groups w set
covers_one_asking groups w set asking person action resource g c named holding wanted = asking g c holding (both _ _ wanted).1

pub covers_nobody : (groups : Groups) (w : Wanted) (set : List ℕ) → w.readers ≡ Nobody → CoversOne groups w set
covers_nobody groups w set is person action resource g c named holding wanted =
    let no : is_reader w.readers (entity_in w.key.now) person action resource ≡ false = ap (λ r. is_reader r (entity_in w.key.now) person action resource) is in
    let yes : is_reader w.readers (entity_in w.key.now) person action resource ≡ true = (both _ _ wanted).0 in
    absurd (cc)

-- ---- the loop over what is wanted

pub covers_none : (groups : Groups) (wanted : List Wanted) (set : List ℕ) → Covers groups (take 0 wanted) set
covers_none groups wanted set person action resource g c named holding h =
    let no : false ≡ true = h in
    absurd (cc)

pub covers_more : (groups : Groups) (wanted : List Wanted) (i : ℕ) (w : Wanted) (old new : List ℕ) → i < length wanted → w ≡ get_or wanted i w → CoversOne groups w new → HasMore old new
    → Covers groups (take i wanted) old → Covers groups (take (i + 1) wanted) new
covers_more groups wanted i w old new below at one more so_far person action resource g c named holding h =
    by (list_any q (take i wanted)) refl (sym (list_any_more q wanted i w below ∙ ap (λ x. list_any q (take i wanted) || q x) (sym at)) ∙ h) where
      q : Wanted → Bool
      q = is_wanted person action resource (numbers_of groups g)

      by : (b : Bool) → list_any q (take i wanted) ≡ b → (list_any q (take i wanted) || q w) ≡ true → is_member new c ≡ true
      by true e h = more c (so_far person action resource g c named holding e)
      by false e h = one person action resource g c named holding (sym (ap (λ b. b || q w) e) ∙ h)

pub covers_all : (groups : Groups) (wanted : List Wanted) (i : ℕ) (set : List ℕ) → length wanted ≤ i → Covers groups (take i wanted) set → Covers groups wanted set
covers_all groups wanted i set past so_far = subst (λ ws. Covers groups ws set) (take_all i wanted past) so_far

-- ---- the loop over groups

-- each cell that is to be in a set is in it, or in a group that is left
abbrev pub AreAsking : Slab Group → ℕ → List (ℕ × Group) → List ℕ → Type 0
AreAsking groups n left set = (g c : ℕ) (x : Group) → get groups g ≡ Some x → is_among x.numbers n ≡ true → is_member x.cells c ≡ true → Contains left (g, x) ⊎ (is_member set c ≡ true)

pub asking_start : (groups : Slab Group) (n : ℕ) (left : List (ℕ × Group)) (set : List ℕ) → left ≡ entries groups → AreAsking groups n left set
asking_start groups n left set is g c x at number member = inl (subst (λ es. Contains es (g, x)) (sym is) ((Contains-entries groups g x).1 at))

pub asking_next : (groups : Slab Group) (n : ℕ) (left rest : List (ℕ × Group)) (key : ℕ) (group : Group) (old new : List ℕ) → left ≡ (key, group) ∷ rest → (is_among group.numbers n ≡ true → HasAll group.cells new) → HasMore old new
    → AreAsking groups n left old → AreAsking groups n rest new
asking_next groups n left rest key group old new is all more so_far g c x at number member = by (so_far g c x at number member) where
  first : ◌≡◌ {A = ℕ × Group} (key, group) (g, x) → is_member new c ≡ true
  first same =
      let this : group ≡ x = ap (λ (e : ℕ × Group). e.1) same in
      all (ap (λ y. is_among y.numbers n) this ∙ number) c (ap (λ y. is_member y.cells c) this ∙ member)

  cases : (◌≡◌ {A = ℕ × Group} (key, group) (g, x)) ⊎ Contains rest (g, x) → Contains rest (g, x) ⊎ (is_member new c ≡ true)
  cases (inl same) = inr (first same)
  cases (inr later) = inl later

  by : Contains left (g, x) ⊎ (is_member old c ≡ true) → Contains rest (g, x) ⊎ (is_member new c ≡ true)
  by (inl there) = cases (Contains-cons_cases (key, group) (g, x) rest (subst (λ es. Contains es (g, x)) is there))
  by (inr there) = inr (more c there)

pub asking_all : (groups : Groups) (n : ℕ) (left : List (ℕ × Group)) (set : List ℕ) → left ≡ [] → AreAsking groups.groups n left set → HasAsking groups n set
asking_all groups n left set is so_far g c holding number = by (get groups.groups g) refl holding number where
  done : (x : Group) → Contains left (g, x) ⊎ (is_member set c ≡ true) → is_member set c ≡ true
  done x (inl there) = absurd (nothing (subst (λ es. Contains es (g, x)) is there)) where
    nothing : Contains {X = ℕ × Group} [] (g, x) → ⊥
    nothing e = omega (arith, e.1)
  done x (inr there) = there

  by : (o : Option Group) → get groups.groups g ≡ o → option_map_or (λ x. is_member x.cells c) o false ≡ true → is_among (option_map_or (λ x. x.numbers) o []) n ≡ true → is_member set c ≡ true
  by None at h k = absurd (cc)
  by (Some x) at h k = done x (so_far g c x at k h)

pub more_then : (a b c : List ℕ) → HasMore a b → HasMore b c → HasMore a c
more_then a b c first second x h = second x (first x h)
