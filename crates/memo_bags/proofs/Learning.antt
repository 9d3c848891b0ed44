-- What was found stays so as questions and bags get numbers, and rows learn what is found.
use Rattle.std.proofs.Common.{◌≡◌, inl, inr, ℕ, ◌<◌, List, [], ◌∷◌, Option, Some, length, slice_get, get_or, refl, sym, ap, subst, ◌∙◌, arith}
use Rattle.std.specs.List.{AllByRecursion}
use Rattle.std.proofs.lemmas.Option.{get_or_from_slice_get, slice_get-get_or, slice_get_within}
use Rattle.ent_values.specs.Bags.{Contents}
use Rattle.memo_bags.specs.declared.finding.Finding.{Finding}
use Rattle.memo_bags.specs.declared.names.NameRows.{NameRows}
use Rattle.memo_bags.specs.declared.names.NameRow.{NameRow}
use Rattle.ent_request.specs.declared.question.Asked.{Asked}
use Rattle.ent_request.specs.declared.question.Question.{Question}
use Rattle.ent_request.specs.declared.question.Question.TheVariants.{Root, Of}
use Rattle.ent_request.specs.declared.readers.NamePlace.{NamePlace}
use Rattle.ent_request.specs.declared.request.Request.{Request}
use Rattle.ent_request.specs.Looks.{Looks}
use Rattle.memo_bags.specs.Found.{FindsBag, FindsIn, IsAbout, bag_for, bag_in, place_of}
use Rattle.memo_bags.specs.Findings.{IsFinding, IsRow}
use Rattle.ent_request.specs.Questions.{AreNumbers, at_numbers}
use Rattle.memo_trie.specs.Tree.{Turn}
use Rattle.memo_bags.specs.declared.finding.About.{About}
use Rattle.memo_bags.specs.Ways.{FindsWay, IsTurn, Way, turn_of, turned}
use Rattle.memo_bags.specs.proofs_only.Led.{AreAbout}
use Rattle.memo_bags.specs.proofs_only.Ready.{AddsRows, AreRows, Begins, FindsAll, FindsForName, IsAt, Knows, KnowsLatest, LearnsLatest}
use Rattle.ent_request.proofs.Lists.{all_append}
use Rattle.memo_bags.proofs.Growing.{all_map, all_set, get_set, some_same, starts_back, starts_get, starts_itself, starts_length}
use Rattle.memo_bags.proofs.ListedBags.{found_for}
use Rattle.ent_request.proofs.Numbering.{all_at}

-- ---- growth

module _ (looks : Looks) (questions more : List Question) (bags bigger : List Contents) (first : Begins more questions) (second : Begins bigger bags) where
  pub finds_more : (request : Request) (n k : ℕ) → FindsBag looks questions bags request n k → FindsBag looks more bigger request n k
  finds_more request n k finds = (finds.0, (starts_get questions more n finds.0 first finds.1.0, starts_get bags bigger k (bag_for looks request finds.0) second finds.1.1))

  pub all_more : (request : Request) (found : List Finding) → FindsAll looks questions bags request found → FindsAll looks more bigger request found
  all_more request found all =
      all_map (λ f. FindsBag looks questions bags request f.question f.bag) (λ f. FindsBag looks more bigger request f.question f.bag) (λ f. finds_more request f.question f.bag) found all

  pub finding_more : (f : Finding) → IsFinding questions bags f → IsFinding more bigger f
  finding_more f is = (omega (arith, is.0, starts_length bags bigger second), (is.1.0, (starts_get questions more f.question is.1.0 first is.1.1.0, is.1.1.1)))

  pub are_more : (found : List Finding) → AllByRecursion (IsFinding questions bags) found → AllByRecursion (IsFinding more bigger) found
  are_more found all = all_map (IsFinding questions bags) (IsFinding more bigger) finding_more found all

  -- what a request finds that was found before, it found then
  pub finds_back : (request : Request) (f : Finding) → IsFinding questions bags f → FindsBag looks more bigger request f.question f.bag → FindsBag looks questions bags request f.question f.bag
  finds_back request f is finds =
      let below : f.question < length questions = slice_get_within questions f.question is.1.0 is.1.1.0 in
      (finds.0, (starts_back questions more f.question finds.0 first below finds.1.0, starts_back bags bigger f.bag (bag_for looks request finds.0) second is.0 finds.1.1))

  pub all_back : (request : Request) (found : List Finding) → AllByRecursion (IsFinding questions bags) found → FindsAll looks more bigger request found → FindsAll looks questions bags request found
  all_back request [] are all = tt
  all_back request (f ∷ found) are all = (finds_back request f are.0 all.0, all_back request found are.1 all.1)

  pub row_more : (place : NamePlace) (row : NameRow) → IsRow looks questions bags place row → IsRow looks more bigger place row
  row_more place row is n k known =
      let f = is n k known in
      (f.0, (starts_get questions more n (Of f.0) first f.1.0, (f.1.1.0, starts_get bags bigger k (bag_in looks f.0 row.name) second f.1.1.1)))

  pub rows_more : (place : NamePlace) (names : NameRows) → AreRows looks questions bags place names → AreRows looks more bigger place names
  rows_more place names all = all_map (IsRow looks questions bags place) (IsRow looks more bigger place) (row_more place) names.rows.items all

  pub numbers_more : (numbers : List ℕ) → AreNumbers questions numbers → AreNumbers more numbers × (at_numbers more numbers ≡ at_numbers questions numbers)
  numbers_more [] within = (tt, refl)
  numbers_more (n ∷ numbers) within =
      let rest = numbers_more numbers within.1 in
      let there : slice_get more n ≡ Some (get_or questions n Root) = starts_get questions more n (get_or questions n Root) first (slice_get-get_or questions n Root within.0) in (
        (slice_get_within more n (get_or questions n Root) there, rest.0),
        ap (λ x. x ∷ at_numbers more numbers) (get_or_from_slice_get more n (get_or questions n Root) Root there) ∙ ap (λ xs. get_or questions n Root ∷ xs) rest.1,
      )

  pub about_more : (n : ℕ) (place : NamePlace) → IsAbout questions n place → IsAbout more n place
  about_more n place is = (is.0, (starts_get questions more n is.0 first is.1.0, is.1.1))

  turn_more : (t : Turn About) → IsTurn questions bags t → IsTurn more bigger t
  turn_more t is = finding_more (record { question = t.key.question; place = t.key.place; bag = t.number }) is

  pub turns_more : (way : Way) → AllByRecursion (IsTurn questions bags) way → AllByRecursion (IsTurn more bigger) way
  turns_more way all = all_map (IsTurn questions bags) (IsTurn more bigger) turn_more way all

  -- a way that a request finds it found before, where its turns were there
  pub way_back : (request : Request) (way : Way) → AllByRecursion (IsTurn questions bags) way → FindsWay looks more bigger request way → FindsWay looks questions bags request way
  way_back request [] turns all = tt
  way_back request (t ∷ way) turns all =
      (finds_back request (record { question = t.key.question; place = t.key.place; bag = t.number }) turns.0 all.0, way_back request way turns.1 all.1)

-- ---- rows

-- rows of which nothing is known are as they should be
pub added_rows : (looks : Looks) (questions : List Question) (bags : List Contents) (place : NamePlace) (old new : List NameRow) → AddsRows old new
    → AllByRecursion (IsRow looks questions bags place) old → AllByRecursion (IsRow looks questions bags place) new
added_rows looks questions bags place old new adds all =
    subst (AllByRecursion (IsRow looks questions bags place)) (sym adds.1.0)
    (all_append (IsRow looks questions bags place) old adds.0 all (all_map (λ r. r.found.items ≡ []) (IsRow looks questions bags place) fresh adds.0 adds.1.1)) where
      nothing : (xs : List (Option ℕ)) (n k : ℕ) → xs ≡ [] → slice_get xs n ≡ Some (Some k) → ⊥
      nothing [] n k is at = absurd (cc)
      nothing (x ∷ xs) n k is at = absurd (cc)

      fresh : (row : NameRow) → row.found.items ≡ [] → IsRow looks questions bags place row
      fresh row is n k known = absurd (nothing row.found.items n k is known)

-- what is known of the latest name is found for it
pub known_for : (looks : Looks) (questions : List Question) (bags : List Contents) (place : NamePlace) (names : NameRows) (name : List ℕ) (n k : ℕ)
    → AreRows looks questions bags place names → IsAt names name → KnowsLatest names n k → FindsForName looks questions bags place name n k
known_for looks questions bags place names name n k all at knows =
    let row : knows.0 ≡ at.0 = some_same knows.0 at.0 (sym knows.1.0 ∙ at.1.0) in
    let named : name ≡ knows.0.name = sym at.1.1 ∙ ap (λ (r : NameRow). r.name) (sym row) in
    let f : FindsIn looks questions bags place knows.0.name n k =
    all_at (IsRow looks questions bags place) names.rows.items names.latest knows.0 all knows.1.0 n k knows.1.1 in
    found_for looks questions bags place name n k f.0 f.1.0 f.1.1.0 (f.1.1.1 ∙ ap (λ x. Some (bag_in looks f.0 x)) (sym named))

-- a row that learns what is found for its name is as it should be
pub learnt_rows : (looks : Looks) (questions : List Question) (bags : List Contents) (place : NamePlace) (old new : NameRows) (name : List ℕ) (n k : ℕ)
    → FindsIn looks questions bags place name n k → IsAt old name → LearnsLatest old new n k
    → AreRows looks questions bags place old → AreRows looks questions bags place new
learnt_rows looks questions bags place old new name n k finds at learns all =
    subst (AllByRecursion (IsRow looks questions bags place)) (sym learns.1.1.1.1.0)
    (all_set (IsRow looks questions bags place) old.rows.items old.latest learns.1.0 next all) where
      next : (row : NameRow) → slice_get old.rows.items old.latest ≡ Some row → IsRow looks questions bags place row
          → IsRow looks questions bags place learns.1.0
      next row there is m j knows =
          let this : learns.0 ≡ row = some_same learns.0 row (sym learns.1.1.1.0 ∙ there) in
          let at_row : at.0 ≡ row = some_same at.0 row (sym at.1.0 ∙ there) in
          let named : learns.1.0.name ≡ row.name = learns.1.1.1.1.1.0 ∙ ap (λ (r : NameRow). r.name) this in
          let its : learns.1.0.name ≡ name = named ∙ ap (λ (r : NameRow). r.name) (sym at_row) ∙ at.1.1 in
          elim (learns.1.1.1.1.1.1 m j knows) [
            | inl before ↦ subst (λ x. FindsIn looks questions bags place x m j) (sym named)
                (is m j (subst (λ r. Knows r m j) this before))
            | inr now ↦ subst (λ x. FindsIn looks questions bags place learns.1.0.name x j) (sym now.0)
                (subst (λ x. FindsIn looks questions bags place learns.1.0.name n x) (sym now.1)
                (subst (λ x. FindsIn looks questions bags place x n k) (sym its) finds))
          ]

-- and the names are still at it
pub learnt_at : (old new : NameRows) (name : List ℕ) (n k : ℕ) → IsAt old name → LearnsLatest old new n k → IsAt new name
learnt_at old new name n k at learns =
    let row : at.0 ≡ learns.0 = some_same at.0 learns.0 (sym at.1.0 ∙ learns.1.1.1.0) in
    let below : old.latest < length old.rows.items = slice_get_within old.rows.items old.latest learns.0 learns.1.1.1.0 in (
      learns.1.0,
      (
        ap (slice_get new.rows.items) learns.1.1.0 ∙ ap (λ rows. slice_get rows old.latest) learns.1.1.1.1.0 ∙ get_set old.rows.items old.latest learns.1.0 below,
        learns.1.1.1.1.1.0 ∙ ap (λ (r : NameRow). r.name) (sym row) ∙ at.1.1,
      ),
    )

-- what was looked up for a name is found for it
found_in : (looks : Looks) (questions : List Question) (bags : List Contents) (place : NamePlace) (name : List ℕ) (n k : ℕ) (a : Asked) (b : Contents)
    → slice_get questions n ≡ Some (Of a) → IsAbout questions n place → b ≡ bag_in looks a name → slice_get bags k ≡ Some b
    → FindsIn looks questions bags place name n k
found_in looks questions bags place name n k a b at about is there =
    let this : about.0 ≡ Of a = some_same about.0 (Of a) (sym about.1.0 ∙ at) in
    (a, (at, (ap place_of (sym this) ∙ about.1.1, there ∙ ap Some is)))

-- whoever else is named
pub found_now : (looks : Looks) (questions : List Question) (bags : List Contents) (place : NamePlace) (name : List ℕ) (n k : ℕ) (a : Asked) (b : Contents)
    → slice_get questions n ≡ Some (Of a) → IsAbout questions n place → b ≡ bag_in looks a name → slice_get bags k ≡ Some b
    → FindsForName looks questions bags place name n k
found_now looks questions bags place name n k a b at about is there =
    let f = found_in looks questions bags place name n k a b at about is there in
    found_for looks questions bags place name n k f.0 f.1.0 f.1.1.0 f.1.1.1

-- and its row learns it
pub learnt_now : (looks : Looks) (questions : List Question) (bags bigger : List Contents) (place : NamePlace) (old new : NameRows) (name : List ℕ) (n k : ℕ) (a : Asked) (b : Contents)
    → slice_get questions n ≡ Some (Of a) → IsAbout questions n place → b ≡ bag_in looks a name → slice_get bigger k ≡ Some b
    → Begins bigger bags → IsAt old name → LearnsLatest old new n k → AreRows looks questions bags place old → AreRows looks questions bigger place new
learnt_now looks questions bags bigger place old new name n k a b at about is there begins stands learns all =
    learnt_rows looks questions bigger place old new name n k (found_in looks questions bigger place name n k a b at about is there) stands learns
    (rows_more looks questions questions bags bigger (starts_itself questions questions refl) begins place old all)

-- ---- ways

module _ (looks : Looks) (questions : List Question) (bags : List Contents) (request : Request) where
  pub way_finds : (way : Way) (found : List Finding) → FindsWay looks questions bags request (turned way found) → FindsWay looks questions bags request way × FindsAll looks questions bags request found
  way_finds way [] all = (all, tt)
  way_finds way (f ∷ found) all =
      let later = way_finds (turn_of f ∷ way) found all in
      (later.0.1, (later.0.0, later.1))

  pub finds_way : (way : Way) (found : List Finding) → FindsWay looks questions bags request way → FindsAll looks questions bags request found → FindsWay looks questions bags request (turned way found)
  finds_way way [] before all = before
  finds_way way (f ∷ found) before all = finds_way (turn_of f ∷ way) found (all.0, before) all.1

-- findings that are there are turns
pub turns_all : (questions : List Question) (bags : List Contents) (way : Way) (found : List Finding) → AllByRecursion (IsTurn questions bags) way → AllByRecursion (IsFinding questions bags) found
    → AllByRecursion (IsTurn questions bags) (turned way found)
turns_all questions bags way [] before all = before
turns_all questions bags way (f ∷ found) before all = turns_all questions bags (turn_of f ∷ way) found (all.0, before) all.1

pub about_all : (questions : List Question) (bags : List Contents) (found : List Finding) → AllByRecursion (IsFinding questions bags) found → AreAbout questions found
about_all questions bags found are = all_map (IsFinding questions bags) (λ f. IsAbout questions f.question f.place) (λ f is. is.1) found are
