-- What is heard more, of one thing behind another, and where outcomes are read from then on.
use Rattle.std.proofs.Common.{◌≡◌, ℕ, Bool, true, false, ◌||◌, List, [], ◌∷◌, Some, get_or, slice_get, refl, sym, ap, ap₂, subst, ◌∙◌}
use Rattle.std.specs.Prelude.{Err, Ok, OnOk, Result, eqb}
use Rattle.std.specs.List.{IsDistinct}
use Rattle.std.proofs.lemmas.Option.{slice_get-get_or}
use Rattle.indexmap.specs.IndexSet.{insert_key}
use Rattle.ent_request.specs.Note.{asks}
use Rattle.ent_request.specs.Questions.{AreNumbers, asked_once, at_numbers, same_question}
use Rattle.ent_request.specs.declared.question.Question.{Question}
use Rattle.ent_request.specs.declared.question.Question.TheVariants.{Root}
use Rattle.ent_request.proofs.Numbering.{noted_there}
use Rattle.memo_plan.specs.Heard.{Came, Gist, gist_of}
use Rattle.memo_plan.proofs.Gists.{once_behind}
use Rattle.memo_tests.specs.declared.outcome.TestOutcome.{TestOutcome}
use Rattle.memo_replay.specs.declared.over.Over.{Over}
use Rattle.memo_replay.specs.declared.state.JoinState.{JoinState}
use Rattle.memo_replay.specs.proofs_only.Heard.{HearsMore, HearsNothing, StaysThere, gist_by, gist_in, joined}
use Rattle.memo_replay.specs.proofs_only.Stands.{Goes, Stands, StandsFrom, questions_of}

-- ---- gists

or_assoc : (a b c : Bool) → ((a || b) || c) ≡ (a || (b || c))
or_assoc true b c = refl
or_assoc false b c = refl

or_none : (a : Bool) → (a || false) ≡ a
or_none true = refl
or_none false = refl

-- by the first of two, and by the second where the first isn't so
pub either_first : (a b r : Bool) → a ≡ true → r ≡ true → r ≡ (a || b)
either_first a b r first is = is ∙ ap (λ c. c || b) (sym first)

pub either_second : (a b r : Bool) → a ≡ false → r ≡ b → r ≡ (a || b)
either_second a b r first is = is ∙ ap (λ c. c || b) (sym first)

pub joined_assoc : (g h k : Gist) → joined (joined g h) k ≡ joined g (joined h k)
joined_assoc g h k =
    ap₂ (λ (qs : List Question) (b : Bool). record { questions = qs; failed = b })
    (sym (once_behind g.questions h.questions k.questions))
    (or_assoc g.failed h.failed k.failed)

-- nothing behind
pub joined_none : (g : Gist) → joined g (gist_of []) ≡ g
joined_none g = ap (λ (b : Bool). record { questions = g.questions; failed = b }) (or_none g.failed)

-- ---- what is heard more

pub hears_same : (questions : List Question) (g h : Gist) (s t : JoinState) → g ≡ h → HearsMore questions g s t → HearsMore questions h s t
hears_same questions g h s t same more = subst (λ k. HearsMore questions k s t) same more

-- one thing behind another
pub hears_then : (questions : List Question) (g h : Gist) (s t u : JoinState)
    → HearsMore questions g s t → HearsMore questions h t u → HearsMore questions (joined g h) s u
hears_then questions g h s t u first second within =
    let one = first within in
    let two = second one.0 in
    (two.0, two.1 ∙ ap (λ k. joined k h) one.1 ∙ joined_assoc (gist_in questions s) g h)

same_gist : (questions : List Question) (s t : JoinState) → HearsNothing s t → gist_in questions t ≡ gist_in questions s
same_gist questions s t none = ap₂ (λ (ns : List _) (b : Bool). gist_in questions (record s { asked = ns; failed = b })) none.0 none.1

-- nothing is heard
pub hears_nothing : (questions : List Question) (s t : JoinState) → HearsNothing s t → HearsMore questions (gist_of []) s t
hears_nothing questions s t none within =
    (subst (AreNumbers questions) (sym none.0) within, same_gist questions s t none ∙ sym (joined_none (gist_in questions s)))

-- nothing, and then this
pub hears_behind_nothing : (questions : List Question) (g : Gist) (s t u : JoinState)
    → HearsNothing s t → HearsMore questions g t u → HearsMore questions g s u
hears_behind_nothing questions g s t u none more within =
    let by = more (subst (AreNumbers questions) (sym none.0) within) in
    (by.0, by.1 ∙ ap (λ k. joined k g) (same_gist questions s t none))

-- this, and then nothing
pub hears_before_nothing : (questions : List Question) (g : Gist) (s t u : JoinState)
    → HearsMore questions g s t → HearsNothing t u → HearsMore questions g s u
hears_before_nothing questions g s t u more none within =
    let by = more within in
    (subst (AreNumbers questions) (sym none.0) by.0, same_gist questions t u none ∙ by.1)

pub nothing_itself : (s : JoinState) → HearsNothing s s
nothing_itself s = (refl, refl)

-- ---- numbers that are noted, each once

-- several, one after another
abbrev pub noted_all : List ℕ → List ℕ → List ℕ
noted_all numbers [] = numbers
noted_all numbers (n ∷ more) = noted_all (insert_key eqb numbers n) more

-- those of distinct questions are these questions, each once
noted_questions : (questions : List Question) (numbers more : List ℕ) → IsDistinct same_question questions → AreNumbers questions more → AreNumbers questions numbers
    → AreNumbers questions (noted_all numbers more) × (at_numbers questions (noted_all numbers more) ≡ asked_once (at_numbers questions numbers) (at_numbers questions more))
noted_questions questions numbers [] distinct within are = (are, refl)
noted_questions questions numbers (n ∷ more) distinct within are =
    let at : slice_get questions n ≡ Some (get_or questions n Root) = slice_get-get_or questions n Root within.0 in
    let one = noted_there questions numbers (insert_key eqb numbers n) n (get_or questions n Root) (record { distinct = distinct; within = are }) at refl in
    let others = noted_questions questions (insert_key eqb numbers n) more distinct within.1 one.0.within in
    (others.0, others.1 ∙ ap (λ qs. asked_once qs (at_numbers questions more)) one.1)

-- one question is asked
pub hears_asked : (questions : List Question) (q : Question) (n : ℕ) (s t : JoinState) → IsDistinct same_question questions → slice_get questions n ≡ Some q
    → t.asked ≡ insert_key eqb s.asked n → t.failed ≡ s.failed → HearsMore questions (gist_of (asks q ∷ [])) s t
hears_asked questions q n s t distinct at noted failed within =
    let one = noted_there questions s.asked t.asked n q (record { distinct = distinct; within = within }) at noted in
    (one.0.within, ap₂ (λ (qs : List Question) (b : Bool). record { questions = qs; failed = b }) one.1 (failed ∙ sym (or_none s.failed)))

-- it is where its number was noted
pub asked_heard : {E : Type 0} (r : Result (Unit {0}) E) (n : ℕ) (s t : JoinState) → OnOk r (t.asked ≡ insert_key eqb s.asked n) → t.failed ≡ s.failed
    → OnOk r ((questions : List Question) (q : Question) → IsDistinct same_question questions → slice_get questions n ≡ Some q → HearsMore questions (gist_of (asks q ∷ [])) s t)
asked_heard (Ok x) n s t noted failed = λ questions q distinct at. hears_asked questions q n s t distinct at noted failed
asked_heard (Err e) n s t noted failed = tt

-- an outcome is heard of
pub hears_outcome : (questions : List Question) (o : TestOutcome) (s t : JoinState) → IsDistinct same_question questions → AreNumbers questions o.asked
    → t.asked ≡ noted_all s.asked o.asked → t.failed ≡ (s.failed || o.failed) → HearsMore questions (gist_by questions o) s t
hears_outcome questions o s t distinct numbers noted failed within =
    let all = noted_questions questions s.asked o.asked distinct numbers within in (
      subst (AreNumbers questions) (sym noted) all.0,
      ap₂ (λ (qs : List Question) (b : Bool). record { questions = qs; failed = b }) (ap (at_numbers questions) noted ∙ all.1) failed,
    )

-- ---- where outcomes are read

module _ {L : Type 0} (over : Over L) where
  -- the next outcome is the same
  pub stands_there : (s t : JoinState) (cs : List Came) → StaysThere s t → Stands over s cs → Stands over t cs
  stands_there s t cs there stands =
      subst (λ n. StandsFrom over n t.at cs) (sym there.0) (subst (λ n. StandsFrom over s.place n cs) (sym there.1) stands)

  pub goes_same : (s t : JoinState) (g h : Gist) (cs : List Came) → g ≡ h → Goes over s t g cs → Goes over s t h cs
  goes_same s t g h cs same goes = (hears_same (questions_of over) g h s t same goes.0, goes.1)

  -- going on behind another
  pub goes_then : (s t u : JoinState) (g h : Gist) (first cs : List Came) → Goes over s t g first → Goes over t u h cs → Goes over s u (joined g h) cs
  goes_then s t u g h first cs one two = (hears_then (questions_of over) g h s t u one.0 two.0, two.1)

  -- nothing is heard, and nothing is passed
  pub goes_nowhere : (s t : JoinState) (cs : List Came) → HearsNothing s t → StaysThere s t → Stands over s cs → Goes over s t (gist_of []) cs
  goes_nowhere s t cs none there stands = (hears_nothing (questions_of over) s t none, stands_there s t cs there stands)

  -- nothing is heard, and outcomes are passed
  pub goes_unheard : (s t : JoinState) (cs : List Came) → HearsNothing s t → Stands over t cs → Goes over s t (gist_of []) cs
  goes_unheard s t cs none stands = (hears_nothing (questions_of over) s t none, stands)

  -- something is heard, and nothing is passed
  pub goes_hearing : (s t : JoinState) (g : Gist) (cs : List Came) → HearsMore (questions_of over) g s t → StaysThere s t → Stands over s cs → Goes over s t g cs
  goes_hearing s t g cs more there stands = (more, stands_there s t cs there stands)
