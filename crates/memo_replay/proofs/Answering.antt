-- What is heard of a whole answer: the question of the root, and the document that it names, joined of its tests.
use Rattle.std.proofs.Common.{◌≡◌, ℕ, Bool, false, List, [], ◌∷◌, drop, sym, ap, ap₂, subst, ◌∙◌, Some, append-nil}
use Rattle.std.specs.List.{IsDistinct}
use Rattle.ent_policy.specs.declared.key.Reference.{Reference}
use Rattle.ent_request.specs.Note.{asks}
use Rattle.ent_request.specs.Part.{Part}
use Rattle.ent_request.specs.Questions.{AreNumbers, at_numbers, same_question}
use Rattle.ent_request.specs.declared.answer.Answer.{Answer}
use Rattle.ent_request.specs.declared.question.Question.{Question}
use Rattle.ent_request.specs.declared.question.Question.TheVariants.{Root}
use Rattle.ent_walk.specs.Answer.{root_part}
use Rattle.ent_walk.specs.Judged.{has_failed}
use Rattle.ent_walk.specs.proofs_only.Hops.{reference_part}
use Rattle.memo_plan.specs.Heard.{Came, Gist, came, gist_of, heard, root_came}
use Rattle.memo_plan.proofs.Gists.{behind, heard_settled, look_heard}
use Rattle.memo_plan.specs.Plan.{Scene}
use Rattle.memo_plan.specs.proofs_only.Entries.{reference_tests}
use Rattle.memo_answers.specs.Known.{TellsIn}
use Rattle.memo_answers.specs.Told.{Signs}
use Rattle.memo_replay.specs.Joined.{IsJoined}
use Rattle.memo_replay.specs.declared.joined.Joined.{Joined}
use Rattle.memo_replay.specs.declared.over.Over.{Over}
use Rattle.memo_replay.specs.declared.state.JoinState.{JoinState}
use Rattle.memo_replay.specs.proofs_only.Heard.{HearsMore, StaysThere, gist_in, joined}
use Rattle.memo_replay.specs.proofs_only.Stands.{Joins, Stands, StandsFrom, questions_of}
use Rattle.memo_replay.proofs.Hearing.{hears_then, joined_assoc}

abbrev asked_root : Gist
asked_root = gist_of (asks Root ∷ [])

abbrev gist_with : List Question → List ℕ → Bool → Gist
gist_with questions ns b = record { questions = at_numbers questions ns; failed = b }

-- the root is asked for, and its document is joined
pub is_joined : {L : Type 0} (over : Over L) (w : Scene) (root : Reference) (old mid after : JoinState) (j : Joined)
    → w.looks.root ≡ Some root → old.asked ≡ [] → old.failed ≡ false
    → HearsMore (questions_of over) asked_root old mid → Stands over mid (came w.looks w.request)
    → Joins over (reference_tests 7 [] root w) (reference_part w.looks w.request 7 [] root) mid after j.answer
    → j.asked ≡ after.asked → j.failed ≡ after.failed → IsJoined w.looks w.request (questions_of over) j
is_joined over w root old mid after j root-is none fine first stands joins asked failed =
    let questions = questions_of over in
    let part : Part Answer = reference_part w.looks w.request 7 [] root in
    let start : Gist = record { questions = []; failed = false } in
    let whole : Gist = joined asked_root (gist_of part.notes) in
    let tests = reference_tests 7 [] root w in
    let by = joins [] (subst (Stands over mid) (ap (root_came w.looks w.request) root-is ∙ sym (append-nil tests)) stands) in
    let hears = hears_then questions asked_root (gist_of part.notes) old mid after first by.1.0 (subst (AreNumbers questions) (sym none) tt) in
    let begins : gist_in questions old ≡ start = ap₂ (gist_with questions) none fine in
    let same : whole ≡ gist_with questions j.asked j.failed =
    joined_assoc start asked_root (gist_of part.notes) ∙ ap (λ k. joined k whole) (sym begins) ∙ sym hears.1
    ∙ ap₂ (gist_with questions) (sym asked) (sym failed) in
    record {
      within = subst (AreNumbers questions) (sym asked) hears.0;
      is_heard = look_heard Root (root_part w.looks w.request w.looks.root)
          ∙ ap (λ o. behind asked_root (heard (root_part w.looks w.request o))) root-is
          ∙ ap (behind asked_root) (heard_settled has_failed part)
          ∙ ap₂ (λ (v : Answer) (g : Gist). record { value = v; gist = g }) (sym by.0) same;
    }

-- what comes of the tests stands first, and asking for the root passes nothing
pub stands_first : {L : Type 0} (over : Over L) (old mid : JoinState) (cs : List Came) → IsDistinct same_question (questions_of over) → old.place ≡ 0 → StaysThere old mid
    → Signs over.entries.now (TellsIn (questions_of over) over.tests.now) (drop old.at over.way.now) cs → Stands over mid cs
stands_first over old mid cs distinct first there signs =
    let base : StandsFrom over 0 old.at cs = record { distinct = distinct; came = signs } in
    subst (λ n. StandsFrom over n mid.at cs) (sym (there.0 ∙ first)) (subst (λ n. StandsFrom over 0 n cs) (sym there.1) base)
