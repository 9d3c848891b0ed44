-- What is left of a part behind its target.
use Rattle.std.proofs.Common.{◌≡◌, List, Result, sym, ap, subst, ◌∙◌}
use Rattle.std.specs.Prelude.{IfOk, OnOk}
use Rattle.ent_combine.specs.declared.combiner.Progress.{Progress}
use Rattle.ent_request.specs.declared.answer.Answer.{Answer}
use Rattle.ent_policy.specs.declared.key.DocKey.{DocKey}
use Rattle.ent_walk.specs.declared.opened.Opened.{Opened}
use Rattle.ent_request.specs.declared.question.Question.{Question}
use Rattle.ent_request.specs.declared.request.Request.{Request}
use Rattle.ent_walk.specs.declared.target.Targeted.{Targeted}
use Rattle.ent_walk.specs.declared.walk.Walk.{Walk}
use Rattle.ent_request.specs.Looks.{Looks}
use Rattle.ent_request.specs.Note.{asks}
use Rattle.ent_walk.specs.proofs_only.Comes.{Keeps, in_walk}
use Rattle.ent_walk.specs.declared.gather.Gathering.{Gathering}
use Rattle.ent_walk.specs.proofs_only.Gathered.{Gathers, Tells}
use Rattle.ent_trace.specs.proofs_only.Noted.{Notes, noting, with_note}
use Rattle.ent_walk.specs.proofs_only.Opened.{IsLeft, Leaves, left_part}
use Rattle.ent_request.specs.Part.{Part, after_look, and_then}
use Rattle.ent_walk.proofs.Going.{noting_both}
use Rattle.ent_walk.proofs.Parts.{kept}

module _ (behind : Targeted → Part Answer) (target : Part Targeted) (t : Targeted) (before after : Notes) (t-is : t ≡ target.value) (after-is : after ≡ noting before target.notes) where
  -- what follows from a target's value is left of the whole
  pub left_behind : IsLeft (and_then target behind) (behind t) before after
  left_behind = (
    ap (λ s. (behind s).value) t-is,
    ap (λ s. noting after (behind s).notes) t-is ∙ ap (λ ks. noting ks (behind target.value).notes) after-is ∙ noting_both before target.notes (behind target.value).notes,
  )

-- what is left of an equal part
pub left_of_equal : (p q left : Part Answer) (before after : Notes) → p ≡ q → IsLeft p left before after → IsLeft q left before after
left_of_equal p q left before after same is = (is.0 ∙ ap (λ (r : Part Answer). r.value) same, is.1 ∙ ap (λ (r : Part Answer). noting before r.notes) same)

-- what is left behind one question is left of both
pub left_behind_look : (p q left : Part Answer) (question : Question) (before between after : Notes) → between ≡ with_note before (asks question) → q ≡ after_look question p → IsLeft p left between after → IsLeft q left before after
left_behind_look p q left question before between after asked whole is =
    (is.0 ∙ ap (λ (r : Part Answer). r.value) (sym whole), is.1 ∙ ap (λ n. noting n p.notes) asked ∙ ap (λ (r : Part Answer). noting before r.notes) (sym whole))

-- what is left behind a walk is left behind one that keeps it
pub leaves_kept : {L : Type 0} (looks : L → Looks) (whole : Looks → Request → List DocKey → Part Answer) (start before : Walk L) (first last : Notes) (o : Opened) → Keeps start before
    → in_walk looks before Leaves whole first last o → in_walk looks start Leaves whole first last o
leaves_kept looks whole start before first last o keeps is = λ path.
    let same_whole : in_walk looks before whole path ≡ in_walk looks start whole path = kept looks (λ l r. whole l r path) start before keeps in
    let same_left : in_walk looks before left_part path o ≡ in_walk looks start left_part path o = kept looks (λ l r. left_part l r path o) start before keeps in (
      ap (λ (r : Part Answer). r.value) (sym same_left) ∙ (is path).0 ∙ ap (λ (r : Part Answer). r.value) same_whole,
      ap (λ (r : Part Answer). noting last r.notes) (sym same_left) ∙ (is path).1 ∙ ap (λ (r : Part Answer). noting first r.notes) same_whole,
    )

-- what is gathered of an answer is gathered of an equal one
pub gathers_equal : {E : Type 0} (r : Result Progress E) (before after : Gathering) (i j : Answer) → i ≡ j → OnOk r (Gathers before after i) → OnOk r (Gathers before after j)
gathers_equal r before after i j same is = subst (λ k. OnOk r (Gathers before after k)) same is

-- and so is what is told
pub tells_equal : {E : Type 0} (r : Result Progress E) (before : Gathering) (i j : Answer) → i ≡ j → IfOk r (Tells before i) → IfOk r (Tells before j)
tells_equal r before i j same is = subst (λ k. IfOk r (Tells before k)) same is
