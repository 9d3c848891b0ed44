-- What came of one part came of an equal one.
use Rattle.std.proofs.Common.{◌≡◌, List, [], ◌∷◌, Result, sym, ap, subst, ◌∙◌}
use Rattle.std.specs.Prelude.{IfOk, OnOk, Ok, Err}
use Rattle.ent_walk.specs.proofs_only.Comes.{Adds, Comes, Keeps, in_walk}
use Rattle.ent_request.specs.declared.answer.Answer.{Answer}
use Rattle.ent_request.specs.declared.question.Question.{Question}
use Rattle.ent_request.specs.declared.request.Request.{Request}
use Rattle.ent_walk.specs.declared.walk.Walk.{Walk}
use Rattle.ent_request.specs.Looks.{Looks}
use Rattle.ent_request.specs.Note.{Note, asks}
use Rattle.ent_trace.specs.proofs_only.Noted.{Notes, noting}
use Rattle.ent_walk.specs.proofs_only.Opened.{IsLeft}
use Rattle.ent_request.specs.Part.{Part, after_look}

-- what is kept twice is kept
pub keeps_on : {L : Type 0} (before between after : Walk L) → Keeps before between → Keeps between after → Keeps before after
keeps_on before between after first second = record { held = second.held ∙ first.held; request = second.request ∙ first.request }

module _ {L : Type 0} (looks : L → Looks) where
  -- what is said of a walk is said of one that keeps what it runs over
  pub kept : {A : Type 0} (meaning : Looks → Request → A) (before after : Walk L) → Keeps before after → in_walk looks after meaning ≡ in_walk looks before meaning
  kept meaning before after keeps = ap (λ held. meaning (looks held) after.lender.request) keeps.held ∙ ap (meaning (looks before.lender.held)) keeps.request

  pub came_from : {A : Type 0} (meaning : Looks → Request → Part A) (start before after : Walk L) (came : A) → Keeps start before
      → Comes (in_walk looks before meaning) before after came → Comes (in_walk looks start meaning) before after came
  came_from meaning start before after came keeps is = subst (λ p. Comes p before after came) (kept meaning start before keeps) is

module _ {A B E L : Type 0} (meaning : A → B) where
  -- a part came where its value did, and its questions were noted
  pub comes : (r : Result A E) (p : Part B) (before after : Walk L) → IfOk r (λ a. meaning a ≡ p.value) → OnOk r (Adds p.notes before after) → IfOk r (λ a. Comes p before after (meaning a))
  comes (Ok a) p before after value added = record { value = value; notes = added.notes; keeps = added.keeps }
  comes (Err e) p before after value added = tt

  pub comes_equal : (r : Result A E) (before after : Walk L) (p q : Part B) → p ≡ q → IfOk r (λ a. Comes p before after (meaning a)) → IfOk r (λ a. Comes q before after (meaning a))
  comes_equal r before after p q same is = subst (λ s. IfOk r (λ a. Comes s before after (meaning a))) same is

  -- what came of a part behind another walk came of it there too
  pub came_behind : (looks : L → Looks) (part : Looks → Request → Part B) (r : Result A E) (start before after : Walk L) → Keeps start before
      → IfOk r (λ a. Comes (in_walk looks before part) before after (meaning a)) → IfOk r (λ a. Comes (in_walk looks start part) before after (meaning a))
  came_behind looks part r start before after keeps is = subst (λ p. IfOk r (λ a. Comes p before after (meaning a))) (kept looks part start before keeps) is

-- what came of what is left of a whole came of the whole
pub comes_left : {A E L : Type 0} (meaning : A → Answer) (r : Result A E) (left p : Part Answer) (before between after : Walk L) → IsLeft p left before.notes between.notes → Keeps before between
    → IfOk r (λ a. Comes left between after (meaning a)) → IfOk r (λ a. Comes p before after (meaning a))
comes_left meaning (Ok a) left p before between after is keeps came = record { value = came.value ∙ is.0; notes = came.notes ∙ is.1; keeps = keeps_on before between after keeps came.keeps }
comes_left meaning (Err e) left p before between after is keeps came = tt

-- what was noted for what is left of a whole was noted for the whole
pub asks_left : {A E L : Type 0} (r : Result A E) (asked all : List Note) (before between after : Walk L) → noting between.notes asked ≡ noting before.notes all → Keeps before between
    → OnOk r (Adds asked between after) → OnOk r (Adds all before after)
asks_left (Ok a) asked all before between after is keeps came = record { notes = came.notes ∙ is; keeps = keeps_on before between after keeps came.keeps }
asks_left (Err e) asked all before between after is keeps came = tt

-- what came behind one question came of both
pub comes_behind : {A B E L : Type 0} (meaning : A → B) (r : Result A E) (p q : Part B) (question : Question) (before between after : Walk L) → Adds (asks question ∷ []) before between → q ≡ after_look question p
    → IfOk r (λ a. Comes p between after (meaning a)) → IfOk r (λ a. Comes q before after (meaning a))
comes_behind meaning (Ok a) p q question before between after added whole came = record {
  value = came.value ∙ ap (λ s. s.value) (sym whole);
  notes = came.notes ∙ ap (λ n. noting n p.notes) added.notes ∙ ap (λ s. noting before.notes s.notes) (sym whole);
  keeps = keeps_on before between after added.keeps came.keeps;
}
comes_behind meaning (Err e) p q question before between after added whole came = tt

-- what a walk comes to and notes, by what it runs over
module _ {A L : Type 0} (looks : L → Looks) (meaning : Looks → Request → Part A) (held : L) (request : Request) (notes : Notes) (walk : Walk L) (held-is : walk.lender.held ≡ held) (request-is : walk.lender.request ≡ request) where
  part_is : in_walk looks walk meaning ≡ meaning (looks held) request
  part_is = ap (λ h. meaning (looks h) walk.lender.request) held-is ∙ ap (meaning (looks held)) request-is

  pub value_came : {E : Type 0} (r : Result A E) (after : Walk L) → IfOk r (Comes (in_walk looks walk meaning) walk after) → IfOk r (λ a. a ≡ (meaning (looks held) request).value)
  value_came (Ok a) after came = came.value ∙ ap (λ (p : Part A). p.value) part_is
  value_came (Err e) after came = tt

  pub notes_came : {E : Type 0} (r : Result A E) (after : Walk L) → walk.notes ≡ notes → IfOk r (Comes (in_walk looks walk meaning) walk after) → OnOk r (after.notes ≡ noting notes (meaning (looks held) request).notes)
  notes_came (Ok a) after notes-is came = came.notes ∙ ap (λ n. noting n (in_walk looks walk meaning).notes) notes-is ∙ ap (λ (p : Part A). noting notes p.notes) part_is
  notes_came (Err e) after notes-is came = tt

-- what holds whatever the result is
pub on_ok : {A E : Type 0} (r : Result A E) (P : Type 0) → P → OnOk r P
on_ok (Ok a) P p = p
on_ok (Err e) P p = tt
