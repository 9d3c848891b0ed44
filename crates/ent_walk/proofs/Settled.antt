-- What comes of a part in which what fails is passed over unless it is Indeterminate.
use Rattle.std.proofs.Common.{◌≡◌, Bool, true, false, List, Result, map, refl, sym, ap, ◌∙◌}
use Rattle.std.specs.Prelude.{OnOk, Ok, Err, if◌then◌else◌}
use Rattle.ent_trace.proofs.Settling.{noting_passed}
use Rattle.ent_trace.specs.proofs_only.Noted.{Notes, is_named, noting, settling}
use Rattle.ent_request.specs.Note.{Note, passed_over}
use Rattle.ent_request.specs.Part.{Part, settled}
use Rattle.ent_request.specs.declared.answer.Answer.{Answer}
use Rattle.ent_walk.specs.Judged.{has_failed}
use Rattle.ent_walk.specs.declared.walk.Walk.{Walk}
use Rattle.ent_walk.specs.proofs_only.Comes.{Adds, Comes, Keeps, Settles}
use Rattle.ent_walk.specs.proofs_only.Opened.{IsLeft}
use Rattle.ent_walk.proofs.Parts.{keeps_on}

settled_notes : (n : Notes) (ns : List Note) (is_so : Bool)
    → settling (is_named n) is_so (noting n ns) ≡ noting n (if is_so then ns else map passed_over ns)
settled_notes n ns true = refl
settled_notes n ns false = sym (noting_passed n ns)

-- what came of a part came of it settled, where the walk was settled behind it
pub came_settled : {A L : Type 0} (is_so : A → Bool) (p : Part A) (before after last : Walk L) (came : A)
    (was_named so : Bool) → was_named ≡ is_named before.notes → so ≡ is_so came → Comes p before after came
    → last.notes ≡ settling was_named so after.notes → Keeps after last → Comes (settled is_so p) before last came
came_settled is_so p before after last came was_named so was-is so-is is settled-is kept = record {
  value = is.value;
  notes =
      settled-is ∙ ap (λ w. settling w so after.notes) was-is
      ∙ ap (λ b. settling (is_named before.notes) b after.notes) (so-is ∙ ap is_so is.value)
      ∙ ap (settling (is_named before.notes) (is_so p.value)) is.notes
      ∙ settled_notes before.notes p.notes (is_so p.value);
  keeps = keeps_on before after last is.keeps kept;
}

module _ {L : Type 0} (left whole : Part Answer) (was_named : Bool) (before between : Walk L)
    (was-is : was_named ≡ is_named before.notes) (is : IsLeft whole left before.notes between.notes)
    (keeps : Keeps before between) where
  -- what was settled behind what is left of a whole was settled behind the whole
  pub adds_settled : (after : Walk L) → Settles was_named left between after
      → Adds (settled has_failed whole).notes before after
  adds_settled after s = record {
    notes =
        s.notes ∙ ap (λ w. settling w (has_failed left.value) (noting between.notes left.notes)) was-is
        ∙ ap (λ (a : Answer). settling (is_named before.notes) (has_failed a) (noting between.notes left.notes)) is.0
        ∙ ap (settling (is_named before.notes) (has_failed whole.value)) is.1
        ∙ settled_notes before.notes whole.notes (has_failed whole.value);
    keeps = keeps_on before between after keeps s.keeps;
  }

  pub asks_settled : {A E : Type 0} (r : Result A E) (after : Walk L) → OnOk r (Settles was_named left between after)
      → OnOk r (Adds (settled has_failed whole).notes before after)
  asks_settled (Ok a) after s = adds_settled after s
  asks_settled (Err e) after s = tt
