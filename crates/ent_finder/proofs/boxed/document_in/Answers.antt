use Rattle.std.proofs.Common.{ap, sym, ◌∙◌}
use Rattle.std.specs.Option.{option_copied}
use Rattle.std.specs.Ordering.{is_eq}
use Rattle.ent_finder.proofs.Held.{document_other, document_past, document_there}
use Rattle.ent_finder.specs.Entry.{entry_of}
use Rattle.ent_finder.proofs.boxed.document_in.Goals as goal

pub returns-in_err-slot : goal.returns-in_err-slot
returns-in_err-slot g c =
    ap option_copied c.from_residual.ensures ∙ sym (document_past _ _ _ c.place.ensures (sym c.in_err-slot.ensures.slot))

pub returns-then-is_eq : goal.returns-then-is_eq
returns-then-is_eq g c =
    let same = sym (ap is_eq c.cmp.ensures) ∙ sym c.if-is_eq.ensures in
    c.as_ref.ensures.value ∙ sym (document_there _ _ _ (entry_of c.in_ok-slot.slot.now) c.place.ensures (sym c.in_ok-slot.ensures.slot) same)

pub returns-else-is_eq : goal.returns-else-is_eq
returns-else-is_eq g c =
    let differs = sym (ap is_eq c.cmp.ensures) ∙ sym c.if-is_eq.ensures in
    sym (document_other _ _ _ (entry_of c.in_ok-slot.slot.now) c.place.ensures (sym c.in_ok-slot.ensures.slot) differs)
