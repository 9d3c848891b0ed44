use Rattle.std.proofs.Common.{◌≡◌, false, true, map, sym, subst, ◌∙◌}
use Rattle.std.specs.Prelude.{bytes_eq, string_bytes}
use Rattle.std.specs.List.{list_any}
use Rattle.lint_places.specs.Views.{fault_at, spot_of}
use Rattle.lint_places.specs.declared.own.Faulty.{Faulty}
use Rattle.lint_places.specs.proofs_only.Walk.{Keeps}
use Rattle.lint_places.specs.Faults.{is_told_at}
use Rattle.lint_places.proofs.Each.{told_as, told_here}
use Rattle.lint_places.proofs.Telling.{is_new, one_more}
use Rattle.lint_places.proofs.faults.Faults.tell.Goals as goal

pub returns-clause-right : goal.returns-clause-right
returns-clause-right g c =
    let content = g.J.JsonTree.content in
    let s = spot_of content c.args.place.now in
    let told = c.args.self.now.places.items in
    let none = rw (c.as_slice-told.ensures.value, c.as_str-pointer.ensures.value) at (sym c.is_told.ensures ∙ c.if-is_told.false) in
    subst (Keeps s (map (fault_at content) told)) (sym c.in_ok-add.ensures.added) (one_more s c.args.fault (map (fault_at content) told) c.requires (is_new (fault_at content) s.pointer told none))

pub returns-then-is_told-clause-here : goal.returns-then-is_told-clause-here
returns-then-is_told-clause-here g c =
    let content = g.J.JsonTree.content in
    let told = c.args.self.now.places.items in
    let one = rw (c.as_slice-told.ensures.value, c.as_str-pointer.ensures.value) at (sym c.is_told.ensures ∙ c.if-is_told.true) in
    told_as (fault_at content) told (string_bytes c.args.place.now.pointer) ∙ one

pub returns-clause-here : goal.returns-clause-here
returns-clause-here g c =
    let content = g.J.JsonTree.content in
    let s = spot_of content c.args.place.now in
    subst (λ all. is_told_at all s.pointer ≡ true) (sym c.in_ok-add.ensures.added) (told_here (map (fault_at content) c.args.self.now.places.items) (c.args.fault, s))
