use Rattle.std.proofs.Common.{◌≡◌, ◌↔◌, ◌==◌, ℕ, Bool, IsTrue, length, sym, ◌∙◌}
use Rattle.std.proofs.lemmas.Bool.{eq-eqb, eqb-true}
use Rattle.ent_index.proofs.Rising.{empty_iff}
use Rattle.ent_index.proofs.cells.SomeCells.is_empty.Goals as goal

counted : {P : Type 0} (n : ℕ) (b : Bool) → b ≡ (n == 0) → ((n ≡ 0) ↔ P) → IsTrue b ↔ P
counted n b is iff = (λ h. iff.0 (eqb-true n 0 (sym is ∙ h)), λ p. is ∙ eq-eqb n 0 (iff.1 p))

pub returns : goal.returns
returns c =
    let both = empty_iff c.self.inside.cells.items c.self.invariant in
    counted (length c.self.inside.cells.items) c.is_empty.result (rw c.as_slice.ensures.value at c.is_empty.ensures) (λ e. sym c.self.view_is ∙ both.0 e, λ e. both.1 (c.self.view_is ∙ e))
