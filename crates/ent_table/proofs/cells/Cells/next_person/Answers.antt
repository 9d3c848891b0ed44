use Rattle.std.proofs.Common.{◌≡◌, [], inl, inr, sym, ◌∙◌, ap, true≢false, eq-eqb, length}
use Rattle.ent_table.specs.Names.{texts}
use Rattle.ent_table.proofs.Turns.{nothing_left, people_left-all, no_resources, without_actions}
use Rattle.ent_table.proofs.cells.Cells.next_person.Goals as goal

pub returns-then-not-is_empty-clause-turned : goal.returns-then-not-is_empty-clause-turned
returns-then-not-is_empty-clause-turned g c =
    let old = c.args.self.now in
    let some : old.actions.now ≡ [] → ⊥ = λ e. true≢false (sym (c.is_empty.ensures ∙ eq-eqb (length old.actions.now) 0 (ap length e)) ∙ c.if-not-is_empty.true) in
    λ h. elim h [
      | inl r ↦ elim (c.requires r) [
        | inl a ↦ absurd (some a)
        | inr b ↦ nothing_left (texts old.people.now) (texts old.actions.now) (texts old.resources.now) (texts old.all_actions.now) (texts old.all_resources.now) (ap texts r) (ap texts b)
      ]
      | inr a ↦ absurd (some a)
    ]

pub returns-in-Some-clause-turned : goal.returns-in-Some-clause-turned
returns-in-Some-clause-turned g c =
    let people = texts c.in-Some.people.now in
    let actions = texts c.args.self.now.all_actions.now in
    let resources = texts c.args.self.now.all_resources.now in
    λ h. people_left-all people actions resources ∙ elim h [
      | inl r ↦ no_resources people actions resources (ap texts r)
      | inr a ↦ without_actions people actions resources (ap texts a)
    ]
