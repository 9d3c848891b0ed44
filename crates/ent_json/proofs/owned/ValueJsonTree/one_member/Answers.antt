use Rattle.std.proofs.Common.{◌≡◌, length, sym, ap, ◌∙◌, option_and_then}
use Rattle.ent_json.specs.Objects.{alone}
use Rattle.ent_json.proofs.ObjectLemmas.{alone-many}
use Rattle.ent_json.proofs.owned.ValueJsonTree.one_member.Goals as goal

pub returns-then-len-ne1 : goal.returns-then-len-ne1
returns-then-len-ne1 c =
    let several : length c.in_ok-members.members.now.entries ≡ 1 → ⊥ = λ e. c.if-len-ne1.true (c.len.ensures.len ∙ e) in
    let many = alone-many c.in_ok-members.members.now.entries several in
    sym (ap (option_and_then alone) (sym c.in_ok-members.ensures) ∙ many)
