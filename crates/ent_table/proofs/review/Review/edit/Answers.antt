use Rattle.std.proofs.Common.{sym, subst}
use Rattle.ent_table.specs.Fresh.{IsFresh}
use Rattle.ent_table.proofs.review.Review.edit.Goals.{in-AddPolicy, in-ReplacePolicy, in-WithdrawPolicy}
use Rattle.ent_table.proofs.review.Review.edit.Goals.{in-SetAttribute, in-AddName, in-DropName}
use Rattle.ent_table.proofs.review.Review.edit.Goals.{in-SetRoot, in-SetDay, in-SetMoment}
use Rattle.ent_table.proofs.review.Review.edit.Goals as goal

pub invariant_of-self : goal.invariant_of-self
invariant_of-self g c =
    elim c.match-edit.branch [
      | in-AddPolicy w ↦ subst (λ r. IsFresh r.parts) (sym w.self-inside-is) w.add_policy.ensures.fresh
      | in-ReplacePolicy w ↦ subst (λ r. IsFresh r.parts) (sym w.self-inside-is) w.replace_policy.ensures.fresh
      | in-WithdrawPolicy w ↦ subst (λ r. IsFresh r.parts) (sym w.self-inside-is) w.withdraw_policy.ensures.fresh
      | in-SetAttribute w ↦ subst (λ r. IsFresh r.parts) (sym w.self-inside-is) w.set_attribute.ensures.fresh
      | in-AddName w ↦ subst (λ r. IsFresh r.parts) (sym w.self-inside-is) w.add_name.ensures.fresh
      | in-DropName w ↦ subst (λ r. IsFresh r.parts) (sym w.self-inside-is) w.drop_name.ensures.fresh
      | in-SetRoot w ↦ subst (λ r. IsFresh r.parts) (sym w.self-inside-is) w.set.ensures.fresh
      | in-SetDay w ↦ subst (λ r. IsFresh r.parts) (sym w.self-inside-is) w.set-in-SetDay.ensures.fresh
      | in-SetMoment w ↦ subst (λ r. IsFresh r.parts) (sym w.self-inside-is) w.set-in-SetMoment.ensures.fresh
    ]
