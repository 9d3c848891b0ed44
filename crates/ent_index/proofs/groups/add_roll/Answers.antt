use Rattle.std.proofs.Common.{subst, sym}
use Rattle.std.specs.Prelude.{option_copied}
use Rattle.ent_index.specs.proofs_only.Groups.{HasAllOf}
use Rattle.ent_index.proofs.Members.{has_all, has_more}
use Rattle.ent_index.proofs.groups.add_roll.Goals as goal

pub returns-in_ok-add_to-in-Some-clause-all : goal.returns-in_ok-add_to-in-Some-clause-all
returns-in_ok-add_to-in-Some-clause-all c =
    subst (λ o. HasAllOf (option_copied o) c.add_to.new.roll) (sym c.in-Some.is) (has_all c.args.cells.now c.add_to.new.roll c.in-Some.more.now c.in_ok-add_to-in-Some.ensures)

pub returns-in_ok-add_to-in-Some-clause-more : goal.returns-in_ok-add_to-in-Some-clause-more
returns-in_ok-add_to-in-Some-clause-more c = has_more c.args.cells.now c.add_to.new.roll c.in-Some.more.now c.in_ok-add_to-in-Some.ensures
