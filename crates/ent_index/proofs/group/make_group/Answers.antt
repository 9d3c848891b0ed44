use Rattle.std.proofs.Common.{◌∙◌}
use Rattle.ent_index.proofs.Members.{made_numbers, made_stay, made_there, same_in}
use Rattle.ent_index.proofs.group.make_group.Goals as goal

pub returns-in_err-number-clause-stay : goal.returns-in_err-number-clause-stay
returns-in_err-number-clause-stay c = same_in c.args.groups.now c.insert.new.groups c.in_err-number.ensures.err

pub returns-clause-there : goal.returns-clause-there
returns-clause-there c = made_there c.args.groups.now c.insert.new.groups c.in_ok-number.number _ c.args.cell c.in_ok-number.ensures.ok c.in_ok-put.ensures.there

pub returns-clause-numbers : goal.returns-clause-numbers
returns-clause-numbers c =
    made_numbers c.args.groups.now c.insert.new.groups c.in_ok-number.number _ c.in_ok-number.ensures.ok ∙ c.in_ok-numbers.ensures

pub returns-clause-stay : goal.returns-clause-stay
returns-clause-stay c = made_stay c.args.groups.now c.insert.new.groups c.in_ok-number.number _ c.in_ok-number.ensures.free c.in_ok-number.ensures.ok
