use Rattle.std.proofs.Common.{ap, rules, ◌∙◌}
use Rattle.std.specs.Prelude.{◌||◌}
use Rattle.ent_index.proofs.Rolled.{one_cell, one_word, put_there}
use Rattle.ent_index.specs.Groups.{is_member}
use Rattle.ent_index.proofs.roll.Roll.put.Goals as goal

pub put_word-requires : goal.put_word-requires
put_word-requires c = one_word c.args.cell (search rules)

pub returns-clause-cells : goal.returns-clause-cells
returns-clause-cells c = λ q. c.in_ok-put_word.ensures.cells q ∙ ap (λ b. is_member c.args.self.now q || b) (one_cell c.args.cell q)

pub returns-clause-there : goal.returns-clause-there
returns-clause-there c =
    c.in_ok-put_word.ensures.cells c.args.cell ∙ ap (λ b. is_member c.args.self.now c.args.cell || b) (one_cell c.args.cell c.args.cell) ∙ put_there (is_member c.args.self.now c.args.cell) c.args.cell
