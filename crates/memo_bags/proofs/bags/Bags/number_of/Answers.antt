use Rattle.std.proofs.Common.{◌++◌, ap, ◌∙◌}
use Rattle.memo_bags.specs.declared.bags.NumberedBag.{NumberedBag}
use Rattle.memo_bags.proofs.BagsNumbered.{distinct_map, put_at, put_begins}
use Rattle.memo_bags.proofs.bags.Bags.number_of.Goals as goal

pub returns-in_err-number-clause-distinct : goal.returns-in_err-number-clause-distinct
returns-in_err-number-clause-distinct c = distinct_map c.insert_full.new.self.keys c.in_err-number.ensures.unique

pub returns-clause-number : goal.returns-clause-number
returns-clause-number c =
    let stored = c.in_ok-number.ensures.stored in
    let f : NumberedBag = record { bag = c.args.bag } in
    put_at c.insert_full.new.self.keys f stored.0 c.in_ok-number.number stored.1 stored.2

pub returns-clause-begins : goal.returns-clause-begins
returns-clause-begins c =
    let f : NumberedBag = record { bag = c.args.bag } in
    let begins = put_begins c.self.inside.bags.keys c.insert_full.new.self.keys f c.in_ok-number.ensures.keys in
    (begins.0, begins.1 ∙ ap (λ l. l ++ begins.0) c.self.view_is)

pub returns-clause-distinct : goal.returns-clause-distinct
returns-clause-distinct c = distinct_map c.insert_full.new.self.keys c.in_ok-number.ensures.unique
