use Rattle.std.proofs.Common.{decimal}
use Rattle.ent_json.proofs.DottedLemmas.{all_put, front_kept}
use Rattle.ent_json.proofs.bytes.push_numbers.Goals as goal

pub returns-in_ok-push_number-in-Some-clause-ok : goal.returns-in_ok-push_number-in-Some-clause-ok
returns-in_ok-push_number-in-Some-clause-ok c =
    all_put c.push_others.result c.args.bytes.now.items c.push_number.new.bytes.items c.push_others.new.bytes.items c.in-Some.first.now c.in-Some.others.now c.args.numbers.now
    c.in-Some.ensures.cases.0 c.in_ok-push_number-in-Some.ensures.ok c.push_others.ensures.ok

pub returns-in_ok-push_number-in-Some-clause-front : goal.returns-in_ok-push_number-in-Some-clause-front
returns-in_ok-push_number-in-Some-clause-front c =
    front_kept c.args.bytes.now.items c.push_number.new.bytes.items c.push_others.new.bytes.items (decimal c.in-Some.first.now) c.in_ok-push_number-in-Some.ensures.ok c.push_others.ensures.front
