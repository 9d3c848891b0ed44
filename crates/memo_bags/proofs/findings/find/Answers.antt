use Rattle.std.proofs.Common.{◌≡◌, Some, slice_get, sym, ap, ◌∙◌}
use Rattle.std.proofs.lemmas.Option.{slice_get_within}
use Rattle.ent_request.specs.declared.question.Question.TheVariants.{Of}
use Rattle.memo_bags.proofs.Learning.{found_now, known_for, learnt_at, learnt_now}
use Rattle.memo_bags.proofs.findings.find.Goals as goal

pub returns-in-Some-clause-found : goal.returns-in-Some-clause-found
returns-in-Some-clause-found g c =
    known_for (g.L.LookUps.looks c.args.scene.now.held.now) c.args.scene.now.questions.now c.args.bags.now c.args.place c.args.names.now c.args.name.now c.args.question c.in-Some.bag
    c.requires.rows c.requires.at c.in-Some.ensures

pub learn-requires : goal.learn-requires
learn-requires g c = slice_get_within c.args.names.now.rows.items c.args.names.now.latest c.requires.at.0 c.requires.at.1.0

pub returns-in_err-learn-in-Some-Of-clause-rows : goal.returns-in_err-learn-in-Some-Of-clause-rows
returns-in_err-learn-in-Some-Of-clause-rows g c =
    let at : slice_get c.args.scene.now.questions.now c.args.question ≡ Some (Of c.in-Some-Of.asked) = sym c.in-Some-Of.ensures ∙ ap Some c.in-Some-Of.field-0-is in
    learnt_now (g.L.LookUps.looks c.args.scene.now.held.now) c.args.scene.now.questions.now c.args.bags.now c.number_of.new.self c.args.place c.args.names.now c.learn.new.self c.args.name.now c.args.question c.in_ok-bag-in-Some-Of.bag
    c.in-Some-Of.asked c.in_ok-found-in-Some-Of.found at c.requires.about c.in_ok-found-in-Some-Of.ensures c.in_ok-bag-in-Some-Of.ensures.number c.in_ok-bag-in-Some-Of.ensures.begins c.requires.at c.in_err-learn-in-Some-Of.ensures c.requires.rows

pub returns-in_err-learn-in-Some-Of-clause-at : goal.returns-in_err-learn-in-Some-Of-clause-at
returns-in_err-learn-in-Some-Of-clause-at g c = learnt_at c.args.names.now c.learn.new.self c.args.name.now c.args.question c.in_ok-bag-in-Some-Of.bag c.requires.at c.in_err-learn-in-Some-Of.ensures

pub returns-clause-found : goal.returns-clause-found
returns-clause-found g c =
    let at : slice_get c.args.scene.now.questions.now c.args.question ≡ Some (Of c.in-Some-Of.asked) = sym c.in-Some-Of.ensures ∙ ap Some c.in-Some-Of.field-0-is in
    found_now (g.L.LookUps.looks c.args.scene.now.held.now) c.args.scene.now.questions.now c.number_of.new.self c.args.place c.args.name.now c.args.question c.in_ok-bag-in-Some-Of.bag
    c.in-Some-Of.asked c.in_ok-found-in-Some-Of.found at c.requires.about c.in_ok-found-in-Some-Of.ensures c.in_ok-bag-in-Some-Of.ensures.number

pub returns-clause-rows : goal.returns-clause-rows
returns-clause-rows g c =
    let at : slice_get c.args.scene.now.questions.now c.args.question ≡ Some (Of c.in-Some-Of.asked) = sym c.in-Some-Of.ensures ∙ ap Some c.in-Some-Of.field-0-is in
    learnt_now (g.L.LookUps.looks c.args.scene.now.held.now) c.args.scene.now.questions.now c.args.bags.now c.number_of.new.self c.args.place c.args.names.now c.learn.new.self c.args.name.now c.args.question c.in_ok-bag-in-Some-Of.bag
    c.in-Some-Of.asked c.in_ok-found-in-Some-Of.found at c.requires.about c.in_ok-found-in-Some-Of.ensures c.in_ok-bag-in-Some-Of.ensures.number c.in_ok-bag-in-Some-Of.ensures.begins c.requires.at c.in_ok-learn-in-Some-Of.ensures c.requires.rows

pub returns-clause-at : goal.returns-clause-at
returns-clause-at g c = learnt_at c.args.names.now c.learn.new.self c.args.name.now c.args.question c.in_ok-bag-in-Some-Of.bag c.requires.at c.in_ok-learn-in-Some-Of.ensures
