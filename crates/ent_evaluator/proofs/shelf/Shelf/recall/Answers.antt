use Rattle.std.proofs.Common.{subst}
use Rattle.std.proofs.lemmas.Option.{slice_get_within}
use Rattle.memo_bags.specs.proofs_only.Led.{TellsEnd}
use Rattle.memo_bags.specs.proofs_only.Ready.{request_of}
use Rattle.ent_evaluator.proofs.Shelved.{found_case, no_case}
use Rattle.ent_evaluator.proofs.shelf.Shelf.recall.Goals as goal

pub seek-requires-clause-asks : goal.seek-requires-clause-asks
seek-requires-clause-asks g c = c.requires.shelf.index.asks

pub given-requires : goal.given-requires
given-requires g c =
    let looks = g.L.LookUps.looks c.args.scene.now.held.now in
    let questions = c.args.scene.now.questions.now in
    let request = request_of c.args.scene.now in
    let tells = subst (TellsEnd looks questions c.args.findings.now.bags c.seek.new.findings.bags request c.args.self.now.tree.nodes.items) c.in-Some.is c.in_ok-seek.ensures.tells in
    let there = found_case looks questions c.seek.new.findings.bags request c.args.self.now c.requires.shelf.index tells.0 c.in-Some.place tells.1.0 tells.1.1 in
    slice_get_within c.args.self.now.cases.items c.in-Some.place there.0 there.1.0

pub returns-in-None-clause-none : goal.returns-in-None-clause-none
returns-in-None-clause-none g c =
    let looks = g.L.LookUps.looks c.args.scene.now.held.now in
    let questions = c.args.scene.now.questions.now in
    let request = request_of c.args.scene.now in
    no_case looks questions c.args.findings.now.bags request c.args.self.now c.requires.shelf.index
    (subst (TellsEnd looks questions c.args.findings.now.bags c.seek.new.findings.bags request c.args.self.now.tree.nodes.items) c.in-None.is c.in_ok-seek.ensures.tells)

pub returns-in_ok-given-in-Some-clause-some : goal.returns-in_ok-given-in-Some-clause-some
returns-in_ok-given-in-Some-clause-some g c =
    let looks = g.L.LookUps.looks c.args.scene.now.held.now in
    let questions = c.args.scene.now.questions.now in
    let request = request_of c.args.scene.now in
    let tells = subst (TellsEnd looks questions c.args.findings.now.bags c.seek.new.findings.bags request c.args.self.now.tree.nodes.items) c.in-Some.is c.in_ok-seek.ensures.tells in
    let there = found_case looks questions c.seek.new.findings.bags request c.args.self.now c.requires.shelf.index tells.0 c.in-Some.place tells.1.0 tells.1.1 in
    (c.in-Some.place, (there.0, (there.1.0, (there.1.1, c.in_ok-given-in-Some.ensures there.0 there.1.0))))
