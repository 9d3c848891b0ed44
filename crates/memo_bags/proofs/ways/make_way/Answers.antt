use Rattle.std.proofs.Common.{◌≡◌, None, Some, get_or, slice_get, subst, sym, ◌∙◌}
use Rattle.std.specs.Prelude.{IfSome}
use Rattle.std.proofs.lemmas.Option.{slice_get-get_or}
use Rattle.ent_request.specs.declared.readers.NamePlace.TheVariants.{Person}
use Rattle.memo_bags.specs.declared.finding.Finding.{Finding}
use Rattle.memo_bags.specs.proofs_only.Led.{GoesFree, LeadsOn}
use Rattle.memo_bags.proofs.MakingWays.{asks_begun, asks_more, before_then, begun, making_first, making_next}
use Rattle.memo_bags.proofs.ways.make_way.Goals as goal

pub loop-finding-init : goal.loop-finding-init
loop-finding-init c = making_first c.begin.new.self.nodes.items c.args.found.now

pub returns-in_err-turn-clause-leads : goal.returns-in_err-turn-clause-leads
returns-in_err-turn-clause-leads c =
    let begun = c.begin.new.self.nodes.items in
    let before = c.loop-finding.tree.nodes.items in
    let after = c.turn.new.tree.nodes.items in
    before_then c.args.tree.now.nodes.items begun after c.in_ok-begin.ensures.stays.leads (before_then begun before after c.loop-finding.invariant.leads c.in_err-turn.ensures.leads)

pub returns-in_err-turn-clause-asks : goal.returns-in_err-turn-clause-asks
returns-in_err-turn-clause-asks c =
    let found = c.args.found.now in
    let i = c.loop-finding.finding-index in
    let none : Finding = record { question = 0; place = Person; bag = 0 } in
    let there : slice_get found i ≡ Some (get_or found i none) = slice_get-get_or found i none c.loop-finding-test.true in
    let begun = c.begin.new.self.nodes.items in
    let after = c.turn.new.tree.nodes.items in
    asks_begun c.args.tree.now.nodes.items begun after found c.in_ok-begin.ensures.stays
    (asks_more found i (get_or found i none) begun c.loop-finding.tree.nodes.items after there c.in_err-turn.ensures.asks c.loop-finding.invariant.asks)

pub returns-in-None-clause-free : goal.returns-in-None-clause-free
returns-in-None-clause-free c = λ none.
    let goes = c.in_ok-turn.ensures.free (c.loop-finding.invariant.free (begun c.args.tree.now.nodes.items c.begin.new.self.nodes.items c.in_ok-begin.ensures.stays c.in_ok-begin.ensures.ok none)) in
    let nowhere : None ≡ Some goes.0 = sym c.in-None.is ∙ goes.1.0 in
    absurd (cc)

pub returns-in-None-clause-leads : goal.returns-in-None-clause-leads
returns-in-None-clause-leads c =
    let begun = c.begin.new.self.nodes.items in
    let before = c.loop-finding.tree.nodes.items in
    let after = c.turn.new.tree.nodes.items in
    before_then c.args.tree.now.nodes.items begun after c.in_ok-begin.ensures.stays.leads (before_then begun before after c.loop-finding.invariant.leads c.in_ok-turn.ensures.leads)

pub returns-in-None-clause-asks : goal.returns-in-None-clause-asks
returns-in-None-clause-asks c =
    let found = c.args.found.now in
    let i = c.loop-finding.finding-index in
    let none : Finding = record { question = 0; place = Person; bag = 0 } in
    let there : slice_get found i ≡ Some (get_or found i none) = slice_get-get_or found i none c.loop-finding-test.true in
    let begun = c.begin.new.self.nodes.items in
    let after = c.turn.new.tree.nodes.items in
    asks_begun c.args.tree.now.nodes.items begun after found c.in_ok-begin.ensures.stays
    (asks_more found i (get_or found i none) begun c.loop-finding.tree.nodes.items after there c.in_ok-turn.ensures.asks c.loop-finding.invariant.asks)

pub loop-finding-preserved : goal.loop-finding-preserved
loop-finding-preserved c =
    let found = c.args.found.now in
    let i = c.loop-finding.finding-index in
    let none : Finding = record { question = 0; place = Person; bag = 0 } in
    let f = get_or found i none in
    let there : slice_get found i ≡ Some f = slice_get-get_or found i none c.loop-finding-test.true in
    let before = c.loop-finding.tree.nodes.items in
    let after = c.turn.new.tree.nodes.items in
    let place = c.loop-finding.place in
    making_next c.begin.new.self.nodes.items before after found i place c.in-Some.next f there c.loop-finding.invariant (subst (λ o. IfSome o (LeadsOn before after place f)) c.in-Some.is c.in_ok-turn.ensures.further)
    (subst (GoesFree before after place) c.in-Some.is c.in_ok-turn.ensures.free) c.in_ok-turn.ensures.leads c.in_ok-turn.ensures.asks

pub returns-clause-free : goal.returns-clause-free
returns-clause-free c = λ none.
    c.free.ensures.there (c.loop-finding.invariant.free (begun c.args.tree.now.nodes.items c.begin.new.self.nodes.items c.in_ok-begin.ensures.stays c.in_ok-begin.ensures.ok none))

pub returns-clause-leads : goal.returns-clause-leads
returns-clause-leads c =
    before_then c.args.tree.now.nodes.items c.begin.new.self.nodes.items c.loop-finding.tree.nodes.items c.in_ok-begin.ensures.stays.leads c.loop-finding.invariant.leads

pub returns-clause-asks : goal.returns-clause-asks
returns-clause-asks c =
    asks_begun c.args.tree.now.nodes.items c.begin.new.self.nodes.items c.loop-finding.tree.nodes.items c.args.found.now c.in_ok-begin.ensures.stays c.loop-finding.invariant.asks
