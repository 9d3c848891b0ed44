use Rattle.std.proofs.Common.{List, ap, sym, subst, arith}
use Rattle.ent_trace.specs.proofs_only.Path.{keys_of}
use Rattle.ent_policy.specs.Children.{as_child}
use Rattle.ent_policy.specs.declared.document.Child.{Child}
use Rattle.ent_walk.specs.proofs_only.Hops.{child_part, reference_part, settled_child}
use Rattle.ent_walk.specs.proofs_only.Judged.{or_nothing}
use Rattle.ent_walk.proofs.PathKeys.{keys_of_below}
use Rattle.memo_plan.specs.Heard.{Came}
use Rattle.memo_plan.specs.proofs_only.Entries.{child_tests, reference_tests}
use Rattle.memo_replay.specs.proofs_only.Stands.{Joins, questions_of, scene_in}
use Rattle.memo_replay.proofs.Childing.{Names, children_back, followed_back, match_back, policy_back, reference_back, reference_too_far, reference_unfound, set_back, set_joins_none, set_joins_under, takes_child}
use Rattle.memo_replay.proofs.Ruling.{all_joined, begins, proceeds_on, stopped}
use Rattle.memo_replay.proofs.over.Over.+joining.Goals as goal

pub child-returns-in-Policy : goal.child-returns-in-Policy
child-returns-in-Policy g t c =
    policy_back c.args.self.now g.L.LookUps.looks c.args.hops (keys_of c.args.path.now) c.policy.result c.args.child.now c.in-Policy.policy c.args.state.now c.policy.new.state c.in-Policy.is c.policy.ensures

pub child-returns-in-Set : goal.child-returns-in-Set
child-returns-in-Set g t c =
    set_back c.args.self.now g.L.LookUps.looks c.args.hops (keys_of c.args.path.now) c.set.result c.args.child.now c.in-Set.set c.args.state.now c.set.new.state c.in-Set.is c.set.ensures

pub child-returns-in-Reference : goal.child-returns-in-Reference
child-returns-in-Reference g t c =
    reference_back c.args.self.now g.L.LookUps.looks c.args.hops (keys_of c.args.path.now) c.reference.result c.args.child.now c.in-Reference.reference c.args.state.now c.reference.new.state c.in-Reference.is c.reference.ensures

pub tree-returns-in-Policy : goal.tree-returns-in-Policy
tree-returns-in-Policy g t c =
    policy_back c.args.self.now g.L.LookUps.looks c.args.hops (keys_of c.args.path.now) c.policy.result (as_child c.args.tree.now) c.in-Policy.policy c.args.state.now c.policy.new.state (ap as_child c.in-Policy.is) c.policy.ensures

pub tree-returns-in-Set : goal.tree-returns-in-Set
tree-returns-in-Set g t c =
    set_back c.args.self.now g.L.LookUps.looks c.args.hops (keys_of c.args.path.now) c.set.result (as_child c.args.tree.now) c.in-Set.set c.args.state.now c.set.new.state (ap as_child c.in-Set.is) c.set.ensures

pub set-returns-in-NoMatch : goal.set-returns-in-NoMatch
set-returns-in-NoMatch g t c =
    let w = scene_in g.L.LookUps.looks c.args.self.now in
    set_joins_none c.args.self.now w c.args.hops (keys_of c.args.path.now) c.args.set.now
    c.args.state.now c.target.new.state (rw c.in-NoMatch.is at c.in_ok-target.ensures)

pub set-returns-in_ok-given-in-Match : goal.set-returns-in_ok-given-in-Match
set-returns-in_ok-given-in-Match g t c =
    match_back c.args.self.now g.L.LookUps.looks c.args.hops (keys_of c.args.path.now) c.args.set.now c.children_of.result
    c.args.state.now c.target.new.state c.given.new.state c.children_of.new.state (rw c.in-Match.is at c.in_ok-target.ensures)
    c.in_ok-given-in-Match.ensures.given c.in_ok-given-in-Match.ensures.heard c.children_of.ensures

pub set-returns-in_ok-answer-in-Indeterminate : goal.set-returns-in_ok-answer-in-Indeterminate
set-returns-in_ok-answer-in-Indeterminate g t c =
    let w = scene_in g.L.LookUps.looks c.args.self.now in
    set_joins_under c.args.self.now w c.args.hops (keys_of c.args.path.now) c.args.set.now
    c.in-Indeterminate.status c.args.state.now c.target.new.state c.given-in-Indeterminate.new.state c.children_of-in-Indeterminate.new.state
    (or_nothing c.in_ok-answer-in-Indeterminate.answer) (or_nothing c.under.result) (rw c.in-Indeterminate.is at c.in_ok-target.ensures)
    c.in_ok-given-in-Indeterminate.ensures.given c.in_ok-given-in-Indeterminate.ensures.heard c.in_ok-answer-in-Indeterminate.ensures c.under.ensures

pub children_of-returns-in-Shared : goal.children_of-returns-in-Shared
children_of-returns-in-Shared g t c =
    children_back c.args.self.now g.L.LookUps.looks c.args.hops (keys_of c.args.path.now) c.args.set.now c.children.result c.in-Shared.algorithm _ c.as_slice.result.now
    c.args.state.now c.children.new.state c.children.ensures c.in-Shared.is (keys_of_below _ _ _ _) c.as_slice.ensures

pub children-loop-place-init : goal.children-loop-place-init
children-loop-place-init g t c = λ cs stands.
    let w = scene_in g.L.LookUps.looks c.args.self.now in
    let path = keys_of c.args.path.now in
    begins c.args.self.now c.args.algorithm (settled_child w.looks w.request c.args.hops path) (λ child. child_tests c.args.hops path child w) c.args.children.now
    c.args.state.now c.no_children-gathering.result cs c.no_children-gathering.ensures stands

pub children-loop-place-preserved : goal.children-loop-place-preserved
children-loop-place-preserved g t c = λ cs stands.
    let over = c.args.self.now in
    let w = scene_in g.L.LookUps.looks over in
    let path = keys_of c.args.path.now in
    let child = c.index-children-place.result in
    let tests : Child → List Came = λ child. child_tests c.args.hops path child w in
    proceeds_on over c.args.algorithm (settled_child w.looks w.request c.args.hops path) tests c.args.children.now
    c.loop-place.place child c.args.state.now c.loop-place.state c.child.new.state c.loop-place.gathering c.take.new.self _ cs
    (omega arith) c.index-children-place.is (c.loop-place.invariant cs stands)
    (takes_child over (tests child) (child_part w.looks w.request c.args.hops path child) c.loop-place.state c.child.new.state c.loop-place.gathering c.take.new.self
    (or_nothing c.in_ok-answer.answer) _ c.in_ok-answer.ensures c.in_ok-take.ensures.gathered c.in_ok-take.ensures.progress) c.in_default.is

pub children-returns-in-Stop : goal.children-returns-in-Stop
children-returns-in-Stop g t c = λ cs stands.
    let over = c.args.self.now in
    let w = scene_in g.L.LookUps.looks over in
    let path = keys_of c.args.path.now in
    let child = c.index-children-place.result in
    let tests : Child → List Came = λ child. child_tests c.args.hops path child w in
    stopped over c.args.algorithm (settled_child w.looks w.request c.args.hops path) tests c.args.children.now
    c.loop-place.place child c.args.state.now c.loop-place.state c.child.new.state c.loop-place.gathering c.take.new.self _ cs
    (omega arith) c.index-children-place.is (c.loop-place.invariant cs stands)
    (takes_child over (tests child) (child_part w.looks w.request c.args.hops path child) c.loop-place.state c.child.new.state c.loop-place.gathering c.take.new.self
    (or_nothing c.in_ok-answer.answer) _ c.in_ok-answer.ensures c.in_ok-take.ensures.gathered c.in_ok-take.ensures.progress)
    c.pass_children.new.state path (or_nothing c.in_ok-finish.field-0) c.in-Stop.is
    (c.in_ok-pass_children.ensures.passes w path) c.in_ok-pass_children.ensures.heard c.in_ok-finish.ensures.value

pub children-returns : goal.children-returns
children-returns g t c = λ cs stands.
    let w = scene_in g.L.LookUps.looks c.args.self.now in
    let path = keys_of c.args.path.now in
    all_joined c.args.self.now c.args.algorithm (settled_child w.looks w.request c.args.hops path) (λ child. child_tests c.args.hops path child w) c.args.children.now
    c.loop-place.place c.args.state.now c.loop-place.state c.loop-place.gathering cs path (or_nothing c.in_ok-finish-2.field-0)
    (omega arith) (c.loop-place.invariant cs stands) c.in_ok-finish-2.ensures.value

pub reference-returns-then-hops-eq0 : goal.reference-returns-then-hops-eq0
reference-returns-then-hops-eq0 g t c =
    let over = c.args.self.now in
    let w = scene_in g.L.LookUps.looks over in
    let path = keys_of c.args.path.now in
    let reference = c.args.reference.now in
    subst (λ a. Joins over (reference_tests c.args.hops path reference w) (reference_part w.looks w.request c.args.hops path reference) c.args.state.now c.fail.new.self a)
    (sym c.unresolved.ensures)
    (reference_too_far over w path reference c.args.hops c.args.state.now c.fail.new.self c.if-hops-eq0.true (c.fail.ensures.heard (questions_of over)) c.fail.ensures.stays)

pub reference-returns-in-None : goal.reference-returns-in-None
reference-returns-in-None g t c =
    let over = c.args.self.now in
    let w = scene_in g.L.LookUps.looks over in
    let path = keys_of c.args.path.now in
    let reference = c.args.reference.now in
    subst (λ a. Joins over (reference_tests c.args.hops path reference w) (reference_part w.looks w.request c.args.hops path reference) c.args.state.now c.fail-in-None.new.self a)
    (sym c.unresolved-in-None.ensures)
    (reference_unfound over w path reference c.args.hops c.args.state.now c.named.new.state c.fail-in-None.new.self (omega arith)
    (subst (Names over reference c.args.state.now c.named.new.state) c.in-None.is c.in_ok-found.ensures) (c.fail-in-None.ensures.heard (questions_of over)) c.fail-in-None.ensures.stays)

pub reference-returns-in-Some : goal.reference-returns-in-Some
reference-returns-in-Some g t c =
    let over = c.args.self.now in
    followed_back over g.L.LookUps.looks c.args.hops (keys_of c.args.path.now) c.tree.result c.args.reference.now c.in-Some.tree
    c.args.state.now c.named.new.state c.tree.new.state (omega arith)
    (subst (Names over c.args.reference.now c.args.state.now c.named.new.state) c.in-Some.is c.in_ok-found.ensures) c.tree.ensures
