use Rattle.std.proofs.Common.{◌+◌, arith, drop}
use Rattle.std.proofs.lemmas.List.{length-drop}
use Rattle.ent_trace.specs.proofs_only.Path.{keys_of}
use Rattle.ent_walk.specs.Rule.{rule_part}
use Rattle.ent_walk.specs.proofs_only.Judged.{or_nothing}
use Rattle.memo_plan.specs.Heard.{came_of_rule}
use Rattle.memo_replay.specs.proofs_only.Stands.{looks_in, request_in, scene_in}
use Rattle.memo_replay.proofs.Ruling.{all_joined, begins, proceeds_on, stopped}
use Rattle.memo_replay.proofs.over.Over.rules.Goals as goal

pub loop-place-init : goal.loop-place-init
loop-place-init g c = λ definitions cs stands.
    let over = c.args.self.now in
    let looks = looks_in g.L.LookUps.looks over in
    let request = request_in over in
    let path = keys_of c.args.path.now in
    begins over c.args.algorithm (rule_part looks request definitions path) (came_of_rule looks request definitions path) c.args.rules.now
    c.args.state.now c.no_children-gathering.result cs c.no_children-gathering.ensures stands

pub loop-place-preserved : goal.loop-place-preserved
loop-place-preserved g c = λ definitions cs stands.
    let over = c.args.self.now in
    let looks = looks_in g.L.LookUps.looks over in
    let request = request_in over in
    let path = keys_of c.args.path.now in
    proceeds_on over c.args.algorithm (rule_part looks request definitions path) (came_of_rule looks request definitions path) c.args.rules.now
    c.loop-place.place c.index-rules-place.result c.args.state.now c.loop-place.state c.next_rule.new.state c.loop-place.gathering c.next_rule.new.gathering _ cs
    (omega arith) c.index-rules-place.is (c.loop-place.invariant definitions cs stands) (c.in_ok-next_rule.ensures definitions path) c.in_default.is

pub returns-in-Stop : goal.returns-in-Stop
returns-in-Stop g c = λ definitions cs stands.
    let over = c.args.self.now in
    let looks = looks_in g.L.LookUps.looks over in
    let request = request_in over in
    let path = keys_of c.args.path.now in
    stopped over c.args.algorithm (rule_part looks request definitions path) (came_of_rule looks request definitions path) c.args.rules.now
    c.loop-place.place c.index-rules-place.result c.args.state.now c.loop-place.state c.next_rule.new.state c.loop-place.gathering c.next_rule.new.gathering _ cs
    (omega arith) c.index-rules-place.is (c.loop-place.invariant definitions cs stands) (c.in_ok-next_rule.ensures definitions path)
    c.pass_rules.new.state path (or_nothing c.in_ok-finish.field-0) c.in-Stop.is
    (c.in_ok-pass_rules.ensures.passes (scene_in g.L.LookUps.looks over) definitions path (drop (c.loop-place.place + 1) c.args.rules.now)
    (omega (arith, length-drop (c.loop-place.place + 1) c.args.rules.now)))
    c.in_ok-pass_rules.ensures.heard c.in_ok-finish.ensures.value

pub returns : goal.returns
returns g c = λ definitions cs stands.
    let over = c.args.self.now in
    let looks = looks_in g.L.LookUps.looks over in
    let request = request_in over in
    let path = keys_of c.args.path.now in
    all_joined over c.args.algorithm (rule_part looks request definitions path) (came_of_rule looks request definitions path) c.args.rules.now
    c.loop-place.place c.args.state.now c.loop-place.state c.loop-place.gathering cs path (or_nothing c.in_ok-finish-2.field-0)
    (omega arith) (c.loop-place.invariant definitions cs stands) c.in_ok-finish-2.ensures.value
