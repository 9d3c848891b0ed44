use Rattle.std.proofs.Common.{◌≡◌, ◌<◌, ◌≤◌, map, sym, arith}
use Rattle.serde_json.specs.Data.{depth, items_depth}
use Rattle.serde_json.specs.View.{items_of}
use Rattle.ent_polform.proofs.NestedLemmas.{depth-item}
use Rattle.lint_places.proofs.Inside.{depth-as_array, depth-get}
use Rattle.lint_places.proofs.weight.+weigh.Goals as goal

pub weight_at_key-weight-requires : goal.weight_at_key-weight-requires
weight_at_key-weight-requires g t c κs within =
    let content = g.J.JsonTree.content in
    let inside : depth (content c.in-Some.value.now) < depth (content c.args.json.now) = depth-get c.args.key.now (content c.args.json.now) (content c.in-Some.value.now) (sym c.in-Some.ensures) in
    (omega (arith, inside), within)

pub weight_in_list-weight-requires : goal.weight_in_list-weight-requires
weight_in_list-weight-requires g t c κs within =
    let content = g.J.JsonTree.content in
    let vs = c.in-Some-as_array.members.now in
    let v = c.member-item.result in
    let item : depth (content v) ≤ items_depth (items_of (map content vs)) = depth-item content vs c.loop-member.member-index v c.loop-member-test.true c.member-item.is in
    let whole : items_depth (items_of (map content vs)) < depth (content c.args.json.now) = depth-as_array (content c.args.json.now) (items_of (map content vs)) (sym c.in-Some-as_array.ensures) in
    (omega (arith, item, whole), within)
