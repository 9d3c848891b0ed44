use Rattle.std.proofs.Common.{◌≡◌, ◌<◌, ◌≤◌, ◌++◌, codes, map, sym, ◌∙◌, subst, arith}
use Rattle.std.proofs.lemmas.List.{take_all}
use Rattle.std.proofs.lemmas.Result.{IfOk-weaker}
use Rattle.serde_json.specs.Data.{depth, items_depth}
use Rattle.serde_json.specs.View.{items_of}
use Rattle.ent_polform.proofs.NestedLemmas.{depth-item}
use Rattle.lint_places.specs.Places.{at_keys}
use Rattle.lint_declared.specs.Undeclared.{FindsHere, FindsIn, spot}
use Rattle.lint_declared.proofs.Depths.{depth-as_array, depth-get}
use Rattle.lint_declared.proofs.Walks.{found_at_key, found_at_keys, found_at_member, found_at_row, found_in_list, none_at_keys, none_in_list, one_more, one_more_row}
use Rattle.lint_declared.proofs.walk.+walk.Goals as goal

pub at_key-in_part-requires : goal.at_key-in_part-requires
at_key-in_part-requires g t c κs within =
    let content = g.J.JsonTree.content in
    let inside : depth (content c.in-Some.value.now) < depth (content c.args.json.now) = depth-get c.args.row.0.now (content c.args.json.now) (content c.in-Some.value.now) (sym c.in-Some.ensures) in
    (omega (arith, inside), within)

pub at_key-returns-in_ok-inner-in-Some : goal.at_key-returns-in_ok-inner-in-Some
at_key-returns-in_ok-inner-in-Some g t c =
    let content = g.J.JsonTree.content in
    let inner : c.as_str.result.now ≡ c.args.pointer.now ++ (codes "/" ++ c.args.row.0.now) = c.as_str.ensures.value ∙ c.in_ok-inner-in-Some.ensures.ok in
    IfOk-weaker c.in_part.result _ _
    (λ o h. found_at_key c.args.attributes.now c.args.pointer.now c.as_str.result.now c.args.part (content c.args.json.now) (content c.in-Some.value.now) (c.args.row.0.now, c.args.row.1) o
    c.in-Some.ensures inner h) c.in_part.ensures

pub at_keys-returns-in-Some : goal.at_keys-returns-in-Some
at_keys-returns-in-Some g t c = λ scope.
    found_at_row (λ r. (r.0.now, r.1)) c.args.attributes.now c.in-Some.found c.in_ok-found.field-0 (spot c.args.pointer.now c.args.part scope (g.J.JsonTree.content c.args.json.now))
    c.rows-row-items.result.now c.loop-row.row-index _ c.rows-row-items.ensures c.loop-row-test.true c.in-Some.is (c.in_ok-found.ensures scope)

pub at_keys-loop-row-preserved : goal.at_keys-loop-row-preserved
at_keys-loop-row-preserved g t c =
    one_more_row (λ r. (r.0.now, r.1)) c.args.attributes.now c.in_ok-found.field-0 c.args.pointer.now c.args.part (g.J.JsonTree.content c.args.json.now) c.rows-row-items.result.now c.loop-row.row-index _
    c.loop-row-test.true c.in_default.is c.in_ok-found.ensures c.loop-row.invariant

pub at_keys-returns : goal.at_keys-returns
at_keys-returns g t c = λ scope.
    let d = g.J.JsonTree.content c.args.json.now in
    none_at_keys (λ r. (r.0.now, r.1)) c.args.attributes.now c.args.pointer.now c.args.part d scope c.rows-row-items.result.now c.rows-row-items.ensures
    (rw (← take_all c.loop-row.row-index c.rows-row-items.result.now (omega arith)) c.loop-row.invariant)

pub in_list-at_number-requires : goal.in_list-at_number-requires
in_list-at_number-requires g t c κs within =
    let content = g.J.JsonTree.content in
    let vs = c.in-Some-as_array.members.now in
    let v = c.index-members-number.result in
    let item : depth (content v) ≤ items_depth (items_of (map content vs)) = depth-item content vs c.loop-number.number v c.loop-number-test.true c.index-members-number.is in
    let whole : items_depth (items_of (map content vs)) < depth (content c.args.json.now) = depth-as_array (content c.args.json.now) (items_of (map content vs)) (sym c.in-Some-as_array.ensures) in
    (omega (arith, item, whole), within)

pub in_list-returns-in-Some-2 : goal.in_list-returns-in-Some-2
in_list-returns-in-Some-2 g t c = λ scope.
    let content = g.J.JsonTree.content in
    rw (← c.in-Some.ensures) (found_at_member content c.args.attributes.now c.in-Some-2.found c.in_ok-found.field-0 (spot c.args.pointer.now c.args.part scope (content c.args.json.now)) c.in-Some.item
    c.in-Some-as_array.members.now c.loop-number.number c.index-members-number.result (sym c.in-Some-as_array.ensures) c.loop-number-test.true c.index-members-number.is c.in-Some-2.is c.in_ok-found.ensures)

pub in_list-loop-number-preserved : goal.in_list-loop-number-preserved
in_list-loop-number-preserved g t c =
    one_more g.J.JsonTree.content c.args.attributes.now c.in_ok-found.field-0 c.args.pointer.now c.in-Some.item c.in-Some-as_array.members.now c.loop-number.number c.index-members-number.result
    c.loop-number-test.true c.index-members-number.is c.in_default-2.is c.in_ok-found.ensures c.loop-number.invariant

pub in_list-returns : goal.in_list-returns
in_list-returns g t c = λ scope.
    let content = g.J.JsonTree.content in
    rw (← c.in-Some.ensures) (none_in_list content c.args.attributes.now (spot c.args.pointer.now c.args.part scope (content c.args.json.now)) c.in-Some.item c.in-Some-as_array.members.now c.loop-number.number
    (sym c.in-Some-as_array.ensures) (omega arith) c.loop-number.invariant)

pub in_part-returns-in-Some : goal.in_part-returns-in-Some
in_part-returns-in-Some g t c = λ scope.
    subst (λ o. FindsHere c.args.attributes.now (spot c.args.pointer.now c.args.part scope (g.J.JsonTree.content c.args.json.now)) o) c.in-Some.is (c.in_ok-found.ensures scope)

pub in_part-returns-in-Some-2 : goal.in_part-returns-in-Some-2
in_part-returns-in-Some-2 g t c = λ scope.
    found_at_keys c.args.attributes.now c.in-Some-2.inner c.in_ok-inner.field-0 (spot c.args.pointer.now c.args.part scope (g.J.JsonTree.content c.args.json.now)) c.in-Some-2.is (c.in_ok-inner.ensures scope)

pub in_part-returns : goal.in_part-returns
in_part-returns g t c =
    let given = c.args.attributes.now in
    IfOk-weaker c.in_list.result _ _
    (λ o h scope.
    let s = spot c.args.pointer.now c.args.part scope (g.J.JsonTree.content c.args.json.now) in
    found_in_list given o s (subst (λ p. FindsHere given s p) c.in_default.is (c.in_ok-found.ensures scope)) (subst (λ p. FindsIn given (at_keys s) p) c.in_default-2.is (c.in_ok-inner.ensures scope)) (h scope)) c.in_list.ensures
