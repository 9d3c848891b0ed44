use Rattle.std.proofs.Common.{◌∷◌, ◌++◌, ◌∙◌, [], ap, arith, map, rules, sym}
use Rattle.serde_json.specs.View.{view}
use Rattle.std.proofs.lemmas.Result.{on_ok_weaker}
use Rattle.script_matching.specs.Places.{unless}
use Rattle.script_matching.specs.Told.{another, nothing}
use Rattle.script_matching.proofs.Lists.{depth_of_first, depth_of_member, members_more, nothing_past, plain_places}
use Rattle.script_matching.proofs.placing.+places.Goals as goal

pub push_items-push_places-requires : goal.push_items-push_places-requires
push_items-push_places-requires t c =
    let inside = depth_of_member c.args.items.now c.loop-i.i c.index-items-i.result c.loop-i-test.true c.index-items-i.is in
    (omega (arith, inside), tt)

pub push_members-push_member-requires : goal.push_members-push_member-requires
push_members-push_member-requires t c =
    let inside = depth_of_first c.loop-key.key-iterator c.next.new.self (c.in-Some.key.now, c.in-Some.member.now) c.in-Some.ensures.steps in
    (omega (arith, inside, c.loop-key.invariant.within), tt)

pub push_items-returns-then-i-others : goal.push_items-returns-then-i-others
push_items-returns-then-i-others t c =
    let so_far = map (λ v. v.items) c.loop-i.told.items in
    let item = c.index-items-i.result in
    on_ok_weaker c.tell_nothing.result
    (λ told. told ∙ ap (λ place. so_far ++ nothing place (view item) ∷ []) (c.as_slice.ensures.value ∙ c.in_ok-inner.ensures)
    ∙ ap (λ rest. so_far ++ rest)
    (sym (nothing_past c.args.place.now c.args.items.now c.args.others.now c.loop-i.i item c.loop-i-test.true c.index-items-i.is c.if-i-others.true))
    ∙ c.loop-i.invariant.left) c.tell_nothing.ensures

pub push_members-loop-key-preserved : goal.push_members-loop-key-preserved
push_members-loop-key-preserved t c =
    record {
      left = members_more c.args.whole c.args.place.now (view c.args.value.now) c.loop-key.key-iterator c.next.new.self (c.in-Some.key.now, c.in-Some.member.now)
          c.as_str.result.now _ _ _ c.in-Some.ensures.steps (search rules) (search rules) c.loop-key.invariant.left;
      within = search rules;
    }

pub push_places-returns-in-Null : goal.push_places-returns-in-Null
push_places-returns-in-Null t c =
    let so_far = map (λ v. v.items) c.args.told.now.items in
    let e = view c.args.expected.now in
    let d = view c.args.value.now in
    on_ok_weaker c.tell_another-in-Null.result
    (λ told. told ∙ ap (λ stands. so_far ++ unless stands (another c.args.place.now e d)) c.fits-stands.ensures
    ∙ ap (λ rest. so_far ++ rest) (sym (plain_places c.args.whole c.args.place.now c.args.expected.now d c.in-Null.is)))
    c.tell_another-in-Null.ensures
