use Rattle.std.proofs.Common.{◌+◌, ◌-◌, ◌^◌, length, refl, arith}
use Rattle.std.proofs.lemmas.Option.{slice_get_read}
use Rattle.memo_plan.specs.Plan.{constant, entry_came, goes_on, is_test, skip_of}
use Rattle.memo_plan.proofs.Noting.{tested_still}
use Rattle.memo_plan.proofs.Signing.{grows_then, next_place, signing_ends, signing_jumps, signing_notes}
use Rattle.memo_plan.proofs.way.sign.Goals as goal

pub sign_one-requires : goal.sign_one-requires
sign_one-requires g c =
    tested_still (g.O.Outcomes.has_test c.args.outcomes.now) (g.O.Outcomes.has_test c.loop-place.outcomes) c.loop-place.invariant.grows.tested c.loop-place.place c.index-entries-place.result
    (c.requires c.loop-place.place c.index-entries-place.result (slice_get_read c.args.entries.now _ c.loop-place.place c.index-entries-place.result refl (omega arith) c.index-entries-place.is))

pub loop-place-preserved : goal.loop-place-preserved
loop-place-preserved g c =
    let w = g.O.Outcomes.scene c.args.outcomes.now in
    let place = c.loop-place.place in
    record {
      grows = grows_then is_test constant entry_came goes_on skip_of g.O.Outcomes.scene g.O.Outcomes.has_test g.O.Outcomes.tells g.O.Outcomes.follows c.args.entries.now w
          c.args.outcomes.now c.loop-place.outcomes c.sign_one.new.outcomes c.loop-place.invariant.grows c.sign_one.ensures.grows;
      signing =
          let noted = signing_notes is_test constant entry_came goes_on skip_of g.O.Outcomes.scene g.O.Outcomes.has_test g.O.Outcomes.tells g.O.Outcomes.follows c.args.entries.now w
          c.loop-place.outcomes c.sign_one.new.outcomes place 0 c.in_ok-passed.passed c.loop-place.way.items c.sign_one.new.way.items c.index-entries-place.result
          (g.O.Outcomes.scene c.loop-place.outcomes) (omega arith) refl c.index-entries-place.is c.sign_one.ensures.grows c.loop-place.invariant.grows.same
          c.in_ok-passed.ensures.notes c.in_ok-passed.ensures.passed c.loop-place.invariant.signing in
          signing_jumps is_test constant entry_came goes_on skip_of g.O.Outcomes.scene g.O.Outcomes.has_test g.O.Outcomes.tells g.O.Outcomes.follows c.args.entries.now w
          c.sign_one.new.outcomes (place + 1) c.in_ok-passed.passed c.saturating_add-place.result c.sign_one.new.way.items
          (next_place (length c.args.entries.now) place c.in_ok-passed.passed c.saturating_add.result c.saturating_add-place.result (2 ^ 64 - 1) (omega arith) (omega arith)
          c.saturating_add.ensures c.saturating_add-place.ensures) noted;
    }

pub returns-clause-came : goal.returns-clause-came
returns-clause-came g c =
    signing_ends is_test constant entry_came goes_on skip_of g.O.Outcomes.scene g.O.Outcomes.has_test g.O.Outcomes.tells g.O.Outcomes.follows c.args.entries.now (g.O.Outcomes.scene c.args.outcomes.now)
    c.loop-place.outcomes c.loop-place.place 0 c.loop-place.way.items (omega arith) c.loop-place.invariant.signing
