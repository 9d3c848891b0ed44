use Rattle.std.proofs.Common.{◌≡◌, ◌<◌, List, length, take, true, false, sym, subst}
use Rattle.std.specs.Prelude.{filter}
use Rattle.ent_values.specs.declared.value.Value.{Value}
use Rattle.ent_functions.specs.Arguments.{are_many}
use Rattle.ent_functions.specs.Sets.{in_both, is_among}
use Rattle.ent_functions.specs.proofs_only.Found.{AreFound}
use Rattle.ent_functions.proofs.Found.{among_by, filter_left, filter_taken}
use Rattle.ent_functions.proofs.Memory.{filled_filter, filled_once, refused}
use Rattle.ent_functions.proofs.sets.common_values.Goals as goal
use Rattle.ent_functions.proofs.sets.common_values.Goals.{then-has+in_ok-add_new, else-has}

pub loop-value-preserved : goal.loop-value-preserved
loop-value-preserved c =
    let first = c.args.first.now in
    let second = c.args.second.now in
    let l = c.loop-value in
    elim c.if-has.branch [
      | then-has+in_ok-add_new w ↦
          let common = among_by _ second c.value-item.result c.has.result true l.invariant.among c.has.ensures w.if-has.true in
          record {
            among = l.invariant.among;
            found = rw (w.found-is, w.seen-is)
                (subst (λ (values : List Value). AreFound values w.add_new.new.found w.add_new.new.seen)
                (sym (filter_taken (λ value. is_among value second) first l.value-index c.value-item.result c.loop-value-test.true c.value-item.is common))
                (w.in_ok-add_new.ensures (filter (λ value. is_among value second) (take l.value-index first)) l.invariant.found));
          }
      | else-has w ↦
          let absent = among_by _ second c.value-item.result c.has.result false l.invariant.among c.has.ensures w.if-has.false in
          record {
            among = l.invariant.among;
            found = rw (w.found-is, w.seen-is)
                (subst (λ (values : List Value). AreFound values l.found l.seen)
                (sym (filter_left (λ value. is_among value second) first l.value-index c.value-item.result c.loop-value-test.true c.value-item.is absent))
                l.invariant.found);
          }
    ]

pub returns-in_err-add_new-clause-filled : goal.returns-in_err-add_new-clause-filled
returns-in_err-add_new-clause-filled c =
    let first = c.args.first.now in
    let second = c.args.second.now in
    let common = among_by _ second c.value-item.result c.has.result true c.loop-value.invariant.among c.has.ensures c.if-has.true in
    refused (are_many first second ≡ false → 0 < length (in_both first second)) c.from_residual-in_err-add_new.result
    (λ few. filled_once (filter (λ value. is_among value second) first)
    (filled_filter (λ value. is_among value second) first c.loop-value.value-index c.value-item.result c.loop-value-test.true c.value-item.is common))
