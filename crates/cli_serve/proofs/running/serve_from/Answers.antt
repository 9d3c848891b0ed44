use Rattle.std.proofs.Common.{◌≡◌, ◌∙◌, Err, arith, ap, map}
use Rattle.std.specs.FinMap.{empty}
use Rattle.std.proofs.lemmas.Result.{err_from_is_err_and}
use Rattle.cli_serve.proofs.Starting.{not_begun, nothing_held, one_more}
use Rattle.cli_serve.specs.Starting.{no_rows, start_of}
use Rattle.ent_line.specs.Step.{at_start}
use Rattle.cli_serve.proofs.running.serve_from.Goals as goal

pub returns-in_err-categories : goal.returns-in_err-categories
returns-in_err-categories g c =
    let p = err_from_is_err_and c.from_residual.result c.from_residual.ensures.1 in
    not_begun c.replies_are_fresh.ensures (at_start (start_of c.args.limits c.args.count.attributes c.args.count.policies)) (g.R.Read.remaining c.args.reader.now) (g.W.Write.contents c.args.writer.now) c.from_residual.result (p.1 ∙ ap Err p.2)

pub returns-in_err-new : goal.returns-in_err-new
returns-in_err-new g c =
    let p = err_from_is_err_and c.from_residual-in_err-new.result c.from_residual-in_err-new.ensures.1 in
    not_begun c.replies_are_fresh.ensures (at_start (start_of c.args.limits c.args.count.attributes c.args.count.policies)) (g.R.Read.remaining c.args.reader.now) (g.W.Write.contents c.args.writer.now) c.from_residual-in_err-new.result (p.1 ∙ ap Err p.2)

pub returns-in_err-push_rowless : goal.returns-in_err-push_rowless
returns-in_err-push_rowless g c =
    let p = err_from_is_err_and c.from_residual-in_err-push_rowless.result c.from_residual-in_err-push_rowless.ensures.1 in
    not_begun c.replies_are_fresh.ensures (at_start (start_of c.args.limits c.args.count.attributes c.args.count.policies)) (g.R.Read.remaining c.args.reader.now) (g.W.Write.contents c.args.writer.now) c.from_residual-in_err-push_rowless.result (p.1 ∙ ap Err p.2)

pub returns-in_err-new-2 : goal.returns-in_err-new-2
returns-in_err-new-2 g c =
    let p = err_from_is_err_and c.from_residual-in_err-new-2.result c.from_residual-in_err-new-2.ensures.1 in
    not_begun c.replies_are_fresh.ensures (at_start (start_of c.args.limits c.args.count.attributes c.args.count.policies)) (g.R.Read.remaining c.args.reader.now) (g.W.Write.contents c.args.writer.now) c.from_residual-in_err-new-2.result (p.1 ∙ ap Err p.2)

pub returns-in_err-push_empty : goal.returns-in_err-push_empty
returns-in_err-push_empty g c =
    let p = err_from_is_err_and c.from_residual-in_err-push_empty.result c.from_residual-in_err-push_empty.ensures.1 in
    not_begun c.replies_are_fresh.ensures (at_start (start_of c.args.limits c.args.count.attributes c.args.count.policies)) (g.R.Read.remaining c.args.reader.now) (g.W.Write.contents c.args.writer.now) c.from_residual-in_err-push_empty.result (p.1 ∙ ap Err p.2)

pub loop-init : goal.loop-init
loop-init g c = record {
  sources = ap (map _) c.new-attributes.ensures.items;
  counted = c.new-attributes.ensures.len;
}

pub loop-preserved : goal.loop-preserved
loop-preserved g c = record {
  sources = one_more no_rows _ _ _ c.in_ok-push_rowless.ensures.sources c.loop.invariant.sources;
  counted = omega (arith, c.in_ok-push_rowless.ensures.len, c.loop.invariant.counted);
}

pub loop-2-init : goal.loop-2-init
loop-2-init g c = record {
  slots = ap (map _) c.new-policies.ensures.items;
  counted = c.new-policies.ensures.len;
}

pub loop-2-preserved : goal.loop-2-preserved
loop-2-preserved g c = record {
  slots = one_more empty _ _ _ c.in_ok-push_empty.ensures.slots c.loop-2.invariant.slots;
  counted = omega (arith, c.in_ok-push_empty.ensures.len, c.loop-2.invariant.counted);
}

-- as many as were asked for, and that is from 1 to 4
pub new-requires-2-clause-some : goal.new-requires-2-clause-some
new-requires-2-clause-some g c = omega (arith, c.loop.invariant.counted, c.loop-test.false, c.loop.auto.counter-end, c.requires.attributes.0)

pub new-requires-2-clause-few : goal.new-requires-2-clause-few
new-requires-2-clause-few g c = omega (arith, c.loop.invariant.counted, c.loop-test.false, c.loop.auto.counter-end, c.requires.attributes.1)

pub new-requires-3-clause-some : goal.new-requires-3-clause-some
new-requires-3-clause-some g c = omega (arith, c.loop-2.invariant.counted, c.loop-2-test.false, c.loop-2.auto.counter-end, c.requires.policies.0)

pub new-requires-3-clause-few : goal.new-requires-3-clause-few
new-requires-3-clause-few g c = omega (arith, c.loop-2.invariant.counted, c.loop-2-test.false, c.loop-2.auto.counter-end, c.requires.policies.1)

pub returns : goal.returns
returns g c =
    let rowless : c.loop.counter ≡ c.args.count.attributes = omega (arith, c.loop-test.false, c.loop.auto.counter-end) in
    let empty_ones : c.loop-2.counter ≡ c.args.count.policies = omega (arith, c.loop-2-test.false, c.loop-2.auto.counter-end) in
    let is = nothing_held c.args.limits _ _ _ _ c.args.count.attributes c.args.count.policies
    (c.new-2.ensures ∙ c.loop.invariant.sources) (c.new-3.ensures ∙ c.loop-2.invariant.slots) rowless empty_ones in
    rw is at c.serve_over.ensures
