use Rattle.std.proofs.lemmas.Result.{err_from_is_err_and}
use Rattle.lint_places.proofs.ListLemmas.{ends, goes_on}
use Rattle.lint_places.proofs.reading.all.Goals as goal

pub returns-in_err-read : goal.returns-in_err-read
returns-in_err-read g c =
    let p = err_from_is_err_and c.from_residual-in_err-read.result c.from_residual-in_err-read.ensures.1 in
    rw (p.1, p.2) (ends g.J.JsonTree.content (λ n. g.R.ReadableItem.reads) c.args.values.now c.loop-value.value-index c.value-item.result c.loop-value.all c.in_err-read.field-0.0
    c.loop-value-test.true c.value-item.is c.in_err-read.ensures c.loop-value.invariant)

pub loop-value-preserved : goal.loop-value-preserved
loop-value-preserved g c =
    rw c.in_ok-push.ensures.ok (goes_on g.J.JsonTree.content (λ n. g.R.ReadableItem.reads) c.args.values.now c.loop-value.value-index c.value-item.result c.loop-value.all c.in_ok-read.field-0
    c.loop-value-test.true c.value-item.is c.in_ok-read.ensures c.loop-value.invariant)
