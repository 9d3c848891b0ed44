use Rattle.std.proofs.Common.{◌∙◌, ap, sym, arith, map}
use Rattle.lint_links.proofs.Settled.{at_first, one_further, same_flags, settled}
use Rattle.lint_links.specs.proofs_only.Rows.{is_one_set}
use Rattle.lint_links.proofs.links.flags_after.Goals as goal

pub loop-init : goal.loop-init
loop-init c = at_first (λ row. row.items) c.args.rows.now c.in_ok-flags.flags.items c.in_ok-flags.ensures

pub returns-then-eq : goal.returns-then-eq
returns-then-eq c =
    let rows = map (λ row. row.items) c.args.rows.now in
    let given = c.in_ok-next.ensures ∙ ap (λ flags. map (λ row. is_one_set flags row.items) c.args.rows.now) c.as_slice.ensures.value in
    let after = one_further (λ row. row.items) c.args.rows.now c.loop.flags.items c.in_ok-next.next.items c.loop.counter c.loop.invariant given in
    let same = same_flags _ _ (sym c.eq.ensures ∙ c.if-eq.true) in
    c.loop.invariant ∙ sym (settled rows c.loop.counter (sym after ∙ same ∙ c.loop.invariant) c.args.hops (omega (arith, c.loop-test.true)))

pub loop-preserved : goal.loop-preserved
loop-preserved c =
    let given = c.in_ok-next.ensures ∙ ap (λ flags. map (λ row. is_one_set flags row.items) c.args.rows.now) c.as_slice.ensures.value in
    one_further (λ row. row.items) c.args.rows.now c.loop.flags.items c.in_ok-next.next.items c.loop.counter c.loop.invariant given
