use Rattle.std.proofs.Common.{◌∙◌, ap, sym, map}
use Rattle.std.proofs.lemmas.List.{take_all}
use Rattle.lint_links.proofs.Settled.{map_twice}
use Rattle.lint_links.specs.proofs_only.Rows.{entry_of}
use Rattle.lint_links.proofs.root.keys_in.Goals as goal

pub returns : goal.returns
returns c =
    let all = c.as_slice-all.result.now in
    c.loop-one.invariant ∙ ap (map (λ one. one.key.now)) (take_all c.loop-one.one-index all c.loop-one-test.false)
    ∙ sym (map_twice entry_of (λ e. e.0) all) ∙ ap (map (λ e. e.0)) (ap (map entry_of) c.as_slice-all.ensures.value ∙ c.in_ok-held.ensures)
