use Rattle.std.proofs.Common.{◌∙◌, ap, map, sym}
use Rattle.std.specs.List.{filter}
use Rattle.std.proofs.lemmas.List.{take_all}
use Rattle.ent_finder.specs.Finding.{is_of}
use Rattle.lint_links.proofs.Settled.{map_twice}
use Rattle.lint_links.specs.proofs_only.Rows.{entry_of}
use Rattle.lint_links.proofs.missing.namesakes.Goals as goal

pub returns : goal.returns
returns c =
    c.loop-one.invariant ∙ ap (λ all. filter (is_of c.args.reference.now) (map (λ one. one.key.now) all)) (take_all c.loop-one.one-index c.args.all.now c.loop-one-test.false)
    ∙ ap (filter (is_of c.args.reference.now)) (sym (map_twice entry_of (λ e. e.0) c.args.all.now))
