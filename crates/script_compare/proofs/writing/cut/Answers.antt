use Rattle.std.proofs.Common.{◌∙◌, ap, drop, map, sym, take}
use Rattle.std.proofs.lemmas.List.{drop-map, drop_min, take-map, take_min, take_rest}
use Rattle.script_compare.specs.Gains.{most}
use Rattle.script_compare.specs.proofs_only.Rows.{line_view}
use Rattle.script_compare.proofs.writing.cut.Goals as goal

pub returns-clause-told : goal.returns-clause-told
returns-clause-told c =
    let lines = c.args.lines.now in
    ap (map line_view) (ap (λ n. take n lines) c.min-count.ensures ∙ take_min most lines) ∙ sym (take-map line_view most lines)

pub returns-clause-others : goal.returns-clause-others
returns-clause-others c =
    let lines = c.args.lines.now in
    ap (map line_view) (take_rest lines c.min-count.result ∙ ap (λ n. drop n lines) c.min-count.ensures ∙ drop_min most lines)
    ∙ sym (drop-map line_view most lines)
