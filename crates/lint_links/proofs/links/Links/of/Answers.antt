use Rattle.std.proofs.Common.{◌∙◌, ◌^◌, ◌-◌, ap, arith, map}
use Rattle.std.proofs.lemmas.List.{length-map}
use Rattle.ent_finder.specs.Slots.{held}
use Rattle.lint_links.proofs.Flags.{endless_are, flags_are}
use Rattle.lint_links.proofs.Followed.{counts_are}
use Rattle.lint_links.specs.proofs_only.Rows.{counts_after, flags_after}
use Rattle.lint_links.proofs.links.Links.of.Goals as goal

pub returns-clause-long : goal.returns-clause-long
returns-clause-long c =
    c.in_ok-long.ensures ∙ ap (λ rows. flags_after (map (λ row. row.items) rows) c.args.hops) c.as_slice-2.ensures.value
    ∙ flags_are (held c.args.docs.now) (map (λ row. row.items) c.in_ok-rows.rows.items) c.args.hops c.in_ok-rows.ensures.rows

pub returns-clause-endless : goal.returns-clause-endless
returns-clause-endless c =
    let many = length-map c.in_ok-rows.rows.items (λ row. row.items) in
    let counted = c.len.ensures in
    let fits = c.in_ok-rows.rows.ok.0 in
    c.in_ok-endless.ensures ∙ ap (λ rows. flags_after (map (λ row. row.items) rows) c.len.result) c.as_slice-3.ensures.value
    ∙ endless_are (held c.args.docs.now) (map (λ row. row.items) c.in_ok-rows.rows.items) c.len.result (omega (arith, many, counted, fits)) c.in_ok-rows.ensures.rows

pub returns-clause-followed : goal.returns-clause-followed
returns-clause-followed c =
    c.in_ok-followed.ensures ∙ ap (λ rows. counts_after (2 ^ 64 - 1) (map (λ row. row.items) rows) c.args.steps) c.as_slice-4.ensures.value
    ∙ counts_are (2 ^ 64 - 1) (held c.args.docs.now) (map (λ row. row.items) c.in_ok-rows.rows.items) c.args.steps c.in_ok-rows.ensures.rows
