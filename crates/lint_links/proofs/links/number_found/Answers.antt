use Rattle.std.proofs.Common.{◌∙◌, ap, sym}
use Rattle.std.specs.FinMap.{entries}
use Rattle.std.specs.Option.{option_map}
use Rattle.ent_finder.specs.Slots.{held}
use Rattle.lint_links.proofs.Numbers.{entries_past, entry_there, last_all, last_is, last_stays}
use Rattle.lint_links.specs.proofs_only.Rows.{entry_of, numbered}
use Rattle.lint_links.proofs.links.number_found.Goals as goal
use Rattle.lint_links.proofs.links.number_found.Goals.{then-is_named, else-is_named}

pub loop-number-preserved : goal.loop-number-preserved
loop-number-preserved c =
    let es = entries (held c.args.docs.now) in
    let r = c.args.reference.now in
    let i = c.loop-number.number in
    let e = entry_of c.index-all-number.result in
    let there = entry_there c.args.all.now es i c.index-all-number.result c.requires c.loop-number-test.true c.index-all-number.is in
    elim c.if-is_named.branch [
      | then-is_named w ↦ ap (option_map (numbered es)) w.found-is ∙ last_is r es i e there.0 there.1 (sym c.is_named.ensures ∙ w.if-is_named.true)
      | else-is_named w ↦ ap (option_map (numbered es)) w.found-is ∙ c.loop-number.invariant ∙ last_stays r es i e there.0 there.1 (sym c.is_named.ensures ∙ w.if-is_named.false)
    ]

pub returns : goal.returns
returns c =
    c.loop-number.invariant
    ∙ last_all c.args.reference.now (held c.args.docs.now) c.loop-number.number (entries_past c.args.all.now (entries (held c.args.docs.now)) c.loop-number.number c.requires c.loop-number-test.false)
