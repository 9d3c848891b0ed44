use Rattle.std.proofs.Common.{List, sym, ap, subst, ◌∙◌}
use Rattle.ent_cells.specs.Cell.{HasReadKeys, Kept}
use Rattle.ent_table.specs.proofs_only.Look.{AreChanged, asks, keys_in}
use Rattle.ent_table.specs.Fresh.{state_of}
use Rattle.ent_table.proofs.Told.{are_changed}
use Rattle.ent_table.proofs.Undone.{held_twice}
use Rattle.ent_table.proofs.review_parts.ReviewParts.exchange_and_tell.Goals as goal

pub returns-in-Ok-clause-changed : goal.returns-in-Ok-clause-changed
returns-in-Ok-clause-changed g c =
    let s = state_of c.args.self.now in
    let x = c.args.exchange.now in
    let seen = c.in_ok-seen.seen.items in
    let one = c.in_ok-exchange.ensures in
    let cells = c.exchange.new.self.table.cells.kept in
    let has = subst (λ (es : List Kept). HasReadKeys (asks x) es (keys_in seen)) (sym (ap (λ v. v.table.cells.kept) one.rest)) c.in_ok-seen.ensures.keys in
    subst (AreChanged s x cells) (sym c.in-Ok.ensures)
    (are_changed s (state_of c.exchange.new.self) x _ seen cells c.requires one.made one.taken has c.in_ok-seen.ensures.looks)

pub returns-in-Err-clause-kept : goal.returns-in-Err-clause-kept
returns-in-Err-clause-kept g c =
    let one = c.in_ok-exchange.ensures in
    c.take_back.ensures.before c.args.self.now (c.args.exchange.now, c.requires, one.made, one.taken)

pub returns-in-Err-clause-rest : goal.returns-in-Err-clause-rest
returns-in-Err-clause-rest g c =
    held_twice c.args.self.now c.exchange.new.self c.take_back.new.self c.in_ok-exchange.ensures.rest c.take_back.ensures.rest

pub returns-in-Err-clause-counted : goal.returns-in-Err-clause-counted
returns-in-Err-clause-counted g c = c.take_back.ensures.counted ∙ c.in_ok-exchange.ensures.counted
