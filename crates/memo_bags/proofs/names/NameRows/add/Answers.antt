use Rattle.std.proofs.Common.{sym, ap, ◌∙◌, arith}
use Rattle.std.specs.BTreeMap.{get}
use Rattle.std.specs.Cmp.Lexicographic.{slice_cmp}
use Rattle.std.specs.Ordering.{nat_cmp}
use Rattle.memo_bags.specs.declared.names.NameRow.{NameRow}
use Rattle.memo_bags.proofs.Growing.{at_end}
use Rattle.memo_bags.proofs.Placed.{placed_more, placed_other, placed_same}
use Rattle.memo_bags.proofs.names.NameRows.add.Goals as goal

-- the name of the copy that the map takes leads nowhere before, so that rows are placed still
pub invariant_of-self-in-Break-branch-3 : goal.invariant_of-self-in-Break-branch-3
invariant_of-self-in-Break-branch-3 c =
    let names = c.args.self.now in
    record {
      placed = placed_other names.rows.items names.places c.insert.new.self c.in_ok-copy.field-0 c.args.name.now c.in_ok-copy.ensures c.requires
          c.in_ok-insert.ensures.updates.2 names.placed;
    }

pub invariant_of-self-in-Break-branch-4 : goal.invariant_of-self-in-Break-branch-4
invariant_of-self-in-Break-branch-4 c =
    let names = c.args.self.now in
    record {
      placed = placed_same names.rows.items c.push.new.self.items c.insert.new.self c.in_err-push.ensures.items
          (placed_other names.rows.items names.places c.insert.new.self c.in_ok-copy.field-0 c.args.name.now c.in_ok-copy.ensures c.requires
          c.in_ok-insert.ensures.updates.2 names.placed);
    }

pub invariant_of-self-2 : goal.invariant_of-self-2
invariant_of-self-2 c =
    let names = c.args.self.now in
    let row : NameRow = record { name = c.in_ok-copy-2.field-0; found = c.new.result } in
    let leads = ap (get (slice_cmp nat_cmp) c.insert.new.self) (c.in_ok-copy-2.ensures ∙ sym c.in_ok-copy.ensures) ∙ c.in_ok-insert.ensures.updates.1 in
    record {
      placed = placed_more names.rows.items c.push.new.self.items c.insert.new.self row c.len-place.result c.in_ok-push.ensures.items
          (omega (arith, names.rows.ok.0, c.len-place.ensures)) leads
          (placed_other names.rows.items names.places c.insert.new.self c.in_ok-copy.field-0 c.args.name.now c.in_ok-copy.ensures c.requires
          c.in_ok-insert.ensures.updates.2 names.placed);
    }

pub returns-clause-at : goal.returns-clause-at
returns-clause-at c =
    let rows = c.args.self.now.rows in
    let row : NameRow = record { name = c.in_ok-copy-2.field-0; found = c.new.result } in
    (row, (at_end rows.items c.push.new.self.items row c.len-place.result c.in_ok-push.ensures.items (omega (arith, rows.ok.0, c.len-place.ensures)), c.in_ok-copy-2.ensures))
