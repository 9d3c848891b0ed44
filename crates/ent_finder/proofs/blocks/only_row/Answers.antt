use Rattle.std.proofs.Common.{◌≡◌, ◌+◌, Some, true, false, arith, refl, rules, slice_get}
use Rattle.std.proofs.lemmas.Option.{slice_get_read}
use Rattle.ent_finder.specs.Looking.{names_row}
use Rattle.ent_finder.proofs.Lone.{only_named}
use Rattle.ent_finder.proofs.blocks.only_row.Goals as goal

pub returns-then-not-names-2 : goal.returns-then-not-names-2
returns-then-not-names-2 c =
    let key = c.args.key.now in
    let b = c.in_ok-rows.field-0.now in
    let block = c.in_ok-rows.ensures.lookup in
    let n = c.in_ok-checked_sub.field-0 in
    let l = c.in_ok-checked_add.field-0 in
    let first = c.in_ok-before.ensures.lookup in
    let second = c.in_ok-row.ensures.lookup in
    let third = c.in_ok-after.ensures.lookup in
    let next : n + 1 ≡ c.args.place = omega (arith, c.in_ok-checked_sub.ensures) in
    let last : c.args.place + 1 ≡ l = omega (arith, c.in_ok-checked_add.ensures) in
    let before : slice_get b.rows.items n ≡ Some c.in_ok-before.before.now = rw c.deref.ensures.value at (slice_get_read _ _ _ _ refl first.3.0 first.1) in
    let here : slice_get b.rows.items c.args.place ≡ Some c.in_ok-row.row.now = rw c.deref-2.ensures.value at (slice_get_read _ _ _ _ refl second.3.0 second.1) in
    let after : slice_get b.rows.items l ≡ Some c.in_ok-after.after.now = rw c.deref-3.ensures.value at (slice_get_read _ _ _ _ refl third.3.0 third.1) in
    let tied : names_row key c.in_ok-row.row.now.key ≡ true = search rules in
    let unlike : names_row key c.in_ok-before.before.now.key ≡ false = search rules in
    let other : names_row key c.in_ok-after.after.now.key ≡ false = search rules in
    only_named key c.args.blocks.now c.requires c.args.number b block.3.0 block.1 n c.args.place l _ _ _ next last before here after unlike tied other
