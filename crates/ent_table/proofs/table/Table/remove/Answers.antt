use Rattle.std.proofs.Common.{◌≡◌, ◌≤◌, ◌*◌, length, map, sym, ap, ◌∙◌, arith}
use Rattle.ent_table.specs.Names.{Names, has_name, triples, with_list, without_name}
use Rattle.ent_cells.specs.Shape.{without}
use Rattle.ent_table.proofs.Counts.{has_own}
use Rattle.ent_table.proofs.Named.{dropped_cells}
use Rattle.ent_cells.proofs.Shapes.{length-without}
use Rattle.ent_table.proofs.table.Table.remove.Goals as goal

pub overflow_sub-result : goal.overflow_sub-result
overflow_sub-result g c =
    let blocks = c.blocks-blocks.result in
    omega (arith, c.len.ensures, c.len-before.ensures, ap length c.narrow.ensures.cells, length-without blocks.count blocks.width (c.in_ok-place.place * blocks.each) blocks.each c.args.self.now.cells.kept)

pub returns-clause-dropped : goal.returns-clause-dropped
returns-clause-dropped g c =
    let old = c.args.self.now in
    let list = c.args.list in
    let name = c.args.name.now in
    let place = c.in_ok-place.place in
    let stands = c.in_ok-place.ensures.taken.0 in
    let names : c.remove.new.self ≡ without_name list name old.names = c.in_ok-place.ensures.rest ∙ ap (λ xs. with_list list xs old.names) c.in_ok-place.ensures.taken.1 in
    let fewer : length c.narrow.new.self.kept ≤ length old.cells.kept = omega (arith, c.len.ensures, c.len-before.ensures, overflow_sub-result g c) in
    record {
      there = ap (has_name name) stands.is ∙ has_own name stands.before stands.after;
      names = names;
      cells = λ f is.
          c.narrow.ensures.cells
          ∙ (λ i. without (c.blocks-blocks.ensures.blocks i).count (c.blocks-blocks.ensures.blocks i).width (place * (c.blocks-blocks.ensures.blocks i).each) (c.blocks-blocks.ensures.blocks i).each (is i))
          ∙ dropped_cells f list old.names name place stands
          ∙ ap (λ (n : Names). map f (triples n)) (sym names);
      counted = omega (arith, c.len.ensures, c.len-before.ensures, fewer);
    }
