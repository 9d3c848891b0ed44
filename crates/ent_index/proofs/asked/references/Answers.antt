use Rattle.std.proofs.Common.{ap, sym, ◌∷◌, ◌++◌, [], ◌∙◌}
use Rattle.ent_request.specs.declared.key.ReadKey.{ReadKey}
use Rattle.ent_index.specs.Cells.{CellSet}
use Rattle.ent_index.proofs.KeyOrders.{before_them, behind_them, one_of_them, sorted_rest}
use Rattle.ent_index.proofs.asked.references.Goals as goal

pub loop-key-preserved-in-Less : goal.loop-key-preserved-in-Less
loop-key-preserved-in-Less c =
    let e : ReadKey × CellSet = (c.in-Some.key.now, c.in-Some.field-0-1.now) in
    record {
      sorted = sorted_rest c.args.kind c.args.id.now e c.loop-key.key-iterator c.next.new.self c.in-Some.ensures.steps c.loop-key.invariant.sorted;
      rest = before_them c.args.kind c.args.id.now c.loop-key.keys e c.loop-key.key-iterator c.next.new.self c.args.range c.in-Some.ensures.steps (sym c.in-Less.ensures) c.loop-key.invariant.rest;
    }

pub loop-key-preserved : goal.loop-key-preserved
loop-key-preserved c =
    let e : ReadKey × CellSet = (c.in-Some.key.now, c.in-Some.field-0-1.now) in
    record {
      sorted = sorted_rest c.args.kind c.args.id.now e c.loop-key.key-iterator c.next.new.self c.in-Some.ensures.steps c.loop-key.invariant.sorted;
      rest = one_of_them c.args.kind c.args.id.now c.loop-key.keys c.push.new.self e c.loop-key.key-iterator c.next.new.self c.args.range c.in-Some.ensures.steps (sym c.in-Equal.ensures)
          (c.in_ok-push-in-Equal.ensures.ok ∙ ap (λ k. c.loop-key.keys ++ k ∷ []) c.in_ok-copy-in-Equal.ensures.value) c.loop-key.invariant.rest;
    }

pub returns-in-Greater : goal.returns-in-Greater
returns-in-Greater c =
    let e : ReadKey × CellSet = (c.in-Some.key.now, c.in-Some.field-0-1.now) in
    behind_them c.args.kind c.args.id.now c.loop-key.keys e c.loop-key.key-iterator c.next.new.self c.args.range c.in-Some.ensures.steps (sym c.in-Greater.ensures) c.loop-key.invariant.sorted c.loop-key.invariant.rest
