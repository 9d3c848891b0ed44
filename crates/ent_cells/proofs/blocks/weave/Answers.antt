use Rattle.std.proofs.Common.{◌≡◌, ◌+◌, length, ap, ◌∙◌, arith, length-append}
use Rattle.ent_cells.proofs.Shapes.{weave_step, halves}
use Rattle.ent_cells.proofs.blocks.weave.Goals as goal

pub loop-done-preserved : goal.loop-done-preserved
loop-done-preserved c = record {
  left = weave_step c.args.blocks c.loop-done.done c.args.width c.args.each c.loop-done.room.items c.loop-done.keys_left.now c.loop-done.added_left.now c.append.new.room.items c.append-in-loop-done.new.room.items c.split.result.0.now c.split-in-loop-done.result.0.now c.split.result.1.now c.split-in-loop-done.result.1.now _
      c.loop-done-test.true c.append.ensures.items c.append-in-loop-done.ensures.items c.split.ensures.front c.split.ensures.back c.split-in-loop-done.ensures.front c.split-in-loop-done.ensures.back c.loop-done.invariant.left;
  room =
      let one : length c.append.new.room.items ≡ length c.loop-done.room.items + length c.split.result.0.now = ap length c.append.ensures.items ∙ length-append c.loop-done.room.items c.split.result.0.now in
      let two : length c.append-in-loop-done.new.room.items ≡ length c.append.new.room.items + length c.split-in-loop-done.result.0.now = ap length c.append-in-loop-done.ensures.items ∙ length-append c.append.new.room.items c.split-in-loop-done.result.0.now in
      let three : length c.split.result.0.now + length c.split.result.1.now ≡ length c.loop-done.keys_left.now = (λ j. length (c.split.ensures.front j) + length (c.split.ensures.back j)) ∙ halves c.args.width c.loop-done.keys_left.now in
      let four : length c.split-in-loop-done.result.0.now + length c.split-in-loop-done.result.1.now ≡ length c.loop-done.added_left.now = (λ j. length (c.split-in-loop-done.ensures.front j) + length (c.split-in-loop-done.ensures.back j)) ∙ halves c.args.each c.loop-done.added_left.now in
      omega (arith, c.loop-done.invariant.room, c.append.ensures.capacity, c.append-in-loop-done.ensures.capacity);
}
