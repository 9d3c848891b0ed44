use Rattle.std.proofs.Common.{◌≤◌, arith, length, sym}
use Rattle.std.proofs.lemmas.List.{length-take-le}
use Rattle.script_matching.proofs.told.cut.Goals as goal

pub slice_bounds-front-end : goal.slice_bounds-front-end
slice_bounds-front-end c = sym (length-take-le 200 c.args.text.now (omega (arith, c.if-text-le-MOST.false)))
