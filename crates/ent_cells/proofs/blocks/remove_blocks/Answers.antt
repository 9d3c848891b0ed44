use Rattle.std.proofs.Common.{◌≡◌, ◌+◌, ◌-◌, ◌≤◌, ◌++◌, ℕ, List, length, take, drop, ap, sym, ◌∙◌, arith, subst}
use Rattle.ent_cells.specs.proofs_only.Logging.{Puts, gone_in}
use Rattle.ent_cells.specs.Grid.{times}
use Rattle.ent_cells.specs.Shape.{taken_out}
use Rattle.ent_cells.proofs.Logging.{gone_length, gone_then, puts-append, puts-as, puts-none}
use Rattle.ent_cells.proofs.Narrowed.{times_parts, times_split}
use Rattle.ent_cells.proofs.Shapes.{block_step, halves, taken_out_step}
use Rattle.ent_cells.proofs.blocks.remove_blocks.Goals as goal

-- the keys that a block loses, where a list has each key once
block_once : (w o n : ℕ) (rest gone : List ℕ) → gone ≡ take n (drop o (take w rest)) → (c : ℕ) → times c gone ≤ times c rest
block_once w o n rest gone is c =
    omega (arith, ap (times c) is, times_split c n (drop o (take w rest)), times_split c o (take w rest), times_split c w rest)

block_length : (w o n : ℕ) (rest gone later : List ℕ) → gone ≡ take n (drop o (take w rest)) → later ≡ drop w rest → length gone + length later ≤ length rest
block_length w o n rest gone later is behind =
    omega (arith, ap length is, ap length behind, halves n (drop o (take w rest)), halves o (take w rest), halves w rest)

pub remove_logged-requires-clause-once : goal.remove_logged-requires-clause-once
remove_logged-requires-clause-once g c = λ k.
    let is = c.split-in-loop-done-2.ensures.front ∙ ap (take c.args.blocks.each) (c.split-in-loop-done.ensures.back ∙ ap (drop c.args.from) c.split.ensures.front) in
    omega (arith, block_once c.args.blocks.width c.args.from c.args.blocks.each c.loop-done.rest.now c.split-in-loop-done-2.result.0.now is k, c.loop-done.invariant.once k)

pub remove_logged-requires-clause-room : goal.remove_logged-requires-clause-room
remove_logged-requires-clause-room g c =
    let is = c.split-in-loop-done-2.ensures.front ∙ ap (take c.args.blocks.each) (c.split-in-loop-done.ensures.back ∙ ap (drop c.args.from) c.split.ensures.front) in
    omega (arith, block_length c.args.blocks.width c.args.from c.args.blocks.each c.loop-done.rest.now c.split-in-loop-done-2.result.0.now c.split.result.1.now is c.split.ensures.back, c.loop-done.invariant.room)

pub loop-done-preserved : goal.loop-done-preserved
loop-done-preserved g c =
    let n : ℕ = c.args.blocks.count in
    let i : ℕ = c.loop-done.done in
    let w : ℕ = c.args.blocks.width in
    let o : ℕ = c.args.from in
    let each : ℕ = c.args.blocks.each in
    let rest : List ℕ = c.loop-done.rest.now in
    let gone : List ℕ = c.split-in-loop-done-2.result.0.now in
    let later : List ℕ = c.split.result.1.now in
    let s = c.loop-done.store.cells in
    let t = c.remove_logged.new.store.cells in
    let is : gone ≡ take each (drop o (take w rest)) =
    c.split-in-loop-done-2.ensures.front ∙ ap (take each) (c.split-in-loop-done.ensures.back ∙ ap (drop o) c.split.ensures.front) in
    let next : List ℕ = taken_out (n - (i + 1)) w o each later in
    let step : taken_out (n - i) w o each rest ≡ gone ++ next =
    taken_out_step n i w o each rest c.loop-done-test.true ∙ (λ j. sym is j ++ taken_out (n - (i + 1)) w o each (sym c.split.ensures.back j)) in
    let once : (q : ℕ) → times q (gone ++ next) ≤ 1 =
    λ q. omega (arith, ap (times q) step, times_parts q (n - i) w o each rest, c.loop-done.invariant.once q) in
    record {
      cells = block_step c.args.store.now.cells s t n i w o each _ rest gone later c.loop-done-test.true is c.split.ensures.back c.loop-done.invariant.cells c.remove_logged.ensures.cells;
      once = λ q. omega (arith, ap (times q) c.split.ensures.back, times_split q w rest, c.loop-done.invariant.once q);
      room = omega (arith, block_length w o each rest gone later is c.split.ensures.back, gone_length s gone, c.remove_logged.ensures.logged.room, c.loop-done.invariant.room);
      logged = λ end puts.
          c.loop-done.invariant.logged end
          (puts-as (gone_in s gone ++ gone_in t next) (gone_in s (taken_out (n - i) w o each rest)) c.loop-done.log end
          (gone_then s t gone c.remove_logged.ensures.cells next once ∙ ap (gone_in s) (sym step))
          (puts-append (gone_in s gone) (gone_in t next) c.loop-done.log c.remove_logged.new.log end c.remove_logged.ensures.logged puts));
      evaluator = c.remove_logged.ensures.evaluator ∙ c.loop-done.invariant.evaluator;
    }

pub returns-clause-logged : goal.returns-clause-logged
returns-clause-logged g c =
    let none : c.args.blocks.count - c.loop-done.done ≡ 0 = omega (arith, c.loop-done-test.false) in
    c.loop-done.invariant.logged c.loop-done.log
    (subst (λ (n : ℕ). Puts (gone_in c.loop-done.store.cells (taken_out n c.args.blocks.width c.args.from c.args.blocks.each c.loop-done.rest.now)) c.loop-done.log c.loop-done.log)
    (sym none) (puts-none c.loop-done.log))
