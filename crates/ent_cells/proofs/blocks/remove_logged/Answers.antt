use Rattle.std.proofs.Common.{◌≡◌, ◌+◌, ◌≤◌, ◌++◌, ◌∷◌, [], ℕ, List, length, take, ap, sym, ◌∙◌, arith, slice_index_or}
use Rattle.std.proofs.lemmas.List.{length-take, take_more}
use Rattle.ent_cells.specs.proofs_only.Logging.{gone_in}
use Rattle.ent_cells.specs.Shape.{left_of}
use Rattle.ent_cells.proofs.Among.{first_times}
use Rattle.ent_cells.proofs.Logging.{gone_length, gone_more, gone_one, puts-append, puts-as}
use Rattle.ent_cells.proofs.Shapes.{left_more}
use Rattle.ent_cells.proofs.blocks.remove_logged.Goals as goal

pub remove_one-requires : goal.remove_one-requires
remove_one-requires g c =
    let i : ℕ = c.loop-key.key-index in
    let few : length (gone_in c.args.store.now.cells (take i c.args.keys.now)) ≤ length (take i c.args.keys.now) = gone_length c.args.store.now.cells (take i c.args.keys.now) in
    omega (arith, c.loop-key.invariant.logged.room, few, length-take i c.args.keys.now, c.loop-key-test.true, c.requires.room)

pub loop-key-preserved : goal.loop-key-preserved
loop-key-preserved g c =
    let i : ℕ = c.loop-key.key-index in
    let keys : List ℕ = c.args.keys.now in
    let k : ℕ = slice_index_or keys i 0 in
    let s = c.args.store.now.cells in
    let one : gone_in c.loop-key.store.cells (k ∷ []) ≡ gone_in s (k ∷ []) =
    gone_one s c.loop-key.store.cells (take i keys) c.loop-key.invariant.cells k (first_times keys i c.loop-key-test.true (c.requires.once k)) in
    record {
      cells = λ q.
          left_more s c.loop-key.store.cells c.remove_one.new.store.cells _ k c.loop-key.invariant.cells c.remove_one.ensures.cells q
          ∙ ap (λ (ks : List ℕ). left_of s ks q) (sym (take_more keys i 0 c.loop-key-test.true));
      logged =
          puts-as (gone_in s (take i keys) ++ gone_in c.loop-key.store.cells (k ∷ [])) (gone_in s (take (i + 1) keys)) c.args.log.now c.remove_one.new.log
          (ap (λ os. gone_in s (take i keys) ++ os) one ∙ sym (gone_more s keys i c.loop-key-test.true))
          (puts-append (gone_in s (take i keys)) (gone_in c.loop-key.store.cells (k ∷ [])) c.args.log.now c.loop-key.log c.remove_one.new.log c.loop-key.invariant.logged c.remove_one.ensures.logged);
      evaluator = c.remove_one.ensures.evaluator ∙ c.loop-key.invariant.evaluator;
    }
