use Rattle.std.proofs.Common.{◌≡◌, ◌≤◌, ◌+◌, ℕ, Bool, true, false, cond, is_some, List, length, sym, ap, subst, ◌∙◌, arith}
use Rattle.slab.specs.Slab.{Slab, get}
use Rattle.ent_request.specs.declared.answer.Answer.{Answer}
use Rattle.ent_log.specs.Tables.{room_of}
use Rattle.ent_log.specs.declared.log.Log.{Log}
use Rattle.ent_eval.specs.declared.who.Who.{Who}
use Rattle.ent_cells.specs.Cell.{Cells, Kept}
use Rattle.ent_cells.specs.Entries.{Entry, kept_of}
use Rattle.ent_cells.specs.Grid.{IsGrid, times}
use Rattle.ent_cells.specs.proofs_only.Logging.{Puts, gone_in}
use Rattle.ent_cells.specs.Old.{IsLogged, AreOld}
use Rattle.ent_cells.specs.Shape.{taken_out, without}
use Rattle.ent_cells.proofs.Gone.{gone_old, gone_rest}
use Rattle.ent_cells.proofs.Listed.{kept_long, narrow_kept, narrow_live}
use Rattle.ent_cells.proofs.Narrowed.{narrow_filter}
use Rattle.ent_cells.proofs.live.Live.narrow.Goals as goal

at_most_one : (b : Bool) (n : ℕ) → n ≡ cond b 1 0 → n ≤ 1
at_most_one true n h = omega (arith, h)
at_most_one false n h = omega (arith, h)

-- each key stands in the list once at most
keys_once : (s : Slab Entry) (ks : List ℕ) → IsGrid s ks → (c : ℕ) → times c ks ≤ 1
keys_once s ks grid c = at_most_one (is_some (get s c)) (times c ks) (grid c)

pub remove_blocks-requires-clause-once : goal.remove_blocks-requires-clause-once
remove_blocks-requires-clause-once g c = rw c.deref.ensures.value (keys_once c.self.inside.store.cells c.self.inside.keys.items c.self.invariant.grid)

pub remove_blocks-requires-clause-room : goal.remove_blocks-requires-clause-room
remove_blocks-requires-clause-room g c =
    omega (arith, c.requires.room, ap length c.deref.ensures.value, kept_long c.self.inside.store.cells c.self.inside.keys.items c.self.invariant.grid, ap length (ap (λ (x : Cells). x.kept) c.self.view_is))

pub invariant_of-self : goal.invariant_of-self
invariant_of-self g c =
    let cleared = rw c.deref.ensures.value at c.remove_blocks.ensures.cells in
    let is = c.keep_present.ensures ∙ narrow_filter c.self.inside.store.cells c.remove_blocks.new.store.cells c.args.blocks.count c.args.blocks.width c.args.from c.args.blocks.each c.self.inside.keys.items c.self.invariant.grid cleared in
    rw is (narrow_live c.self.inside.store.cells c.remove_blocks.new.store.cells c.args.blocks.count c.args.blocks.width c.args.from c.args.blocks.each c.self.inside.keys.items c.self.invariant cleared)

-- the cells that are left, and what is logged of those that go
module _ (s t : Slab Entry) (m w o n : ℕ) (ks left : List ℕ) (grid : IsGrid s ks) (before after : Log Who Answer) (puts : Puts (gone_in s (taken_out m w o n ks)) before after)
    (cells : List Kept) (is : kept_of s ks ≡ cells) (new_is : kept_of t left ≡ without m w o n cells) where
  is_logged : IsLogged cells (kept_of t left) before after
  is_logged = (
    gone_in s (taken_out m w o n ks),
    subst (AreOld (gone_in s (taken_out m w o n ks)) cells) (sym new_is)
        (subst (λ es. AreOld (gone_in s (taken_out m w o n ks)) es (without m w o n es)) is (gone_old s m w o n ks grid)),
    puts.kept,
  )

  still_room : length cells ≤ room_of before → length (kept_of t left) ≤ room_of after
  still_room enough =
      let rest : length (without m w o n cells) + length (gone_in s (taken_out m w o n ks)) ≡ length cells =
      subst (λ es. length (without m w o n es) + length (gone_in s (taken_out m w o n ks)) ≡ length es) is (gone_rest s m w o n ks grid) in
      omega (arith, enough, puts.room, ap length new_is, rest)

pub returns-clause-cells : goal.returns-clause-cells
returns-clause-cells g c =
    let cleared = rw c.deref.ensures.value at c.remove_blocks.ensures.cells in
    let is = c.keep_present.ensures ∙ narrow_filter c.self.inside.store.cells c.remove_blocks.new.store.cells c.args.blocks.count c.args.blocks.width c.args.from c.args.blocks.each c.self.inside.keys.items c.self.invariant.grid cleared in
    ap (kept_of c.remove_blocks.new.store.cells) is
    ∙ narrow_kept c.self.inside.store.cells c.remove_blocks.new.store.cells c.args.blocks.count c.args.blocks.width c.args.from c.args.blocks.each c.self.inside.keys.items c.self.invariant cleared
    ∙ ap (without c.args.blocks.count c.args.blocks.width c.args.from c.args.blocks.each) (ap (λ (x : Cells). x.kept) c.self.view_is)

pub returns-clause-logged : goal.returns-clause-logged
returns-clause-logged g c =
    let cleared = rw c.deref.ensures.value at c.remove_blocks.ensures.cells in
    let puts = rw c.deref.ensures.value at c.remove_blocks.ensures.logged in
    let is = c.keep_present.ensures ∙ narrow_filter c.self.inside.store.cells c.remove_blocks.new.store.cells c.args.blocks.count c.args.blocks.width c.args.from c.args.blocks.each c.self.inside.keys.items c.self.invariant.grid cleared in
    let new_is = ap (kept_of c.remove_blocks.new.store.cells) is
    ∙ narrow_kept c.self.inside.store.cells c.remove_blocks.new.store.cells c.args.blocks.count c.args.blocks.width c.args.from c.args.blocks.each c.self.inside.keys.items c.self.invariant cleared
    ∙ ap (without c.args.blocks.count c.args.blocks.width c.args.from c.args.blocks.each) (ap (λ (x : Cells). x.kept) c.self.view_is) in
    is_logged c.self.inside.store.cells c.remove_blocks.new.store.cells c.args.blocks.count c.args.blocks.width c.args.from c.args.blocks.each c.self.inside.keys.items c.keep_present.new.keys.items c.self.invariant.grid c.args.log.now c.remove_blocks.new.log puts
    c.args.self.now.kept (ap (λ (x : Cells). x.kept) c.self.view_is) new_is

pub returns-clause-room : goal.returns-clause-room
returns-clause-room g c =
    let cleared = rw c.deref.ensures.value at c.remove_blocks.ensures.cells in
    let puts = rw c.deref.ensures.value at c.remove_blocks.ensures.logged in
    let is = c.keep_present.ensures ∙ narrow_filter c.self.inside.store.cells c.remove_blocks.new.store.cells c.args.blocks.count c.args.blocks.width c.args.from c.args.blocks.each c.self.inside.keys.items c.self.invariant.grid cleared in
    let new_is = ap (kept_of c.remove_blocks.new.store.cells) is
    ∙ narrow_kept c.self.inside.store.cells c.remove_blocks.new.store.cells c.args.blocks.count c.args.blocks.width c.args.from c.args.blocks.each c.self.inside.keys.items c.self.invariant cleared
    ∙ ap (without c.args.blocks.count c.args.blocks.width c.args.from c.args.blocks.each) (ap (λ (x : Cells). x.kept) c.self.view_is) in
    still_room c.self.inside.store.cells c.remove_blocks.new.store.cells c.args.blocks.count c.args.blocks.width c.args.from c.args.blocks.each c.self.inside.keys.items c.keep_present.new.keys.items c.self.invariant.grid c.args.log.now c.remove_blocks.new.log puts
    c.args.self.now.kept (ap (λ (x : Cells). x.kept) c.self.view_is) new_is c.requires.room

pub returns-clause-evaluator : goal.returns-clause-evaluator
returns-clause-evaluator g c = c.remove_blocks.ensures.evaluator ∙ ap (λ (x : Cells). x.evaluator) c.self.view_is
