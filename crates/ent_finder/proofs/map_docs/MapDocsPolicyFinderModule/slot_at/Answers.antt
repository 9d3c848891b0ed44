use Rattle.std.proofs.Common.{arith, ◌∙◌, ap, subst, sym}
use Rattle.ent_finder.proofs.Seats.{element_seen, elements_counted}
use Rattle.ent_finder.specs.Entry.{AreSorted, entry_of, slots_of}
use Rattle.ent_finder.specs.Slots.{key_cmp}
use Rattle.ent_finder.proofs.map_docs.MapDocsPolicyFinderModule.slot_at.Goals as goal

pub returns-clause-slot : goal.returns-clause-slot
returns-clause-slot c =
    let sorted = subst AreSorted (sym c.deref.ensures.value) c.self.invariant in
    element_seen key_cmp entry_of c.deref.result.now _ sorted (ap slots_of c.deref.ensures.value ∙ c.self.view_is) c.args.index c.get.result c.get.ensures.lookup

pub returns-clause-indexed : goal.returns-clause-indexed
returns-clause-indexed c =
    let count = elements_counted key_cmp entry_of c.self.inside.slots.items _ c.self.invariant c.self.view_is in
    omega arith
