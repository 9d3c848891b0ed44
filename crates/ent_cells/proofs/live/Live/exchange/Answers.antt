use Rattle.std.proofs.Common.{ap, subst, sym}
use Rattle.slab.specs.Slab.{Slab}
use Rattle.ent_cells.specs.Entries.{Entry, IsLive, kept_of}
use Rattle.ent_cells.proofs.live.Live.exchange.Goals as goal

pub invariant_of-self : goal.invariant_of-self
invariant_of-self g c = subst (λ (s : Slab Entry). IsLive s c.self.inside.keys.items) (sym c.exchange.ensures.cells) c.self.invariant

pub returns-clause-rest : goal.returns-clause-rest
returns-clause-rest g c =
    rw (← c.self.view_is)
    (ap (λ (s : Slab Entry). record { kept = kept_of s c.self.inside.keys.items; evaluator = c.exchange.new.self.evaluator }) c.exchange.ensures.cells)

pub returns-clause-made : goal.returns-clause-made
returns-clause-made g c = rw (← c.self.view_is) c.exchange.ensures.made

pub returns-clause-taken : goal.returns-clause-taken
returns-clause-taken g c = rw (← c.self.view_is) c.exchange.ensures.taken

pub returns-clause-absent : goal.returns-clause-absent
returns-clause-absent g c = rw (← c.self.view_is) c.exchange.ensures.absent

pub returns-clause-stayed : goal.returns-clause-stayed
returns-clause-stayed g c = rw (← c.self.view_is) c.exchange.ensures.kept

pub returns-clause-counted : goal.returns-clause-counted
returns-clause-counted g c = rw (← c.self.view_is) c.exchange.ensures.counted

pub exchange-requires : goal.exchange-requires
exchange-requires g c = rw (← c.self.view_is) at c.requires
