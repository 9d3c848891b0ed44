-- A decision point that lends where its values of attributes or its documents are held.
use Rattle.std.specs.Borrow.{Fml, Lends, MutBor}
use denote.RattleType.{RattleType}
use Rattle.ent_finder.specs.declared.attributes.Attributes.{Ghosts as Filling}
use Rattle.ent_finder.specs.declared.policies.Policies.{Ghosts as Slotting}
use Rattle.ent_eval.specs.contracts.pdp.Pdp.{the_row}
use Rattle.ent_eval.specs.Point.{Point}

-- what is written through the loan of the attributes is written into the decision point
abbrev pub LendsAttributes : (A P : RattleType) → Filling A.Denot → Slotting P.Denot
    → MutBor Point → MutBor A.Denot → Fml
LendsAttributes A P a p pdp loan = Lends (the_row A P a p) A pdp loan (λ w. record pdp.now { sources = a.sources w })

-- what is written through the loan of the policies is written into the decision point
abbrev pub LendsPolicies : (A P : RattleType) → Filling A.Denot → Slotting P.Denot
    → MutBor Point → MutBor P.Denot → Fml
LendsPolicies A P a p pdp loan = Lends (the_row A P a p) P pdp loan (λ w. record pdp.now { slots = p.slots w })
