use Rattle.std.proofs.Common.{sym, ◌∙◌}
use Rattle.ent_walk.specs.proofs_only.Hops.{set_after, set_target}
use Rattle.ent_walk.specs.declared.target.Targeted.TheVariants.{NoMatch}
use Rattle.ent_walk.proofs.Left.{left_behind, left_of_equal}
use Rattle.ent_walk.proofs.Sets.{set_out}
use Rattle.ent_walk.proofs.walk.Walk.open_set.Goals as goal

pub returns-in-NoMatch-clause-left : goal.returns-in-NoMatch-clause-left
returns-in-NoMatch-clause-left g c = λ path.
    let looks = g.L.LookUps.looks c.args.self.now.lender.held in
    let request = c.args.self.now.lender.request in
    let set = c.args.set.now in
    left_of_equal _ _ (set_after looks request c.args.hops path set NoMatch) c.args.self.now.notes c.set_target.new.self.notes (sym (set_out looks request c.args.hops path set))
    (left_behind (set_after looks request c.args.hops path set) (set_target looks request set) _ c.args.self.now.notes c.set_target.new.self.notes (sym c.in-NoMatch.is ∙ c.in_ok-targeted.ensures.comes.value) c.in_ok-targeted.ensures.comes.notes)

pub returns-clause-left : goal.returns-clause-left
returns-clause-left g c = λ path.
    let looks = g.L.LookUps.looks c.args.self.now.lender.held in
    let request = c.args.self.now.lender.request in
    let set = c.args.set.now in
    left_of_equal _ _ (set_after looks request c.args.hops path set c.in_ok-targeted.targeted) c.args.self.now.notes c.set_target.new.self.notes (sym (set_out looks request c.args.hops path set))
    (left_behind (set_after looks request c.args.hops path set) (set_target looks request set) c.in_ok-targeted.targeted c.args.self.now.notes c.set_target.new.self.notes c.in_ok-targeted.ensures.comes.value c.in_ok-targeted.ensures.comes.notes)
