use Rattle.std.proofs.Common.{ap}
use Rattle.ent_combine.specs.Combine.{is_permit, is_deny}
use Rattle.ent_walk.proofs.Gathered.{gathers, grows, stays, isn't_permit, isn't_deny}
use Rattle.ent_walk.proofs.gather.Gathering.take_answer.Goals as goal

pub returns-in_ok-add-in-Permit-clause-gathered : goal.returns-in_ok-add-in-Permit-clause-gathered
returns-in_ok-add-in-Permit-clause-gathered c = λ algorithm js so_far.
    gathers algorithm c.args.self.now js c.args.answer _ _ _ _ so_far c.take-progress.ensures.algorithm c.take-progress.ensures.taken c.status_after-self.ensures
    (grows _ _ _ _ (ap is_permit c.in-Permit.is) c.in_ok-add-in-Permit.ensures) (stays _ _ _ (ap is_deny c.in-Permit.is))

pub returns-in_ok-add-in-Deny-clause-gathered : goal.returns-in_ok-add-in-Deny-clause-gathered
returns-in_ok-add-in-Deny-clause-gathered c = λ algorithm js so_far.
    gathers algorithm c.args.self.now js c.args.answer _ _ _ _ so_far c.take-progress.ensures.algorithm c.take-progress.ensures.taken c.status_after-self.ensures
    (stays _ _ _ (ap is_permit c.in-Deny.is)) (grows _ _ _ _ (ap is_deny c.in-Deny.is) c.in_ok-add-in-Deny.ensures)

pub returns-in_default-clause-gathered : goal.returns-in_default-clause-gathered
returns-in_default-clause-gathered c = λ algorithm js so_far.
    gathers algorithm c.args.self.now js c.args.answer _ _ _ _ so_far c.take-progress.ensures.algorithm c.take-progress.ensures.taken c.status_after-self.ensures
    (stays _ _ _ (isn't_permit _ c.in_default.not-Permit)) (stays _ _ _ (isn't_deny _ c.in_default.not-Deny))
