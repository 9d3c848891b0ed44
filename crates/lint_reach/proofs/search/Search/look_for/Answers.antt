use Rattle.std.proofs.Common.{◌≡◌, map, subst, true}
use Rattle.ent_finder.specs.Slots.{held}
use Rattle.lint_reach.specs.proofs_only.Search.{has_reference}
use Rattle.lint_reach.proofs.Searching.{HasOneMore, by_order, leads_again, leads_on_one}
use Rattle.lint_reach.proofs.search.Search.look_for.Goals as goal

pub returns-then-contains : goal.returns-then-contains
returns-then-contains g c =
    let r = c.args.reference.now in
    let found = c.contains.ensures in
    let is = c.if-contains.true in
    let same = by_order r c.args.self.now.references.keys in
    let sought : has_reference r c.args.self.now.references.keys ≡ true = cc in
    leads_again (map held (g.P.Policies.slots c.args.policies.now)) c.args.self.now r c.requires sought

pub returns : goal.returns
returns g c =
    leads_on_one (map held (g.P.Policies.slots c.args.policies.now)) c.args.self.now _ c.args.reference.now c.requires
    c.in_ok-found.found c.in_ok-found.ensures c.in_ok-put.ensures
    (subst (λ more. HasOneMore c.args.self.now.references.keys c.insert.new.self.keys more) c.in_ok-copy.ensures
    c.in_ok-insert.ensures.updates.0)
