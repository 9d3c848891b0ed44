use Rattle.std.proofs.Common.{refl}
use Rattle.lint_declared.specs.proofs_only.Claims.{claimed_in}
use Rattle.lint_declared.proofs.Noted.{drop_claim, put_claim}
use Rattle.lint_declared.proofs.claim.put.Goals as goal

pub returns-then-stands : goal.returns-then-stands
returns-then-stands c = λ other.
    put_claim (claimed_in c.args.claims.now) (claimed_in c.insert.new.self) c.args.number _ c.args.claim c.args.stands refl c.if-stands.true (λ q. c.in_ok-insert.ensures.updates.0 q) other

pub returns : goal.returns
returns c = λ other.
    drop_claim (claimed_in c.args.claims.now) (claimed_in c.remove.new.self) c.args.number _ c.args.claim c.args.stands refl c.if-stands.false (λ q. c.remove.ensures.updates.0 q) other
