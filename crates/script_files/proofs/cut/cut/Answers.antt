use Rattle.std.proofs.Common.{List, ℕ, Bor}
use Rattle.script_files.proofs.Cuts.{cut_all, cut_more}
use Rattle.script_files.proofs.cut.cut.Goals as goal

pub loop-front-preserved : goal.loop-front-preserved
loop-front-preserved c =
    rw c.in_ok-push.ensures.items
    (cut_more (λ (p : Bor (List ℕ)). p.now) c.loop-front.parts.items c.in-Some.front c.args.mark.now c.args.text.now
    c.loop-front.rest.now c.in-Some.behind.now
    c.requires c.in-Some.ensures.parts c.loop-front.invariant)

pub returns : goal.returns
returns c =
    rw c.in_ok-push-2.ensures.items
    (cut_all (λ (p : Bor (List ℕ)). p.now) c.loop-front.parts.items c.loop-front.rest c.args.mark.now c.args.text.now
    c.requires c.in_default.ensures.parts c.loop-front.invariant)
