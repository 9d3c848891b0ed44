use Rattle.std.proofs.Common.{◌≡◌, map, subst, sym}
use Rattle.std.proofs.lemmas.Result.{IfOk-weaker}
use Rattle.lint_places.specs.Places.{is_fault}
use Rattle.lint_places.specs.Told.{nowhere}
use Rattle.lint_places.specs.proofs_only.Suspects.{AreSuspects, MayBeUsing, lone_told}
use Rattle.lint_places.proofs.Alone.{alone_suspects, may_be_suspects}
use Rattle.lint_places.proofs.suspects.suspects.Goals as goal

pub returns-then-place : goal.returns-then-place
returns-then-place g c =
    let ds = map g.J.JsonTree.content c.args.definitions.now in
    let low = rw (c.place.ensures, c.place-2.ensures) at c.if-place.true in
    IfOk-weaker c.alone_with.result (λ v. v.items ≡ map (λ d. is_fault c.args.fault (lone_told d)) ds) (λ v. AreSuspects c.args.fault ds v.items)
    (λ v is. subst (λ flags. AreSuspects c.args.fault ds flags) (sym is) (alone_suspects c.args.fault low nowhere ds)) c.alone_with.ensures

pub returns-in-Variable : goal.returns-in-Variable
returns-in-Variable g c =
    let ds = map g.J.JsonTree.content c.args.definitions.now in
    IfOk-weaker c.undefined.result (λ v. MayBeUsing ds v.items) (λ v. AreSuspects c.args.fault ds v.items)
    (λ v may. rw c.in-Variable.is (may_be_suspects nowhere ds v.items may)) c.undefined.ensures
