use Rattle.std.proofs.Common.{◌≡◌, ◌∙◌, sym}
use Rattle.std.specs.Prelude.{IsTrue}
use Rattle.ent_request.proofs.Sames.{equal_functions}
use Rattle.ent_request.proofs.cause.same_function.Goals as goal

pub returns : goal.returns
returns c = λ (h : IsTrue c.eq.result). equal_functions c.args.first c.args.second (sym c.eq.ensures ∙ h)
