use Rattle.std.proofs.Common.{◌≡◌, ap, subst, sym}
use Rattle.ent_request.specs.Looks.{Looks}
use Rattle.ent_eval.specs.LooksOf.{looks_of}
use Rattle.ent_evaluator.specs.Memory.{Remembers}
use Rattle.ent_evaluator.proofs.parts.EvaluatorParts.explain.Goals as goal

pub returns-clause-knows : goal.returns-clause-knows
returns-clause-knows g c =
    let same : looks_of c.explain.new.self ≡ looks_of c.args.self.now.pdp = ap looks_of c.explain.ensures.rest in
    subst (λ (l : Looks). Remembers l c.args.self.now.questions c.args.self.now.memory) (sym same) c.requires
