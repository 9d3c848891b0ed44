use Rattle.std.proofs.Common.{ap, refl, sym, ◌∙◌}
use Rattle.ent_request.specs.Questions.{is_asked, number_of}
use Rattle.ent_index.proofs.WantedOf.{adds_none, adds_one}
use Rattle.ent_index.proofs.wanted.push_wanted.Goals as goal

pub returns-in_default : goal.returns-in_default
returns-in_default c =
    adds_none c.args.questions.now c.args.key.now c.args.wanted.now.items
    (ap (is_asked c.args.questions.now) (sym c.in_ok-question.ensures) ∙ sym c.in_default.ensures.found)

pub returns : goal.returns
returns c =
    adds_one c.args.questions.now c.args.key.now c.in-Some.number _ c.args.wanted.now.items c.push.new.self.items c.in-Some.ensures.distinct
    (ap (number_of c.args.questions.now) (sym c.in_ok-question.ensures) ∙ sym c.in-Some.ensures.number) refl c.of-readers.ensures refl c.in_ok-push.ensures.items
