use Rattle.std.proofs.Common.{[], ◌∷◌, ◌++◌, sym, ap, ◌∙◌}
use Rattle.ent_functions.specs.Arguments.{texts_of}
use Rattle.ent_functions.specs.Texts.{joined}
use Rattle.ent_functions.proofs.Joining.{joined_more}
use Rattle.ent_functions.proofs.texts.concatenation.Goals as goal

pub loop-argument-preserved : goal.loop-argument-preserved
loop-argument-preserved c =
    c.in_ok-push_text.ensures
    ∙ ap (λ so_far. so_far ++ joined (texts_of (c.argument-item.result ∷ []))) c.loop-argument.invariant
    ∙ sym (joined_more c.args.arguments.now c.loop-argument.argument-index c.argument-item.result c.loop-argument-test.true c.argument-item.is)
