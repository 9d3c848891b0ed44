use Rattle.std.proofs.Common.{◌++◌, ◌∙◌, codes, map}
use Rattle.lint_meaning.specs.Places.{numbered}
use Rattle.lint_meaning.specs.Warnings.{definition_told}
use Rattle.lint_meaning.proofs.walk.tell_definitions.Goals as goal

pub returns : goal.returns
returns c =
    c.in_ok-tell_each_definition.ensures
    ∙ (λ i. c.args.warnings.now ++ numbered (codes "VariableDefinition") 0 (map (definition_told (λ id. c.in_ok-names.ensures id i)) (c.as_slice.ensures i)) c.args.pointer.now)
