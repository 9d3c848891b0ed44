-- The parts of a document: of which parts each is made, as docs/POLICIES.md has them.
use Rattle.std.specs.Prelude.{ℕ, List, [], ◌∷◌, Option, Some, None, codes}
use Rattle.lint_places.specs.declared.part.Part.{Part}
use Rattle.lint_places.specs.declared.part.Part.TheVariants as part

-- a key, and the part that stands at it
abbrev pub Row : Type 0
Row = List ℕ × Part

-- those of a reference (sections 5.10 and 5.11)
abbrev pub reference_rows : List Row
reference_rows = (codes "Id", part.Name) ∷ (codes "Version", part.Pattern) ∷ (codes "EarliestVersion", part.Pattern) ∷ (codes "LatestVersion", part.Pattern) ∷ []

-- those of an expression (section 5.25)
abbrev pub expression_rows : List Row
expression_rows = (codes "AttributeValue", part.Value) ∷ (codes "AttributeDesignator", part.Designator) ∷ (codes "VariableReference", part.VariableReference)
    ∷ (codes "Apply", part.Apply) ∷ (codes "Function", part.FunctionReference) ∷ []

-- the keys that an object may have which is for that, with the part that stands at each
abbrev pub rows : Part → List Row
rows part.Document = (codes "Policy", part.Policy) ∷ (codes "PolicySet", part.Set) ∷ []
rows part.Policy = (codes "PolicyId", part.Name) ∷ (codes "Version", part.Version) ∷ (codes "RuleCombiningAlgId", part.RuleAlgorithm)
    ∷ (codes "Description", part.Description) ∷ (codes "VariableDefinition", part.Definitions) ∷ (codes "Target", part.Target) ∷ (codes "Rule", part.Rules)
    ∷ (codes "ObligationExpressions", part.Obligations) ∷ (codes "AdviceExpressions", part.Advices) ∷ []
rows part.Set = (codes "PolicySetId", part.Name) ∷ (codes "Version", part.Version) ∷ (codes "PolicyCombiningAlgId", part.PolicyAlgorithm)
    ∷ (codes "Description", part.Description) ∷ (codes "Target", part.Target) ∷ (codes "Children", part.Children)
    ∷ (codes "ObligationExpressions", part.Obligations) ∷ (codes "AdviceExpressions", part.Advices) ∷ []
rows part.Child = (codes "Policy", part.Policy) ∷ (codes "PolicySet", part.Set) ∷ (codes "PolicyIdReference", part.PolicyReference)
    ∷ (codes "PolicySetIdReference", part.SetReference) ∷ []
rows part.PolicyReference = reference_rows
rows part.SetReference = reference_rows
rows part.Rule = (codes "RuleId", part.Name) ∷ (codes "Effect", part.Effect) ∷ (codes "Description", part.Description) ∷ (codes "Target", part.Target)
    ∷ (codes "Condition", part.Condition) ∷ (codes "ObligationExpressions", part.Obligations) ∷ (codes "AdviceExpressions", part.Advices) ∷ []
rows part.Definition = (codes "VariableId", part.Name) ∷ (codes "Expression", part.Expression) ∷ []
rows part.Target = (codes "AnyOf", part.AnyOfs) ∷ []
rows part.AnyOf = (codes "AllOf", part.AllOfs) ∷ []
rows part.AllOf = (codes "Match", part.Matches) ∷ []
rows part.Match = (codes "MatchId", part.Function) ∷ (codes "AttributeValue", part.Value) ∷ (codes "AttributeDesignator", part.Designator) ∷ []
rows part.Condition = expression_rows
rows part.Expression = expression_rows
rows part.Argument = expression_rows
rows part.Value = (codes "DataType", part.DataType) ∷ (codes "Value", part.Literal) ∷ []
rows part.Designator = (codes "Category", part.Name) ∷ (codes "AttributeId", part.Name) ∷ (codes "DataType", part.DataType) ∷ (codes "Issuer", part.Name)
    ∷ (codes "MustBePresent", part.Flag) ∷ []
rows part.VariableReference = (codes "VariableId", part.Name) ∷ []
rows part.Apply = (codes "FunctionId", part.Function) ∷ (codes "Arguments", part.Arguments) ∷ []
rows part.FunctionReference = (codes "FunctionId", part.Function) ∷ []
rows part.Obligation = (codes "ObligationId", part.Name) ∷ (codes "FulfillOn", part.Effect) ∷ (codes "AttributeAssignmentExpression", part.Assignments) ∷ []
rows part.Advice = (codes "AdviceId", part.Name) ∷ (codes "AppliesTo", part.Effect) ∷ (codes "AttributeAssignmentExpression", part.Assignments) ∷ []
rows part.Assignment = (codes "AttributeId", part.Name) ∷ (codes "Category", part.Name) ∷ (codes "Issuer", part.Name) ∷ (codes "Expression", part.Expression) ∷ []
rows _ = []

-- what each member of a list is, where the part is a list
abbrev pub item : Part → Option Part
item part.Children = Some part.Child
item part.Rules = Some part.Rule
item part.Definitions = Some part.Definition
item part.AnyOfs = Some part.AnyOf
item part.AllOfs = Some part.AllOf
item part.Matches = Some part.Match
item part.Arguments = Some part.Argument
item part.Obligations = Some part.Obligation
item part.Advices = Some part.Advice
item part.Assignments = Some part.Assignment
item _ = None
