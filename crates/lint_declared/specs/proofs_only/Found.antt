-- What is found at one part, of a designator and of literals.
use Rattle.std.specs.Prelude.{◌≡◌, List, true, false, Option, Some, None, is_some}
use Rattle.std.specs.List.{Contains, list_any}
use Rattle.lint_places.specs.Places.{Spot}
use Rattle.lint_declared.specs.Compared.{Place, is_stray}
use Rattle.lint_declared.specs.Undeclared.{IsDesignatorAt, IsLiteralAt, IsLiteralOf, is_undeclared}
use Rattle.lint_declared.specs.declared.attribute.DeclaredAttribute.{DeclaredAttribute}
use Rattle.lint_declared.specs.declared.designator.Undeclared.{Undeclared}

-- what is found of a designator there
abbrev pub FindsDesignator : List DeclaredAttribute → Spot → Option Undeclared → Type 0
FindsDesignator attributes s None = is_undeclared attributes s ≡ false
FindsDesignator attributes s (Some found) = (found.value ≡ None) × IsDesignatorAt attributes found s

-- what is found of a literal and a designator
abbrev pub StraysOf : List DeclaredAttribute → Place → Place → Option Undeclared → Type 0
StraysOf attributes literal designator None = is_stray attributes designator literal ≡ false
StraysOf attributes literal designator (Some found) = (is_some found.value ≡ true) × IsLiteralAt attributes found literal designator

-- of a literal and some designators
abbrev pub StraysFrom : List DeclaredAttribute → Place → List Place → Option Undeclared → Type 0
StraysFrom attributes literal designators None = list_any (λ designator. is_stray attributes designator literal) designators ≡ false
StraysFrom attributes literal designators (Some found) =
    (is_some found.value ≡ true) × (designator : Place) × Contains designators designator × IsLiteralAt attributes found literal designator

-- of some literals and some designators
abbrev pub StraysIn : List DeclaredAttribute → List Place → List Place → Option Undeclared → Type 0
StraysIn attributes literals designators None = list_any (λ literal. list_any (λ designator. is_stray attributes designator literal) designators) literals ≡ false
StraysIn attributes literals designators (Some found) = (is_some found.value ≡ true) × IsLiteralOf attributes found literals designators
