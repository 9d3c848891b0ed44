-- Which refusals say that a line is none of a dump.
use Rattle.lint_links.specs.declared.state.StateLineFault.{StateLineFault}
use Rattle.lint_links.specs.declared.state.StateLineFault.TheVariants as line
use Rattle.lint_links.specs.declared.state.StateFault.{StateFault}
use Rattle.lint_links.specs.declared.state.StateFault.TheVariants as state

-- of a line
abbrev pub IsNotOfDump : StateLineFault → Type 0
IsNotOfDump line.NotDump = Unit {0}
IsNotOfDump line.Memory = ⊥

-- of some lines
abbrev pub IsNotDump : StateFault → Type 0
IsNotDump (state.NotDump number) = Unit {0}
IsNotDump state.Memory = ⊥
