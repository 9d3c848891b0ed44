use Rattle.std.proofs.Common.{◌≡◌, ◌++◌, take}
use Rattle.std.specs.List.{flat_map}
use Rattle.script_junit.specs.Junit.{case_text}
use Rattle.script_junit.proofs.writing.push_cases.Given as goal

-- the tests so far
abbrev pub invariant-loop-case : goal.invariant-loop-case
invariant-loop-case l = l.text.items ≡ l.fn.text.items ++ flat_map (case_text l.file) (take l.case-index l.cases)
