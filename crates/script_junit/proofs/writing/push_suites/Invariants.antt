use Rattle.std.proofs.Common.{◌≡◌, ◌++◌, take}
use Rattle.std.specs.List.{flat_map}
use Rattle.script_junit.specs.Junit.{suite_text}
use Rattle.script_junit.proofs.writing.push_suites.Given as goal

-- the files so far
abbrev pub invariant-loop-suite : goal.invariant-loop-suite
invariant-loop-suite l = l.text.items ≡ l.fn.text.items ++ flat_map suite_text (take l.suite-index l.suites)
