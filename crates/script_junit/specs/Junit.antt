-- JUnit XML: the tests of files, and which of them failed.
use Rattle.std.specs.Prelude.{ℕ, ◌+◌, List, [], ◌++◌, Bool, not, Option, Some, None, codes, cond, decimal, length, if◌then◌else◌}
use Rattle.std.specs.List.{count_by, flat_map}
use Rattle.std.specs.Option.{is_some}
use Rattle.script_junit.specs.Escaped.{escaped}
use Rattle.script_junit.specs.declared.result.TestCase.{TestCase}
use Rattle.script_junit.specs.declared.result.Suite.{Suite}

-- an attribute of that value
unfoldable pub attribute : List ℕ → List ℕ → List ℕ
attribute word value = word ++ (codes "=\"" ++ (escaped value ++ codes "\""))

-- an attribute that is a number
unfoldable pub number : List ℕ → ℕ → List ℕ
number word value = word ++ (codes "=\"" ++ (decimal value ++ codes "\""))

-- what a test has inside: what was told of it, where it failed
unfoldable pub failure : TestCase → List ℕ
failure c = if c.passed then codes "/>\n" else codes "><failure message=\"failed\">" ++ (escaped c.told ++ codes "</failure></testcase>\n")

-- a test of a file of that name
unfoldable pub case_text : List ℕ → TestCase → List ℕ
case_text file c =
    codes "    <testcase"
    ++ (attribute (codes " classname") file
    ++ (attribute (codes " name") c.name ++ (attribute (codes " file") file ++ (number (codes " line") c.number ++ failure c))))

-- what was told of a file whose tests couldn't run, as a test of it
unfoldable pub error_text : List ℕ → Option (List ℕ) → List ℕ
error_text file None = []
error_text file (Some told) =
    codes "    <testcase" ++ (attribute (codes " classname") file ++ (codes " name=\"file\"><error" ++ (attribute (codes " message") told ++ codes "/></testcase>\n")))

-- how many errors a file has
abbrev pub errors : Option (List ℕ) → ℕ
errors told = cond (is_some told) 1 0

-- how many of these failed
abbrev pub failed : List TestCase → ℕ
failed cases = count_by (λ c. not c.passed) cases

-- the tests of a file
unfoldable pub suite_text : Suite → List ℕ
suite_text s =
    codes "  <testsuite"
    ++ (attribute (codes " name") s.name.now
    ++ (number (codes " tests") (length s.cases + errors s.error)
    ++ (number (codes " failures") (failed s.cases)
    ++ (number (codes " errors") (errors s.error)
    ++ (codes ">\n" ++ (error_text s.name.now s.error ++ (flat_map (case_text s.name.now) s.cases ++ codes "  </testsuite>\n")))))))

-- the tests of these files
abbrev pub junit_of : List Suite → List ℕ
junit_of suites =
    codes "<?xml version=\"1.0\" encoding=\"UTF-8\"?>\n<testsuites>\n" ++ (flat_map suite_text suites ++ codes "</testsuites>\n")
