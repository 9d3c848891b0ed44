-- What the command line asks for, by what is found in its words.
use Rattle.std.specs.Prelude.{◌≡◌, None, ◌≤◌, ⊤, ℕ, Bool, false, List, [], Option, Some, bytes_eq, codes, map, option_map, unwrap_or, if◌then◌else◌}
use Rattle.cli_words.specs.Sources.{path_of, path_named}
use Rattle.cli_words.specs.declared.asked_states.AskedStates.{AskedStates}
use Rattle.std.specs.Str.Parse.{IsNumeral, digits_value, without_leading_plus}
use Rattle.clap.specs.Walk.{Row, all_of, first_of, one_of}
use Rattle.cli_words.specs.declared.asked_check.AskedCheck.{AskedCheck}
use Rattle.cli_words.specs.declared.asked_coverage.AskedCoverage.{AskedCoverage}
use Rattle.cli_words.specs.declared.asked_tests.AskedTests.{AskedTests}
use Rattle.cli_words.specs.declared.asked_states.Failing.{Failing}
use Rattle.cli_words.specs.declared.asked_states.Failing.TheVariants.{Gain, Loss, Any}
use Rattle.cli_words.specs.declared.asked_states.Form.{Form}
use Rattle.cli_words.specs.declared.asked_states.Form.TheVariants.{Json, Markdown, Table}
use Rattle.cli_words.specs.declared.options.Task.{Task}
use Rattle.cli_words.specs.declared.options.Task.TheVariants.{Serve, Check, Compare, Cover, Lines, Test}
use Rattle.cli_words.specs.declared.options.Modules.{Modules}

-- a number from 1 to a greatest one
abbrev pub IsUpTo : ℕ → ℕ → Type 0
IsUpTo greatest count = (1 ≤ count) × (count ≤ greatest)

-- a number of modules that there may be
abbrev pub IsFew : ℕ → Type 0
IsFew count = IsUpTo 4 count

-- both states are to be read from standard input, which gives its bytes once
abbrev pub NameInputTwice : AskedStates → Type 0
NameInputTwice states = (path_of states.state ≡ None) × (path_of states.changes ≡ None)

-- where the text of an option writes a number from 1 to 4 in decimal digits, that is the count
abbrev pub IsWritten : Option (List ℕ) → ℕ → Type 0
IsWritten text count = (t : List ℕ) → text ≡ Some t → let digits = without_leading_plus t in
    IsNumeral 10 digits → IsFew (digits_value 10 digits) → count ≡ digits_value 10 digits

-- from 1 to 4 modules of each sort
abbrev pub AreFew : Modules → Type 0
AreFew modules = IsFew modules.attributes × IsFew modules.policies

-- as many modules of each sort as the option for this sort says
pub record AreModules (options : List Row) (modules : Modules) : Type 0 where
  pub attributes : IsWritten (one_of (codes "attribute-modules") options) modules.attributes
  pub policies : IsWritten (one_of (codes "policy-modules") options) modules.policies

-- an option without a value is given, by its text
abbrev pub is_given : Option (List ℕ) → Bool
is_given None = false
is_given (Some text) = bytes_eq text (codes "true")

-- what is checked: the documents of the files that are named, by the attributes of another file, with the state and the lines of others, each if the option for it is given; whether all faults are told, and whether a warning is one
pub record IsCheckOf (options : List Row) (check : AskedCheck) : Type 0 where
  pub files : (texts : List (List ℕ)) → all_of (codes "FILE") options ≡ Some texts → map (λ w. w.now) check.files.now ≡ texts
  pub attributes : option_map path_of check.attributes ≡ option_map path_named (first_of (codes "attributes") options)
  pub stored : option_map path_of check.stored ≡ option_map path_named (first_of (codes "stored") options)
  pub lines : option_map path_of check.lines ≡ option_map path_named (first_of (codes "lines") options)
  pub is_all : check.is_all ≡ is_given (first_of (codes "all") options)
  pub is_strict : check.is_strict ≡ is_given (first_of (codes "strict") options)

-- of which state is told which rules give no decision: of that of the file that is named; and whether JSON is written
pub record IsCoverageOf (options : List Row) (coverage : AskedCoverage) : Type 0 where
  pub state : Some (path_of coverage.state) ≡ option_map path_named (first_of (codes "coverage") options)
  pub is_json : coverage.is_json ≡ is_given (first_of (codes "json") options)

-- what the options of `check` ask for: coverage, if a state is named for it, else to check the files that are named
pub record IsCheckTask (options : List Row) (task : Option Task) : Type 0 where
  pub cover : (word : List ℕ) → first_of (codes "coverage") options ≡ Some word
      → (coverage : AskedCoverage) × (task ≡ Some (Cover coverage)) × IsCoverageOf options coverage
  pub check : first_of (codes "coverage") options ≡ None → (texts : List (List ℕ)) → all_of (codes "FILE") options ≡ Some texts
      → (check : AskedCheck) × (task ≡ Some (Check check)) × IsCheckOf options check

-- how what differs is written: as a table or as Markdown where the option for it is given, else as JSON
abbrev pub form_of : Option (List ℕ) → Option (List ℕ) → Form
form_of text markdown = if is_given text then Table else if is_given markdown then Markdown else Json

-- which differences fail by a word: the third that the command line takes is any
abbrev pub failing_named : List ℕ → Failing
failing_named word = if bytes_eq word (codes "gain") then Gain else if bytes_eq word (codes "loss") then Loss else Any

-- the states of the two files that are named, how what differs is written, and which differences fail
pub record AreStates (options : List Row) (states : AskedStates) : Type 0 where
  pub state : path_of states.state ≡ path_named (unwrap_or (first_of (codes "STATE") options) [])
  pub changes : path_of states.changes ≡ path_named (unwrap_or (first_of (codes "CHANGES") options) [])
  pub form : states.form ≡ form_of (first_of (codes "text") options) (first_of (codes "markdown") options)
  pub failing : states.failing ≡ option_map failing_named (first_of (codes "fail-on") options)

-- how many of a hundred are wanted: where the text of an option writes a number up to 100 in decimal digits, that many; none
-- where there is no text
pub record IsShare (text : Option (List ℕ)) (share : Option ℕ) : Type 0 where
  pub none : text ≡ None → share ≡ None
  pub written : (t : List ℕ) → text ≡ Some t → let digits = without_leading_plus t in
      IsNumeral 10 digits → digits_value 10 digits ≤ 100 → share ≡ Some (digits_value 10 digits)

-- the tests of the files that are named, behind the lines of a file if the option for it is given, and those of a name if one is given; they are
-- listed if the option for that is given, what becomes of them is written to a file if that is named, and coverage is told if the options for it are
-- given
pub record AreAsked (options : List Row) (tests : AskedTests) : Type 0 where
  pub files : (texts : List (List ℕ)) → all_of (codes "FILE") options ≡ Some texts → map (λ w. w.now) tests.files.now ≡ texts
  pub state : option_map path_of tests.state ≡ option_map path_named (first_of (codes "state") options)
  pub only : option_map (λ n. n.now) tests.only ≡ first_of (codes "run") options
  pub listed : tests.listed ≡ is_given (first_of (codes "list") options)
  pub junit : option_map (λ n. n.now) tests.junit ≡ first_of (codes "junit") options
  pub covered : tests.covered ≡ is_given (first_of (codes "coverage") options)
  pub least : IsShare (one_of (codes "coverage-min") options) tests.least

-- what is asked for, by the subcommand that was found, with its options and arguments
pub record IsTaskOf (found : Option (List ℕ × List Row)) (task : Option Task) : Type 0 where
  pub serve : (options : List Row) → found ≡ Some (codes "serve", options) → (modules : Modules) × (task ≡ Some (Serve modules)) × AreModules options modules
  pub check : (options : List Row) → found ≡ Some (codes "check", options) → IsCheckTask options task
  pub compare : (options : List Row) → found ≡ Some (codes "compare", options) → (states : _) × (task ≡ Some (Compare states)) × AreStates options states
  pub lines : (options : List Row) → found ≡ Some (codes "lines", options) → task ≡ Some Lines
  pub test : (options : List Row) → found ≡ Some (codes "test", options) → (texts : List (List ℕ)) → all_of (codes "FILE") options ≡ Some texts → (tests : _) × (task ≡ Some (Test tests)) × AreAsked options tests

-- a task that is served is served by from 1 to 4 modules of each sort
abbrev pub HasFew : Option Task → Type 0
HasFew (Some (Serve modules)) = AreFew modules
HasFew other = ⊤
