-- Where bytes are read.
use Rattle.std.specs.Prelude.{ℕ, List, Option, Some, None, codes, if◌then◌else◌}
use Rattle.std.specs.Str.{bytes_eq}
use Rattle.cli_words.specs.declared.sources.Source.{Source}
use Rattle.cli_words.specs.declared.sources.Source.TheVariants.{Input, File}

-- the path of a source that is a file
abbrev pub path_of : Source → Option (List ℕ)
path_of Input = None
path_of (File path) = Some path.now

-- the path that a word names: a dash names standard input, which has none
abbrev pub path_named : List ℕ → Option (List ℕ)
path_named word = if bytes_eq word (codes "-") then None else Some word

-- what a source is called
abbrev pub name_of : Source → List ℕ
name_of Input = codes "standard input"
name_of (File path) = path.now
