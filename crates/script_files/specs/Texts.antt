-- What a text of a session stands for.
use Rattle.std.specs.Prelude.{ℕ, List, [], ◌∷◌, ◌++◌, Option, Some, None, option_and_then, option_map, unwrap_or}
use Rattle.std.specs.List.{flat_map}
use Rattle.script_files.specs.Brackets.{inside_of}
use Rattle.script_files.specs.Cut.{cut, split_once}
pub use Rattle.script_files.specs.Numbers.{at_time}

-- «
abbrev pub open_mark : List ℕ
open_mark = 0xC2 ∷ 0xAB ∷ []

-- »
abbrev pub close_mark : List ℕ
close_mark = 0xC2 ∷ 0xBB ∷ []

-- what a text between « and », and the one behind the », stand for, if the first has one of the forms
abbrev pub closed : List ℕ × List ℕ → Option (List ℕ)
closed parts = option_map (λ bytes. bytes ++ parts.1) (inside_of parts.0)

-- what a « with this text behind it, up to the next one, stands for: itself where no » follows, or what stands before that has none of the forms
abbrev pub opened : List ℕ → List ℕ
opened part = unwrap_or (option_and_then closed (split_once close_mark part)) (open_mark ++ part)

-- what a text stands for, of which these are the parts between its «
abbrev pub with_brackets : List (List ℕ) → List ℕ
with_brackets [] = []
with_brackets (first ∷ others) = first ++ flat_map opened others

-- what a text stands for: itself, but for what stands in «»
abbrev pub spelled : List ℕ → List ℕ
spelled text = with_brackets (cut open_mark text)

-- what a text stands for, once or at a time
abbrev pub written : Option ℕ → List ℕ → List ℕ
written None text = spelled text
written (Some time) text = spelled (at_time time text)
