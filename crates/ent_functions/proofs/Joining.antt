-- Strings joined one by one.
use Rattle.std.proofs.Common.{◌≡◌, ℕ, ◌<◌, ◌+◌, List, [], ◌∷◌, ◌++◌, take, length, get_or, ap, sym, ◌∙◌}
use Rattle.std.proofs.lemmas.List.{take_more}
use Rattle.std.proofs.lemmas.List.Elements.{filter_map-append}
use Rattle.std.proofs.lemmas.Grind.{flat_map-append}
use Rattle.ent_functions.specs.Arguments.{text_in, texts_of}
use Rattle.ent_functions.specs.Texts.{joined}
use Rattle.ent_functions.specs.declared.arg.Arg.{Arg}

pub joined_more : (arguments : List Arg) (i : ℕ) (argument : Arg) → i < length arguments → argument ≡ get_or arguments i argument
    → joined (texts_of (take (i + 1) arguments)) ≡ joined (texts_of (take i arguments)) ++ joined (texts_of (argument ∷ []))
joined_more arguments i argument below at =
    ap (λ xs. joined (texts_of xs)) (take_more arguments i argument below ∙ ap (λ a. take i arguments ++ a ∷ []) (sym at))
    ∙ ap joined (filter_map-append text_in (take i arguments) (argument ∷ []))
    ∙ flat_map-append (λ (text : List ℕ). text) (texts_of (take i arguments)) (texts_of (argument ∷ []))
