-- What the rows of a subcommand say, which its getters read.
use Rattle.std.proofs.Common.{◌≡◌, ℕ, List, [], Option, Some, None, Bor, refl, sym, ap, subst, ◌∙◌}
use Rattle.std.specs.Prelude.{map, option_map, unwrap_or}
use Rattle.clap.specs.Matches.{first_value, matched_of, one_text, raw_values}
use Rattle.clap.specs.Walk.{Row, all_of, first_of, one_of, rows_of}
use Rattle.clap.specs.declared.parser.matches.Found.{Found}
use Rattle.clap.proofs.WalkLemmas.{first_value-rows, one_text-rows, raw_values-rows}
use Rattle.cli_words.specs.Options.{IsShare, IsWritten}

-- the text of an option stands in the rows
pub written_in_rows : (f : Found) (option : List ℕ) (count : ℕ) → IsWritten (one_text f option) count → IsWritten (one_of option (rows_of f)) count
written_in_rows f option count h = subst (λ t. IsWritten t count) (one_text-rows f option) h

pub share_in_rows : (f : Found) (option : List ℕ) (share : Option ℕ) → IsShare (one_text f option) share → IsShare (one_of option (rows_of f)) share
share_in_rows f option share h = subst (λ t. IsShare t share) (one_text-rows f option) h

now_of : (o : Option (Bor (List ℕ))) (e : Bor (List ℕ)) → (unwrap_or o e).now ≡ unwrap_or (option_map (λ s. s.now) o) e.now
now_of None e = refl
now_of (Some s) e = refl

-- the argument of a subcommand is the one in its rows, or the empty text
pub argument_found : (o : Option (Bor (List ℕ))) (r e : Bor (List ℕ)) (f : Found) (id : List ℕ)
    → r ≡ unwrap_or o e → e.now ≡ [] → option_map (λ s. s.now) o ≡ first_value f id → r.now ≡ unwrap_or (first_of id (rows_of f)) []
argument_found o r e f id given empty text =
    ap (λ (s : Bor (List ℕ)). s.now) given ∙ now_of o e ∙ ap (λ t. unwrap_or t e.now) (text ∙ first_value-rows f id) ∙ ap (unwrap_or (first_of id (rows_of f))) empty

-- an option that was given is the one in the rows
pub option_found : (o : Option (Bor (List ℕ))) (word : Bor (List ℕ)) (f : Found) (id : List ℕ) → o ≡ Some word → option_map (λ s. s.now) o ≡ first_value f id → Some word.now ≡ first_of id (rows_of f)
option_found o word f id given text = sym (ap (option_map (λ s. s.now)) given) ∙ text ∙ first_value-rows f id

-- an option that wasn't given stands in no row
pub no_option_found : (o : Option (Bor (List ℕ))) (f : Found) (id : List ℕ) → o ≡ None → option_map (λ s. s.now) o ≡ first_value f id → None ≡ first_of id (rows_of f)
no_option_found o f id none text = sym (ap (option_map (λ s. s.now)) none) ∙ text ∙ first_value-rows f id

-- the arguments of a subcommand are those in its rows
pub arguments_found : (words : Bor (List (Bor (List ℕ)))) (o : Option (Bor (List (Bor (List ℕ))))) (f : Found) (id : List ℕ) (options : List Row) (texts : List (List ℕ))
    → o ≡ Some words → option_map (λ s. map (λ v. v.now) s.now) o ≡ option_map raw_values (matched_of f id) → rows_of f ≡ options → all_of id options ≡ Some texts → map (λ w. w.now) words.now ≡ texts
arguments_found words o f id options texts given read rows is =
    let both : Some (map (λ w. w.now) words.now) ≡ Some texts = sym (ap (option_map (λ s. map (λ v. v.now) s.now)) given) ∙ read ∙ raw_values-rows f id ∙ ap (all_of id) rows ∙ is in
    cc

-- rows that have arguments aren't those of matches without
pub arguments_missing : (o : Option (Bor (List (Bor (List ℕ))))) (f : Found) (id : List ℕ) (options : List Row) (texts : List (List ℕ))
    → o ≡ None → option_map (λ s. map (λ v. v.now) s.now) o ≡ option_map raw_values (matched_of f id) → rows_of f ≡ options → all_of id options ≡ Some texts → ⊥
arguments_missing o f id options texts none read rows is =
    let both : None ≡ Some texts = sym (ap (option_map (λ s. map (λ v. v.now) s.now)) none) ∙ read ∙ raw_values-rows f id ∙ ap (all_of id) rows ∙ is in
    cc

-- the rows of the subcommand that was found are those of its matches
pub rows_found : (rows options : List Row) (found : Option (List ℕ × List Row)) (name : List ℕ) → Some rows ≡ option_map (λ p. p.1) found → found ≡ Some (name, options) → rows ≡ options
rows_found rows options found name known is =
    let both : Some rows ≡ Some options = known ∙ ap (option_map (λ p. p.1)) is in
    cc
