use Rattle.std.proofs.Common.{sym, ◌∙◌}
use Rattle.std.specs.Prelude.{bytes_eq, flat_map}
use Rattle.ent_functions.specs.Identifiers.{all_elements, all_functions, all_ordered, comparisons_at, function_of, functions_at, id_of, single_functions}
use Rattle.ent_functions.specs.declared.function.Function.{Function}
use Rattle.ent_functions.proofs.Groups.{in_first, in_second, in_third}
use Rattle.ent_functions.proofs.function.Function.from_id.Goals as goal

pub returns-in-Some : goal.returns-in-Some
unfolding function_of all_functions
returns-in-Some c =
    in_first (λ (f : Function). bytes_eq c.args.id.now (id_of f)) (flat_map functions_at all_elements) (flat_map comparisons_at all_ordered) single_functions c.in-Some.function
    (sym c.of_element.ensures ∙ c.in-Some.is)

pub returns-in-Some-comparison : goal.returns-in-Some-comparison
unfolding function_of all_functions
returns-in-Some-comparison c =
    in_second (λ (f : Function). bytes_eq c.args.id.now (id_of f)) (flat_map functions_at all_elements) (flat_map comparisons_at all_ordered) single_functions c.in-Some-comparison.function
    (sym c.of_element.ensures ∙ c.in_default.is)
    (sym c.comparison.ensures ∙ c.in-Some-comparison.is)

pub returns : goal.returns
unfolding function_of all_functions
returns c =
    in_third (λ (f : Function). bytes_eq c.args.id.now (id_of f)) (flat_map functions_at all_elements) (flat_map comparisons_at all_ordered) single_functions c.single.result
    (sym c.of_element.ensures ∙ c.in_default.is)
    (sym c.comparison.ensures ∙ c.in_default-comparison.is)
    c.single.ensures
