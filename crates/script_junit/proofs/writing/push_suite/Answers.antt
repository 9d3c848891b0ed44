use Rattle.std.proofs.Common.{◌+◌, ◌++◌, ◌∙◌, ap, codes, length}
use Rattle.std.specs.List.{flat_map}
use Rattle.script_junit.specs.Junit.{attribute, case_text, error_text, errors, failed, number, suite_text}
use Rattle.script_junit.proofs.Lists.{piece_then}
use Rattle.script_junit.proofs.writing.push_suite.Goals as goal

pub returns : goal.returns
unfolding suite_text
returns c =
    let suite = c.args.suite.now in
    let file = suite.name.now in
    let first = c.extend_from_slice.new.self.items in
    let second = c.push_attribute.new.text.items in
    let third = c.push_number.new.text.items in
    let fourth = c.push_number-2.new.text.items in
    let fifth = c.push_number-3.new.text.items in
    let sixth = c.extend_from_slice-2.new.self.items in
    let seventh = c.push_error.new.text.items in
    let eighth = c.push_cases.new.text.items in
    let end = c.extend_from_slice-3.new.self.items in
    let tests = ap (λ cases. length cases + c.errors-errors.result) c.as_slice-cases.ensures ∙ ap (λ n. length suite.cases + n) c.errors-errors.ensures.value in
    piece_then c.args.text.now.items (codes "  <testsuite") _ first end c.in_ok-extend_from_slice.ensures.items
    (piece_then first (attribute (codes " name") file) _ second end
    (c.in_ok-push_attribute.ensures ∙ ap (λ name. first ++ attribute (codes " name") name) c.as_bytes.ensures.value)
    (piece_then second (number (codes " tests") (length suite.cases + errors suite.error)) _ third end
    (c.in_ok-push_number.ensures ∙ ap (λ n. second ++ number (codes " tests") n) tests)
    (piece_then third (number (codes " failures") (failed suite.cases)) _ fourth end
    (c.in_ok-push_number-2.ensures ∙ ap (λ n. third ++ number (codes " failures") n) (c.failed.ensures.value ∙ ap failed c.as_slice-cases.ensures))
    (piece_then fourth (number (codes " errors") (errors suite.error)) _ fifth end
    (c.in_ok-push_number-3.ensures ∙ ap (λ n. fourth ++ number (codes " errors") n) c.errors-errors.ensures.value)
    (piece_then fifth (codes ">\n") _ sixth end c.in_ok-extend_from_slice-2.ensures.items
    (piece_then sixth (error_text file suite.error) _ seventh end c.in_ok-push_error.ensures
    (piece_then seventh (flat_map (case_text file) suite.cases) (codes "  </testsuite>\n") eighth end
    (c.in_ok-push_cases.ensures ∙ ap (λ cases. seventh ++ flat_map (case_text file) cases) c.as_slice-cases.ensures) c.in_ok-extend_from_slice-3.ensures.items)))))))
