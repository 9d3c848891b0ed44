use Rattle.std.proofs.Common.{◌++◌, ◌∙◌, ap, codes}
use Rattle.std.proofs.lemmas.Result.{on_ok_weaker}
use Rattle.script_junit.specs.Junit.{attribute, case_text, failure, number}
use Rattle.script_junit.proofs.Lists.{piece_then}
use Rattle.script_junit.proofs.writing.push_case.Goals as goal

pub returns : goal.returns
unfolding case_text
returns c =
    let file = c.args.file.now in
    let test = c.args.case.now in
    let first = c.extend_from_slice.new.self.items in
    let second = c.push_attribute.new.text.items in
    let third = c.push_attribute-2.new.text.items in
    let fourth = c.push_attribute-3.new.text.items in
    let fifth = c.push_number.new.text.items in
    let end = c.push_failure.new.text.items in
    on_ok_weaker c.push_failure.result
    (λ last. piece_then c.args.text.now.items (codes "    <testcase") _ first end c.in_ok-extend_from_slice.ensures.items
    (piece_then first (attribute (codes " classname") file) _ second end
    (c.in_ok-push_attribute.ensures ∙ ap (λ name. first ++ attribute (codes " classname") name) c.as_bytes.ensures.value)
    (piece_then second (attribute (codes " name") test.name) _ third end
    (c.in_ok-push_attribute-2.ensures ∙ ap (λ name. second ++ attribute (codes " name") name) c.as_slice.ensures)
    (piece_then third (attribute (codes " file") file) _ fourth end
    (c.in_ok-push_attribute-3.ensures ∙ ap (λ name. third ++ attribute (codes " file") name) c.as_bytes-2.ensures.value)
    (piece_then fourth (number (codes " line") test.number) (failure test) fifth end c.in_ok-push_number.ensures last)))))
    c.push_failure.ensures
