use Rattle.std.proofs.Common.{◌++◌, ◌∙◌, ap, codes, rules}
use Rattle.std.proofs.lemmas.Result.{on_ok_weaker}
use Rattle.script_junit.specs.Junit.{attribute, error_text}
use Rattle.script_junit.proofs.Lists.{piece_then}
use Rattle.script_junit.proofs.writing.push_error.Goals as goal

pub returns : goal.returns
unfolding error_text
returns c =
    let file = attribute (codes " classname") c.args.file.now in
    let told = attribute (codes " message") c.in-Some.told in
    let first = c.extend_from_slice.new.self.items in
    let second = c.push_attribute.new.text.items in
    let third = c.extend_from_slice-2.new.self.items in
    let fourth = c.push_attribute-2.new.text.items in
    let end = c.extend_from_slice-3.new.self.items in
    rw c.in-Some.is
    (on_ok_weaker c.extend_from_slice-3.result
    (λ last. piece_then c.args.text.now.items (codes "    <testcase") _ first end c.in_ok-extend_from_slice.ensures.items
    (piece_then first file _ second end
    (c.in_ok-push_attribute.ensures ∙ ap (λ name. first ++ attribute (codes " classname") name) c.as_bytes.ensures.value)
    (piece_then second (codes " name=\"file\"><error") _ third end c.in_ok-extend_from_slice-2.ensures.items
    (piece_then third told (codes "/></testcase>\n") fourth end
    (c.in_ok-push_attribute-2.ensures ∙ ap (λ said. third ++ attribute (codes " message") said) c.as_slice.ensures) last))))
    (search rules))
