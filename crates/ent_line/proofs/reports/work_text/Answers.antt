use Rattle.std.proofs.Common.{◌++◌, ◌∙◌, ap, codes, decimal, string_bytes}
use Rattle.json.specs.Print.{escape_byte}
use Rattle.ent_line.specs.Reports.{work_reply}
use Rattle.ent_line.proofs.TextLemmas.{joined}
use Rattle.ent_line.proofs.reports.work_text.Goals as goal

pub returns : goal.returns
unfolding work_reply escape_byte
returns c =
    let start = string_bytes c.in_ok-text.text in
    let number = decimal c.args.evaluations in
    joined start (string_bytes c.push_str.new.self) (string_bytes c.push_str-2.new.self) number (codes "}")
    (c.in_ok-push_str.ensures.bytes ∙ ap (λ s. start ++ s) c.format.ensures.text) c.in_ok-push_str-2.ensures.bytes
    ∙ ap (λ s. s ++ (number ++ codes "}")) c.in_ok-text.ensures.ok
