use Rattle.std.proofs.Common.{◌≡◌, ◌++◌, ◌∙◌, ℕ, List, ap, append_assoc, codes, decimal, map}
use Rattle.serde_json.specs.View.{view}
use Rattle.script_compare.specs.Gains.{count_of, count_others, summary}
use Rattle.script_compare.specs.declared.gains.Way.TheVariants.{Gained, Lost}
use Rattle.script_compare.proofs.writing.push_summary.Goals as goal

step : (x a w rest : List ℕ) → (x ++ (a ++ w)) ++ rest ≡ x ++ (a ++ (w ++ rest))
step x a w rest = append_assoc x (a ++ w) rest ∙ ap (λ l. x ++ l) (append_assoc a w rest)

-- four numbers with words, one behind the other
four : (old one two three all a v b w c x d y : List ℕ) → one ≡ old ++ (a ++ v) → two ≡ one ++ (b ++ w) → three ≡ two ++ (c ++ x)
    → all ≡ three ++ (d ++ y) → all ≡ old ++ (a ++ (v ++ (b ++ (w ++ (c ++ (x ++ (d ++ y)))))))
four old one two three all a v b w c x d y first second third last =
    let end = d ++ y in
    let later = c ++ (x ++ end) in
    let rest = b ++ (w ++ later) in
    last ∙ ap (λ l. l ++ end) third ∙ step two c x end ∙ ap (λ l. l ++ later) second ∙ step one b w later
    ∙ ap (λ l. l ++ rest) first ∙ step old a v rest

pub returns : goal.returns
unfolding summary
returns c =
    let changes = map view c.args.decisions.now in
    let old = c.args.out.now.items in
    four old c.push_number.new.out.items c.push_number-2.new.out.items c.push_number-3.new.out.items c.push_number-4.new.out.items
    (decimal c.count_of.result) (codes " gain Permit, ") (decimal c.count_of-2.result) (codes " lose it, ")
    (decimal c.count_others.result) (codes " have another decision, ") (decimal c.args.reasons) (codes " other reasons.\n\n")
    c.in_ok-push_number.ensures c.in_ok-push_number-2.ensures c.in_ok-push_number-3.ensures c.in_ok-push_number-4.ensures
    ∙ (λ i. old ++ (decimal (c.count_of.ensures i) ++ (codes " gain Permit, " ++ (decimal (c.count_of-2.ensures i) ++ (codes " lose it, "
    ++ (decimal (c.count_others.ensures i) ++ (codes " have another decision, " ++ (decimal c.args.reasons ++ codes " other reasons.\n\n"))))))))
