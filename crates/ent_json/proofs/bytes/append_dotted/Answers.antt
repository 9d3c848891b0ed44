use Rattle.std.proofs.Common.{◌≡◌, [], ◌∷◌, ◌++◌, OnOk, arith, subst, sym}
use Rattle.ent_json.proofs.DottedLemmas.{dotted_is_plain, dotted_utf8}
use Rattle.ent_json.specs.proofs_only.Written.{comma_if}
use Rattle.ent_json.proofs.bytes.append_dotted.Goals as goal

pub returns-then-is_err-clause-utf8 : goal.returns-then-is_err-clause-utf8
returns-then-is_err-clause-utf8 c = dotted_utf8 c.args.numbers.now (λ k. omega (arith, c.type_inv.numbers k))

pub returns-else-is_err-clause-utf8 : goal.returns-else-is_err-clause-utf8
returns-else-is_err-clause-utf8 c = dotted_utf8 c.args.numbers.now (λ k. omega (arith, c.type_inv.numbers k))

pub returns-else-is_err-clause-ok : goal.returns-else-is_err-clause-ok
returns-else-is_err-clause-ok c =
    let plain = dotted_is_plain c.args.numbers.now (λ k. omega (arith, c.type_inv.numbers k)) in
    let done = c.push_dotted-done in
    subst (λ e. OnOk done.result (done.new.bytes.items ≡ c.args.bytes.now.items ++ (comma_if c.args.comma ++ 34 ∷ (e ++ 34 ∷ [])))) (sym plain) done.ensures.ok
