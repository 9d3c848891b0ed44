use Rattle.std.proofs.Common.{◌∙◌}
use Rattle.std.specs.Ordering.{is_le}
use Rattle.ent_request.specs.Noted.{read_cmp}
use Rattle.ent_request.specs.declared.key.ReadKey.TheVariants.{Ref}
use Rattle.ent_index.proofs.KeyOrders.{first_of, name_is}
use Rattle.ent_index.proofs.asked.first_key.Goals as goal

pub returns-in-Some : goal.returns-in-Some
returns-in-Some c =
    let id = name_is _ c.in_ok-from_str.field-0 c.in-Some.id c.in-Some.ensures ∙ c.in_ok-from_str.ensures in
    λ k h. (λ i. is_le (read_cmp (Ref (record { kind = c.args.kind; id = id i; constraints = c.none.ensures i })) k)) ∙ first_of c.args.kind c.args.id.now k h
