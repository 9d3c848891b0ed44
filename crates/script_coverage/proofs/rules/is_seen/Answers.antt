use Rattle.std.proofs.Common.{◌≡◌, ◌∙◌, Option, Some, None, option_map, ap, refl}
use Rattle.std.specs.Option.{is_some}
use Rattle.serde_json.specs.Find.{get_member}
use Rattle.serde_json.specs.View.{members_view, view}
use Rattle.serde_json.proofs.Views.{view_of_ref, view-lookup}
use Rattle.script_coverage.proofs.rules.is_seen.Goals as goal

is_some-mapped : {A B : Type 0} (f : A → B) (o : Option A) → is_some o ≡ is_some (option_map f o)
is_some-mapped f None = refl
is_some-mapped f (Some x) = refl

pub returns : goal.returns
returns c =
    let seen = c.args.seen.now.entries in
    let found = view_of_ref c.get.result ∙ ap (option_map view) c.get.ensures.value ∙ view-lookup c.as_str.result.now seen in
    let key = c.as_str.ensures.value ∙ c.in_ok-key.ensures in
    c.is_some.ensures ∙ is_some-mapped _ c.get.result ∙ ap is_some found ∙ ap (λ k. is_some (get_member k (members_view seen))) key
