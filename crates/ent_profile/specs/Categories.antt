-- The categories that have a short name in the JSON Profile, beside their URI (appendix B.2).
use Rattle.std.specs.Prelude.{ℕ, List, [], ◌∷◌, Option, codes, bytes_eq, find}
use Rattle.std.specs.Option.{option_map_or}
use Rattle.ent_request.specs.Uris.{access_subject, action, environment, resource}
use Rattle.ent_profile.specs.declared.categories.NamedCategory.{NamedCategory}
use Rattle.ent_profile.specs.declared.categories.NamedCategory.TheVariants.{AccessSubject, Action, Resource, Environment, RecipientSubject, IntermediarySubject, Codebase, RequestingMachine}

-- the short name
unfoldable pub short_name : NamedCategory → List ℕ
short_name AccessSubject = codes "AccessSubject"
short_name Action = codes "Action"
short_name Resource = codes "Resource"
short_name Environment = codes "Environment"
short_name RecipientSubject = codes "RecipientSubject"
short_name IntermediarySubject = codes "IntermediarySubject"
short_name Codebase = codes "Codebase"
short_name RequestingMachine = codes "RequestingMachine"

-- the URI
unfoldable pub uri_of : NamedCategory → List ℕ
uri_of AccessSubject = access_subject
uri_of Action = action
uri_of Resource = resource
uri_of Environment = environment
uri_of RecipientSubject = codes "urn:oasis:names:tc:xacml:1.0:subject-category:recipient-subject"
uri_of IntermediarySubject = codes "urn:oasis:names:tc:xacml:1.0:subject-category:intermediary-subject"
uri_of Codebase = codes "urn:oasis:names:tc:xacml:1.0:subject-category:codebase"
uri_of RequestingMachine = codes "urn:oasis:names:tc:xacml:1.0:subject-category:requesting-machine"

-- all of them, in the order in which a request has them
abbrev pub named_categories : List NamedCategory
named_categories = AccessSubject ∷ Action ∷ Resource ∷ Environment ∷ RecipientSubject ∷ IntermediarySubject ∷ Codebase ∷ RequestingMachine ∷ []

-- the category of that short name
unfoldable pub named : List ℕ → Option NamedCategory
named name = find (λ category. bytes_eq name (short_name category)) named_categories

-- the URI that a CategoryId stands for: that of the short name which it is, or else itself
unfoldable pub expanded : List ℕ → List ℕ
expanded id = option_map_or uri_of (named id) id
