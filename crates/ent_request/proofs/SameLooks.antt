-- A test of what a key gives in two look-ups says whether it gives the same.
use Rattle.std.proofs.Common.{◌≡◌, [], ◌∷◌, Bool, Option, Some, None, refl, ap}
use Rattle.std.specs.Bool.{Decides}
use Rattle.std.specs.Option.{option_eq}
use Rattle.ent_values.specs.Same.{same_values}
use Rattle.ent_values.specs.declared.value.Value.{Value}
use Rattle.ent_values.specs.declared.value.Value.TheVariants as value
use Rattle.ent_values.proofs.Values.{same_values-Decides}
use Rattle.ent_policy.proofs.Documents.{same_document-Decides}
use Rattle.ent_policy.proofs.Same.{same_reference-Decides}
use Rattle.ent_request.specs.SameLook.{SameLookIsEqual}
use Rattle.ent_request.specs.Sources.{known_values}
use Rattle.ent_request.specs.declared.key.ReadKey.TheVariants as key

maybe-Decides : {A : Type 0} {E : A → A → Bool} → ((x y : A) → Decides (E x y) (x ≡ y)) → (o p : Option A) → Decides (option_eq E o p) (o ≡ p)
maybe-Decides d None None = (λ h. refl, λ h. refl)
maybe-Decides d None (Some y) = (λ h. absurd (cc), λ h. absurd (cc))
maybe-Decides d (Some x) None = (λ h. absurd (cc), λ h. absurd (cc))
maybe-Decides d (Some x) (Some y) = (λ h. ap Some ((d x y).0 h), λ h. (d x y).1 (cc))

-- what is known is the same where its value is
known-Decides : {A : Type 0} (f : A → Value) → ((a b : A) → f a ≡ f b → a ≡ b) → (o p : Option A) → Decides (same_values (known_values f o) (known_values f p)) (o ≡ p)
known-Decides f back None None = (λ h. refl, λ h. refl)
known-Decides f back None (Some b) = (λ h. absurd (cc), λ h. absurd (cc))
known-Decides f back (Some a) None = (λ h. absurd (cc), λ h. absurd (cc))
known-Decides f back (Some a) (Some b) =
    let both = same_values-Decides (f a ∷ []) (f b ∷ []) in
    (λ h. let same = both.0 h in ap Some (back a b (cc)), λ h. both.1 (ap (known_values f) h))

pub same_look-Decides : SameLookIsEqual
same_look-Decides s t key.Root = maybe-Decides same_reference-Decides s.root t.root
same_look-Decides s t (key.Ref reference) = maybe-Decides same_document-Decides (s.document reference) (t.document reference)
same_look-Decides s t (key.Attr key) = same_values-Decides (s.values key) (t.values key)
same_look-Decides s t key.CurrentDate = known-Decides value.Date (λ a b h. cc) s.date t.date
same_look-Decides s t key.CurrentTime = known-Decides value.Time (λ a b h. cc) s.time t.time
same_look-Decides s t key.CurrentDateTime = known-Decides value.DateTime (λ a b h. cc) s.date_time t.date_time
