-- The JSON form of a reference to a document.
use Rattle.std.specs.Prelude.{ℕ, ◌&&◌, if◌then◌else◌, List, [], ◌∷◌, Bool, Option, Some, None, Result, Ok, codes, bytes_eq}
use Rattle.serde_json.specs.Data.{Data}
use Rattle.ent_policy.specs.Check.{reference_checked}
use Rattle.ent_policy.specs.declared.fault.DocFault.{DocFault}
use Rattle.ent_policy.specs.declared.key.Kind.{Kind}
use Rattle.ent_policy.specs.declared.key.Kind.TheVariants as kind
use Rattle.ent_policy.specs.declared.key.Reference.{Reference}
use Rattle.ent_policy.specs.declared.raw.RawReference.{RawReference}
use Rattle.ent_json.specs.Objects.{has_only, one_member, text_at, text_or_absent}
use Rattle.ent_polform.specs.Objects.{◌>>=◌}
use Rattle.ent_polform.specs.Reading.{part, formed}

-- the key of a PolicyIdReference (section 5.11) or a PolicySetIdReference (section 5.10)
abbrev pub reference_key : Kind → List ℕ
reference_key kind.Policy = codes "PolicyIdReference"
reference_key kind.PolicySet = codes "PolicySetIdReference"

-- the kind of document to which a reference of that key leads
abbrev pub kind_of : List ℕ → Option Kind
kind_of key = if bytes_eq key (reference_key kind.Policy) then Some kind.Policy else (if bytes_eq key (reference_key kind.PolicySet) then Some kind.PolicySet else None)

-- an object with no other keys than these, where a text stands at each constraint that is there
abbrev pub has_reference_form : Data → Bool
has_reference_form d =
    has_only (codes "EarliestVersion" ∷ codes "Id" ∷ codes "LatestVersion" ∷ codes "Version" ∷ []) d
    && text_or_absent (codes "EarliestVersion") d && text_or_absent (codes "LatestVersion") d && text_or_absent (codes "Version") d

-- a reference to a document of that kind, as read: an id, and the texts of the version patterns that are there
unfoldable pub reference_by : Kind → Data → Result RawReference DocFault
reference_by kind d = formed (has_reference_form d) (do
  id ← part (text_at (codes "Id") d)
  Ok (record { kind = kind; id = id; version = text_at (codes "Version") d; earliest = text_at (codes "EarliestVersion") d; latest = text_at (codes "LatestVersion") d }))

-- the reference that a JSON value spells, or its first fault, one of form before every other
unfoldable pub reference_of : Data → Result Reference DocFault
reference_of d = part (one_member d) >>= λ m. part (kind_of m.0) >>= λ kind. reference_by kind m.1 >>= reference_checked
