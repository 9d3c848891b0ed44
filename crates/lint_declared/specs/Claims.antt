-- What lines say that one line is to say: that a name is listed, and which values a row has.
use Rattle.std.specs.Prelude.{ℕ, List, Bool, true, false, if◌then◌else◌, Option, Some, None, option_and_then, option_map, codes, bytes_eq}
use Rattle.std.specs.Option.{option_map_or}
use Rattle.serde_json.specs.Data.{Data}
use Rattle.serde_json.specs.Find.{as_number, as_u64, get}
use Rattle.ent_json.specs.Line.{data_of}
use Rattle.ent_json.specs.Objects.{text_at}
use Rattle.lint_declared.specs.Settings.{Setting, is_setting, listed_by, named, setting_of}
use Rattle.lint_declared.specs.contracts.claim.ClaimPartialEq.TheImpl as claims
use Rattle.lint_declared.specs.declared.claim.Claim.{Claim}
use Rattle.lint_declared.specs.declared.claim.Claim.TheVariants as claim
use Rattle.lint_declared.specs.declared.claim.SetRow.{SetRow}
use Rattle.lint_declared.specs.declared.listed.ListedName.{ListedName}

-- the category out of whose names a command takes one
abbrev pub category_dropped : List ℕ → Option (List ℕ)
category_dropped word =
    if bytes_eq word (codes "person.drop") then Some (codes "urn:oasis:names:tc:xacml:1.0:subject-category:access-subject")
    else (if bytes_eq word (codes "action.drop") then Some (codes "urn:oasis:names:tc:xacml:3.0:attribute-category:action")
    else (if bytes_eq word (codes "resource.drop") then Some (codes "urn:oasis:names:tc:xacml:3.0:attribute-category:resource") else None))

-- the name that a line drops, if it does
unfoldable pub dropped_by : Data → Option ListedName
dropped_by d = option_and_then (λ category. option_map (named category) (text_at (codes "name") d))
    (option_and_then category_dropped (text_at (codes "do") d))

-- the number of a line's module, where it is whole and not negative; the absent key says 0
abbrev pub module_at : Data → Option ℕ
module_at d = option_map_or (λ v. option_and_then as_u64 (as_number v)) (get (codes "module") d) (Some 0)

-- the row of what is set in a module
abbrev pub row_in : ℕ → Setting → SetRow
row_in n s = record {
  in_module = n;
  entity = named s.attribute.category s.entity;
  attribute = s.attribute.id;
  datatype = s.attribute.datatype;
  issuer = s.attribute.issuer;
}

-- the row that a line sets that can be read
unfoldable pub row_of : Data → Option SetRow
row_of d = option_and_then (λ n. option_map (row_in n) (setting_of d)) (module_at d)

-- what a line says that lists a name, drops one or sets a row, and whether it stands from then on
abbrev pub said_of : Option ListedName → Option ListedName → Option SetRow → Option (Claim × Bool)
said_of (Some name) dropped row = Some (claim.Listed name, true)
said_of None (Some name) row = Some (claim.Listed name, false)
said_of None None (Some row) = Some (claim.Values row, true)
said_of None None None = None

-- what a line says, if it says anything
unfoldable pub said_by : Data → Option (Claim × Bool)
said_by d = said_of (listed_by d) (dropped_by d) (if is_setting d then row_of d else None)

-- two claims are equal
abbrev pub same_claim : Claim → Claim → Bool
same_claim = (claims.ghosts).eq

-- the number of the line that says each claim that stands, behind a line of that number that says this
abbrev pub standing_behind : (Claim → Option ℕ) → ℕ → Option (Claim × Bool) → Claim → Option ℕ
standing_behind before n None c = before c
standing_behind before n (Some said) c = if same_claim said.0 c then (if said.1 then Some n else None) else before c

-- the numbers behind the text of a line
abbrev pub behind : (Claim → Option ℕ) → ℕ → List ℕ → Claim → Option ℕ
behind before n line = standing_behind before n (option_and_then said_by (data_of line))
