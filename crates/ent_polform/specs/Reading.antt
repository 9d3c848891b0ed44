-- Readers of JSON whose faults are of form, and readers that read values of their own kind inside.
use Rattle.std.specs.Prelude.{ℕ, zero, suc, List, Bool, true, false, Option, Some, None, Result, Ok, Err}
use Rattle.serde_json.specs.Data.{Data, depth}
use Rattle.serde_json.specs.Find.{as_str}
use Rattle.ent_policy.specs.declared.fault.DocFault.{DocFault}
use Rattle.ent_policy.specs.declared.fault.DocFault.TheVariants as fault
use Rattle.ent_polform.specs.Objects.{◌>>=◌, need, must}

-- what has to be there: its absence is a fault of form
abbrev pub part : {A : Type 0} → Option A → Result A DocFault
part o = need fault.Form o

-- what is read where the form's test holds
abbrev pub formed : {A : Type 0} → Bool → Result A DocFault → Result A DocFault
formed b r = must fault.Form b r

-- whether nothing is wrong with the form
abbrev pub has_form : {A : Type 0} → Result A DocFault → Bool
has_form (Err fault.Form) = false
has_form read = true

-- what may be absent, read where it is there
abbrev pub maybe : {A : Type 0} → (Data → Result A DocFault) → Option Data → Result (Option A) DocFault
maybe f None = Ok None
maybe f (Some d) = f d >>= λ x. Ok (Some x)

-- a text
abbrev pub text_of : Data → Result (List ℕ) DocFault
text_of d = part (as_str d)

-- what is read of up to n levels of one kind, where by reads one level by a reader of the levels inside
unfoldable pub within : {A : Type 0} → ((Data → Result A DocFault) → Data → Result A DocFault) → ℕ → Data → Result A DocFault
within by zero d = Err fault.Form
within by (suc n) d = by (within by n) d

-- what is read of as many levels as the JSON has
abbrev pub nested : {A : Type 0} → ((Data → Result A DocFault) → Data → Result A DocFault) → Data → Result A DocFault
nested by d = within by (suc (depth d)) d
