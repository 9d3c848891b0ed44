-- Whether a look-up gives the same in two, and that this test decides it.
use Rattle.std.specs.Prelude.{Bool, ◌≡◌}
use Rattle.std.specs.Bool.{Decides}
use Rattle.std.specs.Option.{option_eq}
use Rattle.ent_values.specs.Same.{same_values}
use Rattle.ent_values.specs.declared.value.Value.TheVariants as value
use Rattle.ent_policy.specs.Same.{same_document, same_reference}
use Rattle.ent_request.specs.Looks.{Looks}
use Rattle.ent_request.specs.Sources.{known_values}
use Rattle.ent_request.specs.declared.key.ReadKey.{ReadKey}
use Rattle.ent_request.specs.declared.key.ReadKey.TheVariants.{Root, Ref, Attr, CurrentDate, CurrentTime, CurrentDateTime}

-- a look-up gives the same in both
abbrev pub IsSameLook : Looks → Looks → ReadKey → Type 0
IsSameLook s t Root = s.root ≡ t.root
IsSameLook s t (Ref reference) = s.document reference ≡ t.document reference
IsSameLook s t (Attr key) = s.values key ≡ t.values key
IsSameLook s t CurrentDate = s.date ≡ t.date
IsSameLook s t CurrentTime = s.time ≡ t.time
IsSameLook s t CurrentDateTime = s.date_time ≡ t.date_time

-- whether a look-up gives the same in both, by `==` of what it gives
abbrev pub same_look : Looks → Looks → ReadKey → Bool
same_look s t Root = option_eq same_reference s.root t.root
same_look s t (Ref reference) = option_eq same_document (s.document reference) (t.document reference)
same_look s t (Attr key) = same_values (s.values key) (t.values key)
same_look s t CurrentDate = same_values (known_values value.Date s.date) (known_values value.Date t.date)
same_look s t CurrentTime = same_values (known_values value.Time s.time) (known_values value.Time t.time)
same_look s t CurrentDateTime = same_values (known_values value.DateTime s.date_time) (known_values value.DateTime t.date_time)

-- it says whether it does
abbrev pub SameLookIsEqual : Type 0
SameLookIsEqual = (s t : Looks) (key : ReadKey) → Decides (same_look s t key) (IsSameLook s t key)
