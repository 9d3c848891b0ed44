-- What an evaluation leaves: the value of a part, and what is noted of it.
use Rattle.std.specs.Prelude.{◌≡◌, Bool, List}
use Rattle.ent_values.specs.Bags.{Contents}
use Rattle.ent_values.specs.declared.datatype.DataType.{DataType}
use Rattle.ent_values.specs.declared.value.Value.{Value}
use Rattle.ent_request.specs.declared.request.Request.{Request}
use Rattle.ent_walk.specs.declared.walk.Walk.{Walk}
use Rattle.ent_request.specs.Looks.{Looks}
use Rattle.ent_request.specs.Note.{Note}
use Rattle.ent_trace.specs.proofs_only.Noted.{noting, settling}
use Rattle.ent_request.specs.Part.{Part, mapped}
use Rattle.ent_request.specs.declared.answer.Answer.{Answer}
use Rattle.ent_walk.specs.Judged.{has_failed}

-- what is said of look-ups and a request, of those of a walk
abbrev pub in_walk {ℓ} : {L : Type 0} {A : Type ℓ} → (L → Looks) → Walk L → (Looks → Request → A) → A
in_walk looks walk meaning = meaning (looks walk.lender.held) walk.lender.request

-- a walk stays one over what is held, for the same request
pub record Keeps {L : Type 0} (before after : Walk L) : Type 0 where
  pub held : after.lender.held ≡ before.lender.held
  pub request : after.lender.request ≡ before.lender.request

-- a walk noted these, and stays what it is otherwise
pub record Adds {L : Type 0} (more : List Note) (before after : Walk L) : Type 0 where
  pub notes : after.notes ≡ noting before.notes more
  pub keeps : Keeps before after

-- a value came of a part, of which everything was noted
pub record Comes {A L : Type 0} (part : Part A) (before after : Walk L) (came : A) : Type 0 where
  pub value : came ≡ part.value
  pub notes : after.notes ≡ noting before.notes part.notes
  pub keeps : Keeps before after

-- a walk noted an answer's part, passed over what failed unless that is Indeterminate, and stays what it is otherwise
pub record Settles {L : Type 0} (was_named : Bool) (part : Part Answer) (before after : Walk L) : Type 0 where
  pub notes : after.notes ≡ settling was_named (has_failed part.value) (noting before.notes part.notes)
  pub keeps : Keeps before after

-- the values of a part, as a bag of that type
abbrev pub bag_part : DataType → Part (List Value) → Part Contents
bag_part datatype p = mapped (λ values. record { datatype = datatype; values = values }) p
