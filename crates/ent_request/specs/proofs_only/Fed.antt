-- What a hasher is fed of a cause, which is the same for equal causes.
use Rattle.std.specs.Prelude.{◌++◌, ℕ, List, []}
use Rattle.std.specs.Hash as fed
use Rattle.std.specs.Hash.{Alike}
use Rattle.std.specs.List.{flat_map}
use Rattle.std.proofs.Common.{ap}
use Rattle.ent_policy.specs.declared.key.DocKey.{DocKey}
use Rattle.ent_request.specs.declared.cause.Cause.{Cause}
use Rattle.ent_request.specs.declared.cause.What.{What}
use Rattle.ent_request.specs.declared.cause.What.TheVariants as what
use Rattle.ent_request.specs.declared.question.Asked.{Asked}
use Rattle.ent_request.specs.Causes.{same_cause}
use Rattle.ent_request.specs.proofs_only.Telling.{cause-tells}

-- of a policy: its id and its version
abbrev pub key_writes : DocKey → List (List ℕ)
key_writes k = fed.str k.id ++ fed.slice fed.u32 k.version

-- of what is asked of an attribute: its texts
abbrev pub asked_writes : Asked → List (List ℕ)
asked_writes a = fed.str a.category ++ (fed.str a.attribute ++ fed.option fed.str a.issuer)

-- of what fails: the texts in which it differs from what else fails in its rule
abbrev pub what_writes : What → List (List ℕ)
what_writes (what.Missing asked) = asked_writes asked
what_writes (what.Fault function fault) = []
what_writes (what.Unfound reference) = fed.str reference.id
what_writes (what.TooFar reference) = fed.str reference.id
what_writes what.Several = []
what_writes what.Unfit = []

-- of a cause: the policies on the way to it, its rule, and what fails
abbrev pub cause_writes : Cause → List (List ℕ)
cause_writes c = flat_map key_writes c.path ++ (fed.option fed.str c.rule ++ what_writes c.what)

-- equal causes are fed alike
pub causes_alike : Alike same_cause cause_writes
causes_alike = record { fed = λ x y h. ap cause_writes (cause-tells x y h) }
