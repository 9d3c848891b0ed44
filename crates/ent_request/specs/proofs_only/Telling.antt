-- `==` of two causes answers true of equal causes alone.
use denote.Enum.Bare.{same_true}
use Rattle.std.specs.Prelude.{◌≡◌, List}
use Rattle.std.specs.Bool.{Decides}
use Rattle.std.specs.Cmp.Lexicographic.{pointwise}
use Rattle.std.proofs.Common.{refl}
use Rattle.std.proofs.lemmas.Slice.Eq.{bytes_eq-Decides, slice_eq-Decides}
use Rattle.ent_values.proofs.Telling.{Tells, decided, enum, last, maybe, more, struct}
use Rattle.ent_values.proofs.Values.{same_type-Decides}
use Rattle.ent_functions.specs.contracts.arg.Fault as fault
use Rattle.ent_functions.proofs.Same.{same_function-Decides}
use Rattle.ent_policy.specs.declared.key.DocKey.{DocKey}
use Rattle.ent_policy.specs.Same as documents
use Rattle.ent_policy.proofs.Same.{same_key-Decides, same_reference-Decides}
use Rattle.ent_request.specs.contracts.answer.Status as status
use Rattle.ent_request.specs.contracts.cause.Cause as cause
use Rattle.ent_request.specs.contracts.cause.What as what
use Rattle.ent_request.specs.contracts.cause.WhatPartialEq.TheImpl as whats
use Rattle.ent_request.specs.contracts.question.Asked as asked
use Rattle.ent_request.specs.contracts.question.AskedPartialEq.TheImpl as askeds
use Rattle.ent_request.specs.declared.cause.Cause.{Cause}
use Rattle.ent_request.specs.declared.cause.What.{What}
use Rattle.ent_request.specs.declared.question.Asked.{Asked}
use Rattle.ent_request.specs.Causes.{same_cause}

pub path-Decides : (p q : List DocKey) → Decides (pointwise documents.same_key p q) (p ≡ q)
path-Decides p q = slice_eq-Decides same_key-Decides p q (pointwise documents.same_key p q) refl

pub asked-tells : (a : Asked) → Tells (askeds.ghosts).eq a
asked-tells =
    struct asked.struct asked.the_propositions
    (more (decided bytes_eq-Decides) (more (decided bytes_eq-Decides) (more (decided same_type-Decides) (last (maybe (decided bytes_eq-Decides))))))

what-tells : (w : What) → Tells (whats.ghosts).eq w
what-tells =
    enum what.enum _ (last asked-tells, (more (decided same_function-Decides) (last (same_true fault.the_type tt)), (last (decided same_reference-Decides), (last (decided same_reference-Decides), tt))))

pub cause-tells : (c : Cause) → Tells same_cause c
cause-tells =
    struct cause.struct cause.the_propositions
    (more (decided path-Decides) (more (maybe (decided bytes_eq-Decides)) (more (same_true status.the_type tt) (last what-tells))))
