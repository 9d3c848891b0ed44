-- What one change leaves of the look-ups.
use Rattle.std.proofs.Common.{refl, sym, ap}
use Rattle.std.specs.Option.{option_map}
use Rattle.ent_finder.proofs.Elsewhere.{same_looked, same_resolved}
use Rattle.ent_request.specs.Change.{DocumentLeavesOthers, EnvironmentLeavesOthers, RootLeavesOthers, ValuesLeaveOthers}
use Rattle.ent_request.specs.declared.key.ReadKey.TheVariants as keys

pub root-leaves : RootLeavesOthers
root-leaves held root keys.Root off = cc
root-leaves held root (keys.Ref reference) off = refl
root-leaves held root (keys.Attr key) off = refl
root-leaves held root keys.CurrentDate off = refl
root-leaves held root keys.CurrentTime off = refl
root-leaves held root keys.CurrentDateTime off = refl

pub document-leaves : DocumentLeavesOthers
document-leaves held number document_key document keys.Root off = refl
document-leaves held number document_key document (keys.Ref reference) off =
    ap (option_map (λ answer. answer.1)) (sym (same_resolved reference held.modules number document_key document off))
document-leaves held number document_key document (keys.Attr key) off = refl
document-leaves held number document_key document keys.CurrentDate off = refl
document-leaves held number document_key document keys.CurrentTime off = refl
document-leaves held number document_key document keys.CurrentDateTime off = refl

pub values-leave : ValuesLeaveOthers
values-leave held number row values keys.Root off = refl
values-leave held number row values (keys.Ref reference) off = refl
values-leave held number row values (keys.Attr key) off = sym (same_looked key held.sources number row values off)
values-leave held number row values keys.CurrentDate off = refl
values-leave held number row values keys.CurrentTime off = refl
values-leave held number row values keys.CurrentDateTime off = refl

pub environment-leaves : EnvironmentLeavesOthers
environment-leaves held environment keys.Root off = refl
environment-leaves held environment (keys.Ref reference) off = refl
environment-leaves held environment (keys.Attr key) off = refl
environment-leaves held environment keys.CurrentDate off = cc
environment-leaves held environment keys.CurrentTime off = cc
environment-leaves held environment keys.CurrentDateTime off = cc
