-- What a function that checks a document answers.
use Rattle.std.specs.Prelude.{◌≡◌, Result, Ok, Err}
use Rattle.ent_policy.specs.declared.fault.CheckFault.{CheckFault}
use Rattle.ent_policy.specs.declared.fault.CheckFault.TheVariants.{Doc, Memory}
use Rattle.ent_policy.specs.declared.fault.DocFault.{DocFault}

-- a fault that was found is the fault that the definition gives; want of memory says nothing
abbrev pub Fails : {A : Type 0} → CheckFault → Result A DocFault → Type 0
Fails (Doc fault) read = read ≡ Err fault
Fails Memory read = Unit {0}

-- the answer is what the definition gives, unless memory was wanting
abbrev pub Gives : {A : Type 0} → Result A CheckFault → Result A DocFault → Type 0
Gives (Ok x) read = read ≡ Ok x
Gives (Err e) read = Fails e read
