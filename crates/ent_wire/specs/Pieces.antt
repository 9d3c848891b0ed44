-- What writing bytes does to the known bytes of a writer.
use Rattle.std.specs.Prelude.{◌≡◌, ℕ, List, ◌++◌, Option, Result, Ok, Err, ⊤}
use Rattle.std.specs.Io.KnownBytes.{Appends}
use Rattle.ent_wire.specs.declared.fault.ServeFault.{ServeFault}
use Rattle.ent_wire.specs.declared.fault.ServeFault.TheVariants.{Write}

-- all of the bytes were written, or only a front of them: the writer's bytes before and after
abbrev pub Sends : Option (List ℕ) → Option (List ℕ) → List ℕ → Result ⊤ ServeFault → Type 0
Sends before after bytes (Ok done) = Appends before after bytes
Sends before after bytes (Err e) = (e ≡ Write) × (front rest : List ℕ) × (bytes ≡ front ++ rest) × Appends before after front

-- bytes were sent to a writer, or only a front of them
abbrev pub SendsTo : {W : Type 0} → (W → Option (List ℕ)) → W → W → List ℕ → Result ⊤ ServeFault → Type 0
SendsTo contents old new bytes result = Sends (contents old) (contents new) bytes result
