-- What is at hand of the values of designators.
use Rattle.std.specs.Prelude.{◌≡◌}
use Rattle.ent_request.specs.Looks.{Looks}
use Rattle.ent_request.specs.Sources.{values_of}
use Rattle.ent_walk.specs.declared.lender.FoundBag.{FoundBag}
use Rattle.ent_request.specs.declared.request.Request.{Request}

-- a bag that is lent has the values that are found for what was asked
abbrev pub IsFound : Looks → Request → FoundBag → Type 0
IsFound looks request f = f.bag ≡ record { datatype = f.asked.datatype; values = values_of looks request f.asked }
