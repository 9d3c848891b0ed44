-- The places that the code makes.
use Rattle.std.specs.Prelude.{List, map}
use Rattle.serde_json.specs.Data.{Data}
use Rattle.lint_declared.specs.Compared.{Place}
use Rattle.lint_declared.specs.declared.compared.Placed.{Placed}

-- a place, by the data of what stands there
abbrev pub place_of : {J : Type 0} → (J → Data) → Placed J → Place
place_of content p = (p.pointer, content p.json.now)

-- several
abbrev pub places_of : {J : Type 0} → (J → Data) → List (Placed J) → List Place
places_of content ps = map (place_of content) ps
