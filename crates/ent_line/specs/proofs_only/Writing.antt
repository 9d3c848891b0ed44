-- What is written, as JSON into a text that grows, as a text, or to a writer.
use Rattle.std.specs.Prelude.{◌≡◌, ◌++◌, List, map, IfOk, OnOk, Result, String, string_bytes}
use Rattle.json.specs.Token.{Token}
use Rattle.serde_json.specs.Data.{Data}
use Rattle.serde_json.specs.Written.{compact_text}
use Rattle.ent_json.specs.Text.{tokens_of}
use Rattle.ent_json.specs.proofs_only.Text.{items_tokens_of}

-- tokens were written behind what a text had
abbrev pub Adds : {A E : Type 0} → List Token → List Token → List Token → Result A E → Type 0
Adds tokens old new result = OnOk result (new ≡ old ++ tokens)

-- the tokens of a datum were
abbrev pub Writes : {A E : Type 0} → Data → List Token → List Token → Result A E → Type 0
Writes datum old new result = OnOk result (new ≡ old ++ tokens_of datum)

-- those of a datum of each of these were, and the end of their list
abbrev pub WritesEach : {X A E : Type 0} → (X → Data) → List X → List Token → List Token → Result A E → Type 0
WritesEach told xs old new result = OnOk result (new ≡ old ++ items_tokens_of (map told xs))

-- a text spells a datum
abbrev pub Spells : {Z E : Type 0} → Data → Result (String Z) E → Type 0
Spells datum result = IfOk result (λ s. string_bytes s ≡ compact_text datum)
