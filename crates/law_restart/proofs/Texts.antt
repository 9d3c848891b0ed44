-- The compact text of JSON is read as that JSON.
use Rattle.std.proofs.Common.{ap, ◌∙◌, None}
use Rattle.std.specs.Prelude.{if◌then◌else◌}
use Rattle.serde_json.specs.Read.{read}
use Rattle.serde_json.specs.Written.{compact_text}
use Rattle.ent_polform.proofs.Texts.{text_read}
use Rattle.law_restart.specs.Plain.{TextsReadBack}

pub texts_read_back : TextsReadBack
texts_read_back d h shallow utf8 = ap (λ b. if b then read (compact_text d) else None) utf8 ∙ text_read d h shallow
