-- What a line sets, as the code has it.
use Rattle.std.specs.Prelude.{map}
use Rattle.serde_json.specs.Data.{Data}
use Rattle.serde_json.specs.View.{items_of}
use Rattle.lint_declared.specs.Settings as settings
use Rattle.lint_declared.specs.declared.setting.Setting.{Setting}

-- its values by their data
abbrev pub setting_view : {J : Type 0} → (J → Data) → Setting J → settings.Setting
setting_view content s = record { attribute = s.attribute; entity = s.entity; values = items_of (map content s.values.now) }
