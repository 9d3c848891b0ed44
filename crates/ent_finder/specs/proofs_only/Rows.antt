-- How modules of attributes are told apart by the kit: a word of the code's own contracts.
use Rattle.std.specs.Prelude.{ℕ, List, refl}
use Rattle.std.specs.Coded.{Coded, code_by, coded×, coded_list, coded_ℕ}
use Rattle.std.specs.FinMap.{code}
use Rattle.ent_values.specs.declared.value.Value.{Value}
use Rattle.ent_finder.specs.declared.row.RowKey.{RowKey}
use Rattle.ent_finder.specs.Rows.{Rows, Source}

-- a module is stored as the pair of both
abbrev pub source_code : Coded RowKey → Coded Value → Coded Source
source_code key value =
    code_by (List (List ℕ) × Rows) (coded× (coded_list (coded_list coded_ℕ)) (code key (coded_list value))) (λ s. (s.categories, s.rows)) (λ p. record { categories = p.0; rows = p.1 }) (λ _. refl)
