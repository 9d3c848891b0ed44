-- How cells are stored.
use Rattle.std.specs.Prelude.{Bool, List, refl, Option}
use Rattle.std.specs.Coded.{Coded, code_by, coded×, coded_bool, coded_list, coded_option}
use Rattle.slab.specs.Slab.{Slab, slab_code}
use Rattle.ent_request.specs.declared.answer.Answer.{Answer}
use Rattle.ent_request.specs.declared.key.ReadKey.{ReadKey}
use Rattle.ent_eval.specs.Evaluator.{Evaluator}
use Rattle.ent_eval.specs.proofs_only.Codes.{evaluator_code}
use Rattle.ent_eval.specs.declared.who.Who.{Who}
use Rattle.ent_cells.specs.Cell.{Cells, Kept, Said}
use Rattle.ent_cells.specs.Entries.{Entry, Stored}

-- what is said is stored as answer, keys and mark, a cell as the pair of request and that
abbrev pub said_code : Coded Answer → Coded ReadKey → Coded Said
said_code answers keys =
    code_by (Answer × (List ReadKey × Bool)) (coded× answers (coded× (coded_list keys) coded_bool)) (λ s. (s.answer, (s.reads, s.failed))) (λ p. record { answer = p.0; reads = p.1.0; failed = p.1.1 }) (λ _. refl)

abbrev pub kept_code : Coded Who → Coded Answer → Coded ReadKey → Coded Kept
kept_code whos answers keys = code_by (Who × Said) (coded× whos (said_code answers keys)) (λ e. (e.who, e.said)) (λ p. record { who = p.0; said = p.1 }) (λ _. refl)

-- an entry is stored as the pair of both
abbrev pub entry_code : Coded Who → Coded Answer → Coded ReadKey → Coded Entry
entry_code whos answers keys =
    code_by (Kept × Option Said) (coded× (kept_code whos answers keys) (coded_option (said_code answers keys))) (λ e. (e.kept, e.next)) (λ p. record { kept = p.0; next = p.1 }) (λ _. refl)

-- what is stored, as the pair of both
abbrev pub stored_code : Coded Who → Coded Answer → Coded ReadKey → Coded Stored
stored_code whos answers keys =
    code_by (Slab Entry × Evaluator) (coded× (slab_code (entry_code whos answers keys)) evaluator_code) (λ s. (s.cells, s.evaluator)) (λ p. record { cells = p.0; evaluator = p.1 }) (λ _. refl)

-- cells in list order and their evaluator, as the pair of both
abbrev pub cells_code : Coded Who → Coded Answer → Coded ReadKey → Coded Cells
cells_code whos answers keys =
    code_by (List Kept × Evaluator) (coded× (coded_list (kept_code whos answers keys)) evaluator_code) (λ c. (c.kept, c.evaluator)) (λ p. record { kept = p.0; evaluator = p.1 }) (λ _. refl)
