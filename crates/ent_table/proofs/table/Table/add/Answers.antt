use Rattle.std.proofs.Common.{◌≡◌, ℕ, ◌+◌, List, length, map, None, sym, ap, ◌∙◌, arith}
use Rattle.std.proofs.lemmas.List.{length-map}
use Rattle.ent_cells.specs.Cell.{cell_of}
use Rattle.ent_cells.specs.Shape.{woven}
use Rattle.ent_eval.specs.LooksOf.{looks_of}
use Rattle.ent_table.specs.Names.{Names, triples, with_list}
use Rattle.ent_table.specs.proofs_only.Place.{blocks_of}
use Rattle.ent_table.specs.proofs_only.Table.{behind, requests_with, unanswered}
use Rattle.ent_table.proofs.Named.{added_cells, length-woven}
use Rattle.ent_table.proofs.table.Table.add.Goals as goal

pub returns-in-Ok-clause-olds : goal.returns-in-Ok-clause-olds
returns-in-Ok-clause-olds g c =
    let old = c.args.self.now in
    let list = c.args.list in
    let requests : c.in_ok-requests.requests ≡ requests_with list c.args.name old.names =
    c.in_ok-requests.ensures ∙ ap triples (c.requests_with.ensures ∙ ap (λ (l : List (List ℕ)). with_list list l old.names) c.from_ref.ensures.value) in
    c.in_ok-olds.ensures ∙ ap unanswered (c.as_slice.ensures ∙ requests)

pub returns-in-Ok-clause-room : goal.returns-in-Ok-clause-room
returns-in-Ok-clause-room g c =
    let b = c.behind.result in
    let f = cell_of (looks_of c.args.self.now.cells.evaluator.pdp) in
    let requests = c.in_ok-requests.requests in
    let long : length c.in_ok-olds.olds ≡ length requests = ap length c.in_ok-olds.ensures ∙ length-map c.as_slice.result.now (λ x. record { key = x; answer = None }) ∙ ap length c.as_slice.ensures in
    let cells : length c.add.new.self.kept ≡ length c.args.self.now.cells.kept + length requests =
    ap length c.in-Ok.ensures.ok ∙ length-woven b.count b.width b.each c.args.self.now.cells.kept (map f requests) ∙ ap (λ n. length c.args.self.now.cells.kept + n) (length-map requests f) in
    omega (arith, long, cells, c.len.ensures, c.len-2.ensures, c.in_ok-make_room.ensures.room)

pub returns-in-Ok-clause-ok : goal.returns-in-Ok-clause-ok
returns-in-Ok-clause-ok g c =
    let old = c.args.self.now in
    let list = c.args.list in
    let f = cell_of (looks_of c.args.self.now.cells.evaluator.pdp) in
    let names = c.in_ok-push.ensures.ok in
    let b : c.behind.result ≡ behind list (blocks_of list old.names) = c.behind.ensures ∙ ap (behind list) c.blocks-blocks.ensures.blocks in
    let requests : c.in_ok-requests.requests ≡ requests_with list c.args.name old.names =
    c.in_ok-requests.ensures ∙ ap triples (c.requests_with.ensures ∙ ap (λ (l : List (List ℕ)). with_list list l old.names) c.from_ref.ensures.value) in
    record {
      names = names;
      cells = λ is.
          c.in-Ok.ensures.ok
          ∙ (λ i. woven (b i).count (b i).width (b i).each (is i) (map f (requests i)))
          ∙ added_cells f list old.names c.args.name
          ∙ ap (λ (n : Names). map f (triples n)) (sym names);
    }

pub returns-in-Err-clause-err : goal.returns-in-Err-clause-err
returns-in-Err-clause-err g c = record {
  names = c.undo_push.ensures c.args.self.now.names c.args.name c.in_ok-push.ensures.ok;
  cells = c.in-Err.ensures.err;
}
