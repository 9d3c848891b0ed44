-- The orders of the keys of documents and of rows are total.
use Rattle.std.specs.Cmp.{IsTotalOrder}
use Rattle.ent_finder.specs.Rows.{row_cmp}
use Rattle.ent_finder.specs.Slots.{key_cmp}
use Rattle.ent_policy.specs.contracts.key.DocKeyOrd.TheImpl.Laws as documents
use Rattle.ent_finder.specs.contracts.row.RowKeyOrd.TheImpl.Laws as rows

pub key_cmp_total : IsTotalOrder key_cmp
key_cmp_total = documents.total-law

pub row_cmp_total : IsTotalOrder row_cmp
row_cmp_total = rows.total-law
