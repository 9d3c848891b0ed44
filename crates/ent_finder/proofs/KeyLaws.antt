-- The order of keys field by field, and that `==` decides whether two are the same.
use Rattle.std.proofs.Common.{◌≡◌, ℕ, List, Option, Some, None, refl, ap}
use Rattle.std.specs.Bool.{Decides}
use Rattle.std.specs.Option.{option_cmp}
use Rattle.std.proofs.lemmas.Slice.Eq.{bytes_eq-Decides}
use Rattle.ent_values.proofs.Values.{same_type-Decides}
use Rattle.ent_values.proofs.Telling.{decided, decides, last, maybe, more, struct}
use Rattle.ent_finder.specs.LawOfKeys.{in_turn, issuer_order, row_order, same_attr_key, same_row_key, text_order, wanted_cmp, wanted_key_order}
use Rattle.ent_values.specs.Order.{type_cmp}
use Rattle.ent_finder.specs.Rows.{row_cmp}
use Rattle.ent_finder.specs.contracts.row.AttrKey as attr_key
use Rattle.ent_finder.specs.contracts.row.AttrKeyEq.TheImpl.Laws as attr_keys
use Rattle.ent_finder.specs.contracts.row.RowKey as row_key
use Rattle.ent_finder.specs.contracts.row.RowKeyEq.TheImpl.Laws as row_keys
use Rattle.ent_finder.specs.declared.row.AttrKey.{AttrKey}
use Rattle.ent_finder.specs.declared.row.RowKey.{RowKey}

issuers : (a b : Option (List ℕ)) → option_cmp text_order a b ≡ issuer_order a b
issuers None None = refl
issuers None (Some b) = refl
issuers (Some a) None = refl
issuers (Some a) (Some b) = refl

pub row_cmp-row_order : (a b : RowKey) → row_cmp a b ≡ row_order a b
row_cmp-row_order a b =
    ap (in_turn (text_order a.category b.category) (text_order a.entity b.entity) (text_order a.attribute b.attribute) (type_cmp a.datatype b.datatype)) (issuers a.issuer b.issuer)

pub wanted_cmp-wanted_key_order : (a b : AttrKey) → wanted_cmp a b ≡ wanted_key_order a b
wanted_cmp-wanted_key_order a b =
    ap (in_turn (text_order a.category b.category) (text_order a.entity b.entity) (text_order a.attribute b.attribute) (type_cmp a.datatype b.datatype)) (issuers a.issuer b.issuer)

pub same_row_key-Decides : (a b : RowKey) → Decides (same_row_key a b) (a ≡ b)
same_row_key-Decides =
    decides row_keys.laws-law (struct row_key.struct row_key.the_propositions (more (decided bytes_eq-Decides) (more (decided bytes_eq-Decides) (more (decided bytes_eq-Decides) (more (decided same_type-Decides) (last (maybe (decided bytes_eq-Decides))))))))

pub same_attr_key-Decides : (a b : AttrKey) → Decides (same_attr_key a b) (a ≡ b)
same_attr_key-Decides =
    decides attr_keys.laws-law (struct attr_key.struct attr_key.the_propositions (more (decided bytes_eq-Decides) (more (decided bytes_eq-Decides) (more (decided bytes_eq-Decides) (more (decided same_type-Decides) (last (maybe (decided bytes_eq-Decides))))))))
