use Rattle.std.proofs.Common.{◌++◌, filter_map}
use Rattle.ent_json.specs.proofs_only.Text.{items_tokens_of}
use Rattle.ent_profile.specs.Response.{category_written}
use Rattle.ent_profile.proofs.TokenLemmas.{kept_on}
use Rattle.ent_profile.proofs.included_text.write_each_category.Goals as goal

pub loop-category-preserved : goal.loop-category-preserved
loop-category-preserved c =
    rw (c.in_ok-write_category.ensures) (kept_on category_written c.loop-category.out c.args.categories.now c.loop-category.category-index c.category-item.result (c.args.out.now ++ items_tokens_of (filter_map category_written c.args.categories.now)) c.loop-category-test.true c.category-item.is c.loop-category.invariant)
