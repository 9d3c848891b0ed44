use Rattle.std.proofs.Common.{◌≡◌, ◌++◌, drop, filter_map}
use Rattle.ent_json.specs.proofs_only.Text.{items_tokens_of}
use Rattle.ent_profile.specs.Response.{category_written}
use Rattle.ent_profile.proofs.included_text.write_each_category.Given as goal

abbrev pub invariant-loop-category : goal.invariant-loop-category
invariant-loop-category l = l.out ++ items_tokens_of (filter_map category_written (drop l.category-index l.categories)) ≡ l.fn.out ++ items_tokens_of (filter_map category_written l.categories)
