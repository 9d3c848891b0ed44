use Rattle.std.proofs.Common.{◌∙◌}
use Rattle.ent_dump.specs.Dumped.{dump_data, dump_text}
use Rattle.ent_dump.proofs.Lining.{text_written}
use Rattle.ent_dump.proofs.dump.dump_text.Goals as goal

pub returns : goal.returns
unfolding dump_text
returns g c =
    let state = c.args.review.now.state in
    c.into_string.ensures ∙ text_written (dump_data c.args.version state) _ _ c.in_ok-out.ensures c.in_ok-write_dump.ensures
