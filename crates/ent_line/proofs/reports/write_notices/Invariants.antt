use Rattle.std.proofs.Common.{◌≡◌, ◌++◌, drop, map}
use Rattle.ent_json.specs.proofs_only.Text.{items_tokens_of}
use Rattle.ent_line.specs.Reports.{notice_data}
use Rattle.ent_line.proofs.reports.write_notices.Given as goal

abbrev pub invariant-loop-notice : goal.invariant-loop-notice
invariant-loop-notice l = l.out ++ items_tokens_of (map notice_data (drop l.notice-index l.notices)) ≡ l.fn.out ++ items_tokens_of (map notice_data l.notices)
