-- What is told of rules that gave no decision.
use Rattle.std.specs.Prelude.{ℕ, ◌-◌, Bool, List, [], ◌∷◌, ◌++◌, length, map, codes, decimal, is_some, unwrap_or, if◌then◌else◌}
use Rattle.std.specs.List.{flat_map}
use Rattle.serde_json.specs.Data as json
use Rattle.serde_json.specs.Data.{Data, Members, put}
use Rattle.serde_json.specs.Find.{get_member}
use Rattle.serde_json.specs.View.{items_of}
use Rattle.ent_json.specs.Objects.{text_at}
use Rattle.script_compare.specs.Shown.{members_at, shown_byte}
use Rattle.script_compare.specs.Tables.{names_text}

-- a rule of a policy: the policy's id and version, and its own id
pub record RuleName : Type 0 where
  pub policy : List ℕ
  pub version : List ℕ
  pub rule : List ℕ

-- the text at a key, or none
abbrev pub text_or : List ℕ → Data → List ℕ
text_or key d = unwrap_or (text_at key d) []

-- the name of a rule of a policy
abbrev pub name_of : Data → Data → RuleName
name_of policy rule = record {
  policy = text_or (codes "PolicyId") policy;
  version = text_or (codes "Version") policy;
  rule = text_or (codes "RuleId") rule;
}

-- those of a policy, in the order of the document
abbrev pub rules_of : Data → List RuleName
rules_of policy = map (name_of policy) (members_at (codes "Rule") policy)

-- a rule gave a decision
abbrev pub is_seen : Members → RuleName → Bool
is_seen seen r = is_some (get_member (names_text r.policy r.version r.rule) seen)

-- a rule that gave none
abbrev pub if_unseen : Members → RuleName → List RuleName
if_unseen seen r = if is_seen seen r then [] else r ∷ []

abbrev pub unseen : Members → List RuleName → List RuleName
unseen seen rules = flat_map (if_unseen seen) rules

-- ---- what is told

-- of a rule, as JSON
abbrev pub rule_data : RuleName → Data
rule_data r = json.object (
    put (codes "version") (json.string r.version)
    (put (codes "rule") (json.string r.rule)
    (put (codes "policy") (json.string r.policy) json.no_members)))

-- of so many rules, of which these gave no decision
abbrev pub told_data : ℕ → List RuleName → Data
told_data count rules = json.object (
    put (codes "unseen") (json.array (items_of (map rule_data rules)))
    (put (codes "seen") (json.number (json.unsigned (count - length rules)))
    (put (codes "rules") (json.number (json.unsigned count)) json.no_members)))

-- of a rule, as a line
unfoldable pub rule_text : RuleName → List ℕ
rule_text r = map shown_byte r.policy ++ (codes " " ++ (map shown_byte r.version ++ (codes " > " ++ (map shown_byte r.rule ++ codes "\n"))))

-- of so many rules, of which these gave no decision, as lines
unfoldable pub shown_text : ℕ → List RuleName → List ℕ
shown_text count rules =
    flat_map rule_text rules ++ (decimal (count - length rules) ++ (codes " of " ++ (decimal count ++ codes " rules gave a decision\n")))
