-- The text of an explanation, part for part, and what it tells of a cell and of a request.
use Rattle.std.proofs.Common.{◌≡◌, ◌∙◌, ℕ, Bool, List, [], ◌∷◌, ◌++◌, true, Some, None, Ok, ap, append_assoc, codes, decimal, sym}
use Rattle.std.specs.Prelude.{if◌then◌else◌}
use Rattle.json.specs.Print.{print}
use Rattle.json.specs.Token as token
use Rattle.json.specs.Token.{Token}
use Rattle.serde_json.specs.Data.{Data}
use Rattle.serde_json.specs.Written.{compact_text}
use Rattle.ent_walk.specs.Answer.{recorded}
use Rattle.ent_request.specs.Held.{Held, looks_in}
use Rattle.ent_request.specs.Listed.{listed}
use Rattle.ent_request.specs.declared.answer.Answer.{Answer}
use Rattle.ent_request.specs.declared.cause.Cause.{Cause}
use Rattle.ent_request.specs.declared.key.ReadKey.{ReadKey}
use Rattle.ent_request.specs.declared.request.Request.{Request}
use Rattle.ent_telling.specs.Causes.{causes_data, untold}
use Rattle.ent_telling.specs.Facts.{facts_data}
use Rattle.ent_json.specs.Text.{tokens_of}
use Rattle.ent_table.specs.Ask.{answer_in}
use Rattle.ent_table.specs.Names.{Triple, is_listed}
use Rattle.ent_table.specs.State.{State, answer_at, answer_to}
use Rattle.ent_line.specs.Cells.{cell_data}
use Rattle.ent_line.specs.Commands.{cell_explained, told_or}
use Rattle.ent_line.specs.Explained.{causes_in, causes_of, explained_reply, facts_of}
use Rattle.ent_line.specs.Replies.{answered, text}
use Rattle.ent_wire.specs.declared.refusal.Refusal.TheVariants.{NotThere}
use Rattle.ent_line.proofs.TextLemmas.{joined, written}

-- the tokens up to the answer, and those behind it
abbrev pub front_tokens : List Token
front_tokens = token.begin_object ∷ token.key (codes "explain") ∷ token.begin_object ∷ token.key (codes "answer") ∷ []

abbrev pub more_tokens : List Cause → List Token
more_tokens causes = token.key (codes "more") ∷ token.number (decimal (untold causes)) ∷ []

abbrev pub end_tokens : List Cause → Data → List Token
end_tokens causes told =
    token.key (codes "causes") ∷ (tokens_of (causes_data causes)
    ++ token.key (codes "facts") ∷ (tokens_of told ++ (more_tokens causes ++ token.end_object ∷ token.end_object ∷ [])))

explained_tokens : (answer : Data) (causes : List Cause) (told : Data)
    → tokens_of (explained_reply answer causes told) ≡ front_tokens ++ (tokens_of answer ++ end_tokens causes told)
unfolding explained_reply
explained_tokens answer causes told =
    let counted = more_tokens causes ++ token.end_object ∷ [] in
    let behind = token.key (codes "facts") ∷ (tokens_of told ++ counted) in
    ap (λ ts. front_tokens ++ ts)
    (append_assoc (tokens_of answer) (token.key (codes "causes") ∷ (tokens_of (causes_data causes) ++ behind)) (token.end_object ∷ [])
    ∙ ap (λ ts. tokens_of answer ++ token.key (codes "causes") ∷ ts) (append_assoc (tokens_of (causes_data causes)) behind (token.end_object ∷ [])
    ∙ ap (λ ts. tokens_of (causes_data causes) ++ token.key (codes "facts") ∷ ts) (append_assoc (tokens_of told) counted (token.end_object ∷ []))))

-- what was written so is the text
pub explained_written : (answer : Data) (causes : List Cause) (told : Data) (empty begun answered out : List Token) → empty ≡ []
    → begun ≡ empty ++ front_tokens → answered ≡ begun ++ tokens_of answer → out ≡ answered ++ end_tokens causes told
    → print out ≡ compact_text (explained_reply answer causes told)
explained_written answer causes told empty begun answered out start begins answers ends =
    written (explained_reply answer causes told) empty out start
    (joined empty begun out front_tokens (tokens_of answer ++ end_tokens causes told) begins
    (joined begun answered out (tokens_of answer) (end_tokens causes told) answers ends)
    ∙ ap (λ ts. empty ++ ts) (sym (explained_tokens answer causes told)))

-- the answer that the table has to a request that is listed
listed_answer : (s : State) (x : Triple) → is_listed s.names x ≡ true → answer_at s x ≡ Some (answer_to s x)
listed_answer s x there = λ i. if there i then Some (answer_to s x) else None

-- what is told of it
listed_explained : (whole : Bool) (s : State) (x : Triple) → is_listed s.names x ≡ true
    → cell_explained whole s x ≡ Ok (explained_reply (cell_data (x, answer_to s x)) (causes_of s.held x) (facts_of whole s.held x))
unfolding cell_explained
listed_explained whole s x there =
    let explained : Answer → Data = λ answer. explained_reply (cell_data (x, answer)) (causes_of s.held x) (facts_of whole s.held x) in
    ap (told_or NotThere explained) (listed_answer s x there)

module _ (whole : Bool) (s : State) (request : Request) (answer : Answer) (causes : List Cause) (reads : List ReadKey) (held : Held) (said : List ℕ) where
  -- what is told of the cell of a request by its evaluation
  pub cell_said : (x : Triple) → is_listed s.names x ≡ true → request ≡ listed x.person x.action x.resource → answer ≡ answer_in s request
      → causes ≡ causes_in s.held request → reads ≡ recorded (looks_in s.held) request → held ≡ s.held
      → said ≡ compact_text (explained_reply (cell_data (x, answer)) causes (facts_data whole held reads))
      → text said ≡ answered (cell_explained whole s x)
  cell_said x there is gives fails rests same tells =
      let told : answer ≡ answer_to s x = gives ∙ ap (answer_in s) is in
      let failed : causes ≡ causes_of s.held x = fails ∙ ap (causes_in s.held) is in
      let looked : reads ≡ recorded (looks_in s.held) (listed x.person x.action x.resource) = rests ∙ ap (recorded (looks_in s.held)) is in
      ap text (tells ∙ (λ i. compact_text (explained_reply (cell_data (x, told i)) (failed i) (facts_data whole (same i) (looked i)))))
      ∙ ap answered (sym (listed_explained whole s x there))
