-- What steps of an evaluator leave.
use Rattle.std.specs.Prelude.{◌≡◌}
use Rattle.ent_eval.specs.LooksOf.{looks_of}
use Rattle.ent_evaluator.specs.Known.{Knows}
use Rattle.ent_evaluator.specs.Memory.{Remembers}
use Rattle.ent_evaluator.specs.declared.parts.EvaluatorParts.{EvaluatorParts}

-- what is remembered is so over what was held, by the numbers of the questions now
abbrev pub KnowsOver : {A P : Type 0} → EvaluatorParts A P → EvaluatorParts A P → Type 0
KnowsOver old new = Remembers (looks_of old.pdp) new.questions new.memory

-- only what is remembered changed
abbrev pub OnlyMemory : {A P : Type 0} → EvaluatorParts A P → EvaluatorParts A P → Type 0
OnlyMemory old new = new ≡ record old { memory = new.memory }

-- what is held is as before
abbrev pub HoldsSame : {A P : Type 0} → EvaluatorParts A P → EvaluatorParts A P → Type 0
HoldsSame old new = new.pdp ≡ old.pdp

-- only what modules of documents have changed
abbrev pub OnlySlots : {A P : Type 0} → EvaluatorParts A P → EvaluatorParts A P → Type 0
OnlySlots old new = new ≡ record old { pdp = record old.pdp { slots = new.pdp.slots } }

-- only what modules of attributes have changed
abbrev pub OnlySources : {A P : Type 0} → EvaluatorParts A P → EvaluatorParts A P → Type 0
OnlySources old new = new ≡ record old { pdp = record old.pdp { sources = new.pdp.sources } }

-- what is remembered is so over what is held now, if it was so over what was held
abbrev pub StillKnows : {A P : Type 0} → EvaluatorParts A P → EvaluatorParts A P → Type 0
StillKnows old new = Knows old → Knows new

-- only what is held changed, and what is remembered
abbrev pub OnlyHeld : {A P : Type 0} → EvaluatorParts A P → EvaluatorParts A P → Type 0
OnlyHeld old new = new ≡ record old {
  pdp = record old.pdp {
    sources = new.pdp.sources;
    slots = new.pdp.slots;
    root = new.pdp.root;
    environment = new.pdp.environment;
  };
  memory = new.memory;
}
