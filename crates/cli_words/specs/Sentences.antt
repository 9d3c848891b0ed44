-- What is said on standard error of faults and of the words of the command line.
use Rattle.std.specs.Prelude.{ℕ, List, codes}
use Rattle.ent_wire.specs.declared.fault.ServeFault.{ServeFault}
use Rattle.ent_wire.specs.declared.fault.ServeFault.TheVariants as fault
use Rattle.cli_words.specs.declared.words.WordsFault.{WordsFault}
use Rattle.cli_words.specs.declared.words.WordsFault.TheVariants as words

-- of a fault by which serving or a check ended early
abbrev pub fault_sentence : ServeFault → List ℕ
fault_sentence fault.Read = codes "review: read fault"
fault_sentence fault.Write = codes "review: write fault"
fault_sentence fault.Memory = codes "review: out of memory"

-- where the words of the command line can't be had
abbrev pub words_sentence : WordsFault → List ℕ
words_sentence words.NotText = codes "review: a word of the command line isn't UTF-8"
words_sentence words.Memory = codes "review: out of memory"

-- where standard input is named more than once
abbrev pub input_twice_sentence : List ℕ
input_twice_sentence = codes "review: standard input is named more than once"

-- where a file for JUnit XML can't be meant
abbrev pub junit_sentence : List ℕ
junit_sentence = codes "review: --junit wants a file of its own, and no --list"
