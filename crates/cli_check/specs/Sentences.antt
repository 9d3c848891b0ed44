-- What is said on standard error of what is checked.
use Rattle.std.specs.Prelude.{ℕ, List, codes}
use Rattle.ent_policy.specs.declared.fault.DocFault.{DocFault}
use Rattle.ent_policy.specs.declared.fault.DocFault.TheVariants.{Form, Identifier, Version, Algorithm, Function, Variable, Size, Depth, «Type»}
use Rattle.cli_check.specs.declared.checking.FileFault.{FileFault}
use Rattle.cli_check.specs.declared.checking.FileFault.TheVariants.{TooLong, NotJson, Document}
use Rattle.cli_check.specs.declared.declaring.DeclaredFault.{DeclaredFault}
use Rattle.cli_check.specs.declared.declaring.DeclaredFault.TheVariants as declared

-- of the first fault of a document in a file
abbrev pub document_sentence : DocFault → List ℕ
document_sentence Form = codes "review: a key is unknown or missing, or what stands at it has the wrong form"
document_sentence Identifier = codes "review: an identifier is empty or has more than 256 bytes, or two rules of a policy have the same one"
document_sentence Version = codes "review: a version isn't 1 to 8 numbers of at most 9 digits with dots between them, or a version pattern can't be read"
document_sentence Algorithm = codes "review: a rule or policy combining algorithm is unknown"
document_sentence Function = codes "review: a function is unknown"
document_sentence Variable = codes "review: a variable is defined twice, not at all, or through itself"
document_sentence Size = codes "review: a list has more than 256 members, or the document more than 65,536 expressions or 32 references"
document_sentence Depth = codes "review: expressions or policy sets nest more than 16 deep"
document_sentence «Type» = codes "review: a data type is unknown, a value isn't of its type, or an expression has the wrong type"

-- of a file that is refused
abbrev pub file_sentence : FileFault → List ℕ
file_sentence TooLong = codes "review: the file has more than 1048576 bytes"
file_sentence NotJson = codes "review: the file isn't JSON"
file_sentence (Document e) = document_sentence e

-- of a document that asks for an attribute, or compares with a value, which isn't declared
abbrev pub undeclared_sentence : List ℕ
undeclared_sentence = codes "review: the document asks for an attribute, or compares with a value, that isn't declared"

-- of lines with which something is wrong
abbrev pub line_sentence : List ℕ
line_sentence = codes "review: something is wrong with a line"

-- where lines are named, and no attributes
abbrev pub lines_alone_sentence : List ℕ
lines_alone_sentence = codes "review: --lines compares with the attributes of --attributes"

-- of a file of declared attributes that can't be used
abbrev pub declared_sentence : DeclaredFault → List ℕ
declared_sentence declared.TooLong = codes "review: the file of attributes has more than 1048576 bytes"
declared_sentence declared.NotJson = codes "review: the file of attributes isn't JSON"
declared_sentence (declared.Attributes e) = codes "review: the file of attributes hasn't the form of one"

-- of a file of a state that can't be used
abbrev pub state_sentence : List ℕ
state_sentence = codes "review: the file of the state hasn't the lines of a dump"

-- where the folders that are named have no documents
abbrev pub no_files_sentence : List ℕ
no_files_sentence = codes "review: no file there ends in .json"
