-- What the command line asks for.
use Rattle.std.specs.Prelude.{◌≡◌, ℕ, Bool, List, [], ◌∷◌, length, map, if◌then◌else◌, nat_eq, Option, Some, None, Result, Ok, Err, codes, string_bytes, String}
use Rattle.std.specs.Cmp.Lexicographic.{pointwise}
use Rattle.std.specs.declared.alloc.Global.{Global}
use Rattle.commands.specs.declared.words.ToolPlan.{ToolPlan}
use Rattle.commands.specs.declared.words.ToolPlan.TheVariants.{Check, Show, Canon, Merge, Split}
use Rattle.commands.specs.declared.words.WordReason.TheVariants.{NoCommand, UnknownCommand, MissingWord, ExtraWord, BadNumber}
use Rattle.commands.specs.declared.words.WordRefusal.{WordRefusal}
use Rattle.commands.specs.declared.words.WordRefusal.TheVariants.{Fault, NoMemory}
use Rattle.commands.specs.Limits.{limit_in}
use Rattle.commands.specs.PartNames.{part_names}

-- the command line as texts
abbrev pub texts_of : List (String Global) → List (List ℕ)
texts_of words = map string_bytes words

-- whether a word is this name
abbrev pub is_word : List ℕ → List ℕ → Bool
is_word word name = pointwise nat_eq word name

-- a command that takes any number of words, but one at least
abbrev pub some_words : (List (List ℕ) → ToolPlan) → List (List ℕ) → Result ToolPlan WordRefusal
some_words make [] = Err (Fault 1 MissingWord)
some_words make (a ∷ more) = Ok (make (a ∷ more))

-- a command that takes exactly one word
abbrev pub one_word : (List ℕ → ToolPlan) → List (List ℕ) → Result ToolPlan WordRefusal
one_word make [] = Err (Fault 1 MissingWord)
one_word make (a ∷ []) = Ok (make a)
one_word make (a ∷ b ∷ more) = Err (Fault 2 ExtraWord)

-- a command that takes exactly two words
abbrev pub two_words : (List ℕ → List ℕ → ToolPlan) → List (List ℕ) → Result ToolPlan WordRefusal
two_words make [] = Err (Fault 1 MissingWord)
two_words make (a ∷ []) = Err (Fault 2 MissingWord)
two_words make (a ∷ b ∷ []) = Ok (make a b)
two_words make (a ∷ b ∷ c ∷ more) = Err (Fault 3 ExtraWord)

-- a command that takes one word, and then any number of words, but one at least
abbrev pub word_and_some : (List ℕ → List (List ℕ) → ToolPlan) → List (List ℕ) → Result ToolPlan WordRefusal
word_and_some make [] = Err (Fault 1 MissingWord)
word_and_some make (a ∷ []) = Err (Fault 2 MissingWord)
word_and_some make (a ∷ b ∷ more) = Ok (make a (b ∷ more))

-- a command that takes the limit of a part, which is the word at place 1, and then other words
abbrev pub with_limit : Option ℕ → (ℕ → ToolPlan) → Result ToolPlan WordRefusal
with_limit (Some limit) make = Ok (make limit)
with_limit None make = Err (Fault 1 BadNumber)

-- a command that takes the limit of a part, one word, and then any number of words, but one at least
abbrev pub limit_word_and_some : (ℕ → List ℕ → List (List ℕ) → ToolPlan) → List (List ℕ) → Result ToolPlan WordRefusal
limit_word_and_some make [] = Err (Fault 1 MissingWord)
limit_word_and_some make (a ∷ []) = Err (Fault 2 MissingWord)
limit_word_and_some make (a ∷ b ∷ []) = Err (Fault 3 MissingWord)
limit_word_and_some make (a ∷ b ∷ c ∷ more) = with_limit (limit_in a) (λ limit. make limit b (c ∷ more))

-- what the command line asks for, or what is wrong with it; one line a command
abbrev pub planned : List (List ℕ) → Result ToolPlan WordRefusal
planned [] = Err (Fault 0 NoCommand)
planned (command ∷ rest) =
    if is_word command (codes "check") then some_words Check rest
    else if is_word command (codes "show") then one_word Show rest
    else if is_word command (codes "canon") then two_words Canon rest
    else if is_word command (codes "merge") then word_and_some Merge rest
    else if is_word command (codes "split") then limit_word_and_some Split rest
    else Err (Fault 0 UnknownCommand)

-- the files that a plan reads, in order; one line a command
abbrev pub inputs : ToolPlan → List (List ℕ)
inputs (Check files) = files
inputs (Show file) = file ∷ []
inputs (Canon file target) = file ∷ []
inputs (Merge target files) = files
inputs (Split limit prefix files) = files

-- these are the names of the files that a plan writes, in order; one line a command
abbrev pub HasTargets : ToolPlan → List (List ℕ) → Type 0
HasTargets (Check files) names = names ≡ []
HasTargets (Show file) names = names ≡ []
HasTargets (Canon file target) names = names ≡ target ∷ []
HasTargets (Merge target files) names = names ≡ target ∷ []
HasTargets (Split limit prefix files) names = names ≡ part_names prefix (length names)

-- the refusal is the one that is wanted, or out of memory
abbrev pub IsWordRefusal : Result ToolPlan WordRefusal → WordRefusal → Type 0
IsWordRefusal want (Fault place reason) = want ≡ Err (Fault place reason)
IsWordRefusal want NoMemory = Unit {0}
