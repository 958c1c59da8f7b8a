use Rattle.std.proofs.Common.{◌≡◌, take}
use Rattle.commands.specs.Plan.{texts_of}
use Rattle.commands.proofs.words.copies.Given as goal

-- the words so far are copied
abbrev pub invariant-loop-word : goal.invariant-loop-word
invariant-loop-word l = l.texts ≡ texts_of (take l.word-index l.words)
