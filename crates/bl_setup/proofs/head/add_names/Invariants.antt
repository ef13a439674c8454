use Rattle.std.proofs.Common.{◌≡◌, ◌++◌, take}
use Rattle.bl_declare.specs.Words.{names_of}
use Rattle.bl_setup.proofs.head.add_names.Given as goal

abbrev pub invariant-loop-word : goal.invariant-loop-word
invariant-loop-word l = l.names.items ≡ l.fn.names.items ++ names_of (take l.word-index l.words)
