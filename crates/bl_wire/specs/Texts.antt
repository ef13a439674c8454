-- What is written for the lines of a session's input.
use Rattle.std.specs.Prelude.{ℕ, ◌+◌, List, [], ◌∷◌, ◌++◌, codes, decimal}
use Rattle.bl_work.specs.declared.asked.LineFault.{LineFault}
use Rattle.bl_work.specs.declared.asked.LineFault.TheVariants.{Long, Syntax, Deep, Many, Unknown, Twice, Mode, Memory}
use Rattle.bl_wire.specs.declared.turn.Turn.{Turn}
use Rattle.bl_wire.specs.declared.turn.Turn.TheVariants.{Skip, Wait, Greets, Bad, Ask}

-- the words for a line's fault; that of memory has none, and no reply names it
abbrev pub fault_words : LineFault → List ℕ
fault_words Long = codes "long"
fault_words (Syntax byte) = codes "syntax " ++ decimal byte
fault_words Deep = codes "deep"
fault_words Many = codes "many"
fault_words (Unknown name) = codes "unknown " ++ name
fault_words (Twice name) = codes "twice " ++ name
fault_words (Mode name) = codes "mode " ++ name
fault_words Memory = []

-- the reply to a line that is refused
abbrev pub refusal : ℕ → List ℕ → List ℕ
refusal ordinal words = decimal ordinal ++ codes " refused " ++ words ++ codes "\n"

abbrev pub ok_line : List ℕ
ok_line = codes "ok\n"

abbrev pub bye_line : List ℕ
bye_line = codes "bye\n"

abbrev pub refused_hello : List ℕ
refused_hello = codes "refused hello\n"

-- the replies to the lines after an ordinal, those to the works of an ordinal being given
abbrev pub text_of : (ℕ → List ℕ) → ℕ → List Turn → List ℕ
text_of replies k [] = []
text_of replies k (Skip ∷ turns) = text_of replies k turns
text_of replies k (Wait ∷ turns) = ok_line ++ text_of replies k turns
text_of replies k (Greets subject ∷ turns) = refusal (k + 1) (codes "hello") ++ text_of replies (k + 1) turns
text_of replies k (Bad fault ∷ turns) = refusal (k + 1) (fault_words fault) ++ text_of replies (k + 1) turns
text_of replies k (Ask work ∷ turns) = replies (k + 1) ++ text_of replies (k + 1) turns

-- the last ordinal
abbrev pub ordinal_after : ℕ → List Turn → ℕ
ordinal_after k [] = k
ordinal_after k (Skip ∷ turns) = ordinal_after k turns
ordinal_after k (Wait ∷ turns) = ordinal_after k turns
ordinal_after k (Greets subject ∷ turns) = ordinal_after (k + 1) turns
ordinal_after k (Bad fault ∷ turns) = ordinal_after (k + 1) turns
ordinal_after k (Ask work ∷ turns) = ordinal_after (k + 1) turns

-- The first line that isn't skipped opens the session, or is refused and ends it; without one there is only `bye`.
abbrev pub session_text : (ℕ → List ℕ) → List Turn → List ℕ
session_text replies [] = bye_line
session_text replies (Skip ∷ turns) = session_text replies turns
session_text replies (Greets subject ∷ turns) = ok_line ++ (text_of replies 0 turns ++ bye_line)
session_text replies (Wait ∷ turns) = refused_hello ++ bye_line
session_text replies (Bad fault ∷ turns) = refused_hello ++ bye_line
session_text replies (Ask work ∷ turns) = refused_hello ++ bye_line
