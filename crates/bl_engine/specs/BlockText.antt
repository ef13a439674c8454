-- The text of a block.
use Rattle.std.specs.Prelude.{◌≡◌, ℕ, ◌+◌, List, [], ◌∷◌, ◌++◌, codes}
use Rattle.bl_wire.specs.declared.turn.Turn.{Turn}
use Rattle.bl_wire.specs.declared.turn.Turn.TheVariants.{Skip, Wait, Greets, Bad, Ask}
use Rattle.bl_wire.specs.declared.turn.Pending.{Pending}
use Rattle.bl_wire.specs.declared.turn.Pending.TheVariants.{Again, Refused, Asked}
use Rattle.bl_wire.specs.Texts.{refusal, fault_words}

-- what is kept of the lines of an open block
abbrev pub pending_of : List Turn → List Pending
pending_of [] = []
pending_of (Skip ∷ turns) = pending_of turns
pending_of (Wait ∷ turns) = pending_of turns
pending_of (Greets subject ∷ turns) = Again ∷ pending_of turns
pending_of (Bad fault ∷ turns) = Refused fault ∷ pending_of turns
pending_of (Ask work ∷ turns) = Asked ∷ pending_of turns

-- the replies of a block
abbrev pub reply_to : (ℕ → List ℕ) → ℕ → Pending → List ℕ
reply_to replies ordinal Again = refusal ordinal (codes "hello")
reply_to replies ordinal (Refused fault) = refusal ordinal (fault_words fault)
reply_to replies ordinal Asked = replies ordinal

abbrev pub block_text : (ℕ → List ℕ) → ℕ → List Pending → List ℕ
block_text replies k [] = []
block_text replies k (p ∷ pending) = reply_to replies (k + 1) p ++ block_text replies (k + 1) pending

-- the list begins so
abbrev pub Begins : {A : Type 0} → List A → List A → Type 0
Begins {A} part whole = (rest : List A) × (whole ≡ part ++ rest)
