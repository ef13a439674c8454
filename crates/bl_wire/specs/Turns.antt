-- What a line is to a session.
use Rattle.std.specs.Prelude.{◌≡◌, ◌≢◌, ℕ, Bool, true, false, List, [], ◌∷◌, Option, Some, None, ⊤}
use Rattle.bl_work.specs.Names.{KnownNames}
use Rattle.bl_work.specs.declared.asked.Line.TheVariants as lines
use Rattle.bl_work.specs.declared.asked.LineFault.TheVariants.{Memory}
use Rattle.bl_work.specs.LineGrammar.{LineOf}
use Rattle.bl_read.specs.LineFaults.{IsLineFault}
use Rattle.bl_work.specs.declared.work.Work.{Work}
use Rattle.bl_wire.specs.Lines.{without_cr, is_blank}
use Rattle.bl_wire.specs.declared.turn.Turn.{Turn}
use Rattle.bl_wire.specs.declared.turn.Turn.TheVariants.{Skip, Wait, Greets, Bad, Ask}

-- the text reads so under these names, or has this fault
abbrev pub IsSaid : KnownNames → List ℕ → Turn → Type 0
IsSaid names text Skip = ⊥
IsSaid names text Wait = LineOf names text lines.Wait
IsSaid names text (Greets subject) = LineOf names text (lines.Hello subject)
IsSaid names text (Bad fault) = IsLineFault names text fault × (fault ≢ Memory)
IsSaid names text (Ask work) = LineOf names text (lines.Work work)

-- a line of blanks alone is skipped; any other is what its text says
abbrev pub IsTurn : KnownNames → List ℕ → Turn → Type 0
IsTurn names line Skip = is_blank (without_cr line) ≡ true
IsTurn names line Wait = (is_blank (without_cr line) ≡ false) × IsSaid names (without_cr line) Wait
IsTurn names line (Greets subject) = (is_blank (without_cr line) ≡ false)
    × IsSaid names (without_cr line) (Greets subject)
IsTurn names line (Bad fault) = (is_blank (without_cr line) ≡ false) × IsSaid names (without_cr line) (Bad fault)
IsTurn names line (Ask work) = (is_blank (without_cr line) ≡ false) × IsSaid names (without_cr line) (Ask work)

-- these are the lines, one by one
abbrev pub AreTurns : KnownNames → List (List ℕ) → List Turn → Type 0
AreTurns names [] [] = Unit {0}
AreTurns names [] (turn ∷ turns) = ⊥
AreTurns names (line ∷ lines) [] = ⊥
AreTurns names (line ∷ lines) (turn ∷ turns) = IsTurn names line turn × AreTurns names lines turns

-- lines that are skipped
abbrev pub AreSkips : List Turn → Type 0
AreSkips [] = Unit {0}
AreSkips (Skip ∷ turns) = AreSkips turns
AreSkips (Wait ∷ turns) = ⊥
AreSkips (Greets subject ∷ turns) = ⊥
AreSkips (Bad fault ∷ turns) = ⊥
AreSkips (Ask work ∷ turns) = ⊥

-- the first line that isn't skipped is there, is refused, and is the last one
abbrev pub IsRefusal : List Turn → Type 0
IsRefusal [] = ⊥
IsRefusal (Skip ∷ turns) = IsRefusal turns
IsRefusal (Greets subject ∷ turns) = ⊥
IsRefusal (Wait ∷ turns) = turns ≡ []
IsRefusal (Bad fault ∷ turns) = turns ≡ []
IsRefusal (Ask work ∷ turns) = turns ≡ []

-- behind a first line that is refused there is none
abbrev pub StopsAtRefusal : List Turn → Type 0
StopsAtRefusal [] = Unit {0}
StopsAtRefusal (Skip ∷ turns) = StopsAtRefusal turns
StopsAtRefusal (Greets subject ∷ turns) = Unit {0}
StopsAtRefusal (Wait ∷ turns) = turns ≡ []
StopsAtRefusal (Bad fault ∷ turns) = turns ≡ []
StopsAtRefusal (Ask work ∷ turns) = turns ≡ []

-- lines that are skipped, and then the one that opens the session
abbrev pub IsOpening : ℕ → List Turn → Type 0
IsOpening subject [] = ⊥
IsOpening subject (Skip ∷ turns) = IsOpening subject turns
IsOpening subject (Greets named ∷ turns) = (named ≡ subject) × (turns ≡ [])
IsOpening subject (Wait ∷ turns) = ⊥
IsOpening subject (Bad fault ∷ turns) = ⊥
IsOpening subject (Ask work ∷ turns) = ⊥

-- no line is `wait`
abbrev pub HasNoWait : List Turn → Type 0
HasNoWait [] = Unit {0}
HasNoWait (Wait ∷ turns) = ⊥
HasNoWait (Skip ∷ turns) = HasNoWait turns
HasNoWait (Greets subject ∷ turns) = HasNoWait turns
HasNoWait (Bad fault ∷ turns) = HasNoWait turns
HasNoWait (Ask work ∷ turns) = HasNoWait turns

abbrev pub is_skip : Turn → Bool
is_skip Skip = true
is_skip Wait = false
is_skip (Greets subject) = false
is_skip (Bad fault) = false
is_skip (Ask work) = false

-- the subject of a `hello`
abbrev pub greeted : Turn → Option ℕ
greeted (Greets subject) = Some subject
greeted Skip = None
greeted Wait = None
greeted (Bad fault) = None
greeted (Ask work) = None

-- what a line asks for is served: the subject of its `hello`, or its work
abbrev pub IsServed : (ℕ → Type 0) → (Work → Type 0) → Turn → Type 0
IsServed Serves Takes Skip = ⊤
IsServed Serves Takes Wait = ⊤
IsServed Serves Takes (Greets subject) = Serves subject
IsServed Serves Takes (Bad fault) = ⊤
IsServed Serves Takes (Ask work) = Takes work

-- whatever a line asks for is served
abbrev pub AreServed : KnownNames → (ℕ → Type 0) → (Work → Type 0) → Type 0
AreServed names Serves Takes = (line : List ℕ) (turn : Turn) → IsTurn names line turn → IsServed Serves Takes turn

-- some line is this turn
abbrev pub StandsIn : KnownNames → Turn → Type 0
StandsIn names turn = (line : List ℕ) × IsTurn names line turn
