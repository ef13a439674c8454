-- How far a conversation has come.
use Rattle.std.specs.Prelude.{◌≡◌, ℕ, ◌+◌, ◌*◌, ◌-◌, ◌<◌, ◌≤◌, ◌⊎◌, Bool, true, false, List, [], ◌∷◌, ◌++◌, length}
use Rattle.std.specs.Prelude.{drop, Option, Some, None, IfSome, replicate, ⊤}
use Rattle.bl_work.specs.Names.{KnownNames}
use Rattle.bl_wire.specs.HoldsLine.{HoldsLine}
use Rattle.bl_wire.specs.declared.held.Held.{Held}
use Rattle.bl_wire.specs.Lines.{lines_of, AreLines, HasNoLf}
use Rattle.bl_wire.specs.Texts.{text_of, session_text, ordinal_after, ok_line, bye_line, refused_hello}
use Rattle.bl_wire.specs.Turns.{AreTurns, AreSkips, IsTurn, IsOpening, IsRefusal, StopsAtRefusal, HasNoWait, StandsIn}
use Rattle.bl_wire.specs.Watch.{EndState, Puts}
use Rattle.bl_wire.specs.declared.turn.Pending.{Pending}
use Rattle.bl_wire.specs.declared.turn.Turn.{Turn}
use Rattle.bl_wire.specs.declared.turn.Turn.TheVariants.{Skip, Wait, Greets, Bad, Ask}
use Rattle.bl_engine.specs.Requests.{Request, Opens, Admits, Settles, told_of, told_by}
use Rattle.bl_engine.specs.BlockText.{pending_of, block_text, Begins}
use Rattle.bl_engine.specs.Outcome.{AreWhole, AreWholeBefore, IsDue, refused_sessions}
use Rattle.bl_engine.specs.Parts.{SameWithin}
use Rattle.bl_engine.specs.declared.conversation.Opening.{Opening}
use Rattle.bl_engine.specs.declared.conversation.Opening.TheVariants.{Open, Full}
use Rattle.bl_engine.specs.declared.conversation.Conversation.{Conversation}
use Rattle.bl_engine.specs.declared.conversation.Need.{Need}
use Rattle.bl_engine.specs.declared.conversation.Need.TheVariants as needs
use Rattle.bl_engine.specs.declared.conversation.Stage.{Stage}
use Rattle.bl_engine.specs.declared.conversation.Stage.TheVariants as stages
use Rattle.bl_engine.specs.declared.conversation.Closing.{Closing}
use Rattle.bl_engine.specs.declared.conversation.Closing.TheVariants.{GoesOn, Ends, RefusesHello, FindsFull}

-- what the machine gives: how it takes the subject, and the text of the replies to each ordinal
pub record Given : Type 0 where
  pub opening : Opening
  pub replies : ℕ → List ℕ

-- what is waited for by who hears lines, before the end of the input and after it
abbrev pub input_need : Bool → Need
input_need false = needs.Input
input_need true = needs.End

-- what is waited for at a stage
abbrev pub need_at : Bool → Stage → Need
need_at ended stages.Greets = input_need ended
need_at ended stages.Opens = needs.Opening
need_at ended stages.Listens = input_need ended
need_at ended (stages.Settles closing) = needs.Replies
need_at ended (stages.Tells closing) = needs.Room
need_at ended stages.Over = needs.Over

abbrev pub need_of : Conversation → Need
need_of conv = need_at conv.ended conv.stage

-- it hears lines
abbrev pub is_hearing : Stage → Bool
is_hearing stages.Greets = true
is_hearing stages.Opens = false
is_hearing stages.Listens = true
is_hearing (stages.Settles closing) = false
is_hearing (stages.Tells closing) = false
is_hearing stages.Over = false

-- the words that close what is told
abbrev pub words_of : Closing → List ℕ
words_of GoesOn = ok_line
words_of Ends = bye_line
words_of RefusesHello = refused_hello ++ bye_line
words_of FindsFull = refused_sessions ++ bye_line

-- what is told where no session can be opened, and what is asked
abbrev pub full_text : List Turn → List ℕ
full_text [] = bye_line
full_text (Skip ∷ turns) = full_text turns
full_text (Greets subject ∷ turns) = refused_sessions ++ bye_line
full_text (Wait ∷ turns) = refused_hello ++ bye_line
full_text (Bad fault ∷ turns) = refused_hello ++ bye_line
full_text (Ask work ∷ turns) = refused_hello ++ bye_line

abbrev pub full_asked : List Turn → List Request
full_asked [] = []
full_asked (Skip ∷ turns) = full_asked turns
full_asked (Greets subject ∷ turns) = Opens subject ∷ []
full_asked (Wait ∷ turns) = []
full_asked (Bad fault ∷ turns) = []
full_asked (Ask work ∷ turns) = []

-- all that is told for these lines and the end after them, and all that is asked
abbrev pub whole_text : Opening → (ℕ → List ℕ) → List Turn → List ℕ
whole_text Open replies turns = session_text replies turns
whole_text Full replies turns = full_text turns

abbrev pub whole_asked : Opening → List Turn → List Request
whole_asked Open turns = told_by turns
whole_asked Full turns = full_asked turns

-- the block of a conversation: the last ordinal before it, its lines, how many of them were told, and whether the input
-- is at its end
pub record Talk : Type 0 where
  pub ended : Bool
  pub after : ℕ
  pub pending : List Pending
  pub line : ℕ

abbrev pub talk_of : Conversation → Talk
talk_of conv = record { ended = conv.ended; after = conv.after; pending = conv.pending.items; line = conv.line }

-- the last ordinal of the block
abbrev pub last_ordinal : Conversation → ℕ
last_ordinal conv = conv.after + length conv.pending.items

-- what is still to be told of a block, and with the words that close it
abbrev pub lines_left : (ℕ → List ℕ) → Talk → List ℕ
lines_left left talk = block_text left (talk.after + talk.line) (drop talk.line talk.pending)

abbrev pub owed : (ℕ → List ℕ) → Talk → Closing → List ℕ
owed left talk closing = lines_left left talk ++ words_of closing

-- these are the lines of the bytes: of all of them, or whatever comes after them
abbrev pub AreSo : Bool → List ℕ → List (List ℕ) → Type 0
AreSo true bytes lines = lines_of bytes ≡ lines
AreSo false bytes lines = AreLines bytes lines

-- what is held of a line that has begun: nothing is held where none has
abbrev pub HoldsBegun : Option Held → List ℕ → Type 0
HoldsBegun None line = line ≡ []
HoldsBegun (Some held) line = (0 < length line) × HoldsLine held line

-- These turns are the whole lines of what was heard, and what has begun after them is held.
pub record HasHeard (names : KnownNames) (conv : Conversation) (turns : List Turn) (heard : List ℕ) : Type 0 where
  pub whole : List ℕ
  pub rest : List ℕ
  pub lines : List (List ℕ)
  pub split : heard ≡ whole ++ rest
  pub cut : AreSo conv.ended whole lines
  pub are : AreTurns names lines turns
  pub plain : HasNoLf rest
  pub holds : HoldsBegun conv.held rest
  pub none : (need_of conv ≡ needs.Input → ⊥) → rest ≡ []
  pub count : conv.left + length heard ≡ 16777216

-- no block has begun
pub record IsFresh (talk : Talk) : Type 0 where
  pub after : talk.after ≡ 0
  pub pending : talk.pending ≡ []
  pub line : talk.line ≡ 0

-- only lines that are skipped were heard
pub record IsSilent (talk : Talk) (turns : List Turn) (asked : List Request) (said : List ℕ) : Type 0 where
  pub fresh : IsFresh talk
  pub skips : AreSkips turns
  pub none : asked ≡ []
  pub quiet : said ≡ []

-- the last line was the subject's `hello`
pub record HasGreeted (talk : Talk) (turns : List Turn) (asked : List Request) (said : List ℕ) : Type 0 where
  pub fresh : IsFresh talk
  pub subject : ℕ
  pub opened : IsOpening subject turns
  pub asked_is : asked ≡ Opens subject ∷ []
  pub quiet : said ≡ []

-- The session is open. All blocks before the open one were told whole, and nothing of that, after which these turns
-- stand.
pub record IsOpen (given : Given) (talk : Talk) (behind turns : List Turn) (asked : List Request)
    (said : List ℕ) : Type 0 where
  pub is_open : given.opening ≡ Open
  pub subject : ℕ
  pub head : List Turn
  pub done : List Turn
  pub block : List Turn
  pub split : turns ≡ head ++ (done ++ (block ++ behind))
  pub opened : IsOpening subject head
  pub pending : talk.pending ≡ pending_of block
  pub in_block : HasNoWait block
  pub count : talk.after ≡ ordinal_after 0 done
  pub line : talk.line ≡ 0
  pub asked_is : asked ≡ Opens subject ∷ told_of 0 (done ++ (block ++ behind))
  pub said_is : said ≡ ok_line ++ text_of given.replies 0 done

-- all blocks were told whole, but perhaps one that the last line closes, and more may have been told
abbrev pub TellsWhole : (ℕ → List ℕ) → List Turn → List ℕ → Type 0
TellsWhole replies turns said = (before : List ℕ) × AreWholeBefore replies turns before × Begins before said

-- The session is open, and what was told and what is still to be told are the text of all its lines.
pub record IsTelling (given : Given) (talk : Talk) (turns : List Turn) (asked : List Request)
    (said rest : List ℕ) : Type 0 where
  pub is_open : given.opening ≡ Open
  pub subject : ℕ
  pub head : List Turn
  pub done : List Turn
  pub split : turns ≡ head ++ done
  pub opened : IsOpening subject head
  pub count : talk.after + length talk.pending ≡ ordinal_after 0 done
  pub asked_is : asked ≡ Opens subject ∷ told_of 0 done
  pub text : said ++ rest ≡ ok_line ++ text_of given.replies 0 done
  pub blocks : TellsWhole given.replies turns said

-- why a conversation ends: its input has, its first line was refused, or there were as many sessions as there may be
abbrev pub IsWhy : Closing → Given → Bool → List Turn → Type 0
IsWhy GoesOn given ended turns = ⊥
IsWhy Ends given ended turns = ended ≡ true
IsWhy RefusesHello given ended turns = IsRefusal turns
IsWhy FindsFull given ended turns = (given.opening ≡ Full) × ((subject : ℕ) × IsOpening subject turns)

-- What was told and what is still to be told are all that is told, and all was asked.
pub record IsEnding (given : Given) (closing : Closing) (ended : Bool) (turns : List Turn) (asked : List Request)
    (said rest : List ℕ) : Type 0 where
  pub why : IsWhy closing given ended turns
  pub stops : StopsAtRefusal turns
  pub asked_is : asked ≡ whole_asked given.opening turns
  pub text : said ++ rest ≡ whole_text given.opening given.replies turns
  pub blocks : TellsWhole given.replies turns said

-- the block waits for its replies: it was closed by a `wait`, or by the end of the input
abbrev pub IsSettling : Closing → Given → Talk → List Turn → List Request → List ℕ → Type 0
IsSettling GoesOn given talk turns asked said = IsOpen given talk (Wait ∷ []) turns asked said
IsSettling Ends given talk turns asked said =
    (talk.ended ≡ true) × ((before : List Request) × (asked ≡ before ++ Settles ∷ [])
    × IsOpen given talk [] turns before said)
IsSettling RefusesHello given talk turns asked said = ⊥
IsSettling FindsFull given talk turns asked said = ⊥

-- so much is told, and then these words
abbrev pub IsToldTo : Closing → Given → (ℕ → List ℕ) → Talk → List Turn → List Request → List ℕ → Type 0
IsToldTo GoesOn given left talk turns asked said = IsTelling given talk turns asked said (owed left talk GoesOn)
IsToldTo Ends given left talk turns asked said = IsEnding given Ends talk.ended turns asked said (owed left talk Ends)
IsToldTo RefusesHello given left talk turns asked said = IsEnding given RefusesHello talk.ended turns asked said
    (owed left talk RefusesHello)
IsToldTo FindsFull given left talk turns asked said = IsEnding given FindsFull talk.ended turns asked said
    (owed left talk FindsFull)

-- what was asked and told at a stage
abbrev pub IsAt : Stage → Given → (ℕ → List ℕ) → Talk → List Turn → List Request → List ℕ → Type 0
IsAt stages.Greets given left talk turns asked said = IsSilent talk turns asked said
IsAt stages.Opens given left talk turns asked said = HasGreeted talk turns asked said
IsAt stages.Listens given left talk turns asked said = IsOpen given talk [] turns asked said
IsAt (stages.Settles closing) given left talk turns asked said = IsSettling closing given talk turns asked said
IsAt (stages.Tells closing) given left talk turns asked said = IsToldTo closing given left talk turns asked said
IsAt stages.Over given left talk turns asked said = (closing : Closing)
    × IsEnding given closing talk.ended turns asked said []

-- These bytes were heard, which are these turns and a line that has begun, and so much was asked and said. `left` is
-- what is still to be taken of the replies to the block that is told.
pub record Spoke (names : KnownNames) (given : Given) (left : ℕ → List ℕ) (conv : Conversation) (turns : List Turn)
    (asked : List Request) (heard said : List ℕ) : Type 0 where
  pub cut : HasHeard names conv turns heard
  pub point : IsAt conv.stage given left (talk_of conv) turns asked said

-- the requests of one call
abbrev pub asks : Option Request → List Request
asks None = []
asks (Some request) = request ∷ []

-- some line asks for what is requested
abbrev pub IsHeardOf : KnownNames → Request → Type 0
IsHeardOf names (Opens subject) = StandsIn names (Greets subject)
IsHeardOf names (Admits ordinal work) = StandsIn names (Ask work)
IsHeardOf names Settles = ⊤

-- the line asks for what is requested
abbrev pub IsOf : Turn → Request → Type 0
IsOf turn (Opens subject) = turn ≡ Greets subject
IsOf turn (Admits ordinal work) = turn ≡ Ask work
IsOf turn Settles = ⊤

-- These bytes were heard after others, with one turn more at most, and this is asked.
pub record HearsMore (names : KnownNames) (old new : Conversation) (turns : List Turn) (heard bytes : List ℕ)
    (request : Option Request) : Type 0 where
  pub more : List Turn
  pub few : length more ≤ 1
  pub origin : IfSome request (IsHeardOf names)
  pub cut : HasHeard names new (turns ++ more) (heard ++ bytes)
  pub point : (given : Given) (left : ℕ → List ℕ) (asked : List Request) (said : List ℕ)
      → IsAt old.stage given left (talk_of old) turns asked said
      → IsAt new.stage given left (talk_of new) (turns ++ more) (asked ++ asks request) said

-- it has heard these bytes, whatever it heard before
abbrev pub Hears : KnownNames → (old new : Conversation) → List ℕ → Option Request → Type 0
Hears names old new bytes request = (turns : List Turn) (heard : List ℕ) → HasHeard names old turns heard
    → HearsMore names old new turns heard bytes request

-- the ordinal of what is to be admitted is the last one of the block, and a new one
abbrev pub IsNumbered : (old new : Conversation) → Request → Type 0
IsNumbered old new (Opens subject) = ⊤
IsNumbered old new (Admits ordinal work) = (ordinal ≡ last_ordinal new) × (last_ordinal old < ordinal)
IsNumbered old new Settles = ⊤

-- it waits for nothing from the machine: it hears lines, tells words with no such number of lines before them, or is
-- over
abbrev pub GoesOnAlone : ℕ → Stage → Type 0
GoesOnAlone lines stages.Greets = ⊤
GoesOnAlone lines stages.Opens = ⊥
GoesOnAlone lines stages.Listens = ⊤
GoesOnAlone lines (stages.Settles closing) = ⊥
GoesOnAlone lines (stages.Tells closing) = lines ≡ 0
GoesOnAlone lines stages.Over = ⊤

-- at which stage it is once this is asked
abbrev pub AwaitsAt : Option Request → ℕ → Stage → Type 0
AwaitsAt None last stage = GoesOnAlone last stage
AwaitsAt (Some (Opens subject)) last stage = stage ≡ stages.Opens
AwaitsAt (Some (Admits ordinal work)) last stage = stage ≡ stages.Listens
AwaitsAt (Some Settles) last stage = (closing : Closing) × (stage ≡ stages.Settles closing)

-- the block has begun where it had, with one line more at most, and it waits for what is asked
pub record KeepsBlock (old new : Conversation) (request : Option Request) : Type 0 where
  pub after : new.after ≡ old.after
  pub last : last_ordinal old ≤ last_ordinal new
  pub number : IfSome request (IsNumbered old new)
  pub awaits : AwaitsAt request (last_ordinal new) new.stage

-- the block is as it was
pub record SameBlock (old new : Conversation) : Type 0 where
  pub ended : new.ended ≡ old.ended
  pub after : new.after ≡ old.after
  pub line : new.line ≡ old.line
  pub last : last_ordinal new ≡ last_ordinal old

-- it goes on where the machine takes the subject so
abbrev pub IsOpenedAs : Opening → (old new : Conversation) → Type 0
IsOpenedAs opening old new = (names : KnownNames) (given : Given) (left : ℕ → List ℕ) (turns : List Turn)
    (asked : List Request) (heard said : List ℕ)
    → given.opening ≡ opening → Spoke names given left old turns asked heard said
    → Spoke names given left new turns asked heard said

-- it goes on with the replies to the block, of which nothing was taken
abbrev pub IsAnswered : (old new : Conversation) → Type 0
IsAnswered old new = (names : KnownNames) (given : Given) (was left : ℕ → List ℕ) (turns : List Turn)
    (asked : List Request) (heard said : List ℕ)
    → SameWithin old.after (old.after + length old.pending.items) given.replies left
    → Spoke names given was old turns asked heard said → Spoke names given left new turns asked heard said

-- it has said so much more
abbrev pub Says : (was left : ℕ → List ℕ) → (old new : Conversation) → List ℕ → Type 0
Says was left old new more = (names : KnownNames) (given : Given) (turns : List Turn) (asked : List Request)
    (heard said : List ℕ)
    → Spoke names given was old turns asked heard said → Spoke names given left new turns asked heard (said ++ more)

-- there may be one line more in the block
pub record HasRoom (conv : Conversation) : Type 0 where
  pub few : conv.after + length conv.pending.items + conv.left < 16777217
  pub fewer : conv.ended ≡ false → conv.after + length conv.pending.items + conv.left < 16777216

-- all is as it was, but for one line more in the block
pub record Keeps (old new : Conversation) (line : Pending) : Type 0 where
  pub held : new.held ≡ old.held
  pub left : new.left ≡ old.left
  pub stage : new.stage ≡ old.stage
  pub talk : talk_of new ≡ record (talk_of old) { pending = old.pending.items ++ line ∷ [] }

-- one line more was taken, and this is asked at it
abbrev pub Moves : (old new : Conversation) → Turn → Option Request → Type 0
Moves old new turn request = (given : Given) (left : ℕ → List ℕ) (turns : List Turn) (asked : List Request)
    (said : List ℕ)
    → IsAt old.stage given left (talk_of old) turns asked said
    → IsAt new.stage given left (talk_of new) (turns ++ turn ∷ []) (asked ++ asks request) said

pub record TakesTurn (old new : Conversation) (turn : Turn) (request : Option Request) : Type 0 where
  pub held : new.held ≡ old.held
  pub left : new.left ≡ old.left
  pub ended : new.ended ≡ old.ended
  pub origin : IfSome request (IsOf turn)
  pub moves : Moves old new turn request

-- all is as it was, but that nothing is held
pub record LetsGo (old new : Conversation) : Type 0 where
  pub held : new.held ≡ None
  pub left : new.left ≡ old.left
  pub stage : new.stage ≡ old.stage
  pub talk : talk_of new ≡ talk_of old

-- the line that was held so is taken
pub record TakesLine (names : KnownNames) (held_line : Held) (old new : Conversation)
    (request : Option Request) : Type 0 where
  pub turn : Turn
  pub is_turn : (line : List ℕ) → HoldsLine held_line line → IsTurn names line turn
  pub held : new.held ≡ old.held
  pub left : new.left ≡ old.left
  pub ended : new.ended ≡ old.ended
  pub origin : IfSome request (IsOf turn)
  pub moves : Moves old new turn request

-- the next part of the block was told
pub record TellsPart (was left : ℕ → List ℕ) (old new : Conversation) (before after : EndState) : Type 0 where
  pub held : new.held ≡ old.held
  pub bytes : new.left ≡ old.left
  pub stage : new.stage ≡ old.stage
  pub line : ℕ
  pub talk : talk_of new ≡ record (talk_of old) { line = line }
  pub more : List ℕ
  pub puts : Puts more before after
  pub split : lines_left was (talk_of old) ≡ more ++ lines_left left (talk_of new)
  pub nearer : ((line ≡ old.line) × (0 < length more)) ⊎ (line ≡ old.line + 1)

-- how it goes on after such words
abbrev pub stage_behind : Closing → Stage
stage_behind GoesOn = stages.Listens
stage_behind Ends = stages.Over
stage_behind RefusesHello = stages.Over
stage_behind FindsFull = stages.Over

-- all was told but the words that close it, and they are
pub record Closes (old new : Conversation) (closing : Closing) : Type 0 where
  pub held : new.held ≡ old.held
  pub left : new.left ≡ old.left
  pub stage : new.stage ≡ stage_behind closing
  pub talk : talk_of new ≡ record { ended = old.ended; after = old.after + length old.pending.items; pending = []; line = 0 }

-- how many parts it may tell at most before it waits for something else
abbrev pub parts_at : Stage → (ℕ → List ℕ) → Talk → ℕ
parts_at stages.Greets left talk = 0
parts_at stages.Opens left talk = 0
parts_at stages.Listens left talk = 0
parts_at (stages.Settles closing) left talk = 0
parts_at (stages.Tells closing) left talk = (length talk.pending - talk.line) + length (lines_left left talk) + 1
parts_at stages.Over left talk = 0

abbrev pub parts_left : (ℕ → List ℕ) → Conversation → ℕ
parts_left left conv = parts_at conv.stage left (talk_of conv)

-- how often it may wait for something else at most
abbrev pub waits_at : Stage → ℕ
waits_at stages.Greets = 4
waits_at stages.Opens = 6
waits_at stages.Listens = 4
waits_at (stages.Settles GoesOn) = 6
waits_at (stages.Settles Ends) = 3
waits_at (stages.Settles RefusesHello) = 3
waits_at (stages.Settles FindsFull) = 3
waits_at (stages.Tells GoesOn) = 5
waits_at (stages.Tells Ends) = 2
waits_at (stages.Tells RefusesHello) = 2
waits_at (stages.Tells FindsFull) = 2
waits_at stages.Over = 0

abbrev pub waits_of : Bool → Stage → ℕ
waits_of false stage = waits_at stage + 4
waits_of true stage = waits_at stage

abbrev pub waits_left : Conversation → ℕ
waits_left conv = 8 * conv.left + waits_of conv.ended conv.stage

-- All that was heard are these turns, and all that they tell was said and asked. It is all of the input, or up to a
-- first line that was refused.
pub record IsAll (names : KnownNames) (given : Given) (conv : Conversation) (turns : List Turn) (asked : List Request)
    (heard said : List ℕ) : Type 0 where
  pub are : AreTurns names (lines_of heard) turns
  pub cut : AreSo conv.ended heard (lines_of heard)
  pub closing : Closing
  pub why : IsWhy closing given conv.ended turns
  pub within : length heard ≤ 16777216
  pub stops : StopsAtRefusal turns
  pub asked_is : asked ≡ whole_asked given.opening turns
  pub said_is : said ≡ whole_text given.opening given.replies turns

-- once a conversation waits for nothing, all that was heard was answered, whoever drives it
abbrev pub AnswersAllAtTheEnd : Type 0
AnswersAllAtTheEnd = (names : KnownNames) (given : Given) (left : ℕ → List ℕ) (conv : Conversation) (turns : List Turn)
    (asked : List Request) (heard said : List ℕ) → Spoke names given left conv turns asked heard said
    → need_of conv ≡ needs.Over → IsAll names given conv turns asked heard said

-- What was said begins what these turns tell, and each block that was told is whole; while lines are heard, so are all
-- whose `wait` came. What was said is part of what is told whatever comes after these turns, unless the input is at its
-- end. What was asked is what they ask, but for settling.
pub record IsSoFar (given : Given) (conv : Conversation) (turns : List Turn) (asked : List Request)
    (said : List ℕ) : Type 0 where
  pub begins : Begins said (whole_text given.opening given.replies turns)
  pub blocks : TellsWhole given.replies turns said
  pub quiet : is_hearing conv.stage ≡ true → AreWhole given.replies turns said
  pub due : given.opening ≡ Open → (conv.ended ≡ true)
      ⊎ ((text : List ℕ) × IsDue given.replies turns text × Begins said text)
  pub stops : StopsAtRefusal turns
  pub settles : ℕ
  pub asked_is : whole_asked given.opening turns ≡ asked ++ replicate settles Settles
