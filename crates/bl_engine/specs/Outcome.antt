-- How a session ends.
use Rattle.std.specs.Prelude.{◌≡◌, ℕ, ◌+◌, ◌≤◌, Bool, true, false, List, [], ◌++◌, length, Option, OnSome, ◌⊎◌}
use Rattle.std.specs.Prelude.{replicate, codes, take}
use Rattle.std.specs.Io.KnownBytes.{Consumes, Appends, IsAtEnd}
use Rattle.bl_work.specs.Names.{KnownNames}
use Rattle.bl_wire.specs.Lines.{lines_of, AreLines, HasNoLf}
use Rattle.bl_wire.specs.Reads.{HasMore}
use Rattle.bl_wire.specs.declared.fault.SessionFault.{SessionFault}
use Rattle.bl_wire.specs.declared.fault.SessionFault.TheVariants.{Read, Write, TooLong, Memory, Clash}
use Rattle.bl_wire.specs.declared.turn.Turn.{Turn}
use Rattle.bl_wire.specs.Turns.{AreTurns, AreSkips, IsOpening, IsRefusal, StopsAtRefusal, HasNoWait}
use Rattle.bl_wire.specs.Texts.{text_of, session_text, ok_line, refused_hello, bye_line}
use Rattle.bl_engine.specs.Requests.{Request, Settles, told_by, SameUpTo}
use Rattle.bl_engine.specs.BlockText.{Begins}
use Rattle.bl_engine.specs.View.{View, Ends}

-- what was heard of these lines: all of them, but perhaps the last
abbrev pub LacksTheLast : List Turn → List Turn → Type 0
LacksTheLast heard turns = (last : List Turn) × (length last ≤ 1) × (turns ≡ heard ++ last)

-- whether the fault came when lines were read
abbrev pub is_reading : SessionFault → Bool
is_reading Read = true
is_reading Write = false
is_reading TooLong = true
is_reading Memory = false
is_reading Clash = false

-- the lines that were consumed: more may come, or these are all
abbrev pub IsCut : Bool → List ℕ → List (List ℕ) → Option (List ℕ) → Option (List ℕ) → Type 0
IsCut true bytes lines before after = AreLines bytes lines
IsCut false bytes lines before after = (lines_of bytes ≡ lines) × OnSome before (IsAtEnd after)

-- these turns were read, and so many bytes may still be read
pub record Cutting (again : Bool) (names : KnownNames) (start rest : Option (List ℕ)) (left : ℕ)
    (turns : List Turn) : Type 0 where
  pub bytes : List ℕ
  pub lines : List (List ℕ)
  pub cut : IsCut again bytes lines start rest
  pub took : Consumes start rest bytes
  pub count : left + length bytes ≡ 16777216
  pub are : AreTurns names lines turns

-- The input was read to its end, or to the end of a first line that was refused and no further, and its transcript is
-- written.
pub record Finished (names : KnownNames) (ends : Ends) (view : View) : Type 0 where
  pub bytes : List ℕ
  pub turns : List Turn
  pub took : Consumes ends.start ends.rest bytes
  pub within : length bytes ≤ 16777216
  pub whole : OnSome ends.start (IsAtEnd ends.rest) ⊎ (AreLines bytes (lines_of bytes) × IsRefusal turns)
  pub stops : StopsAtRefusal turns
  pub are : AreTurns names (lines_of bytes) turns
  pub put : Appends ends.first ends.kept (session_text view.replies turns)
  pub came : view.came (told_by turns)
  pub upto : ℕ
  pub settled : view.settled upto

-- Own choice: what is written where the session cannot be opened, as there are as many as there may be
abbrev pub refused_sessions : List ℕ
refused_sessions = codes "refused sessions\n"

-- The first line that is not skipped asked for a session, and there were as many as there may be. The input was read to
-- the end of that line and no further, nothing was told, and this text is written.
pub record TurnedAway (names : KnownNames) (ends : Ends) (view : View) (text : List ℕ) : Type 0 where
  pub subject : ℕ
  pub turns : List Turn
  pub opened : IsOpening subject turns
  pub again : Bool
  pub left : ℕ
  pub read : Cutting again names ends.start ends.rest left turns
  pub put : Appends ends.first ends.kept text
  pub came : view.came []

-- a first part of these words is written, and writing failed
pub record TurnedAwayInPart (fault : SessionFault) (names : KnownNames) (ends : Ends) (read_failed write_failed : Bool)
    (view : View) (text : List ℕ) : Type 0 where
  pub much : ℕ
  pub part : TurnedAway names ends view (take much text)
  pub is_write : fault ≡ Write
  pub read_fine : read_failed ≡ false
  pub write_marked : write_failed ≡ true

-- Why a session ended early, by how its ends stand and how many bytes it took. Only the end that is told has failed.
abbrev pub IsCause : SessionFault → Option (List ℕ) → Option (List ℕ) → Bool → Bool → ℕ → Type 0
IsCause Read start rest read_failed write_failed taken = (read_failed ≡ true) × (write_failed ≡ false)
IsCause Write start rest read_failed write_failed taken = (read_failed ≡ false) × (write_failed ≡ true)
IsCause TooLong start rest read_failed write_failed taken = (read_failed ≡ false) × (write_failed ≡ false)
    × (taken ≡ 16777216) × OnSome start (HasMore rest)
IsCause Memory start rest read_failed write_failed taken = (read_failed ≡ false) × (write_failed ≡ false)
IsCause Clash start rest read_failed write_failed taken = (read_failed ≡ false) × (write_failed ≡ false)

-- the bytes are whole lines, or where it wasn't reading that stopped they may be all of an input whose last line has no
-- LF
abbrev pub AreWholeLines : SessionFault → List ℕ → List ℕ → Option (List ℕ) → Option (List ℕ) → Type 0
AreWholeLines fault bytes part start rest =
    AreLines bytes (lines_of bytes) ⊎ ((is_reading fault ≡ false) × (part ≡ []) × OnSome start (IsAtEnd rest))

-- these turns were read whole, and then a part of a line that is dropped
pub record Broken (fault : SessionFault) (names : KnownNames) (start rest : Option (List ℕ))
    (read_failed write_failed : Bool) (turns : List Turn) : Type 0 where
  pub bytes : List ℕ
  pub part : List ℕ
  pub took : Consumes start rest (bytes ++ part)
  pub within : length (bytes ++ part) ≤ 16777216
  pub lines : AreWholeLines fault bytes part start rest
  pub dropped : HasNoLf part
  pub are : AreTurns names (lines_of bytes) turns
  pub why : IsCause fault start rest read_failed write_failed (length (bytes ++ part))

-- each block whose `wait` came is written whole, and nothing else
pub record AreBlocks (replies : ℕ → List ℕ) (turns : List Turn) (written : List ℕ) : Type 0 where
  pub subject : ℕ
  pub head : List Turn
  pub done : List Turn
  pub open_turns : List Turn
  pub split : turns ≡ head ++ (done ++ open_turns)
  pub opened : IsOpening subject head
  pub in_block : HasNoWait open_turns
  pub text : written ≡ ok_line ++ text_of replies 0 done

-- nothing is written yet, or the blocks are
abbrev pub AreWhole : (ℕ → List ℕ) → List Turn → List ℕ → Type 0
AreWhole replies turns written = (AreSkips turns × (written ≡ [])) ⊎ AreBlocks replies turns written

-- all blocks are written whole, but perhaps one that the last line closes
abbrev pub AreWholeBefore : (ℕ → List ℕ) → List Turn → List ℕ → Type 0
AreWholeBefore replies turns written =
    (front last : List Turn) × (length last ≤ 1) × (turns ≡ front ++ last) × AreWhole replies front written

-- what is written of these lines, whatever comes behind them
abbrev pub IsDue : (ℕ → List ℕ) → List Turn → List ℕ → Type 0
IsDue replies turns text = AreWhole replies turns text ⊎ (IsRefusal turns × (text ≡ refused_hello ++ bye_line))

-- a part of what is written whatever comes, or of the last words at the end of the input
abbrev pub IsDuePart : (ℕ → List ℕ) → (start rest : Option (List ℕ)) → List Turn → List ℕ → Type 0
IsDuePart replies start rest heard written = OnSome start (IsAtEnd rest)
    ⊎ ((text : List ℕ) × IsDue replies heard text × Begins written text)

-- What a session that ended early has written. Where reading stopped it is all blocks whose `wait` came. Where memory
-- was refused, or somebody else spoke for the session, it is they as well, but the block that the last line closes may
-- be lacking. Where writing failed a part of what is written next may follow.
abbrev pub IsPutAt : SessionFault → (ℕ → List ℕ) → (start rest : Option (List ℕ)) → (turns heard : List Turn) → List ℕ
    → Type 0
IsPutAt Read replies start rest turns heard written = AreWhole replies turns written
IsPutAt TooLong replies start rest turns heard written = AreWhole replies turns written
IsPutAt Memory replies start rest turns heard written = AreWholeBefore replies turns written
IsPutAt Write replies start rest turns heard written =
    ((done : List ℕ) × AreWholeBefore replies turns done × Begins done written)
    × IsDuePart replies start rest heard written
IsPutAt Clash replies start rest turns heard written = AreWholeBefore replies turns written

-- What was heard of the lines that were read: all of them, or where memory was refused or somebody else spoke for the
-- session all but perhaps the last.
abbrev pub WereHeard : SessionFault → List Turn → List Turn → Type 0
WereHeard Read heard turns = heard ≡ turns
WereHeard Write heard turns = heard ≡ turns
WereHeard TooLong heard turns = heard ≡ turns
WereHeard Memory heard turns = LacksTheLast heard turns
WereHeard Clash heard turns = LacksTheLast heard turns

-- The session ended early. What is written begins the transcript of the lines that were heard, whatever is answered
-- later. What was told is what these lines tell, but for settling. Nothing was read behind a first line that was
-- refused.
pub record Stopped (fault : SessionFault) (names : KnownNames) (ends : Ends) (read_failed write_failed : Bool)
    (view : View) : Type 0 where
  pub turns : List Turn
  pub read : Broken fault names ends.start ends.rest read_failed write_failed turns
  pub stops : StopsAtRefusal turns
  pub unread : IsRefusal turns → read.part ≡ []
  pub written : List ℕ
  pub put : Appends ends.first ends.kept written
  pub upto : ℕ
  pub settled : view.settled upto
  pub told : List Request
  pub came : view.came told
  pub heard : List Turn
  pub heard_is : WereHeard fault heard turns
  pub settles : ℕ
  pub told_is : told_by heard ≡ told ++ replicate settles Settles
  pub begins : (later : ℕ → List ℕ) → SameUpTo upto view.replies later → Begins written (session_text later heard)
  pub closed : (later : ℕ → List ℕ) → SameUpTo upto view.replies later
      → IsPutAt fault later ends.start ends.rest turns heard written
