-- How a session of `serve` ended.
use Rattle.std.specs.Prelude.{ℕ, Bool, true, false, List, Option, Some, None, codes}
use Rattle.bl_entrance.specs.declared.ended.Ended.{Ended}
use Rattle.bl_entrance.specs.declared.ended.Ending.{Ending}
use Rattle.bl_entrance.specs.declared.ended.Why.{Why}
use Rattle.bl_entrance.specs.declared.ended.Why.TheVariants.{Accept, NotKept, Idle, TrailFull, Session}
use Rattle.bl_record.specs.declared.fault.JournalFault.{JournalFault}
use Rattle.bl_record.specs.declared.fault.JournalFault.TheVariants as keeping
use Rattle.bl_wire.specs.declared.fault.SessionFault.{SessionFault}
use Rattle.bl_wire.specs.declared.fault.SessionFault.TheVariants.{Read, Write, TooLong, Memory, Clash}

-- why a session ended early: where its output failed, by what was refused there, if it was
abbrev pub why_by : SessionFault → Option JournalFault → Why
why_by Write (Some (keeping.Device error)) = NotKept
why_by Write (Some keeping.Memory) = Session Memory
why_by Write None = Session Write
why_by Read refused = Session Read
why_by TooLong refused = Session TooLong
why_by Memory refused = Session Memory
why_by Clash refused = Session Clash

-- why the session of a connection that leaves ended early, if it did: who was idle for too long is idle, whatever else;
-- then a fault goes before that its line would never have fitted in the trail
abbrev pub end_by : (is_idle is_full : Bool) → Option SessionFault → Option JournalFault → Option Why
end_by true is_full fault refused = Some Idle
end_by false is_full (Some fault) refused = Some (why_by fault refused)
end_by false true None refused = Some TrailFull
end_by false false None refused = None

-- the early end of the session with this number, for this reason, if it has one
abbrev pub early_end : ℕ → Option Why → Option Ended
early_end session (Some why) = Some (record { session = session; why = why })
early_end session None = None

-- the early end that is to be told of, if there is one
abbrev pub ended_of : Option Ending → Option Ended
ended_of (Some ending) = Some ending.ended
ended_of None = None

-- own choice: the words for why it ended early
abbrev pub ended_words : Why → List ℕ
ended_words Accept = codes "accept fault"
ended_words NotKept = codes "not kept"
ended_words Idle = codes "idle"
ended_words TrailFull = codes "trail full"
ended_words (Session Read) = codes "read fault"
ended_words (Session Write) = codes "write fault"
ended_words (Session TooLong) = codes "too long"
ended_words (Session Memory) = codes "no memory"
ended_words (Session Clash) = codes "clash"
