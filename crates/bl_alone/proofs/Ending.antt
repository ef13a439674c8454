-- How a session ended that began in a hall with a past.
use Rattle.std.proofs.Common.{sym, true≢false}
use Rattle.std.specs.Prelude.{IsOk, OnOk, Result, Ok, Err}
use Rattle.bl_session.specs.declared.keep.Stop.{Stop}

-- what holds where a session was served holds where it is known that it was
pub when_served : (served : Result (Unit {0}) Stop) (P : Type 0) → OnOk served P → IsOk served → P
when_served (Ok done) P on is = on
when_served (Err stop) P on is = absurd (true≢false (sym is))
