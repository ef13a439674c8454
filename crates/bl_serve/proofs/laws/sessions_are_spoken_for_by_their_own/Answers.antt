use Rattle.bl_serve.proofs.Speaking.{session_share, turn_share, stand_alone, spoken}
use Rattle.bl_serve.proofs.laws.sessions_are_spoken_for_by_their_own.Goals as goal

pub returns-clause-sessions : goal.returns-clause-sessions
returns-clause-sessions c = session_share

pub returns-clause-turns : goal.returns-clause-turns
returns-clause-turns c = turn_share

pub returns-clause-alone : goal.returns-clause-alone
returns-clause-alone c = stand_alone

pub returns-clause-spoken : goal.returns-clause-spoken
returns-clause-spoken c whole before after shares out met one session = spoken whole shares out before after met one.0 session one.1
