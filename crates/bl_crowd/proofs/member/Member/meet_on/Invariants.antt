use Rattle.std.proofs.Common.{◌≡◌, ◌+◌, ◌≤◌}
use Rattle.bl_gate.specs.Gates.{state_seen}
use Rattle.bl_engine.specs.Conversations.{waits_left}
use Rattle.bl_crowd.specs.Fitting.{AdmitsWhatFits}
use Rattle.bl_crowd.proofs.Rounding.{HasGoneOn}
use Rattle.bl_crowd.proofs.member.Member.meet_on.Given as goal

-- so many lines were heard, and it has not failed since
abbrev pub invariant-loop-heard : goal.invariant-loop-heard
invariant-loop-heard g l = record {
  gone : HasGoneOn g.S.Stream.remaining g.S.Stream.contents l.initial.turn l.turn l.initial.self l.self;
  fault : l.self.fault ≡ l.initial.self.fault;
  nearer : l._heard + waits_left l.self.connection.conv ≤ waits_left l.initial.self.connection.conv;
  fits : g.Q.Asks.was l.initial.quota (state_seen l.initial.turn) → AdmitsWhatFits (g.Q.Asks.bound l.initial.quota) l.initial.turn l.turn × g.Q.Asks.was l.quota (state_seen l.turn);
  bound : g.Q.Asks.bound l.quota ≡ g.Q.Asks.bound l.initial.quota;
}
