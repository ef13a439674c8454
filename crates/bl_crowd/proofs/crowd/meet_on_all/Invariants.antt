use Rattle.std.proofs.Common.{◌≡◌, ◌≤◌, ℕ, get_or, vec_len}
use Rattle.bl_work.specs.Names.{KnownNames}
use Rattle.bl_gate.specs.Gates.{PassView, state_seen}
use Rattle.bl_serve.specs.Together.{GoesOnTo}
use Rattle.bl_crowd.specs.Crowds.{AreMetOn, HaveHeardOn}
use Rattle.bl_crowd.specs.Fitting.{AdmitsWhatFits}
use Rattle.bl_crowd.specs.Openings.{AddsTheirOwn}
use Rattle.bl_crowd.specs.Steps.{KeepsHand}
use Rattle.bl_crowd.specs.Ways.{AreMembers}
use Rattle.bl_crowd.specs.declared.member.Member.{Member}
use Rattle.bl_crowd.proofs.crowd.meet_on_all.Given as goal

-- the first ones have met
abbrev pub invariant-loop-i : goal.invariant-loop-i
invariant-loop-i g l = record {
  goes : GoesOnTo l.initial.turn l.turn;
  hand : KeepsHand l.initial.turn l.turn;
  members : (names : KnownNames) (first : PassView) → AreMembers g.S.Stream.remaining g.S.Stream.contents names first l.initial.turn l.initial.members.items
      → AreMembers g.S.Stream.remaining g.S.Stream.contents names first l.turn l.members.items;
  len : vec_len l.members ≡ vec_len l.initial.members;
  met : (names : KnownNames) (first : PassView) → AreMembers g.S.Stream.remaining g.S.Stream.contents names first l.initial.turn l.initial.members.items
      → AreMetOn g.S.Stream.remaining g.S.Stream.contents names (g.Q.Asks.was l.initial.quota (state_seen l.initial.turn)) (g.Q.Asks.bound l.initial.quota) first l.initial.turn l.turn l.initial.members.items l.members.items l.i;
  fits : g.Q.Asks.was l.initial.quota (state_seen l.initial.turn) → AdmitsWhatFits (g.Q.Asks.bound l.initial.quota) l.initial.turn l.turn × g.Q.Asks.was l.quota (state_seen l.turn);
  bound : g.Q.Asks.bound l.quota ≡ g.Q.Asks.bound l.initial.quota;
  own : AddsTheirOwn l.initial.members.items l.members.items l.initial.turn l.turn;
  heard : HaveHeardOn l.most l.initial.members.items l.members.items l.i;
  still : (j : ℕ) (d : Member g.row.S.Denot) → l.i ≤ j → get_or l.members.items j d ≡ get_or l.initial.members.items j d;
}
