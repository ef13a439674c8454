use Rattle.std.proofs.Common.{◌≡◌, ℕ, Bool, true, false, Result, Ok, Err, rules, ap, subst}
use Rattle.bl_work.specs.declared.work.Work.{Work}
use Rattle.bl_order.specs.Machine.{Admits}
use Rattle.bl_core.specs.Answers.{IsCause}
use Rattle.bl_gate.specs.Gates.{PassView, state_seen}
use Rattle.bl_serve.specs.Together.{IsNoLineBut}
use Rattle.bl_worker.proofs.Adding.{adds_call, adds_itself}
use Rattle.bl_crowd.proofs.Rounding.{hand_same}
use Rattle.bl_crowd.proofs.member.enter.Goals as goal

none_back : (work : Work) (admitted : Bool) → ◌≡◌ {A = Result Bool Work} (Err work) (Ok admitted) → ⊥
none_back work admitted is = cc

pub returns-in-Stranger : goal.returns-in-Stranger
returns-in-Stranger c =
    let p = c.args.turn.now in
    let q = c.readable_line.new.self in
    let same = c.in-Err.ensures.err.0 in
    record {
      goes = record { follows = c.readable_line.ensures.follows; trail = c.readable_line.ensures.trail };
      own = adds_itself (λ _. IsNoLineBut c.args.session) p q (ap (λ (v : PassView). v.own) same);
      alone = c.readable_line.ensures.own;
      hand = hand_same p q same;
      ok = tt;
      admitted = λ is. absurd (none_back c.in-Err.refused.work true is);
      heavy = λ is. absurd (none_back c.in-Err.refused.work false is);
      err = (
        same,
        c.in-Err.ensures.back,
        (
          c.in-Err.refused.cause,
          search rules,
          subst (λ (n : ℕ). IsCause (state_seen p) n c.args.ordinal c.args.work c.in-Err.refused.cause) c.new.ensures
              (subst (λ (v : PassView). IsCause (state_seen v) c.new.result c.args.ordinal c.args.work c.in-Err.refused.cause) same c.in-Err.ensures.err.1),
        ),
      );
    }

pub returns-in-Ok-clause-own : goal.returns-in-Ok-clause-own
returns-in-Ok-clause-own c = adds_call (λ _. IsNoLineBut c.args.session) c.args.turn.now c.readable_line.new.self (Admits c.new.result c.args.ordinal c.args.work) _ c.in-Ok.ensures.ok c.new.ensures
