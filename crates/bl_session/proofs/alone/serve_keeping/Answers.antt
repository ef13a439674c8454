use Rattle.std.proofs.Common.{sym, ap, subst, arith, length}
use Rattle.bl_hall.specs.Chronicle.{Chronicle, state_now}
use Rattle.bl_wire.specs.Watch.{used}
use Rattle.bl_session.specs.Keeping.{IsToldAfter}
use Rattle.bl_session.specs.One.{new_hall}
use Rattle.bl_session.proofs.KeepLaws.{ended_first, told_first}
use Rattle.bl_session.proofs.ServeLaws.{unserved}
use Rattle.bl_session.proofs.alone.serve_keeping.Goals as goal

pub returns-in_default-clause-ended : goal.returns-in_default-clause-ended
returns-in_default-clause-ended g c = unserved (new_hall c.args.setup c.args.limit) _ _ _ _ c.requires.fine.0 c.requires.fine.1

pub returns-in_default-clause-told : goal.returns-in_default-clause-told
returns-in_default-clause-told g c =
    let kept = new_hall c.args.setup c.args.limit in
    record {
      kept = kept;
      held = c.requires.reached;
      front = tt;
      told = told_first kept (g.R.Read.remaining c.args.reader.now.inner) (g.W.Write.contents c.args.writer.now.inner) c.args.reader.now.failed c.args.writer.now.failed;
    }

pub serve_after-served-requires-clause-hall : goal.serve_after-served-requires-clause-hall
serve_after-served-requires-clause-hall g c = record {
  setup_is = ap (λ (h : Chronicle). h.setup) c.in-Ok.ensures;
  ended = λ n lt. absurd (omega (arith, lt, ap (λ (h : Chronicle). length (state_now h).order) c.in-Ok.ensures));
  room = omega (arith, ap (λ (h : Chronicle). length (state_now h).sessions) c.in-Ok.ensures);
}

pub serve_after-served-requires-clause-reached : goal.serve_after-served-requires-clause-reached
serve_after-served-requires-clause-reached g c = subst (g.K.Keep.reached c.args.keep.now) (sym c.in-Ok.ensures) c.requires.reached

pub returns-clause-ended : goal.returns-clause-ended
returns-clause-ended g c =
    let after = c.serve_after-served in
    let input = used g.R.Read.remaining c.args.reader.now after.new.reader in
    let output = used g.W.Write.contents c.args.writer.now after.new.writer in
    ended_first c.args.setup c.args.limit _ after.result.1.pages.hall input output after.result.0 c.in-Ok.ensures after.ensures.ended

pub returns-clause-told : goal.returns-clause-told
returns-clause-told g c =
    let after = c.serve_after-served in
    let input = used g.R.Read.remaining c.args.reader.now after.new.reader in
    let output = used g.W.Write.contents c.args.writer.now after.new.writer in
    let told = after.ensures.told in
    record {
      kept = told.kept;
      held = told.held;
      front = told.front;
      told = subst (λ (h : Chronicle). IsToldAfter h told.kept input output) c.in-Ok.ensures told.told;
    }
