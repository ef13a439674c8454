use Rattle.std.proofs.Common.{◌≡◌, ◌∙◌, sym, ap, subst}
use Rattle.std.specs.Prelude.{OnOk, IfErr, Err}
use Rattle.bl_setup.specs.Setup.{Setup}
use Rattle.bl_hall.specs.Chronicle.{Chronicle}
use Rattle.bl_wire.specs.Watch.{used}
use Rattle.bl_engine.specs.Outcome.{Finished, Stopped}
use Rattle.bl_engine.specs.View.{ends}
use Rattle.bl_session.specs.Ended.{TellsKeptAfter}
use Rattle.bl_session.specs.Keeping.{IsHeld, fault_of}
use Rattle.bl_session.specs.Outcome.{IsCutShortAfter, IsServedInAfter}
use Rattle.bl_session.specs.Pages.{IsSettled}
use Rattle.bl_session.specs.Reaching.{FinishesKept, StopsKept, seen_by}
use Rattle.bl_session.specs.Talks.{seen_of}
use Rattle.bl_session.specs.declared.keep.Stop.{Stop}
use Rattle.bl_session.proofs.KeepLaws.{ended_after, stopped_seen, told_of_kept}
use Rattle.bl_session.proofs.ServeLaws.{err_as, ok_both, served_in, served_part}
use Rattle.bl_session.proofs.alone.serve_after.Goals as goal

pub converse_alone-served-requires-clause-reached : goal.converse_alone-served-requires-clause-reached
converse_alone-served-requires-clause-reached g c = subst (g.K.Keep.reached c.args.keep.now) (sym c.begin-behind.ensures.hall) c.requires.reached

pub returns-clause-ended : goal.returns-clause-ended
returns-clause-ended g c =
    let begun = c.begin-behind.result.1.hall in
    let same : c.begin-behind.result.0.setup ≡ begun.setup =
    c.begin-behind.ensures.alone ∙ sym c.requires.hall.setup_is ∙ sym (ap (λ (h : Chronicle). h.setup) c.begin-behind.ensures.hall)
    in
    let end = c.converse_alone-served.new in
    let s = end.pages in
    let R = g.R.Read.remaining in
    let W = g.W.Write.contents in
    let e = ends (R c.args.reader.now.inner) (R end.reader.inner) (W c.args.writer.now.inner) (W end.writer.inner) in
    let input = used R c.args.reader.now end.reader in
    let output = used W c.args.writer.now end.writer in
    ended_after c.args.hall s.hall input output c.converse_alone-served.result
    (ok_both c.converse_alone-served.result _ _ _ (λ done fine.
    subst (λ (h : Chronicle). IsServedInAfter h s.hall input output) c.begin-behind.ensures.hall
    (served_in begun s (R c.args.reader.now.inner) (R end.reader.inner) (W c.args.writer.now.inner) (W end.writer.inner) (λ n. IsSettled n s)
    (subst (λ (k : Setup). Finished k.names e (seen_of k begun s)) same done.finished) _ _ fine.0 fine.1))
    c.converse_alone-served.ensures.ok c.converse_alone-served.ensures.fine)
    (err_as c.converse_alone-served.result _ _ (λ (stop : Stop) off.
    subst (λ (h : Chronicle). IsCutShortAfter h (fault_of stop) input output) c.begin-behind.ensures.hall
    (served_part begun off.at (R c.args.reader.now.inner) (R end.reader.inner) (W c.args.writer.now.inner) (W end.writer.inner) (fault_of stop) end.reader.failed end.writer.failed
    (stopped_seen begun _ _ _ _ off.kept off.at off.began (fault_of stop) end.reader.failed end.writer.failed
    (subst (λ (k : Setup). Stopped (fault_of stop) k.names e end.reader.failed end.writer.failed (seen_by k begun off.kept off.at)) same off.stopped))))
    c.converse_alone-served.ensures.err)

pub returns-clause-told : goal.returns-clause-told
returns-clause-told g c =
    let begun = c.begin-behind.result.1.hall in
    let same : c.begin-behind.result.0.setup ≡ begun.setup =
    c.begin-behind.ensures.alone ∙ sym c.requires.hall.setup_is ∙ sym (ap (λ (h : Chronicle). h.setup) c.begin-behind.ensures.hall)
    in
    let end = c.converse_alone-served.new in
    let result = c.converse_alone-served.result in
    let reached = g.K.Keep.reached in
    let has_kept = g.K.Keep.has_kept in
    let R = g.R.Read.remaining in
    let W = g.W.Write.contents in
    let e = ends (R c.args.reader.now.inner) (R end.reader.inner) (W c.args.writer.now.inner) (W end.writer.inner) in
    subst (λ (h : Chronicle). TellsKeptAfter h end.pages.hall (IsHeld (reached end.keep) (has_kept end.keep) result) (used R c.args.reader.now end.reader) (used W c.args.writer.now end.writer))
    c.begin-behind.ensures.hall
    (told_of_kept reached has_kept end.keep begun end.pages (R c.args.reader.now.inner) (R end.reader.inner) (W c.args.writer.now.inner) (W end.writer.inner)
    end.reader.failed end.writer.failed result
    (subst (λ (k : Setup). OnOk result (FinishesKept (reached end.keep) k begun e end.pages)) same c.converse_alone-served.ensures.ok)
    (subst (λ (k : Setup). IfErr result (λ (stop : Stop). StopsKept (IsHeld (reached end.keep) (has_kept end.keep) (Err stop)) k begun stop e end.reader.failed end.writer.failed end.pages)) same
    c.converse_alone-served.ensures.err))
