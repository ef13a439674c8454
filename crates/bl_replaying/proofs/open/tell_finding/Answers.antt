use Rattle.std.proofs.Common.{◌≡◌, ◌∙◌, ℕ, true, take, inl, inr, refl, subst, sym}
use Rattle.std.specs.Io.KnownBytes.{Appends}
use Rattle.std.proofs.KnownBytes.{Keeps-refl}
use Rattle.std.proofs.lemmas.Result.{IfErr-weaker, IfOk-weaker, err_from_is_err_and}
use Rattle.bl_wire.specs.Watch.{end_state, used}
use Rattle.bl_wire.proofs.PutLaws.{puts-all}
use Rattle.bl_status.specs.declared.fault.ProgramFault.TheVariants.{Write}
use Rattle.bl_replaying.specs.Finding.{IsFound}
use Rattle.bl_replaying.specs.Open.{torn_text}
use Rattle.bl_replaying.specs.Replays.{status_by, verdict_line}
use Rattle.bl_replaying.specs.Runs.{IsUntold, TellsTrail}
use Rattle.bl_replaying.proofs.Opening.{judged-is}
use Rattle.bl_replaying.proofs.open.tell_finding.Goals as goal

-- the trail is open
pub returns-in_ok-tell_open-in-Open-clause-told : goal.returns-in_ok-tell_open-in-Open-clause-told
returns-in_ok-tell_open-in-Open-clause-told g c begun trail found =
    let E = g.E.Write.contents in
    inl (record {
      events = c.in-Open.events;
      torn = c.in-Open.torn;
      is_open = subst (IsFound begun trail) c.in-Open.is found;
      status_is = refl;
      told = c.in_ok-tell_open-in-Open.ensures.told;
      said = λ fine. puts-all (torn_text c.in-Open.torn) (end_state E c.args.errors.now) (end_state E c.tell_torn.new.errors) c.tell_torn.ensures.puts fine;
    })

-- that was not told whole
pub returns-in_err-tell_open-in-Open-clause-failed : goal.returns-in_err-tell_open-in-Open-clause-failed
returns-in_err-tell_open-in-Open-clause-failed g c begun trail found =
    let p = err_from_is_err_and c.from_residual.result c.from_residual.ensures.1 in
    let cut = c.in_err-tell_open-in-Open.ensures.failed in
    rw (p.1, p.2) (inr (cut.0, cut.1, (c.in-Open.events, c.in-Open.torn, subst (IsFound begun trail) c.in-Open.is found, cut.2)))

-- it is judged
pub returns-in-Judged-clause-told : goal.returns-in-Judged-clause-told
returns-in-Judged-clause-told g c begun trail found =
    let E = g.E.Write.contents in
    let W = g.W.Write.contents in
    let verdict = c.in-Judged.verdict in
    let judged = judged-is begun trail verdict (subst (IsFound begun trail) c.in-Judged.is found) in
    let old = c.args.writer.now in
    let new = c.tell_verdict.new.writer in
    IfOk-weaker c.tell_verdict.result (λ status. Appends (W old.inner) (W new.inner) (verdict_line verdict) × (status ≡ status_by verdict))
    (λ status. TellsTrail begun trail status (used W old new) (used E c.args.errors.now c.args.errors.now))
    (λ status told. inr (record {
      replayed = record { verdict = verdict; judged = judged.0; status_is = told.1; told = told.0 };
      closed = λ one. judged.1 (sym told.1 ∙ one);
      quiet = Keeps-refl _;
    }))
    c.tell_verdict.ensures.told

pub returns-in-Judged-clause-failed : goal.returns-in-Judged-clause-failed
returns-in-Judged-clause-failed g c begun trail found =
    let W = g.W.Write.contents in
    let verdict = c.in-Judged.verdict in
    let judged = judged-is begun trail verdict (subst (IsFound begun trail) c.in-Judged.is found) in
    let old = c.args.writer.now in
    let new = c.tell_verdict.new.writer in
    IfErr-weaker c.tell_verdict.result
    (λ fault. (fault ≡ Write) × (new.failed ≡ true) × ((n : ℕ) × Appends (W old.inner) (W new.inner) (take n (verdict_line verdict))))
    (λ fault. IsUntold begun trail fault (used W old new))
    (λ fault cut. inl (inr (cut.0, cut.1, (verdict, judged.0, cut.2))))
    c.tell_verdict.ensures.failed
