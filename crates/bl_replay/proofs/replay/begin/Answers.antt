use Rattle.std.proofs.Common.{◌≡◌, ◌+◌, ℕ, List, [], length, refl, sym, ◌∙◌, ap, arith}
use Rattle.std.specs.Prelude.{map}
use Rattle.bl_work.specs.Names.{KnownNames}
use Rattle.bl_setup.specs.Agreement.{Agree}
use Rattle.bl_setup.specs.Setup.{Setup, by_version}
use Rattle.bl_replay.specs.Keeps.{session_in}
use Rattle.bl_replay.specs.Kept.{entry_in, phase_in, queued_as}
use Rattle.bl_replay.specs.Marks.{lost_later}
use Rattle.bl_replay.specs.declared.place.Place.{Place}
use Rattle.bl_trail.proofs.Verdicts.{agrees-by}
use Rattle.bl_replay.proofs.Beginning.{fed-first}
use Rattle.bl_replay.proofs.replay.begin.Goals as goal

pub returns-clause-keeps : goal.returns-clause-keeps
returns-clause-keeps c =
    let agree : Agree c.args.setup.now = c.names.ensures.agree in
    let setup : Setup = by_version c.args.version c.args.setup.now in
    let none : c.new-places.result.items ≡ [] = c.new-places.ensures.items in
    record {
      reached = c.steps_lead_on.ensures.first setup c.args.limit;
      agree = agrees-by c.args.version c.args.setup.now agree;
      setup = ap (by_version c.args.version) c.in_ok-kept.ensures;
      limit = refl;
      low = c.requires.1;
      sessions = ap (map session_in) (sym c.new-sessions.ensures.items);
      few = omega arith;
      speakers = λ k d lt. absurd (omega (arith, lt, ap length c.new-sessions.ensures.items));
      order = ap (map entry_in) (sym none);
      phases = ap (map phase_in) (sym none);
      weight = refl;
      tasks = λ n lt. absurd (omega (arith, lt, ap length none));
      known = λ k d lt. absurd (omega (arith, lt, ap length none));
      queues = c.in_ok-queues.ensures
          ∙ ap (λ (n : ℕ). record { cowns = n + 1; limit = c.args.limit; entries = [] }) (c.documents-documents.ensures.value ∙ ap (λ (k : KnownNames). length k.documents) c.names.ensures.value ∙ agree.documents)
          ∙ ap (λ (l : List Place). record { cowns = length c.args.setup.now.policy.documents + 1; limit = c.args.limit; entries = map queued_as l }) (sym none);
      fed = fed-first setup (lost_later c.args.marks.items) (map entry_in c.new-places.result.items) c.in_ok-monitor.monitor c.new-answers.result.items
          (c.in_ok-monitor.ensures ∙ ap (λ (s : Setup). record { setup = by_version c.args.version s; order = []; lost = [] }) c.in_ok-told.ensures) c.new-answers.ensures.items;
    }
