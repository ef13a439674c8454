use Rattle.std.proofs.Common.{rules, ◌≡◌, ◌++◌, ◌∙◌, true, false, ap, append-nil, refl, sym, subst, None}
use Rattle.bl_wire.specs.Watch.{end_state}
use Rattle.bl_wire.proofs.PutLaws.{puts-append, puts-is}
use Rattle.bl_disk.specs.File.{File}
use Rattle.bl_gate.specs.Gates.{hall_seen}
use Rattle.bl_serving.specs.Serving.{hosted_text}
use Rattle.bl_keeper.specs.Keeping.{HasKept}
use Rattle.bl_trail_run.specs.Files.{fault_in, file_after, file_in}
use Rattle.bl_audit.specs.Bookmarks.{HasGrown}
use Rattle.bl_serving.specs.Hosted.{IsLeft, IsLeftOf, status_with}
use Rattle.bl_serving.proofs.Hosting.{left_on, whole_of}
use Rattle.bl_serving.specs.Telling.{trail_text}
use Rattle.bl_serving.proofs.recorded.host_on.Goals as goal

pub host_kept-hosted-requires-clause-gate : goal.host_kept-hosted-requires-clause-gate
host_kept-hosted-requires-clause-gate g c κs within = (refl, c.requires.gate)

-- a thread was not started, and the journal is left as it is
pub returns-then-not-whole-clause-run : goal.returns-then-not-whole-clause-run
returns-then-not-whole-clause-run g c =
    let h = c.host_kept-hosted.result.hosted in
    let ended = c.as_slice.result.now in
    let told = c.tell_hosted-status.ensures in
    let live = c.host_kept-hosted.ensures.told in
    let unstarted : h.whole ≡ false = search rules in
    record {
      threads = h.whole;
      ended = ended;
      memory = h.memory;
      live = live.0;
      during = live.1;
      trail = None;
      left = λ whole. let bad : true ≡ false = sym whole ∙ unstarted in cc;
      unclosed = λ _. refl;
      whole = (λ whole. cc, λ both. let bad : true ≡ false = sym both.0 ∙ unstarted in cc);
      status_is = told.status;
      said = puts-append live.0 (hosted_text h.whole ended h.memory ++ trail_text None) _ _ _ live.2
          (puts-is (hosted_text h.whole ended h.memory) (hosted_text h.whole ended h.memory ++ trail_text None) _ _ (sym (append-nil _)) told.puts);
    }

pub returns-then-not-whole-clause-hall : goal.returns-then-not-whole-clause-hall
returns-then-not-whole-clause-hall g c = refl

-- the hall that is closed is what the pass has seen
pub close_after-left-requires-clause-kept : goal.close_after-left-requires-clause-kept
close_after-left-requires-clause-kept g c fine =
    subst (λ h. HasKept h c.host_kept-hosted.result.journal.bookmark (g.D.Device.now c.host_kept-hosted.result.journal.log.device)) (sym c.close-hall.ensures.hall) (c.host_kept-hosted.ensures.kept fine)

-- the journal was closed, or why not is told
pub returns-clause-run : goal.returns-clause-run
returns-clause-run g c =
    let h = c.host_kept-hosted.result.hosted in
    let ended = c.as_slice.result.now in
    let told = c.tell_hosted-status.ensures in
    let live = c.host_kept-hosted.ensures.told in
    let left = c.close_after-left.result in
    let end = c.tell_end-recorded.ensures in
    let started : h.whole ≡ true = search rules in
    let now = g.D.Device.now in
    let begun = hall_seen c.args.made.1 in
    let hall = c.close-hall.result in
    let grown = subst (HasGrown begun) (sym c.close-hall.ensures.hall) (c.host_kept-hosted.ensures.grown started) in
    record {
      threads = h.whole;
      ended = ended;
      memory = h.memory;
      live = live.0;
      during = live.1;
      trail = fault_in left;
      left = λ whole. subst (λ file. IsLeft begun (fault_in left) (file_in now file)) (sym end.file)
          (left_on begun hall (fault_in left) (file_in now (file_after left)) grown c.close_after-left.ensures.left);
      unclosed = λ unstarted. let bad : true ≡ false = sym started ∙ unstarted in cc;
      whole = (λ whole. (started, end.whole.0 whole), λ both. end.whole.1 both.1);
      status_is = end.status ∙ ap (λ s. status_with s (fault_in left)) told.status;
      said = puts-append live.0 (hosted_text h.whole ended h.memory ++ trail_text (fault_in left)) _ _ _ live.2
          (puts-append (hosted_text h.whole ended h.memory) (trail_text (fault_in left)) _ _ _ told.puts end.puts);
    }

-- the hall is handed back, with its trail in the file
pub returns-clause-hall : goal.returns-clause-hall
returns-clause-hall g c =
    let h = c.host_kept-hosted.result.hosted in
    let left = c.close_after-left.result in
    let end = c.tell_end-recorded.ensures in
    let started : h.whole ≡ true = search rules in
    let now = g.D.Device.now in
    let begun = hall_seen c.args.made.1 in
    let hall = c.close-hall.result in (
      subst (HasGrown begun) (sym c.close-hall.ensures.hall) (c.host_kept-hosted.ensures.grown started),
      λ whole. whole_of hall (fault_in left) (file_in now c.tell_end-recorded.result.file)
          (subst (λ file. IsLeftOf hall (fault_in left) (file_in now file)) (sym end.file) c.close_after-left.ensures.left) (end.whole.0 whole),
    )

pub returns-clause-range : goal.returns-clause-range
returns-clause-range g c = c.tell_end-recorded.ensures.range c.tell_hosted-status.ensures.range
