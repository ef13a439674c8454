use Rattle.std.proofs.Common.{◌∙◌, ap, subst}
use Rattle.std.specs.Prelude.{IfSome, OnOk}
use Rattle.std.specs.Io.Buffered.{writer_contents}
use Rattle.std.specs.Io.KnownBytes.{Appends, Keeps}
use Rattle.bl_audit.specs.Written.{trail_text}
use Rattle.bl_trail_file.specs.Made.{file_of_part}
use Rattle.bl_keep.proofs.Keeping.{wrote_file}
use Rattle.bl_keep.proofs.whole.write_whole.Goals as goal

-- the file began with nothing kept back, the trail was written, and what was kept back went to the file
pub returns-in-Ok-Some-clause-text : goal.returns-in-Ok-Some-clause-text
returns-in-Ok-Some-clause-text g c =
    let hall = c.args.hall.now in
    let F = g.F.Write.contents in
    let begun = c.new-writer.result.inner in
    let written = c.write_trail-written.new.writer.inner in
    let text = trail_text hall.setup hall.limit hall.trail in
    let wrote : Appends (writer_contents F begun) (writer_contents F written) text =
    subst (λ r. OnOk r (Appends (writer_contents F begun) (writer_contents F written) text)) c.in-Ok-Some.is-0 c.write_trail-written.ensures.text in
    let rest : Keeps (writer_contents F written) (F c.in-Ok-Some.file) =
    subst (λ r. IfSome r (λ end. Keeps (writer_contents F written) (F end))) c.in-Ok-Some.is-1 c.hand_on_rest-rest.ensures.all in
    wrote_file (F (file_of_part c.args.part)) (F begun.inner) _ _ (F c.in-Ok-Some.file) begun.buf.items text
    ((λ i. F (c.new-writer.ensures i).inner.inner) ∙ (ap F c.in-Ok.ensures.inner ∙ ap F c.into_parts-name.ensures.file)) ((λ i. (c.new-writer.ensures i).inner.buf.items) ∙ c.in-Ok.ensures.empty)
    wrote (λ i. writer_contents F written) rest
