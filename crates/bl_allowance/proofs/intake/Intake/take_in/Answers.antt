use Rattle.std.proofs.Common.{◌≡◌, ◌<◌, ◌≤◌, ◌⊎◌, ◌∙◌, true, length, ap, subst}
use Rattle.std.proofs.lemmas.List.{length-append}
use Rattle.bl_allowance.specs.Buffers.{pending}
use Rattle.bl_allowance.specs.Lines.{lines_in}
use Rattle.bl_allowance.proofs.Taking.{gives_some, nearer}
use Rattle.bl_allowance.proofs.intake.Intake.take_in.Goals as goal

pub returns-in-Ok-clause-next : goal.returns-in-Ok-clause-next
returns-in-Ok-clause-next g c = λ whole.
    let old = c.args.self.now in
    let came = c.args.came.now in
    gives_some old.ended old.long (pending old.buffer) came (pending c.add.new.self) c.requires.some c.in-Ok.ensures.pending
    (subst (λ l. (old.long ≡ true) ⊎ (8193 < length l) ⊎ (0 < lines_in came)) c.pending.ensures (c.is_part-self.ensures.more whole))

pub returns-in-Ok-clause-nearer : goal.returns-in-Ok-clause-nearer
returns-in-Ok-clause-nearer g c =
    let old = c.args.self.now in
    let came = c.args.came.now in
    nearer old.part c.is_part-self.result (length (pending old.buffer)) (length came) (length (pending c.add.new.self)) c.requires.part c.requires.some
    (ap length c.in-Ok.ensures.pending ∙ length-append (pending old.buffer) came)
    (λ part. subst (λ l. length l ≤ 8193) c.pending.ensures (c.is_part-self.ensures.part part).1)
