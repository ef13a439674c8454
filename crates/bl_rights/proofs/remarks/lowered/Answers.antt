use Rattle.std.proofs.Common.{ap, sym, ◌∙◌}
use Rattle.std.specs.Prelude.{◌&&◌, Option}
use Rattle.bl_level.specs.Level.{SecurityLevel, dominates}
use Rattle.bl_rights.specs.Remarks.{is_above}
use Rattle.bl_rights.proofs.Lowest.{meet-dominates}
use Rattle.bl_rights.proofs.remarks.lowered.Goals as goal

pub returns-in-Some : goal.returns-in-Some
returns-in-Some c = λ l.
    ap (λ (m : SecurityLevel). dominates m l) c.meet.ensures ∙ meet-dominates c.dominates_means_dominance.ensures c.in-Some.low c.args.level.now l
    ∙ ap (λ (o : Option SecurityLevel). is_above o l && dominates c.args.level.now l) (sym c.in-Some.is)
