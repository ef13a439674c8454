use Rattle.std.proofs.Common.{ap, sym, ◌∙◌, length}
use Rattle.bl_queue.specs.declared.cown.Cown.{Cown}
use Rattle.bl_queue.proofs.Release.{first_within}
use Rattle.bl_queue.proofs.cowns.Cowns.next_granted.Goals as goal

pub claim-claim-requires : goal.claim-claim-requires
claim-claim-requires c =
    first_within c.args.self.now (length c.args.self.now.waits) c.args.cown c.in-Some.first c.requires.kept c.requires.cown
    (ap (λ (x : Cown). x.first) (sym c.cown-state.ensures) ∙ c.in-Some.is)
