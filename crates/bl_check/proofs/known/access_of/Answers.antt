use Rattle.std.proofs.Common.{[]}
use Rattle.std.specs.Prelude.{Contains}
use Rattle.std.proofs.lemmas.Bool.{false≢true}
use Rattle.bl_work.specs.FirstWhenFault.{same_name}
use Rattle.bl_check.proofs.Firsts.{first_here}
use Rattle.bl_check.proofs.known.access_of.Goals as goal

pub returns-in-None : goal.returns-in-None
returns-in-None c =
    first_here (Contains c.args.names.now.documents) same_name c.args.access.document.now [] (λ there. false≢true (c.in-None.ensures.found.1 there))
