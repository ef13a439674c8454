use Rattle.std.proofs.Common.{◌<◌, List, length, subst, sym}
use Rattle.std.specs.Prelude.{All}
use Rattle.bl_policy.specs.declared.access.Access.{Access}
use Rattle.bl_explaining_event.specs.Starts.{IsTaskFor}
use Rattle.bl_explaining_event.proofs.decision.tell_entry.Goals as goal

pub tell_accesses-requires-clause-there : goal.tell_accesses-requires-clause-there
tell_accesses-requires-clause-there c =
    let names = c.args.setting.now.moment.setup.now.names in
    subst (λ (l : List Access). All (λ (access : Access). access.doc < length names.documents) l) (sym c.accesses.ensures)
    (subst (IsTaskFor names) c.in-Some.ensures c.requires.task)
