use Rattle.std.proofs.Common.{refl, inr, subst, sym}
use Rattle.bl_file.specs.Folders.{IsFolderOf}
use Rattle.bl_file.proofs.Folding.{after_slash, without_slash}
use Rattle.bl_file.proofs.folder.folder_of.Goals as goal

pub returns-in-Some : goal.returns-in-Some
returns-in-Some c =
    let found = c.in-Some.ensures.cases in
    record { folder = subst (IsFolderOf c.args.path.now) (sym c.split_at.ensures.front) (after_slash c.args.path.now c.in-Some.at found.0 found.1.1 found.1.0) }

pub returns-in-None : goal.returns-in-None
returns-in-None c = record { folder = inr (without_slash c.args.path.now c.in-None.ensures.cases, refl) }
