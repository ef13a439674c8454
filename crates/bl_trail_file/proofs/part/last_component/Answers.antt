use Rattle.std.proofs.lemmas.Str.{IsCharBoundary-start}
use Rattle.bl_trail_file.proofs.Paths.{after_slash, without_slash}
use Rattle.bl_trail_file.proofs.part.last_component.Goals as goal

pub returns-in-Some-clause-path : goal.returns-in-Some-clause-path
returns-in-Some-clause-path c =
    let found = c.in-Some.ensures.cases in
    after_slash c.args.path.now c.in-Some.at found.0 found.1.1 found.1.0

pub returns-in-None-clause-boundary : goal.returns-in-None-clause-boundary
returns-in-None-clause-boundary c = IsCharBoundary-start c.args.path.now c.utf8.path

pub returns-in-None-clause-path : goal.returns-in-None-clause-path
returns-in-None-clause-path c = without_slash c.args.path.now c.in-None.ensures.cases
