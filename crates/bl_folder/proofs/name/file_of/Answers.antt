use Rattle.std.proofs.Common.{ℕ, List, Option, Bor, arith}
use Rattle.std.specs.Prelude.{None, Some}
use Rattle.std.proofs.lemmas.Str.Pattern.{split_after, split_parts}
use Rattle.bl_folder.specs.Names.{kind_text, number_text}
use Rattle.bl_folder.proofs.Numbers.{no-dot, small-name}
use Rattle.bl_folder.proofs.Parting.{by-parts}
use Rattle.bl_folder.proofs.name.file_of.Goals as goal

pub returns-in-Some : goal.returns-in-Some
returns-in-Some c =
    let name = c.args.name.now in
    let found : Option (Bor (List ℕ) × Bor (List ℕ)) = Some (c.in-Some.number, c.in-Some.kind) in
    by-parts c.file_in.result name c.in-Some.number.now c.in-Some.kind.now (split_parts 46 name found c.in-Some.ensures.cases (omega arith)).0
    (λ file is_run is. split_after 46 name (number_text file.run) (kind_text file.kind) found c.in-Some.ensures.cases (omega arith) is
    (no-dot file.run (small-name file.run is_run)))
    c.file_in.ensures

pub returns-in-None : goal.returns-in-None
returns-in-None c file is_run is =
    split_after 46 c.args.name.now (number_text file.run) (kind_text file.kind) None c.in-None.ensures.cases (omega arith) is
    (no-dot file.run (small-name file.run is_run))
