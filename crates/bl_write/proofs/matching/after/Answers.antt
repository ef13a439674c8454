use Rattle.std.proofs.Common.{◌≡◌, subst, sym}
use Rattle.std.specs.Prelude.{option_copied}
use Rattle.bl_write.specs.Matching.{left_of}
use Rattle.bl_write.proofs.Matches.{stripped}
use Rattle.bl_write.proofs.matching.after.Goals as goal

pub returns-in-Some : goal.returns-in-Some
returns-in-Some c =
    subst (λ o. option_copied c.strip_prefix.result ≡ left_of c.args.bytes.now (option_copied o)) (sym c.in-Some.is)
    (stripped c.in-Some.text.now c.args.bytes.now c.strip_prefix.result c.strip_prefix.ensures.cases)
