use Rattle.std.proofs.Common.{◌≡◌, ◌+◌, ◌*◌, ◌∙◌, cond}
use Rattle.bl_policy.specs.declared.access.Mode.TheVariants.{Read, Append, Write}
use Rattle.bl_policy.specs.Mode.{has_mode}
use Rattle.bl_policy.proofs.ModeLemmas.{flag-has_mode}
use Rattle.bl_policy.proofs.FailuresRows.{number_of}
use Rattle.bl_policy.proofs.policy.cell.place_of_modes.Goals as goal

pub returns-clause-place : goal.returns-clause-place
returns-clause-place c =
    let read : c.contains-read.result ≡ has_mode c.args.modes Read = c.contains-read.ensures tt ∙ flag-has_mode c.args.modes Read in
    let append : c.contains-append.result ≡ has_mode c.args.modes Append = c.contains-append.ensures tt ∙ flag-has_mode c.args.modes Append in
    let write : c.contains-write.result ≡ has_mode c.args.modes Write = c.contains-write.ensures tt ∙ flag-has_mode c.args.modes Write in
    (λ i. number_of c.contains-read.result i + 2 * number_of c.contains-append.result i + 4 * number_of c.contains-write.result i)
    ∙ (λ i. cond (read i) 1 0 + 2 * cond (append i) 1 0 + 4 * cond (write i) 1 0)
