use Rattle.std.proofs.Common.{◌∙◌, ap}
use Rattle.std.specs.Prelude.{bit_and, ◌==◌}
use Rattle.bl_policy.proofs.ModeLemmas.{flag-has_mode}
use Rattle.bl_explain.proofs.setup_lines.is_in.Goals as goal

pub returns : goal.returns
returns c = c.contains.ensures tt ∙ ap (λ n. bit_and c.args.set.0 n == n) c.from.ensures ∙ flag-has_mode c.args.set c.args.mode
