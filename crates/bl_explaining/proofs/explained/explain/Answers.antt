use Rattle.std.proofs.Common.{refl}
use Rattle.std.proofs.lemmas.Result.{IfOk-weaker}
use Rattle.bl_explaining.proofs.explained.explain.Goals as goal

pub returns-clause-explained : goal.returns-clause-explained
returns-clause-explained c =
    IfOk-weaker c.explain_at.result _ _
    (λ told tells. (_, record { setup_is = refl; bytes_is = refl; rules_are = refl; policy_is = c.policy.ensures.value }, tells))
    c.explain_at.ensures.explained
