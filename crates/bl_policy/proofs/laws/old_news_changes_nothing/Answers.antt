use Rattle.bl_policy.specs.Matrix.{triple}
use Rattle.bl_policy.proofs.Rules.{put_in-there, take_out-absent}
use Rattle.bl_policy.proofs.laws.old_news_changes_nothing.Goals as goal

pub returns-clause-give : goal.returns-clause-give
returns-clause-give c = λ p s t o m has. λ i. record p { matrix = put_in-there p.matrix (triple t o m) has i }

pub returns-clause-rescind : goal.returns-clause-rescind
returns-clause-rescind c = λ p s t o m lacks. λ i. record p { matrix = take_out-absent p.matrix (triple t o m) lacks i }
