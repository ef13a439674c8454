-- A code for works, by which a proof tells two of them apart.
use Rattle.std.specs.Prelude.{◌≡◌, List, refl}
use Rattle.std.specs.Coded.{Coded, coded_list, code_by}
use Rattle.std.proofs.Common.{◌⊎◌, inl, inr}
use base.Stored.{coded⊎}
use Rattle.bl_policy.specs.Codes.{rule_code}
use Rattle.bl_policy.specs.declared.rule.Rule.{Rule}
use Rattle.bl_work.specs.Codes.{coded_part}
use Rattle.bl_work.specs.Statements.{Part}
use Rattle.bl_work.specs.declared.work.Work.{Work}
use Rattle.bl_work.specs.declared.work.Work.TheVariants as work

-- a work: the script of a behaviour, or a rule
abbrev work_code : Work → List Part ⊎ Rule
work_code (work.Behaviour script) = inl script
work_code (work.Rule rule) = inr rule

abbrev work_back : List Part ⊎ Rule → Work
work_back (inl script) = work.Behaviour script
work_back (inr rule) = work.Rule rule

pub work_again : (w : Work) → work_back (work_code w) ≡ w
work_again (work.Behaviour script) = refl
work_again (work.Rule rule) = refl

abbrev pub coded_work : Coded Work
coded_work = code_by (List Part ⊎ Rule) (coded⊎ (coded_list coded_part) rule_code) work_code work_back work_again
