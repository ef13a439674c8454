-- That what an answer names has a name.
use Rattle.std.specs.Prelude.{◌<◌, length, IfSome, ⊤}
use Rattle.bl_policy.specs.declared.denial.Denial.{Denial}
use Rattle.bl_work.specs.Names.{KnownNames}
use Rattle.bl_work.specs.declared.answer.Answer.{Answer}
use Rattle.bl_work.specs.declared.answer.Answer.TheVariants.{Done, RuleDone, Denied, Lost}

-- the subject and the document of a denial have names
pub record NamesDenial (names : KnownNames) (denial : Denial) : Type 0 where
  pub subject : denial.subject < length names.subjects
  pub object : IfSome denial.object (λ doc. doc < length names.documents)

abbrev pub NamesAnswer : KnownNames → Answer → Type 0
NamesAnswer names (Done outputs) = ⊤
NamesAnswer names RuleDone = ⊤
NamesAnswer names (Denied denial) = NamesDenial names denial
NamesAnswer names Lost = ⊤
