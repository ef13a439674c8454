-- What an answer names has a name where the setup agrees with itself.
use Rattle.std.proofs.Common.{ℕ, ◌<◌, length, arith}
use Rattle.std.specs.Prelude.{Option, Some, None, IfSome}
use Rattle.bl_policy.specs.declared.denial.Denial.{Denial}
use Rattle.bl_work.specs.declared.answer.Answer.{Answer}
use Rattle.bl_work.specs.declared.answer.Answer.TheVariants as answer
use Rattle.bl_setup.specs.Agreement.{Agree}
use Rattle.bl_setup.specs.Setup.{Setup}
use Rattle.bl_order.specs.Known.{KnowsAnswer, KnowsDenial}
use Rattle.bl_wire.specs.Named.{NamesAnswer, NamesDenial}

names-object : (s : Setup) → Agree s → (o : Option ℕ) → IfSome o (λ doc. doc < length s.policy.documents) → IfSome o (λ doc. doc < length s.names.documents)
names-object s agree None known = tt
names-object s agree (Some doc) known = omega (arith, agree.documents, known)

pub names-denial : (s : Setup) → Agree s → (d : Denial) → KnowsDenial s d → NamesDenial s.names d
names-denial s agree d known = record { subject = omega (arith, agree.subjects, known.subject); object = names-object s agree d.object known.object }

pub names-answer : (s : Setup) → Agree s → (a : Answer) → KnowsAnswer s a → NamesAnswer s.names a
names-answer s agree (answer.Done shown) known = tt
names-answer s agree answer.RuleDone known = tt
names-answer s agree (answer.Denied d) known = names-denial s agree d known
names-answer s agree answer.Lost known = tt
