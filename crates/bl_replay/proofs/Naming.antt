-- What is in a setup has a name.
use Rattle.std.proofs.Common.{ℕ, ◌<◌, length, arith}
use Rattle.std.specs.Prelude.{Option, Some, None, IfSome}
use Rattle.bl_policy.specs.declared.denial.Denial.{Denial}
use Rattle.bl_work.specs.declared.answer.Answer.{Answer}
use Rattle.bl_work.specs.declared.answer.Answer.TheVariants as answer
use Rattle.bl_setup.specs.Agreement.{Agree}
use Rattle.bl_setup.specs.Setup.{Setup, by_version}
use Rattle.bl_setup.specs.declared.version.Version.{Version}
use Rattle.bl_order.specs.Known.{KnowsAnswer, KnowsDenial}
use Rattle.bl_wire.specs.Named.{NamesAnswer, NamesDenial}
use Rattle.bl_trail.specs.StartWords.{NamesWords}
use Rattle.bl_replay.specs.Words.{KnowsWords}
use Rattle.bl_trail.specs.declared.text.Words.{Words}
use Rattle.bl_trail.specs.declared.text.Words.TheVariants as said

object : (s : Setup) → Agree s → (o : Option ℕ) → IfSome o (λ doc. doc < length s.policy.documents) → IfSome o (λ doc. doc < length s.names.documents)
object s agree None h = h
object s agree (Some doc) h = omega (arith, h, agree.documents)

names-denial : (s : Setup) → Agree s → (d : Denial) → KnowsDenial s d → NamesDenial s.names d
names-denial s agree d k = record { subject = omega (arith, k.subject, agree.subjects); object = object s agree d.object k.object }

pub names-answer : (s : Setup) → Agree s → (a : Answer) → KnowsAnswer s a → NamesAnswer s.names a
names-answer s agree (answer.Done shown) k = k
names-answer s agree answer.RuleDone k = k
names-answer s agree (answer.Denied d) k = names-denial s agree d k
names-answer s agree answer.Lost k = k

pub names-words : (s : Setup) → Agree s → (w : Words) → KnowsWords s w → NamesWords s.names w
names-words s agree said.Run k = tt
names-words s agree said.Rule k = tt
names-words s agree (said.Denied d) k = names-denial s agree d k

-- what is in a setup is in it by whatever version
pub knows-by : (v : Version) (s : Setup) (o : Option Words) → IfSome o (KnowsWords (by_version v s)) → IfSome o (KnowsWords s)
knows-by v s None k = k
knows-by v s (Some said.Run) k = k
knows-by v s (Some said.Rule) k = k
knows-by v s (Some (said.Denied d)) k = record { subject = k.subject; object = k.object }
