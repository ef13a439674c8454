-- What words that ask for no work are told as.
use Rattle.std.proofs.Common.{ℕ, List, refl}
use Rattle.bl_work.specs.Names.{KnownNames}
use Rattle.bl_work.specs.declared.asked.LineFault.{LineFault}
use Rattle.bl_work.specs.declared.asked.LineFault.TheVariants.{Long, Syntax, Deep, Many, Unknown, Twice, Mode, Memory}
use Rattle.bl_question.specs.Asked.{IsNoWork, line_of}
use Rattle.bl_question.specs.Wishes.{HasNoWish, unsaid}

pub unsaid-is : (names : KnownNames) (text : List ℕ) (fault : LineFault) → IsNoWork names (line_of text) fault → HasNoWish names text (unsaid text fault)
unsaid-is names text Long is = (Long, (λ e. cc), is, refl)
unsaid-is names text (Syntax byte) is = (Syntax byte, (λ e. cc), is, refl)
unsaid-is names text Deep is = (Deep, (λ e. cc), is, refl)
unsaid-is names text Many is = (Many, (λ e. cc), is, refl)
unsaid-is names text (Unknown name) is = (Unknown name, (λ e. cc), is, refl)
unsaid-is names text (Twice name) is = (Twice name, (λ e. cc), is, refl)
unsaid-is names text (Mode name) is = (Mode name, (λ e. cc), is, refl)
unsaid-is names text Memory is = refl
