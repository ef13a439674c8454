-- A line asks one thing, or has one fault.
use Rattle.std.proofs.Common.{◌≡◌, ◌≢◌, ℕ, ◌≤◌, ◌<◌, List, [], length, refl, sym, ap, subst, ◌∙◌, arith}
use Rattle.bl_level.specs.Token.{Tok}
use Rattle.bl_level.specs.Lexing.{Begins}
use Rattle.bl_level.specs.Name.{AreProper}
use Rattle.bl_work.specs.declared.asked.Line.{Line}
use Rattle.bl_work.specs.declared.asked.LineFault.{LineFault}
use Rattle.bl_work.specs.declared.asked.LineFault.TheVariants.{Long, Syntax, Deep, Many, Unknown, Twice, Mode, Memory}
use Rattle.bl_work.specs.Names.{KnownNames}
use Rattle.bl_work.specs.Grammar.{SpelledLine, hello, wait, when, rule, spell}
use Rattle.bl_work.specs.Fault.{ReadsAs, SyntaxFault}
use Rattle.bl_work.specs.LineGrammar.{most_line_bytes, Means, LineOf}
use Rattle.bl_read.specs.LineFaults.{IsFaultOf, HasFault, IsLineFault}
use Rattle.bl_syntax.proofs.Unique.{same_line}
use Rattle.bl_work.proofs.WhenFaults as of_when
use Rattle.bl_read.proofs.RuleMeanings.{one_rule_fault}
use Rattle.bl_read.proofs.Meanings.{means_one, means_no_fault}
use Rattle.bl_syntax.proofs.OneFault.{reads_no_fault}

-- what two laws of the tokens and one of the lines say
abbrev pub OneReading : Type 0
OneReading = (bytes : List ℕ) (ts us : List Tok) → Begins bytes ts [] → Begins bytes us [] → ts ≡ us

abbrev pub ReadProper : Type 0
ReadProper = (bytes rest : List ℕ) (ts : List Tok) → Begins bytes ts rest → AreProper ts

abbrev pub OneSyntaxFault : Type 0
OneSyntaxFault = (bytes : List ℕ) (k l : ℕ) → SyntaxFault bytes k → SyntaxFault bytes l → k ≡ l

one_spelled : OneReading → (bytes : List ℕ) (s t : SpelledLine) → ReadsAs bytes s → ReadsAs bytes t → s ≡ t
one_spelled one bytes s t p q = same_line s t (one bytes (spell s) (spell t) p q)

pub one_line : OneReading → (names : KnownNames) (bytes : List ℕ) (l m : Line) → LineOf names bytes l → LineOf names bytes m → l ≡ m
one_line one names bytes l m a b =
    let same : b.spelled ≡ a.spelled = one_spelled one bytes b.spelled a.spelled b.reads a.reads in
    means_one names a.spelled l m a.means (subst (λ s. Means names s m) same b.means)

-- the faults of a line by what is at fault: its length, its spelling, what it asks, or memory
pub data Cause (names : KnownNames) (bytes : List ℕ) (fault : LineFault) : Type 0 where
  too_long : fault ≡ Long → most_line_bytes < length bytes → Cause names bytes fault
  misspelled : (place : ℕ) → fault ≡ Syntax place → length bytes ≤ most_line_bytes → SyntaxFault bytes place → Cause names bytes fault
  asked_wrong : HasFault names bytes fault → Cause names bytes fault
  no_memory : fault ≡ Memory → Cause names bytes fault

cause_of : (names : KnownNames) (bytes : List ℕ) (fault : LineFault) → IsLineFault names bytes fault → Cause names bytes fault
cause_of names bytes Long f = too_long refl f
cause_of names bytes (Syntax place) f = misspelled place refl f.0 f.1
cause_of names bytes Deep f = asked_wrong f
cause_of names bytes Many f = asked_wrong f
cause_of names bytes (Unknown name) f = asked_wrong f
cause_of names bytes (Twice name) f = asked_wrong f
cause_of names bytes (Mode name) f = asked_wrong f
cause_of names bytes Memory f = no_memory refl

pub line_or_fault : ReadProper → OneReading → (names : KnownNames) (bytes : List ℕ) (l : Line) (f : LineFault) → LineOf names bytes l → IsLineFault names bytes f → f ≡ Memory
line_or_fault proper one names bytes l fault a f = go (cause_of names bytes fault f)
  where
    go : Cause names bytes fault → fault ≡ Memory
    go (too_long is long) = absurd (omega (arith, a.short))
    go (misspelled place is short s) = absurd (reads_no_fault proper bytes a.spelled place a.reads s)
    go (asked_wrong has) =
        let same : has.spelled ≡ a.spelled = one_spelled one bytes has.spelled a.spelled has.reads a.reads in
        absurd (means_no_fault names a.spelled l fault a.means (subst (λ s. IsFaultOf names s fault) same has.fault_is))
    go (no_memory is) = is

-- two faults of a line that was read
one_of_fault : (names : KnownNames) (s : SpelledLine) (f g : LineFault) → IsFaultOf names s f → IsFaultOf names s g → f ≡ g
one_of_fault names (hello name) f g a b = a.0 ∙ sym b.0
one_of_fault names wait f g a b = absurd a
one_of_fault names (when first more body) f g a b = of_when.one_fault names first more body f g a b
one_of_fault names (rule r) f g a b = one_rule_fault names r f g a b

pub one_line_fault : ReadProper → OneReading → OneSyntaxFault → (names : KnownNames) (bytes : List ℕ) (f g : LineFault) → IsLineFault names bytes f → IsLineFault names bytes g
    → f ≢ Memory → g ≢ Memory → f ≡ g
one_line_fault proper one syntax names bytes f g a b p q = go (cause_of names bytes f a) (cause_of names bytes g b)
  where
    go : Cause names bytes f → Cause names bytes g → f ≡ g
    go (no_memory is) d = absurd (p is)
    go c (no_memory is) = absurd (q is)
    go (too_long is long) (too_long is' long') = is ∙ sym is'
    go (too_long is long) (misspelled place is' short s) = absurd (omega (arith))
    go (too_long is long) (asked_wrong has) = absurd (omega (arith, has.short))
    go (misspelled place is short s) (too_long is' long) = absurd (omega (arith))
    go (misspelled place is short s) (misspelled place' is' short' s') = is ∙ ap Syntax (syntax bytes place place' s s') ∙ sym is'
    go (misspelled place is short s) (asked_wrong has) = absurd (reads_no_fault proper bytes has.spelled place has.reads s)
    go (asked_wrong has) (too_long is long) = absurd (omega (arith, has.short))
    go (asked_wrong has) (misspelled place is short s) = absurd (reads_no_fault proper bytes has.spelled place has.reads s)
    go (asked_wrong has) (asked_wrong has') =
        let same : has'.spelled ≡ has.spelled = one_spelled one bytes has'.spelled has.spelled has'.reads has.reads in
        one_of_fault names has.spelled f g has.fault_is (subst (λ s. IsFaultOf names s g) same has'.fault_is)
