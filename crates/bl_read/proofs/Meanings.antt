-- What a line asks is one thing, and what has a fault asks nothing.
use Rattle.std.proofs.Common.{◌≡◌, ℕ, ◌≤◌, List, length, Result, Ok, Err, MatchResult, IfOk, IfErr, get_or, Some, refl, sym, ap, ◌∙◌}
use Rattle.std.specs.Prelude.{Contains}
use Rattle.std.specs.Str.{bytes_eq}
use Rattle.std.proofs.lemmas.Slice.Eq.{bytes_eq-Decides}
use Rattle.std.proofs.lemmas.List.Quantifiers.{position-Some}
use Rattle.bl_level.specs.Table.{place_of}
use Rattle.bl_work.specs.declared.asked.Line.{Line}
use Rattle.bl_work.specs.declared.asked.Line.TheVariants as line
use Rattle.bl_work.specs.declared.work.Work.TheVariants.{Behaviour, Rule}
use Rattle.bl_work.specs.declared.asked.LineFault.{LineFault}
use Rattle.bl_work.specs.declared.asked.LineFault.TheVariants.{Long, Syntax, Deep, Many, Unknown, Twice, Mode, Memory}
use Rattle.bl_work.specs.Names.{KnownNames}
use Rattle.bl_work.specs.Grammar.{SpelledLine, hello, wait, when, rule}
use Rattle.bl_work.specs.Fault.{ReadsAs}
use Rattle.bl_work.specs.LineGrammar.{most_line_bytes, Means, LineOf}
use Rattle.bl_read.specs.LineFaults.{IsFaultOf, IsFaultOrMemory, IsLineFault, IsWantOfMemory}
use Rattle.bl_work.proofs.WhenFaults.{faultless_no_fault}
use Rattle.bl_read.proofs.RuleMeanings.{one_rule, meant_no_fault}

-- a spelled line asks one thing
pub means_one : (names : KnownNames) (s : SpelledLine) (l m : Line) → Means names s l → Means names s m → l ≡ m
means_one names (hello n) (line.Hello a) (line.Hello b) p q = cc
means_one names (hello n) (line.Hello a) _ p q = absurd q
means_one names (hello n) _ _ p q = absurd p
means_one names wait line.Wait line.Wait p q = refl
means_one names wait line.Wait _ p q = absurd q
means_one names wait _ _ p q = absurd p
means_one names (when first more body) (line.Work (Behaviour a)) (line.Work (Behaviour b)) p q = ap (λ s. line.Work (Behaviour s)) (p.1 ∙ sym q.1)
means_one names (when first more body) (line.Work (Behaviour a)) _ p q = absurd q
means_one names (when first more body) _ _ p q = absurd p
means_one names (rule r) (line.Work (Rule a)) (line.Work (Rule b)) p q = ap (λ x. line.Work (Rule x)) (one_rule names r a b p q)
means_one names (rule r) (line.Work (Rule a)) _ p q = absurd q
means_one names (rule r) _ _ p q = absurd p

-- a name that has a place is there
placed : (name : List ℕ) (names : List (List ℕ)) (k : ℕ) → place_of name names ≡ Some k → Contains names name
placed name names k e =
    let p = position-Some (bytes_eq name) names k name e in
    (k, p.0, sym ((bytes_eq-Decides name (get_or names k name)).0 p.1))

-- a line that asks something has no fault
pub means_no_fault : (names : KnownNames) (s : SpelledLine) (l : Line) (fault : LineFault) → Means names s l → IsFaultOf names s fault → ⊥
means_no_fault names (hello n) (line.Hello id) fault m f = f.1 (placed n names.subjects id m)
means_no_fault names (hello n) _ fault m f = m
means_no_fault names wait _ fault m f = f
means_no_fault names (when first more body) (line.Work (Behaviour script)) fault m f = faultless_no_fault names first more body fault m.0 f
means_no_fault names (when first more body) _ fault m f = m
means_no_fault names (rule r) (line.Work (Rule a)) fault m f = meant_no_fault names r a fault m f
means_no_fault names (rule r) _ fault m f = m

-- a fault of a `when` is one of the line
pub when_fault : (names : KnownNames) (s : SpelledLine) (fault : LineFault) → IsFaultOf names s fault → IsFaultOrMemory names s fault
when_fault names s Long f = f
when_fault names s (Syntax place) f = f
when_fault names s Deep f = f
when_fault names s Many f = f
when_fault names s (Unknown name) f = f
when_fault names s (Twice name) f = f
when_fault names s (Mode name) f = f
when_fault names s Memory f = tt

or_memory : (names : KnownNames) (s : SpelledLine) (l : Line) (fault : LineFault) → Means names s l → IsFaultOrMemory names s fault → fault ≡ Memory
or_memory names s l Long m f = absurd (means_no_fault names s l Long m f)
or_memory names s l (Syntax place) m f = absurd (means_no_fault names s l (Syntax place) m f)
or_memory names s l Deep m f = absurd (means_no_fault names s l Deep m f)
or_memory names s l Many m f = absurd (means_no_fault names s l Many m f)
or_memory names s l (Unknown name) m f = absurd (means_no_fault names s l (Unknown name) m f)
or_memory names s l (Twice name) m f = absurd (means_no_fault names s l (Twice name) m f)
or_memory names s l (Mode name) m f = absurd (means_no_fault names s l (Mode name) m f)
or_memory names s l Memory m f = refl

-- ---- the whole line

pub only_of : (names : KnownNames) (s : SpelledLine) (r : Result Line LineFault) → IfOk r (Means names s) → IfErr r (IsFaultOrMemory names s)
    → (l : Line) → Means names s l → MatchResult r (λ x. x ≡ l) IsWantOfMemory
only_of names s (Ok x) found fault l means = means_one names s x l found means
only_of names s (Err e) found fault l means = or_memory names s l e means fault

pub found_of : (names : KnownNames) (bytes : List ℕ) (s : SpelledLine) (r : Result Line LineFault) → length bytes ≤ most_line_bytes → ReadsAs bytes s → IfOk r (Means names s) → IfOk r (λ l. LineOf names bytes l)
found_of names bytes s (Ok l) short reads means = record { short = short; spelled = s; reads = reads; means = means }
found_of names bytes s (Err e) short reads means = means

-- a line is neither too long nor misspelled where it was read
no_syntax : (names : KnownNames) (s : SpelledLine) (place : ℕ) → IsFaultOf names s (Syntax place) → ⊥
no_syntax names (hello n) place f = cc
no_syntax names wait place f = f
no_syntax names (when first more body) place f = f
no_syntax names (rule r) place f = f

no_long : (names : KnownNames) (s : SpelledLine) → IsFaultOf names s Long → ⊥
no_long names (hello n) f = cc
no_long names wait f = f
no_long names (when first more body) f = f
no_long names (rule r) f = f

fault_is : (names : KnownNames) (bytes : List ℕ) (s : SpelledLine) (fault : LineFault) → length bytes ≤ most_line_bytes → ReadsAs bytes s → IsFaultOrMemory names s fault → IsLineFault names bytes fault
fault_is names bytes s Long short reads f = absurd (no_long names s f)
fault_is names bytes s (Syntax place) short reads f = absurd (no_syntax names s place f)
fault_is names bytes s Deep short reads f = record { short = short; spelled = s; reads = reads; fault_is = f }
fault_is names bytes s Many short reads f = record { short = short; spelled = s; reads = reads; fault_is = f }
fault_is names bytes s (Unknown name) short reads f = record { short = short; spelled = s; reads = reads; fault_is = f }
fault_is names bytes s (Twice name) short reads f = record { short = short; spelled = s; reads = reads; fault_is = f }
fault_is names bytes s (Mode name) short reads f = record { short = short; spelled = s; reads = reads; fault_is = f }
fault_is names bytes s Memory short reads f = tt

pub fault_of : (names : KnownNames) (bytes : List ℕ) (s : SpelledLine) (r : Result Line LineFault) → length bytes ≤ most_line_bytes → ReadsAs bytes s → IfErr r (IsFaultOrMemory names s) → IfErr r (IsLineFault names bytes)
fault_of names bytes s (Ok l) short reads f = f
fault_of names bytes s (Err e) short reads f = fault_is names bytes s e short reads f
