-- Why a test is answered so, in words.
use Rattle.std.specs.Prelude.{◌||◌, not, ℕ, Bool, true, false, List, [], ◌∷◌, ◌++◌, fold, slice_index_or, codes, if◌then◌else◌}
use Rattle.bl_level.specs.Level.{SecurityLevel, dominates}
use Rattle.bl_level.specs.LevelText.{canonical_level}
use Rattle.bl_level.specs.Scheme.{SchemeNames, HoldsLevel}
use Rattle.bl_policy.specs.declared.access.Access.{Access}
use Rattle.bl_policy.specs.declared.access.Mode.{Mode}
use Rattle.bl_policy.specs.declared.access.Mode.TheVariants.{Read, Append, Write}
use Rattle.bl_policy.specs.declared.denial.Clause.{Clause}
use Rattle.bl_policy.specs.declared.denial.Clause.TheVariants as failing
use Rattle.bl_policy.specs.Properties.{flows}
use Rattle.bl_work.specs.Letters.{letter_of}
use Rattle.bl_work.specs.Names.{KnownNames}
use Rattle.bl_explain.specs.declared.grounds.Grounds.{Grounds}

-- the levels of the grounds have names
pub record HoldsGrounds (scheme : SchemeNames) (g : Grounds) : Type 0 where
  pub level : HoldsLevel scheme g.level
  pub greatest : HoldsLevel scheme g.greatest
  pub current : HoldsLevel scheme g.current
  pub carried : HoldsLevel scheme g.carried

-- a text, and these behind it, one after the other
abbrev pub behind : List ℕ → List (List ℕ) → List ℕ
behind text pieces = fold (λ before piece. before ++ piece) text pieces

-- these texts, one behind the other
abbrev pub joined : List (List ℕ) → List ℕ
joined pieces = behind [] pieces

-- the name of subject s
abbrev pub subject_name : KnownNames → ℕ → List ℕ
subject_name names s = slice_index_or names.subjects s []

-- the name of document o
abbrev pub document_name : KnownNames → ℕ → List ℕ
document_name names o = slice_index_or names.documents o []

-- the canonical text of a level
abbrev pub level_name : KnownNames → SecurityLevel → List ℕ
level_name names level = canonical_level names.scheme level

-- own choice: these words, and those below
abbrev pub there_words : Bool → List ℕ
there_words true = codes " is there"
there_words false = codes " is not there"

abbrev pub dominates_words : Bool → List ℕ
dominates_words true = codes " dominates "
dominates_words false = codes " does not dominate "

abbrev pub same_words : Bool → List ℕ
same_words true = codes ", is "
same_words false = codes ", is not "

abbrev pub matrix_words : Bool → List ℕ
matrix_words true = codes "the matrix has "
matrix_words false = codes "the matrix has no "

abbrev pub trusted_words : Bool → List ℕ
trusted_words true = codes " is trusted"
trusted_words false = codes " is not trusted"

-- what is said of trust, where the levels alone do not let the access pass
abbrev pub trust_words : Bool → Bool → List ℕ → List ℕ
trust_words passes trusted name = if passes then [] else joined (codes "; " ∷ name ∷ trusted_words trusted ∷ [])

-- whether the document is present
abbrev pub presence_reason : KnownNames → Access → Grounds → List ℕ
presence_reason names access g = joined (document_name names access.doc ∷ there_words g.present ∷ [])

-- what the greatest level of subject s says of a level
abbrev pub greatest_words : KnownNames → ℕ → SecurityLevel → SecurityLevel → List ℕ
greatest_words names s greatest level =
    joined (
    codes "greatest of "
    ∷ subject_name names s
    ∷ codes ", "
    ∷ level_name names greatest
    ∷ codes ","
    ∷ dominates_words (dominates greatest level)
    ∷ level_name names level
    ∷ []
    )

-- what the greatest level dominates
abbrev pub simple_reason : KnownNames → ℕ → Mode → Grounds → List ℕ
simple_reason names s Read g = greatest_words names s g.greatest g.level
simple_reason names s Append g = codes "an append observes nothing"
simple_reason names s Write g = greatest_words names s g.greatest g.level

-- whose current level it is, and this one
abbrev pub current_pieces : KnownNames → ℕ → SecurityLevel → List (List ℕ)
current_pieces names s current = codes "current of " ∷ subject_name names s ∷ codes ", " ∷ level_name names current ∷ []

-- how the current level and the document's stand to each other
abbrev pub flow_reason : KnownNames → ℕ → Mode → Grounds → List ℕ
flow_reason names s Read g =
    joined (current_pieces names s g.current ++ codes "," ∷ dominates_words (flows g.current g.level Read) ∷ level_name names g.level ∷ [])
flow_reason names s Append g =
    joined (level_name names g.level ∷ dominates_words (flows g.current g.level Append) ∷ current_pieces names s g.current)
flow_reason names s Write g =
    joined (current_pieces names s g.current ++ same_words (flows g.current g.level Write) ∷ level_name names g.level ∷ [])

-- the same, and the subject's trust where the levels alone do not let the access pass
abbrev pub star_reason : KnownNames → ℕ → Mode → Grounds → List ℕ
star_reason names s m g = joined (flow_reason names s m g ∷ trust_words (flows g.current g.level m) g.trusted (subject_name names s) ∷ [])

-- whether the matrix has the mode
abbrev pub matrix_reason : KnownNames → ℕ → Access → Grounds → List ℕ
matrix_reason names s access g =
    joined (
    matrix_words g.allowed
    ∷ letter_of access.mode
    ∷ codes " for "
    ∷ subject_name names s
    ∷ codes " and "
    ∷ document_name names access.doc
    ∷ []
    )

-- whether the document's level dominates what is carried, and the subject's trust where it does not and the subject is trusted
abbrev pub carry_words : KnownNames → ℕ → Grounds → List ℕ
carry_words names s g =
    joined (
    level_name names g.level
    ∷ dominates_words (dominates g.level g.carried)
    ∷ codes "carried "
    ∷ level_name names g.carried
    ∷ trust_words (dominates g.level g.carried || not g.trusted) g.trusted (subject_name names s)
    ∷ []
    )

-- what is altered dominates what is carried
abbrev pub carry_reason : KnownNames → ℕ → Mode → Grounds → List ℕ
carry_reason names s Read g = codes "a read alters nothing"
carry_reason names s Append g = carry_words names s g
carry_reason names s Write g = carry_words names s g

-- why the test of this property is answered as it is; no access has a condition of rules
abbrev pub reason : KnownNames → ℕ → Access → Grounds → Clause → List ℕ
reason names s access g failing.Absent = presence_reason names access g
reason names s access g failing.Simple = simple_reason names s access.mode g
reason names s access g failing.Star = star_reason names s access.mode g
reason names s access g failing.Discretionary = matrix_reason names s access g
reason names s access g failing.Carry = carry_reason names s access.mode g
reason names s access g failing.Admin = []
reason names s access g failing.Trusted = []
reason names s access g failing.Greatest = []
reason names s access g failing.Present = []
