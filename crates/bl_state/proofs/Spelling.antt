-- Lines while they are spelled, one behind the other.
use Rattle.std.proofs.Common.{◌≡◌, ℕ, ◌+◌, ◌<◌, List, [], ◌∷◌, ◌++◌, length, arith, refl, sym, ◌∙◌, ap, append_assoc, length-append}
use Rattle.std.specs.Prelude.{Option, Some, None}
use Rattle.bl_declare.specs.Declaration.{Declaration}
use Rattle.bl_setup.specs.Setup.{Setup}
use Rattle.bl_state.specs.declared.line.Line.{Line}
use Rattle.bl_state.specs.declared.line.Line.TheVariants as line
use Rattle.bl_state.specs.Lines.{AreLeft, IsLineOf, StandsBehind, declared_by, lines_from}
use Rattle.bl_state.specs.Texts.{line_text, text_of_lines}
use Rattle.bl_state.specs.Whole.{IsWhole}

-- ---- what is left

-- the text of what is left from a line on, or of nothing
abbrev pub left_text : Setup → Option Line → List ℕ
left_text setup None = []
left_text setup (Some l) = text_of_lines (lines_from setup l)

-- how many lines are left
abbrev pub lines_left : Setup → Option Line → ℕ
lines_left setup None = 0
lines_left setup (Some l) = length (lines_from setup l)

-- one line is that of the ranks
pub first-there : (setup : Setup) → IsWhole setup → IsLineOf setup line.Ranks
first-there setup whole = λ e. absurd (omega (arith, whole.names.scheme.some, ap length e))

pub none-counted : (n : ℕ) → 0 + n ≡ n
none-counted n = omega arith

-- where no line is left
pub left-over : (setup : Setup) (next : Option Line) → ((l : Line) → next ≡ Some l → ⊥) → left_text setup next ≡ []
left-over setup None none = refl
left-over setup (Some l) none = absurd (none l refl)

-- there is such a line, or none
abbrev pub IsThere : Setup → Option Line → Type 0
IsThere setup None = Unit {0}
IsThere setup (Some l) = IsLineOf setup l

module _ (setup : Setup) where
  left-is : (left : List Declaration) (next : Option Line) → AreLeft setup left next → text_of_lines left ≡ left_text setup next
  left-is left None is = ap text_of_lines is
  left-is left (Some l) is = ap text_of_lines is.1

  many-left : (left : List Declaration) (next : Option Line) → AreLeft setup left next → length left ≡ lines_left setup next
  many-left left None is = ap length is
  many-left left (Some l) is = ap length is.1

  there-left : (left : List Declaration) (next : Option Line) → AreLeft setup left next → IsThere setup next
  there-left left None is = tt
  there-left left (Some l) is = is.0

  pub next-there : (l : Line) (next : Option Line) → StandsBehind setup l next → IsThere setup next
  next-there l next (left, is, rest) = there-left left next rest

  pub fewer-left : (l : Line) (next : Option Line) → StandsBehind setup l next → lines_left setup next < lines_left setup (Some l)
  fewer-left l next (left, is, rest) = omega (arith, ap length is, many-left left next rest)

  -- the text from a line on is the line with its LF, and what is left behind it
  pub text-behind : (l : Line) (next : Option Line) → StandsBehind setup l next
      → left_text setup (Some l) ≡ (line_text (declared_by setup l) ++ 10 ∷ []) ++ left_text setup next
  text-behind l next (left, is, rest) =
      ap text_of_lines is ∙ ap (λ text. (line_text (declared_by setup l) ++ 10 ∷ []) ++ text) (left-is left next rest)

  -- what was written, with a further line, and what is left behind it, are what was written before, and what was left then
  pub one-more : (l : Line) (next : Option Line) (old new whole : List ℕ) → StandsBehind setup l next
      → new ≡ old ++ (line_text (declared_by setup l) ++ 10 ∷ []) → old ++ left_text setup (Some l) ≡ whole → new ++ left_text setup next ≡ whole
  one-more l next old new whole behind is all =
      ap (λ text. text ++ left_text setup next) is
      ∙ append_assoc old (line_text (declared_by setup l) ++ 10 ∷ []) (left_text setup next)
      ∙ ap (λ text. old ++ text) (sym (text-behind l next behind))
      ∙ all

  -- so it is of their lengths
  pub one-longer : (l : Line) (next : Option Line) → StandsBehind setup l next
      → length (left_text setup (Some l)) ≡ (length (line_text (declared_by setup l)) + 1) + length (left_text setup next)
  one-longer l next behind =
      omega (
        arith,
        ap length (text-behind l next behind),
        length-append (line_text (declared_by setup l) ++ 10 ∷ []) (left_text setup next),
        length-append (line_text (declared_by setup l)) (10 ∷ []),
      )
