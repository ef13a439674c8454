-- What the whole parser answers.
use Rattle.std.proofs.Common.{◌≡◌, ◌≢◌, ℕ, ◌≤◌, ◌-◌, None, List, [], ◌∷◌, ◌++◌, length, Result, MatchResult, refl, sym, ap, ◌∙◌, arith}
use Rattle.std.specs.Result.{IsErrAnd}
use Rattle.std.proofs.lemmas.Result.{err_from_is_err_and}
use Rattle.bl_name.specs.declared.token.Sign.TheVariants.{Open}
use Rattle.bl_level.specs.Token.{Tok, sign}
use Rattle.bl_level.specs.Lexing.{Front, nothing, token, broken}
use Rattle.bl_work.specs.SpelledRules.{SpelledRule, give, rescind, current, classify, create, delete}
use Rattle.bl_work.specs.Grammar.{SpelledLine, hello, wait, when, rule, spell}
use Rattle.bl_work.specs.Fault.{ReadsAs, FirstTokenAtFault, SyntaxFault}
use Rattle.bl_work.specs.Machine.{a_line, rest_of_level, step}
use Rattle.bl_syntax.specs.Tokens.{tokens_of, end_of, tokens_from, end_from}
use Rattle.bl_syntax.specs.Parsing.{Faults, IsFirstFault, LevelEnds, RuleEnds, LineEnds}
use Rattle.bl_syntax.specs.declared.stop.Stop.{Stop}
use Rattle.bl_syntax.specs.declared.stop.Stop.TheVariants.{Memory, At, Broken}
use Rattle.std.proofs.lemmas.List.{append-nil}
use Rattle.bl_syntax.proofs.Tokens.{end_among}
use Rattle.bl_syntax.proofs.Whole.{line_reads, broken_fault}
use Rattle.bl_work.proofs.Theory.{behind_level, behind_rule, behind_line, run_line, first_fault, fault_at}

pub is_first_fault : (bytes : List ℕ) (e : Stop) → Faults (a_line ∷ []) (tokens_of bytes) e → IsFirstFault bytes e
is_first_fault bytes Memory f = f
is_first_fault bytes (At left) f = first_fault (tokens_of bytes) left f
is_first_fault bytes (Broken place) f = absurd f

pub exits_line : {X : Type 0} (P : X → Type 0) (bytes : List ℕ) (r : Result X Stop) (e : Stop) → IsErrAnd r (λ y. y ≡ e) → Faults (a_line ∷ []) (tokens_of bytes) e → MatchResult r P (λ e. IsFirstFault bytes e)
exits_line P bytes r e is f = let p = err_from_is_err_and r is in rw (p.1, p.2) (is_first_fault bytes e f)

-- what stands behind a line that is over is refused
no_category : (t : Tok) → t ≢ sign Open → step (rest_of_level ∷ []) t ≡ None
no_category (sign Open) ne = absurd (ne refl)
no_category _ ne = refl

level_refuses : (categories : List (List ℕ)) (t : Tok) (rest : List Tok) → LevelEnds categories (t ∷ rest) → step (behind_level categories ++ []) t ≡ None
level_refuses [] t rest over = no_category t over
level_refuses (c ∷ categories) t rest over = refl

rule_refuses : (r : SpelledRule) (t : Tok) (rest : List Tok) → RuleEnds r (t ∷ rest) → step (behind_rule r ++ []) t ≡ None
rule_refuses (give subject document m) t rest over = refl
rule_refuses (rescind subject document m) t rest over = refl
rule_refuses (current level) t rest over = level_refuses level.categories t rest over
rule_refuses (classify document level) t rest over = level_refuses level.categories t rest over
rule_refuses (create document) t rest over = refl
rule_refuses (delete document) t rest over = refl

line_refuses : (l : SpelledLine) (t : Tok) (rest : List Tok) → LineEnds l (t ∷ rest) → step (behind_line l ++ []) t ≡ None
line_refuses (hello n) t rest over = refl
line_refuses wait t rest over = refl
line_refuses (when first more body) t rest over = refl
line_refuses (rule r) t rest over = rule_refuses r t rest over

-- what stands behind a line is a fault
pub more_than_line : (l : SpelledLine) (tokens rest : List Tok) → tokens ≡ spell l ++ rest → LineEnds l rest → rest ≢ [] → FirstTokenAtFault tokens (length rest)
more_than_line l tokens [] e over some = absurd (some refl)
more_than_line l tokens (t ∷ rest) e over some = fault_at tokens (spell l) (t ∷ rest) e (rw (run_line l []) (line_refuses l t rest over))

-- behind a line of these bytes nothing stands: they read as it
pub whole_line : (bytes : List ℕ) (l : SpelledLine) (f : Front) → tokens_of bytes ≡ spell l ++ tokens_from f → end_from f ≡ end_of bytes → f ≡ nothing → ReadsAs bytes l
whole_line bytes l f same ends is = line_reads bytes l (rw is at same ∙ append-nil (spell l)) (sym ends ∙ ap end_from is)

-- a lexical fault stands there: it lies among the bytes, or at their end
pub broken_inside : (bytes : List ℕ) (f : Front) (from : List ℕ) → end_from f ≡ end_of bytes → f ≡ broken from → length from ≤ length bytes
broken_inside bytes f from ends is = end_among bytes from (sym ends ∙ ap end_from is)

pub broken_line : (bytes : List ℕ) (l : SpelledLine) (f : Front) (from : List ℕ) → tokens_of bytes ≡ spell l ++ tokens_from f → end_from f ≡ end_of bytes → f ≡ broken from
    → SyntaxFault bytes (length bytes - length from)
broken_line bytes l f from same ends is =
    let inside : length from ≤ length bytes = broken_inside bytes f from ends is in
    broken_fault bytes l from (length bytes - length from) (rw is at same ∙ append-nil (spell l)) (sym ends ∙ ap end_from is) (omega arith)

-- a token stands there
pub token_line : (bytes : List ℕ) (l : SpelledLine) (f : Front) (t : Tok) (more : List ℕ) → tokens_of bytes ≡ spell l ++ tokens_from f → LineEnds l (tokens_from f) → f ≡ token t more
    → FirstTokenAtFault (tokens_of bytes) (length (tokens_from f))
token_line bytes l f t more same over is = more_than_line l (tokens_of bytes) (tokens_from f) same over (rw is some)
  where
    some : t ∷ tokens_of more ≢ []
    some e = cc
