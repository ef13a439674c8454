-- From the faults of tokens to those of bytes.
use Rattle.std.proofs.Common.{◌≡◌, ℕ, suc, ◌+◌, ◌-◌, ◌≤◌, cond, List, [], ◌∷◌, ◌++◌, length, get_or, Option, None, refl, ap, ◌∙◌, arith, length-append, true, false, eqb}
use Rattle.std.proofs.lemmas.Bool.Decides.{nat_tests}
use Rattle.std.specs.Prelude.{unwrap_or}
use Rattle.std.proofs.lemmas.List.{append-nil}
use Rattle.bl_level.specs.Token.{Tok}
use Rattle.bl_level.specs.Lexing.{Front, nothing, token, broken, front, past_blanks, Begins}
use Rattle.bl_level.specs.Cutting.{Cut, EndsAs}
use Rattle.bl_work.specs.Grammar.{SpelledLine, spell, CanGoOn}
use Rattle.bl_work.specs.Fault.{Blocks, FirstTokenAtFault, FaultAt, SyntaxFault}
use Rattle.bl_syntax.specs.Reading.{fault_place}

-- all the tokens stand at the front, and what is behind them ends so
pub cut_begins : (total : ℕ) (bytes : List ℕ) (ts : List Tok) (ks : List ℕ) (place : Option ℕ) → Cut total bytes ts ks place
    → (rest : List ℕ) × Begins bytes ts rest × EndsAs total (front rest) place
cut_begins total bytes [] ks place (none, ends) = (past_blanks bytes, refl, ends)
cut_begins total bytes (t ∷ ts) ks place (more, k, ks', is, f, at, cut) =
    let c = cut_begins total more ts ks' place cut in (c.0, (more, f, c.1), c.2)

pub cut_long : (total : ℕ) (bytes : List ℕ) (ts : List Tok) (ks : List ℕ) (place : Option ℕ) → Cut total bytes ts ks place → length ks ≡ length ts
cut_long total bytes [] ks place (none, ends) = rw none refl
cut_long total bytes (t ∷ ts) ks place (more, k, ks', is, f, at, cut) = rw is (ap suc (cut_long total more ts ks' place cut))

-- one of the tokens, with its place
pub cut_at : (before after : List Tok) (t : Tok) (total : ℕ) (bytes ks : List ℕ) (place : Option ℕ) → Cut total bytes (before ++ t ∷ after) ks place
    → (rest more : List ℕ) × Begins bytes before rest × (front rest ≡ token t more) × (get_or ks (length before) 0 + length rest ≡ total)
cut_at [] after t total bytes ks place (more, k, ks', is, f, at, cut) = (past_blanks bytes, more, refl, f, rw is at)
cut_at (b ∷ before) after t total bytes ks place (more, k, ks', is, f, at, cut) =
    let c = cut_at before after t total more ks' place cut in (c.0, c.1, (more, f, c.2), c.3, rw is c.4)

-- a lexical fault, or the end, behind all the tokens
ends_fault : (total : ℕ) (before : List Tok) (rest : List ℕ) (place : Option ℕ) (f : Front) → EndsAs total f place → (place ≡ None → (line : SpelledLine) → spell line ≡ before → ⊥)
    → (left : ℕ) × FaultAt before rest f left × (cond true (unwrap_or place total) 0 + left ≡ total)
ends_fault total before rest place nothing e blocked = rw e (0, (refl, blocked e), omega arith)
ends_fault total before rest place (broken from) (k, is, at) blocked = (length from, refl, rw is at)
ends_fault total before rest place (token t more) e blocked = absurd e

pub fault_at_end : (total : ℕ) (bytes : List ℕ) (ts : List Tok) (ks : List ℕ) (place : Option ℕ) → total ≡ length bytes → Cut total bytes ts ks place → CanGoOn ts
    → (place ≡ None → (line : SpelledLine) → spell line ≡ ts → ⊥) → SyntaxFault bytes (unwrap_or place total)
fault_at_end total bytes ts ks place is cut goes_on blocked =
    let c = cut_begins total bytes ts ks place cut in
    let f = ends_fault total ts c.0 place (front c.0) c.2 blocked in
    record { before = ts; rest = c.0; left = f.0; begins = c.1; goes_on = goes_on; fault = f.1; place_is = f.2 ∙ is }

not_zero : (n : ℕ) → eqb (suc n) 0 ≡ false
not_zero n = grind (arith, nat_tests)

fault_cases : (after : List Tok) (total : ℕ) (bytes : List ℕ) (ts before : List Tok) (ks : List ℕ) (place : Option ℕ) (left : ℕ) → total ≡ length bytes → Cut total bytes ts ks place
    → ts ≡ before ++ after → length after ≡ left → CanGoOn before → Blocks before after → SyntaxFault bytes (fault_place total ks place left)
fault_cases [] total bytes ts before ks place left is cut split len goes_on blocked =
    let same : ts ≡ before = split ∙ append-nil before in
    rw (← len) (fault_at_end total bytes ts ks place is cut (rw same goes_on) (λ none. rw same blocked))
fault_cases (t ∷ after) total bytes ts before ks place left is cut split len goes_on blocked =
    let c = cut_at before after t total bytes ks place (rw split at cut) in
    let long : length ks ≡ length before + suc (length after) = cut_long total bytes ts ks place cut ∙ ap length split ∙ length-append before (t ∷ after) in
    let at : length ks - suc (length after) ≡ length before = omega arith in
    rw (← len) (record { before = before; rest = c.0; left = length c.0; begins = c.2; goes_on = goes_on; fault = rw c.3 (refl, blocked); place_is = rw (not_zero (length after), at) (c.4 ∙ is) })

-- the place of the first token at fault is that of the first fault
pub fault_of : (total : ℕ) (bytes : List ℕ) (ts : List Tok) (ks : List ℕ) (place : Option ℕ) (left : ℕ) → total ≡ length bytes → Cut total bytes ts ks place → FirstTokenAtFault ts left
    → SyntaxFault bytes (fault_place total ks place left)
fault_of total bytes ts ks place left is cut f = fault_cases f.after total bytes ts f.before ks place left is cut f.split f.left_is f.goes_on f.blocked

-- there are no fewer tokens than those from the first at fault on
pub left_within : (tokens : List Tok) (left : ℕ) → FirstTokenAtFault tokens left → left ≤ length tokens
left_within tokens left f =
    let long : length tokens ≡ length f.before + length f.after = ap length f.split ∙ length-append f.before f.after in
    let is : length f.after ≡ left = f.left_is in
    omega arith
