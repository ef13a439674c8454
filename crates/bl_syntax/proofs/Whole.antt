-- The bytes of a line read as one line, or have a fault.
use Rattle.std.proofs.Common.{◌≡◌, ℕ, ◌+◌, List, [], ◌∷◌, length, Option, refl, sym, ap, subst, ◌∙◌}
use Rattle.std.proofs.lemmas.List.{append-nil}
use Rattle.bl_level.specs.Token.{Tok}
use Rattle.bl_level.specs.Lexing.{Front, nothing, token, broken, front, Begins}
use Rattle.bl_level.specs.Name.{AreProper}
use Rattle.bl_level.specs.Cutting.{Cut, EndsAs}
use Rattle.bl_work.specs.Grammar.{SpelledLine, spell}
use Rattle.bl_work.specs.Fault.{ReadsAs, FirstTokenAtFault, SyntaxFault}
use Rattle.bl_name.proofs.Readings.{one_reading, read_proper}
use Rattle.bl_syntax.specs.Tokens.{tokens_of, end_of}
use Rattle.bl_syntax.proofs.Tokens.{IsOver, reaches, reads_whole, tokens_proper}
use Rattle.bl_syntax.proofs.Places.{cut_begins}
use Rattle.bl_syntax.proofs.Unique.{same_line, line_no_fault}
use Rattle.bl_syntax.proofs.OneFault.{reads_no_fault}

ends_no_token : (total : ℕ) (place : Option ℕ) (f : Front) → EndsAs total f place → (t : Tok) (more : List ℕ) → f ≡ token t more → ⊥
ends_no_token total place nothing e t more f = cc
ends_no_token total place (broken from) e t more f = cc
ends_no_token total place (token u us) e t more f = absurd e

-- two readings that both end where no token stands are one
begins_one : (ts us : List Tok) (bytes r s : List ℕ) → Begins bytes ts r → ((t : Tok) (more : List ℕ) → front r ≡ token t more → ⊥)
    → Begins bytes us s → ((t : Tok) (more : List ℕ) → front s ≡ token t more → ⊥) → (ts ≡ us) × (r ≡ s)
begins_one [] [] bytes r s b n c m = (refl, b ∙ sym c)
begins_one [] (u ∷ us) bytes r s b n (more, f, c) m = absurd (n u more (ap front b ∙ f))
begins_one (t ∷ ts) [] bytes r s (more, f, b) n c m = absurd (m t more (ap front c ∙ f))
begins_one (t ∷ ts) (u ∷ us) bytes r s (more, f, b) n (more', f', c) m =
    let e : token t more ≡ token u more' = sym f ∙ f' in
    let same : more' ≡ more = cc in
    let p = begins_one ts us more r s b n (rw same at c) m in
    (cc, p.1)

not_over : (f : Front) → IsOver f → (t : Tok) (more : List ℕ) → f ≡ token t more → ⊥
not_over nothing o t more e = cc
not_over (broken from) o t more e = cc
not_over (token u us) o t more e = absurd o

-- bytes are cut into their tokens
pub cut_tokens : (total : ℕ) (bytes : List ℕ) (ts : List Tok) (ks : List ℕ) (place : Option ℕ) → Cut total bytes ts ks place → ts ≡ tokens_of bytes
cut_tokens total bytes ts ks place cut =
    let c = cut_begins total bytes ts ks place cut in
    let r = reaches bytes in
    (begins_one ts (tokens_of bytes) bytes c.0 r.rest c.1 (ends_no_token total place (front c.0) c.2) r.begins (λ t more f. not_over (end_of bytes) r.over t more (sym r.stands ∙ f))).0

-- bytes whose tokens are those of a line, with nothing behind them, read as the line
pub line_reads : (bytes : List ℕ) (l : SpelledLine) → tokens_of bytes ≡ spell l → end_of bytes ≡ nothing → ReadsAs bytes l
line_reads bytes l same is = subst (λ ts. Begins bytes ts []) same (reads_whole bytes is)

-- bytes read as one line
pub reads_one : (bytes : List ℕ) (l m : SpelledLine) → ReadsAs bytes l → ReadsAs bytes m → l ≡ m
reads_one bytes l m a b = same_line l m (one_reading bytes (spell l) (spell m) a b)

pub reads_proper : (bytes : List ℕ) (l : SpelledLine) → ReadsAs bytes l → AreProper (spell l)
reads_proper bytes l reads = read_proper bytes [] (spell l) reads

-- the tokens of bytes that read as a line are its tokens
line_tokens : (bytes : List ℕ) (l : SpelledLine) → ReadsAs bytes l → tokens_of bytes ≡ spell l
line_tokens bytes l reads =
    let r = reaches bytes in
    (begins_one (tokens_of bytes) (spell l) bytes r.rest [] r.begins (λ t more f. not_over (end_of bytes) r.over t more (sym r.stands ∙ f)) reads (λ t more f. absurd (never t more f))).0
  where
    never : (t : Tok) (more : List ℕ) → front [] ≡ token t more → ⊥
    never t more f = cc

-- among them no token is at fault, nor stands a lexical fault behind them
pub reads_no_stop : (bytes : List ℕ) (l : SpelledLine) (left : ℕ) → ReadsAs bytes l → FirstTokenAtFault (tokens_of bytes) left → ⊥
reads_no_stop bytes l left reads fault = line_no_fault l (tokens_of bytes) left (tokens_proper bytes) (sym (line_tokens bytes l reads)) fault

pub reads_not_broken : (bytes : List ℕ) (l : SpelledLine) (place : ℕ) → ReadsAs bytes l → SyntaxFault bytes place → ⊥
reads_not_broken bytes l place reads fault = reads_no_fault read_proper bytes l place reads fault

-- a lexical fault behind the tokens of a line is the first fault
pub broken_fault : (bytes : List ℕ) (l : SpelledLine) (from : List ℕ) (place : ℕ) → tokens_of bytes ≡ spell l → end_of bytes ≡ broken from → place + length from ≡ length bytes → SyntaxFault bytes place
broken_fault bytes l from place same is at =
    let r = reaches bytes in
    record {
      before = tokens_of bytes;
      rest = r.rest;
      left = length from;
      begins = r.begins;
      goes_on = (l, [], sym same ∙ sym (append-nil (tokens_of bytes)), tt);
      fault = rw (r.stands ∙ is) refl;
      place_is = at;
    }
