-- The loop that cuts a text into tokens.
use Rattle.std.proofs.Common.{◌≡◌, ℕ, ◌+◌, ◌<◌, ◌≤◌, List, [], ◌∷◌, ◌++◌, length, refl, sym, ap, append_assoc, Option, None, arith}
use Rattle.std.proofs.lemmas.List.{append-nil}
use Rattle.bl_name.specs.declared.lexer.Class.TheVariants as class
use Rattle.bl_name.specs.declared.lexer.Front.{Front}
use Rattle.bl_name.specs.declared.lexer.Front.TheVariants as source
use Rattle.bl_name.specs.declared.token.Token.{Token}
use Rattle.bl_name.specs.Token.{Tok, tok, toks}
use Rattle.bl_name.specs.Lexing as spec
use Rattle.bl_name.specs.Lexing.{token, front, past, Begins}
use Rattle.bl_name.specs.Name.{AreProper}
use Rattle.bl_name.specs.FrontView.{front_view, IsSound}
use Rattle.bl_name.specs.Cutting.{Cut, EndsAs}
use Rattle.bl_name.proofs.Fronts.{front_splits, front_shorter, broken_within, front_nothing}

-- what the rest is cut into goes behind what there is
abbrev pub Joins : ℕ → List ℕ → List ℕ → List Tok → List ℕ → Type 0
Joins total bytes rest tokens places =
    (ts : List Tok) (ks : List ℕ) (place : Option ℕ) → Cut total rest ts ks place → Cut total bytes (tokens ++ ts) (places ++ ks) place

pub joins_end : (total : ℕ) (bytes rest : List ℕ) (tokens : List Tok) (places : List ℕ) (place : Option ℕ) (f : spec.Front) → Joins total bytes rest tokens places
    → f ≡ front (past class.Blank rest) → EndsAs total f place → Cut total bytes tokens places place
joins_end total bytes rest tokens places place f joins is e =
    rw (append-nil tokens, append-nil places) at (joins [] [] place (refl, rw is at e))

pub joins_more : (total : ℕ) (bytes rest : List ℕ) (tokens : List Tok) (places : List ℕ) (t : Tok) (more : List ℕ) (k : ℕ) → Joins total bytes rest tokens places
    → token t more ≡ front (past class.Blank rest) → k + length (past class.Blank rest) ≡ total → Joins total bytes more (tokens ++ t ∷ []) (places ++ k ∷ [])
joins_more total bytes rest tokens places t more k joins is at ts ks place cut =
    rw (append_assoc tokens (t ∷ []) ts, append_assoc places (k ∷ []) ks) (joins (t ∷ ts) (k ∷ ks) place (more, k, ks, refl, sym is, at, cut))

pub toks_push : (ts : List Token) (t : Token) → toks (ts ++ t ∷ []) ≡ toks ts ++ tok t ∷ []
toks_push [] t = refl
toks_push (x ∷ ts) t = ap (λ y. tok x ∷ y) (toks_push ts t)

-- the tokens of a cut are proper
pub cut_proper : (total : ℕ) (bytes : List ℕ) (ts : List Tok) (ks : List ℕ) (place : Option ℕ) → Cut total bytes ts ks place → AreProper ts
cut_proper total bytes [] ks place cut = tt
cut_proper total bytes (t ∷ ts) ks place (more, k, ks', is, f, at, cut) =
    ((front_splits (past class.Blank bytes) t more f).proper, cut_proper total more ts ks' place cut)

-- what stands at the front of fewer bytes is sound
pub sound : (f : Front) (bytes : List ℕ) (total : ℕ) → length bytes ≤ total → front_view f ≡ front bytes → IsSound total f
sound source.Nothing bytes total within e = tt
sound (source.Token t more) bytes total within e =
    ((front_splits bytes (tok t) more.now (sym e)).proper, less (front_shorter bytes (tok t) more.now (sym e)))
  where
    less : length more.now < length bytes → length more.now < total
    less h = omega arith
sound (source.Broken from) bytes total within e = less (broken_within bytes from.now (sym e))
  where
    less : length from.now ≤ length bytes → length from.now ≤ total
    less h = omega arith

ends_nothing : (total : ℕ) (f : spec.Front) (place : Option ℕ) → place ≡ None → EndsAs total f place → f ≡ spec.nothing
ends_nothing total spec.nothing place is e = refl
ends_nothing total (spec.broken from) place is (k, some, at) = absurd (cc)
ends_nothing total (token t more) place is e = absurd e

-- a text that is cut without a fault reads as its tokens
pub cut_whole : (total : ℕ) (bytes : List ℕ) (ts : List Tok) (ks : List ℕ) (place : Option ℕ) → Cut total bytes ts ks place → place ≡ None → Begins bytes ts []
cut_whole total bytes [] ks place (none, ends) is = sym (front_nothing (past class.Blank bytes) (ends_nothing total (front (past class.Blank bytes)) place is ends))
cut_whole total bytes (t ∷ ts) ks place (more, k, ks', e, f, at, cut) is = (more, f, cut_whole total more ts ks' place cut is)
