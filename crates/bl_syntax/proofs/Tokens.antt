-- What the tokens of bytes are, by what stands at their front.
use Rattle.std.proofs.Common.{◌≡◌, ℕ, zero, suc, ◌<◌, ◌≤◌, List, [], ◌∷◌, length, refl, sym, ap, ◌∙◌, arith}
use Rattle.bl_level.specs.Token.{Tok}
use Rattle.bl_name.specs.declared.lexer.Front.{Front as Standing}
use Rattle.bl_name.specs.declared.lexer.Front.TheVariants as source
use Rattle.bl_level.specs.FrontView.{front_view}
use Rattle.bl_level.specs.Lexing.{Front, nothing, token, broken, front, past_blanks, Begins}
use Rattle.bl_level.specs.Name.{AreProper}
use Rattle.bl_name.proofs.Runs.{past_le}
use Rattle.bl_name.proofs.Fronts.{front_shorter, front_nothing, broken_within}
use Rattle.bl_name.proofs.Readings.{read_proper}
use Rattle.bl_syntax.specs.Tokens.{tokens_within, end_within, tokens_of, end_of, tokens_from, end_from}

-- behind the token at a front stand fewer bytes than so many
abbrev IsBelow : ℕ → Front → Type 0
IsBelow most nothing = Unit {0}
IsBelow most (broken from) = Unit {0}
IsBelow most (token t more) = length more < most

past_short : (bytes : List ℕ) → length (past_blanks bytes) ≤ length bytes
past_short bytes = search past_le

token_below : (bytes : List ℕ) (t : Tok) (more : List ℕ) → front (past_blanks bytes) ≡ token t more → length more < length bytes
token_below bytes t more is = less (front_shorter (past_blanks bytes) t more is) (past_short bytes)
  where
    less : length more < length (past_blanks bytes) → length (past_blanks bytes) ≤ length bytes → length more < length bytes
    less h k = omega arith

below : (bytes : List ℕ) (most : ℕ) (f : Front) → length bytes ≤ most → front (past_blanks bytes) ≡ f → IsBelow most f
below bytes most nothing few is = tt
below bytes most (broken from) few is = tt
below bytes most (token t more) few is = let less = token_below bytes t more is in omega arith

-- it does not matter how many tokens are asked for, where there are no more
enough : (n m : ℕ) (f : Front) → IsBelow n f → IsBelow m f → (tokens_within n f ≡ tokens_within m f) × (end_within n f ≡ end_within m f)
enough zero zero f h k = (refl, refl)
enough zero (suc m) nothing h k = (refl, refl)
enough zero (suc m) (broken from) h k = (refl, refl)
enough zero (suc m) (token t more) h k = absurd (omega arith)
enough (suc n) zero nothing h k = (refl, refl)
enough (suc n) zero (broken from) h k = (refl, refl)
enough (suc n) zero (token t more) h k = absurd (omega arith)
enough (suc n) (suc m) nothing h k = (refl, refl)
enough (suc n) (suc m) (broken from) h k = (refl, refl)
enough (suc n) (suc m) (token t more) h k =
    let p = enough n m (front (past_blanks more)) (below more n (front (past_blanks more)) (omega arith) refl) (below more m (front (past_blanks more)) (omega arith) refl) in
    (ap (λ ts. t ∷ ts) p.0, p.1)

within_from : (most : ℕ) (f : Front) → IsBelow most f → (tokens_within most f ≡ tokens_from f) × (end_within most f ≡ end_from f)
unfolding tokens_of end_of
within_from zero nothing h = (refl, refl)
within_from zero (broken from) h = (refl, refl)
within_from zero (token t more) h = absurd (omega arith)
within_from (suc most) nothing h = (refl, refl)
within_from (suc most) (broken from) h = (refl, refl)
within_from (suc most) (token t more) h =
    let p =
    enough most (length more) (front (past_blanks more)) (below more most (front (past_blanks more)) (omega arith) refl) (below more (length more) (front (past_blanks more)) (omega arith) refl)
    in
    (ap (λ ts. t ∷ ts) p.0, p.1)

-- the tokens of bytes are those from their front on
pub tokens_are : (bytes : List ℕ) → tokens_of bytes ≡ tokens_from (front (past_blanks bytes))
unfolding tokens_of
tokens_are bytes = (within_from (length bytes) (front (past_blanks bytes)) (below bytes (length bytes) (front (past_blanks bytes)) (omega arith) refl)).0

pub end_is : (bytes : List ℕ) → end_of bytes ≡ end_from (front (past_blanks bytes))
unfolding end_of
end_is bytes = (within_from (length bytes) (front (past_blanks bytes)) (below bytes (length bytes) (front (past_blanks bytes)) (omega arith) refl)).1

-- the first of them, and those behind it
pub token_first : (bytes : List ℕ) (t : Tok) (more : List ℕ) → token t more ≡ front (past_blanks bytes) → tokens_of bytes ≡ t ∷ tokens_of more
token_first bytes t more is = tokens_are bytes ∙ ap tokens_from (sym is)

-- what stands at a front where no token stands
pub no_token : (f : Standing) → ((t : _) (more : _) → f ≡ source.Token t more → ⊥) → tokens_from (front_view f) ≡ []
no_token source.Nothing never = refl
no_token (source.Token t more) never = absurd (never t more refl)
no_token (source.Broken from) never = refl

-- there are no more tokens than bytes
few_within : (most : ℕ) (f : Front) → length (tokens_within most f) ≤ most
few_within zero f = omega arith
few_within (suc most) nothing = omega arith
few_within (suc most) (broken from) = omega arith
few_within (suc most) (token t more) = let h = few_within most (front (past_blanks more)) in omega arith

pub few_tokens : (bytes : List ℕ) → length (tokens_of bytes) ≤ length bytes
unfolding tokens_of
few_tokens bytes = few_within (length bytes) (front (past_blanks bytes))

-- no token
abbrev pub IsOver : Front → Type 0
IsOver nothing = Unit {0}
IsOver (broken from) = Unit {0}
IsOver (token t more) = ⊥

-- bytes begin with these tokens, and so ends what stands behind them
pub record Reaches (bytes : List ℕ) (ts : List Tok) (end : Front) : Type 0 where
  pub rest : List ℕ
  pub begins : Begins bytes ts rest
  pub stands : front rest ≡ end
  pub over : IsOver end
  pub short : length rest ≤ length bytes

reaches_none : (bytes : List ℕ) (f : Front) → IsOver f → front (past_blanks bytes) ≡ f → Reaches bytes [] f
reaches_none bytes f over is = record { rest = past_blanks bytes; begins = refl; stands = is; over = over; short = past_short bytes }

reaches_within : (most : ℕ) (bytes : List ℕ) (f : Front) → length bytes ≤ most → front (past_blanks bytes) ≡ f → Reaches bytes (tokens_from f) (end_from f)
reaches_within zero bytes nothing few is = reaches_none bytes nothing tt is
reaches_within (suc most) bytes nothing few is = reaches_none bytes nothing tt is
reaches_within zero bytes (broken from) few is = reaches_none bytes (broken from) tt is
reaches_within (suc most) bytes (broken from) few is = reaches_none bytes (broken from) tt is
reaches_within zero bytes (token t more) few is = let less = token_below bytes t more is in absurd (omega arith)
reaches_within (suc most) bytes (token t more) few is =
    let less = token_below bytes t more is in
    let r = reaches_within most more (front (past_blanks more)) (omega arith) refl in
    let short : length r.rest ≤ length more = r.short in
    rw end_is (record { rest = r.rest; begins = (more, is, rw tokens_are r.begins); stands = r.stands; over = r.over; short = omega arith })

pub reaches : (bytes : List ℕ) → Reaches bytes (tokens_of bytes) (end_of bytes)
reaches bytes = rw (tokens_are bytes, end_is bytes) (reaches_within (length bytes) bytes (front (past_blanks bytes)) (omega arith) refl)

-- where nothing stands behind the tokens, the bytes read as them
pub reads_whole : (bytes : List ℕ) → end_of bytes ≡ nothing → Begins bytes (tokens_of bytes) []
reads_whole bytes is =
    let r = reaches bytes in
    let none : r.rest ≡ [] = front_nothing r.rest (r.stands ∙ is) in
    rw none at r.begins

-- a fault behind the tokens lies among the bytes, or at their end
pub end_among : (bytes from : List ℕ) → end_of bytes ≡ broken from → length from ≤ length bytes
end_among bytes from is =
    let r = reaches bytes in
    let within : length from ≤ length r.rest = broken_within r.rest from (r.stands ∙ is) in
    let short : length r.rest ≤ length bytes = r.short in
    omega arith

pub tokens_proper : (bytes : List ℕ) → AreProper (tokens_of bytes)
tokens_proper bytes = read_proper bytes (reaches bytes).rest (tokens_of bytes) (reaches bytes).begins
