-- The texts in a line are contents where its bytes are not too many.
use Rattle.std.proofs.Common.{◌≡◌, ℕ, ◌+◌, ◌≤◌, List, [], ◌∷◌, ◌++◌, length, refl, ap, subst, ◌∙◌, arith, length-append}
use Rattle.bl_name.specs.declared.token.Keyword.TheVariants.{Do, End, Else}
use Rattle.bl_name.specs.declared.token.Sign.TheVariants.{Semicolon}
use Rattle.bl_level.specs.Token.{Tok, reserved, name, text, sign}
use Rattle.bl_level.specs.Name.{IsProper, AreProper}
use Rattle.bl_level.specs.Canonical.{canonical, spelled, gap}
use Rattle.bl_document.specs.Content.{IsContent, most_bytes}
use Rattle.bl_work.specs.Spelled.{SpelledAccess, SpelledBody, empty, show, say, add, set, copy, pour, if_then, if_else, spawn, spell_more, spell_body}
use Rattle.bl_work.specs.WhenFaults.{AreContents}
use Rattle.bl_work.specs.Grammar.{SpelledLine, hello, wait, when, rule, spell}
use Rattle.bl_work.specs.SpelledTexts.{HasSpelledContents}

-- a text is a content
abbrev IsFit : Tok → Type 0
IsFit (reserved k) = Unit {0}
IsFit (name n) = Unit {0}
IsFit (text words) = IsContent words
IsFit (sign s) = Unit {0}

abbrev AreFit : List Tok → Type 0
AreFit [] = Unit {0}
AreFit (t ∷ ts) = IsFit t × AreFit ts

within : (a b c : ℕ) → a ≤ b → b ≤ c → a ≤ c
within a b c h k = omega (arith, h, k)

fit : (t : Tok) (most limit : ℕ) → limit ≡ most_bytes → most ≤ limit → IsProper t → length (spelled t) ≤ most → IsFit t
fit (reserved k) most limit is few proper short = tt
fit (name n) most limit is few proper short = tt
fit (text words) most limit is few proper short =
    let s : length words ≤ most = omega (arith, short, length-append words (34 ∷ [])) in
    record { short = subst (λ n. length words ≤ n) is (within (length words) most limit s few); plain = proper }
fit (sign s) most limit is few proper short = tt

-- proper tokens whose texts are no longer than a content may be
are_fit : (ts : List Tok) (most limit : ℕ) → limit ≡ most_bytes → most ≤ limit → AreProper ts → length (canonical ts) ≤ most → AreFit ts
are_fit [] most limit is few proper short = tt
are_fit (t ∷ ts) most limit is few (here, more) short =
    let e : length (canonical (t ∷ ts)) ≡ length (spelled t) + (length (gap t ts) + length (canonical ts)) =
    length-append (spelled t) (gap t ts ++ canonical ts) ∙ ap (λ n. length (spelled t) + n) (length-append (gap t ts) (canonical ts)) in
    (fit t most limit is few here (omega (arith, e, short)), are_fit ts most limit is few more (omega (arith, e, short)))

fit_split : (xs ys : List Tok) → AreFit (xs ++ ys) → AreFit xs × AreFit ys
fit_split [] ys h = (tt, h)
fit_split (x ∷ xs) ys (here, more) = let p = fit_split xs ys more in ((here, p.0), p.1)

behind : (t : Tok) (ts : List Tok) → AreFit (t ∷ ts) → AreFit ts
behind t ts (here, more) = more

behind_more : (accesses : List SpelledAccess) (ts : List Tok) → AreFit (spell_more accesses ts) → AreFit ts
behind_more [] ts h = h
behind_more (a ∷ accesses) ts (x, (y, (z, more))) = behind_more accesses ts more

body_contents : (b : SpelledBody) → AreFit (spell_body b) → AreContents b
body_contents empty h = tt
body_contents (show document rest) (x, (y, (z, more))) = body_contents rest more
body_contents (say words rest) (x, (fits, (z, more))) = (fits, body_contents rest more)
body_contents (add document words rest) (x, (y, (fits, (z, more)))) = (fits, body_contents rest more)
body_contents (set document words rest) (x, (y, (fits, (z, more)))) = (fits, body_contents rest more)
body_contents (copy from to rest) (x, (y, (z, (u, (v, more))))) = body_contents rest more
body_contents (pour from to rest) (x, (y, (z, (u, (v, more))))) = body_contents rest more
body_contents (if_then document asks words then_body rest) (x, (y, (z, (fits, (v, more))))) =
    let p = fit_split (spell_body then_body) (reserved End ∷ sign Semicolon ∷ spell_body rest) more in
    (fits, (body_contents then_body p.0, body_contents rest (behind (sign Semicolon) (spell_body rest) (behind (reserved End) (sign Semicolon ∷ spell_body rest) p.1))))
body_contents (if_else document asks words then_body else_body rest) (x, (y, (z, (fits, (v, more))))) =
    let p = fit_split (spell_body then_body) (reserved Else ∷ (spell_body else_body ++ reserved End ∷ sign Semicolon ∷ spell_body rest)) more in
    let q = fit_split (spell_body else_body) (reserved End ∷ sign Semicolon ∷ spell_body rest) (behind (reserved Else) (spell_body else_body ++ reserved End ∷ sign Semicolon ∷ spell_body rest) p.1) in (
      fits,
      (
        body_contents then_body p.0,
        (
          body_contents else_body q.0,
          body_contents rest (behind (sign Semicolon) (spell_body rest) (behind (reserved End) (sign Semicolon ∷ spell_body rest) q.1)),
        ),
      ),
    )
body_contents (spawn first more body rest) (x, (y, (z, (u, behind_first)))) =
    let d : AreFit (spell_body body ++ reserved End ∷ sign Semicolon ∷ spell_body rest) =
    behind (reserved Do) (spell_body body ++ reserved End ∷ sign Semicolon ∷ spell_body rest) (behind_more more (reserved Do ∷ (spell_body body ++ reserved End ∷ sign Semicolon ∷ spell_body rest)) behind_first) in
    let p = fit_split (spell_body body) (reserved End ∷ sign Semicolon ∷ spell_body rest) d in
    (body_contents body p.0, body_contents rest (behind (sign Semicolon) (spell_body rest) (behind (reserved End) (sign Semicolon ∷ spell_body rest) p.1)))

line_fit : (l : SpelledLine) → AreFit (spell l) → HasSpelledContents l
line_fit (hello subject) h = tt
line_fit wait h = tt
line_fit (rule asked) h = tt
line_fit (when first more body) (x, (y, (z, behind_first))) =
    let d : AreFit (spell_body body ++ reserved End ∷ []) = behind (reserved Do) (spell_body body ++ reserved End ∷ []) (behind_more more (reserved Do ∷ (spell_body body ++ reserved End ∷ [])) behind_first) in
    let p = fit_split (spell_body body) (reserved End ∷ []) d in
    body_contents body p.0

-- the texts in a line of proper tokens, whose canonical text is not longer than a content may be, are contents
pub line_contents : (l : SpelledLine) (most : ℕ) → most ≤ most_bytes → AreProper (spell l) → length (canonical (spell l)) ≤ most → HasSpelledContents l
line_contents l most few proper short = line_fit l (are_fit (spell l) most most_bytes refl few proper short)
