-- The tokens that questions are asked of.
use Rattle.std.proofs.Common.{◌≡◌, ℕ, zero, suc, ◌+◌, List, [], ◌∷◌, ◌++◌, length, Option, Some, None, refl, sym, ap, subst, ◌∙◌, append_assoc, length-append, arith}
use Rattle.std.specs.Prelude.{slice_get}
use Rattle.bl_name.specs.declared.token.Keyword.TheVariants.{Ranks, Categories, Subject, Greatest, Current}
use Rattle.bl_name.specs.declared.token.Sign.TheVariants.{Comma, Open}
use Rattle.bl_level.specs.LevelText.{LevelText, spell_level, spell_more, spell_categories}
use Rattle.bl_level.specs.Scheme.{SchemeNames}
use Rattle.bl_level.specs.Token.{Tok, reserved, name, sign}
use Rattle.bl_work.specs.Names.{KnownNames}
use Rattle.bl_declare.specs.Declaration.{Declaration, SubjectText, DocumentText, ranks, categories, subject, document, allow, document_word, spell_declaration, spell_subject, spell_document, spell_content, spell_names, spell_flag}
use Rattle.bl_name.specs.declared.token.Keyword.TheVariants.{Trusted, Admin}
use Rattle.bl_setup.specs.FirstSetupFault.{SoFar, nothing, ranked, declared}
use Rattle.bl_spot.specs.declared.located.Named.{Named}
use Rattle.bl_spot.specs.declared.located.Named.TheVariants as named
use Rattle.bl_spot.specs.Asking.{Asking, ask_names, ask_categories, ask_level, ask_subject, ask_document, ask}
use Rattle.bl_spot.specs.Tokens.{word_asked, AreOfTokens}
use Rattle.bl_spot.proofs.Places.{seam, some_is}

-- each is asked of its token, one after the other
AreAsked : List Tok → List Asking → Type 0
AreAsked tokens [] = Unit {0}
AreAsked tokens (a ∷ askings) = (slice_get tokens a.token ≡ Some (name (word_asked a.question))) × AreAsked tokens askings

each_asked : (tokens : List Tok) (askings : List Asking) → AreAsked tokens askings → AreOfTokens tokens askings
unfolding AreAsked
each_asked tokens [] asked k a e = absurd (cc)
each_asked tokens (b ∷ askings) asked zero a e =
    subst (λ x. slice_get tokens x.token ≡ Some (name (word_asked x.question))) (some_is b a e) asked.0
each_asked tokens (b ∷ askings) asked (suc k) a e = each_asked tokens askings asked.1 k a e

both_asked : (tokens : List Tok) (askings more : List Asking) → AreAsked tokens askings → AreAsked tokens more → AreAsked tokens (askings ++ more)
unfolding AreAsked
both_asked tokens [] more asked behind = behind
both_asked tokens (a ∷ askings) more asked behind = (asked.0, both_asked tokens askings more asked.1 behind)

names_asked : (tokens front : List Tok) (token : ℕ) (of_it : Named) (before words : List (List ℕ)) → tokens ≡ front ++ spell_names words → token ≡ length front
    → AreAsked tokens (ask_names token of_it before words)
unfolding AreAsked
names_asked tokens front token of_it before [] e n = tt
names_asked tokens front token of_it before (word ∷ words) e n = (
  ap (λ ts. slice_get ts token) e ∙ seam front (name word) (spell_names words) token n,
  names_asked tokens (front ++ name word ∷ []) (suc token) of_it (before ++ word ∷ []) words (e ∙ sym (append_assoc front (name word ∷ []) (spell_names words)))
      (omega (arith, n, length-append front (name word ∷ []))),
)

-- a category behind a brace or a comma, and those behind it
categories_asked : (scheme : SchemeNames) (tokens front behind : List Tok) (s : Tok) (token : ℕ) (before : List (List ℕ)) (word : List ℕ) (words : List (List ℕ))
    → tokens ≡ front ++ s ∷ name word ∷ (spell_more words ++ behind) → token ≡ suc (length front) → AreAsked tokens (ask_categories scheme token before (word ∷ words))
unfolding AreAsked
categories_asked scheme tokens front behind s token before word [] e n =
    let here = ap (λ ts. slice_get ts token) (e ∙ sym (append_assoc front (s ∷ []) (name word ∷ (spell_more [] ++ behind))))
    ∙ seam (front ++ s ∷ []) (name word) (spell_more [] ++ behind) token (omega (arith, n, length-append front (s ∷ [])))
    in
    (here, (here, tt))
categories_asked scheme tokens front behind s token before word (next ∷ words) e n =
    let here = ap (λ ts. slice_get ts token) (e ∙ sym (append_assoc front (s ∷ []) (name word ∷ (spell_more (next ∷ words) ++ behind))))
    ∙ seam (front ++ s ∷ []) (name word) (spell_more (next ∷ words) ++ behind) token (omega (arith, n, length-append front (s ∷ [])))
    in (
      here,
      (
        here,
        categories_asked scheme tokens (front ++ s ∷ name word ∷ []) behind (sign Comma) (suc (suc token)) (before ++ word ∷ []) next words
            (e ∙ sym (append_assoc front (s ∷ name word ∷ []) (spell_more (next ∷ words) ++ behind))) (omega (arith, n, length-append front (s ∷ name word ∷ []))),
      ),
    )

-- the categories of a level, behind its rank
braces_asked : (scheme : SchemeNames) (tokens front behind : List Tok) (token : ℕ) (words : List (List ℕ)) → tokens ≡ front ++ (spell_categories words ++ behind)
    → token ≡ suc (length front) → AreAsked tokens (ask_categories scheme token [] words)
unfolding AreAsked
braces_asked scheme tokens front behind token [] e n = tt
braces_asked scheme tokens front behind token (word ∷ words) e n = categories_asked scheme tokens front behind (sign Open) token [] word words e n

level_asked : (scheme : SchemeNames) (tokens front behind : List Tok) (token : ℕ) (l : LevelText) → tokens ≡ front ++ (spell_level l ++ behind) → token ≡ length front
    → AreAsked tokens (ask_level scheme token l)
unfolding AreAsked
level_asked scheme tokens front behind token l e n = (
  ap (λ ts. slice_get ts token) e ∙ seam front (name l.rank) (spell_categories l.categories ++ behind) token n,
  braces_asked scheme tokens (front ++ name l.rank ∷ []) behind (suc (suc token)) l.categories
      (e ∙ sym (append_assoc front (name l.rank ∷ []) (spell_categories l.categories ++ behind))) (omega (arith, n, length-append front (name l.rank ∷ []))),
)

module _ (names : KnownNames) (s : SubjectText) where
  flags : List Tok
  flags = spell_flag Trusted s.trusted ++ spell_flag Admin s.admin

  subject_asked : AreAsked (spell_subject s) (ask_subject names s)
  unfolding AreAsked flags
  subject_asked =
      let before = reserved Subject ∷ name s.name ∷ reserved Greatest ∷ [] in
      let middle = reserved Subject ∷ name s.name ∷ reserved Greatest ∷ (spell_level s.greatest ++ reserved Current ∷ []) in
      let e = ap (λ ts. reserved Subject ∷ name s.name ∷ reserved Greatest ∷ ts) (sym (append_assoc (spell_level s.greatest) (reserved Current ∷ []) (spell_level s.current ++ flags))) in (
        refl,
        both_asked (spell_subject s) (ask_level names.scheme 3 s.greatest) (ask_level names.scheme (4 + length (spell_level s.greatest)) s.current)
            (level_asked names.scheme (spell_subject s) before (reserved Current ∷ (spell_level s.current ++ flags)) 3 s.greatest refl refl)
            (level_asked names.scheme (spell_subject s) middle flags (4 + length (spell_level s.greatest)) s.current e
            (omega (arith, length-append (spell_level s.greatest) (reserved Current ∷ [])))),
      )

document_asked : (names : KnownNames) (d : DocumentText) → AreAsked (spell_document d) (ask_document names d)
unfolding AreAsked
document_asked names d =
    (refl, level_asked names.scheme (spell_document d) (reserved (document_word d.content) ∷ name d.name ∷ []) (spell_content d.content) 2 d.level refl refl)

all_asked : (before : SoFar) (d : Declaration) → AreAsked (spell_declaration d) (ask before d)
unfolding AreAsked
all_asked nothing (ranks lowest higher) = names_asked (spell_declaration (ranks lowest higher)) (reserved Ranks ∷ []) 1 named.Rank [] (lowest ∷ higher) refl refl
all_asked nothing (categories words) = tt
all_asked nothing (subject s) = tt
all_asked nothing (document d) = tt
all_asked nothing (allow a) = tt
all_asked (ranked names) (ranks lowest higher) = tt
all_asked (ranked names) (categories words) = names_asked (spell_declaration (categories words)) (reserved Categories ∷ []) 1 named.Category [] words refl refl
all_asked (ranked names) (subject s) = tt
all_asked (ranked names) (document d) = tt
all_asked (ranked names) (allow a) = tt
all_asked (declared setup) (ranks lowest higher) = tt
all_asked (declared setup) (categories words) = tt
all_asked (declared setup) (subject s) = subject_asked setup.names s
all_asked (declared setup) (document d) = document_asked setup.names d
all_asked (declared setup) (allow a) = (refl, (refl, tt))

-- each question is asked of the token of its number, which is its name
pub asks_its_tokens : (before : SoFar) (d : Declaration) → AreOfTokens (spell_declaration d) (ask before d)
asks_its_tokens before d = each_asked (spell_declaration d) (ask before d) (all_asked before d)
