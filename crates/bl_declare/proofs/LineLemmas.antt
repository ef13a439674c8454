-- A line that is cut into tokens reads as these and no others.
use Rattle.std.proofs.Common.{◌≡◌, ℕ, true, false, List, [], ◌∷◌, Option, Some, None, refl, sym, ap, subst, ◌∙◌}
use Rattle.std.specs.Option.{is_some}
use Rattle.bl_level.specs.Token.{Tok}
use Rattle.bl_level.specs.Lexing.{Front, nothing, token, broken, front, Begins}
use Rattle.bl_level.specs.Name.{AreProper}
use Rattle.bl_level.specs.Cutting.{Cut, EndsAs}
use Rattle.bl_name.proofs.Fronts.{front_nothing}
use Rattle.bl_declare.specs.Declaration.{Declaration, spell_declaration}
use Rattle.bl_declare.specs.Reading.{declaration_at}
use Rattle.bl_declare.proofs.Spelling.{read_is_spelled, spelled_is_read}

none_at_end : (p : List ℕ) (t : Tok) (more : List ℕ) → [] ≡ p → front p ≡ token t more → ⊥
none_at_end p t more e f = let g = rw (← e) at f in cc

-- bytes read as at most one list of tokens
pub begins_one : (bytes : List ℕ) (ts us : List Tok) → Begins bytes ts [] → Begins bytes us [] → ts ≡ us
begins_one bytes [] [] b c = refl
begins_one bytes [] (u ∷ us) b (more, f, c) = absurd (none_at_end _ u more b f)
begins_one bytes (t ∷ ts) [] (more, f, b) c = absurd (none_at_end _ t more c f)
begins_one bytes (t ∷ ts) (u ∷ us) (more, f, b) (more', g, c) =
    let e : token t more ≡ token u more' = sym f ∙ g in
    let same : more' ≡ more = cc in
    let tail = begins_one more ts us b (rw same at c) in
    cc

ends_nothing : (total : ℕ) (f : Front) (place : Option ℕ) → place ≡ None → EndsAs total f place → f ≡ nothing
ends_nothing total nothing place is e = refl
ends_nothing total (broken from) place is (k, some, at) = absurd (cc)
ends_nothing total (token t more) place is e = absurd e

-- without a fault behind the tokens, the bytes read as them
cut_whole : (total : ℕ) (bytes : List ℕ) (ts : List Tok) (ks : List ℕ) (place : Option ℕ) → place ≡ None → Cut total bytes ts ks place → Begins bytes ts []
cut_whole total bytes [] ks place none cut = sym (front_nothing _ (ends_nothing total _ place none cut.1))
cut_whole total bytes (t ∷ ts) ks place none (more, k, ks', is, f, at, cut) = (more, f, cut_whole total more ts ks' place none cut)

ends_none : (total : ℕ) (p : List ℕ) (place : Option ℕ) → [] ≡ p → EndsAs total (front p) place → place ≡ None
ends_none total p place e ends = let P : List ℕ → Type 0 = λ q. EndsAs total (front q) place in subst P (sym e) ends

no_token : (total : ℕ) (place : Option ℕ) (f : Front) (t : Tok) (more : List ℕ) → f ≡ token t more → EndsAs total f place → ⊥
no_token total place nothing t more e ends = cc
no_token total place (broken from) t more e ends = cc
no_token total place (token u us) t more e ends = ends

-- bytes that read as tokens have no fault behind them
cut_none : (total : ℕ) (bytes : List ℕ) (ts : List Tok) (ks : List ℕ) (place : Option ℕ) (us : List Tok) → Cut total bytes ts ks place → Begins bytes us [] → place ≡ None
cut_none total bytes [] ks place [] cut b = ends_none total _ place b cut.1
cut_none total bytes [] ks place (u ∷ us) cut (more, f, b) = absurd (no_token total place _ u more f cut.1)
cut_none total bytes (t ∷ ts) ks place [] (more, k, ks', is, f, at, cut) b = absurd (none_at_end _ t more b f)
cut_none total bytes (t ∷ ts) ks place (u ∷ us) (more, k, ks', is, f, at, cut) (more', g, b) =
    let e : token t more ≡ token u more' = sym f ∙ g in
    let same : more' ≡ more = cc in
    cut_none total more ts ks' place us cut (rw same at b)

-- a line with a fault spells no declaration
pub broken_spells_none : (total : ℕ) (bytes : List ℕ) (ts : List Tok) (ks : List ℕ) (place : Option ℕ) → is_some place ≡ true → Cut total bytes ts ks place
    → (d : Declaration) → Begins bytes (spell_declaration d) [] → ⊥
broken_spells_none total bytes ts ks place some cut d b =
    let none = cut_none total bytes ts ks place (spell_declaration d) cut b in
    let e = rw none at some in cc

none_from_test : (place : Option ℕ) → is_some place ≡ false → place ≡ None
none_from_test None e = refl
none_from_test (Some x) e = absurd (cc)

-- what the parser read is what the line spells
pub line_spells : (total : ℕ) (bytes : List ℕ) (ts : List Tok) (ks : List ℕ) (place : Option ℕ) (d : Declaration) → is_some place ≡ false → Cut total bytes ts ks place
    → declaration_at ts ≡ Some d → Begins bytes (spell_declaration d) []
line_spells total bytes ts ks place d none cut is =
    let P : List Tok → Type 0 = λ us. Begins bytes us [] in
    subst P (read_is_spelled ts d is) (cut_whole total bytes ts ks place (none_from_test place none) cut)

pub line_proper : (ts : List Tok) (d : Declaration) → AreProper ts → declaration_at ts ≡ Some d → AreProper (spell_declaration d)
line_proper ts d proper is = subst AreProper (read_is_spelled ts d is) proper

-- where the parser read none, the line spells none
pub line_spells_none : (total : ℕ) (bytes : List ℕ) (ts : List Tok) (ks : List ℕ) (place : Option ℕ) → is_some place ≡ false → Cut total bytes ts ks place
    → declaration_at ts ≡ None → (d : Declaration) → Begins bytes (spell_declaration d) [] → ⊥
line_spells_none total bytes ts ks place none cut is d b =
    let e = begins_one bytes ts (spell_declaration d) (cut_whole total bytes ts ks place (none_from_test place none) cut) b in
    let f : Some d ≡ None = sym (spelled_is_read d) ∙ ap declaration_at (sym e) ∙ is in
    cc
