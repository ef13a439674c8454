-- Categories of a level that were taken so far, up to the next comma or the closing brace.
use Rattle.std.proofs.Common.{◌≡◌, ℕ, Bor, List, [], ◌∷◌, ◌++◌, Some, refl, sym, ap, subst, ◌∙◌}
use Rattle.std.proofs.lemmas.List.{map-append}
use Rattle.bl_name.specs.declared.token.Sign.TheVariants.{Comma, Open, Close}
use Rattle.bl_level.specs.LevelText.{spell_categories}
use Rattle.bl_level.specs.LevelText as of_level
use Rattle.bl_level.specs.Token.{Tok, name, sign}
use Rattle.bl_syntax.specs.RawRules.{raw_names}
use Rattle.bl_work.specs.Machine.{Due, a_name, rest_of_level, rest_of_categories, run}
use Rattle.bl_syntax.specs.Parsing.{Faults, LevelEnds}
use Rattle.bl_syntax.specs.declared.stop.Stop.{Stop}
use Rattle.bl_syntax.proofs.Faults.{faults_behind}

-- categories, each behind a comma
abbrev pub commas : List (List ℕ) → List Tok
commas [] = []
commas (c ∷ categories) = sign Comma ∷ name c ∷ commas categories

-- these tokens are a first category behind the opening brace, more of them, and then the rest
pub record Listed (categories : List (List ℕ)) (whole rest : List Tok) : Type 0 where
  pub first : List ℕ
  pub more : List (List ℕ)
  pub are : categories ≡ first ∷ more
  pub split : whole ≡ sign Open ∷ name first ∷ (commas more ++ rest)

commas_push : (categories : List (List ℕ)) (c : List ℕ) (ts : List Tok) → commas (categories ++ c ∷ []) ++ ts ≡ commas categories ++ sign Comma ∷ name c ∷ ts
commas_push [] c ts = refl
commas_push (x ∷ categories) c ts = ap (λ us. sign Comma ∷ name x ∷ us) (commas_push categories c ts)

pub listed_push : (categories : List (List ℕ)) (c : List ℕ) (whole here behind rest : List Tok) → Listed categories whole here → here ≡ sign Comma ∷ behind → behind ≡ name c ∷ rest
    → Listed (categories ++ c ∷ []) whole rest
listed_push categories c whole here behind rest l e f = record {
  first = l.first;
  more = l.more ++ c ∷ [];
  are = ap (λ cs. cs ++ c ∷ []) l.are;
  split =
      l.split ∙ ap (λ ts. sign Open ∷ name l.first ∷ (commas l.more ++ ts)) (e ∙ ap (λ ts. sign Comma ∷ ts) f)
      ∙ ap (λ ts. sign Open ∷ name l.first ∷ ts) (sym (commas_push l.more c rest));
}

commas_close : (categories : List (List ℕ)) (ts : List Tok) → commas categories ++ sign Close ∷ ts ≡ of_level.spell_more categories ++ ts
commas_close [] ts = refl
commas_close (c ∷ categories) ts = ap (λ us. sign Comma ∷ name c ∷ us) (commas_close categories ts)

-- with the closing brace they are the categories
pub listed_closed : (categories : List (List ℕ)) (whole here rest : List Tok) → Listed categories whole here → here ≡ sign Close ∷ rest
    → (whole ≡ spell_categories categories ++ rest) × LevelEnds categories rest
listed_closed categories whole here rest l e = (
  l.split ∙ ap (λ ts. sign Open ∷ name l.first ∷ (commas l.more ++ ts)) e ∙ ap (λ ts. sign Open ∷ name l.first ∷ ts) (commas_close l.more rest)
      ∙ ap (λ cs. spell_categories cs ++ rest) (sym l.are),
  subst (λ cs. LevelEnds cs rest) (sym l.are) tt,
)

run_commas : (categories : List (List ℕ)) (due : List Due) (ts : List Tok) → run (Some (rest_of_categories ∷ due)) (commas categories ++ ts) ≡ run (Some (rest_of_categories ∷ due)) ts
run_commas [] due ts = refl
run_commas (c ∷ categories) due ts = run_commas categories due ts

-- one more name that was read
pub listed_pushed : (categories : List (Bor (List ℕ))) (c : Bor (List ℕ)) (whole here behind rest : List Tok) → Listed (raw_names categories) whole here → here ≡ sign Comma ∷ behind
    → behind ≡ name c.now ∷ rest → Listed (raw_names (categories ++ c ∷ [])) whole rest
listed_pushed categories c whole here behind rest l e f =
    subst (λ cs. Listed cs whole rest) (sym (map-append (λ (n : Bor (List ℕ)). n.now) categories (c ∷ []))) (listed_push (raw_names categories) c.now whole here behind rest l e f)

-- a fault behind them
pub behind_listed : (want : List Due) (categories : List (List ℕ)) (whole rest : List Tok) (e : Stop) → Listed categories whole rest → Faults (rest_of_categories ∷ want) rest e
    → Faults (rest_of_level ∷ want) whole e
behind_listed want categories whole rest e l f =
    faults_behind (rest_of_level ∷ want) (rest_of_categories ∷ want) (sign Open ∷ name l.first ∷ commas l.more) rest whole e l.split (λ due ts. run_commas l.more (want ++ due) ts) f

-- a fault of the first category
pub behind_open : (want : List Due) (rest whole : List Tok) (e : Stop) → whole ≡ sign Open ∷ rest → Faults (a_name ∷ rest_of_categories ∷ want) rest e → Faults (rest_of_level ∷ want) whole e
behind_open want rest whole e split f =
    faults_behind (rest_of_level ∷ want) (a_name ∷ rest_of_categories ∷ want) (sign Open ∷ []) rest whole e split (λ due ts. refl) f
