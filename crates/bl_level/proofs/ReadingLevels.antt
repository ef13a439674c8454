-- Reading the categories of a level from the left.
use Rattle.std.proofs.Common.{◌≡◌, ℕ, List, [], ◌∷◌, ◌++◌, Result, Err, refl, sym, ap, subst, ◌∙◌, append_assoc, arith, length, ◌<◌}
use Rattle.bl_name.specs.declared.lexer.Class.TheVariants as class
use Rattle.bl_name.specs.declared.token.Sign.TheVariants.{Comma, Open, Close}
use Rattle.bl_level.specs.declared.level.Level.{Level}
use Rattle.bl_level.specs.declared.scheme.LevelFault.{LevelFault}
use Rattle.bl_level.specs.declared.scheme.LevelFault.TheVariants.{Syntax}
use Rattle.bl_name.specs.Token.{Tok, name, sign}
use Rattle.bl_name.specs.Lexing.{token, front, past_blanks, Begins}
use Rattle.bl_level.specs.Scheme.{SchemeNames}
use Rattle.bl_level.specs.LevelText.{LevelText, spell_more, spell_categories, ReadsAsLevel}
use Rattle.bl_level.specs.LevelFault.{Reads}
use Rattle.bl_level.specs.LevelFronts.{StandsFirst, with_name, Lists, ReadsOn}
use Rattle.bl_name.proofs.Fronts.{front_shorter}
use Rattle.bl_name.proofs.Runs.{past_le}

-- further categories, or the closing brace and nothing behind it
data More (bytes : List ℕ) (names : List (List ℕ)) : Type 0 where
  ends : (rest : List ℕ) → StandsFirst bytes (sign Close) rest → [] ≡ past_blanks rest → names ≡ [] → More bytes names
  goes_on : (rest : List ℕ) → StandsFirst bytes (sign Comma) rest → Lists rest names → More bytes names

more_of : (bytes : List ℕ) (names : List (List ℕ)) → Begins bytes (spell_more names) [] → More bytes names
more_of bytes [] at = ends at.0 at.1 at.2 refl
more_of bytes (category ∷ names) at = goes_on at.0 at.1 at.2

go_apart : sign Close ≡ sign Comma → ⊥
go_apart e = cc

-- what stands first is one token, and one rest
same_first : (bytes : List ℕ) (t u : Tok) (rest more : List ℕ) → StandsFirst bytes t rest → StandsFirst bytes u more → (t ≡ u) × (rest ≡ more)
same_first bytes t u rest more d e = let q : token t rest ≡ token u more = sym d ∙ e in (cc, cc)

module _ (scheme : SchemeNames) (so_far next : Result Level LevelFault) (rest behind more category : List ℕ) where
  -- the first category of a list, and what comes behind it
  first_of : (names : List (List ℕ)) → StandsFirst rest (name category) behind → Lists rest names →
      (others : List (List ℕ)) × (names ≡ category ∷ others) × More behind others
  first_of [] at lists = absurd lists
  first_of (n ∷ names) at lists =
      let q = same_first rest (name n) (name category) lists.0 behind lists.1 at in
      let same : n ≡ category = cc (q.0) in
      (names, ap (λ x. x ∷ names) same, more_of behind names (subst (λ bytes. Begins bytes (spell_more names) []) q.1 lists.2))

  pub step_comma : StandsFirst rest (name category) behind → StandsFirst behind (sign Comma) more →
      ((text : LevelText) → Reads scheme text so_far → Reads scheme (with_name text category) next) →
      (result : Result Level LevelFault) → ReadsOn scheme next more result → ReadsOn scheme so_far rest result
  step_comma at comma takes result on = record {
    reads = λ text names reads lists. go text names reads (first_of names at lists);
    syntax = λ none. on.syntax (λ names lists. none (category ∷ names) (listed names lists));
  }
    where
      listed : (names : List (List ℕ)) → Lists more names → Lists rest (category ∷ names)
      listed [] lists = absurd lists
      listed (n ∷ names) lists = (behind, at, (more, comma, lists))

      go : (text : LevelText) (names : List (List ℕ)) → Reads scheme text so_far →
          ((others : List (List ℕ)) × (names ≡ category ∷ others) × More behind others) →
          Reads scheme (record { rank = text.rank; categories = text.categories ++ names }) result
      go text names reads (others, e, ends r close done none) =
          absurd (go_apart (same_first behind (sign Close) (sign Comma) r more close comma).0)
      go text names reads (others, e, goes_on r sep lists) =
          let q = same_first behind (sign Comma) (sign Comma) r more sep comma in
          let read = on.reads (with_name text category) others (takes text reads) (subst (λ bytes. Lists bytes others) q.1 lists) in
          subst (λ cs. Reads scheme (record { rank = text.rank; categories = cs }) result)
          (append_assoc text.categories (category ∷ []) others ∙ ap (λ ns. text.categories ++ ns) (sym e)) read

  pub step_close : StandsFirst rest (name category) behind → StandsFirst behind (sign Close) more → [] ≡ past_blanks more →
      ((text : LevelText) → Reads scheme text so_far → Reads scheme (with_name text category) next) → ReadsOn scheme so_far rest next
  step_close at close done takes = record {
    reads = λ text names reads lists. go text names reads (first_of names at lists);
    syntax = λ none. absurd (none (category ∷ []) (behind, at, (more, close, done)));
  }
    where
      go : (text : LevelText) (names : List (List ℕ)) → Reads scheme text so_far →
          ((others : List (List ℕ)) × (names ≡ category ∷ others) × More behind others) →
          Reads scheme (record { rank = text.rank; categories = text.categories ++ names }) next
      go text names reads (others, e, ends r here done none) =
          subst (λ cs. Reads scheme (record { rank = text.rank; categories = cs }) next)
          (ap (λ ns. text.categories ++ ns) (ap (λ ns. category ∷ ns) (sym none) ∙ sym e)) (takes text reads)
      go text names reads (others, e, goes_on r comma lists) =
          absurd (go_apart (sym (same_first behind (sign Comma) (sign Close) r more comma close).0))

-- where nothing is listed the answer is the fault
pub no_list : (scheme : SchemeNames) (so_far : Result Level LevelFault) (rest : List ℕ) → ((names : List (List ℕ)) → Lists rest names → ⊥) →
    ReadsOn scheme so_far rest (Err Syntax)
no_list scheme so_far rest none = record { reads = λ text names reads lists. absurd (none names lists); syntax = λ _. refl }

pub no_name : (rest : List ℕ) → ((word more : List ℕ) → StandsFirst rest (name word) more → ⊥) → (names : List (List ℕ)) → Lists rest names → ⊥
no_name rest none [] lists = lists
no_name rest none (n ∷ names) lists = none n lists.0 lists.1

-- behind a category neither a comma nor the end
pub no_more : (rest behind category : List ℕ) → StandsFirst rest (name category) behind →
    ((more : List ℕ) → StandsFirst behind (sign Comma) more → ⊥) → ((more : List ℕ) → StandsFirst behind (sign Close) more → [] ≡ past_blanks more → ⊥) →
    (names : List (List ℕ)) → Lists rest names → ⊥
no_more rest behind category at no_comma no_close names lists =
    go (first_of (record { ranks = []; categories = [] }) (Err Syntax) (Err Syntax) rest behind [] category names at lists)
  where
    go : ((others : List (List ℕ)) × (names ≡ category ∷ others) × More behind others) → ⊥
    go (others, e, ends r close done none) = no_close r close done
    go (others, e, goes_on r comma lists) = no_comma r comma

-- what stands first takes bytes
pub shorter : (bytes : List ℕ) (t : Tok) (rest : List ℕ) → StandsFirst bytes t rest → length rest < length bytes
shorter bytes t rest at = omega (arith, front_shorter (past_blanks bytes) t rest at, past_le class.Blank bytes)

-- ---- the whole text of a level

same_text : (text : LevelText) (rank : List ℕ) (names : List (List ℕ)) → text.rank ≡ rank → text.categories ≡ names →
    text ≡ record { rank = rank; categories = names }
same_text text rank names e f = ap (λ r. record { rank = r; categories = text.categories }) e ∙ ap (λ c. record { rank = rank; categories = c }) f

-- behind the rank come no categories, or those in braces
rank_first : (bytes behind rank : List ℕ) (text : LevelText) → StandsFirst bytes (name rank) behind → ReadsAsLevel bytes text →
    (text.rank ≡ rank) × Begins behind (spell_categories text.categories) []
rank_first bytes behind rank text at reads =
    let q = same_first bytes (name text.rank) (name rank) reads.0 behind reads.1 at in
    let same : text.rank ≡ rank = cc (q.0) in
    (same, subst (λ b. Begins b (spell_categories text.categories) []) q.1 reads.2)

at_end : (behind : List ℕ) (names : List (List ℕ)) → [] ≡ past_blanks behind → Begins behind (spell_categories names) [] → names ≡ []
at_end behind [] done begins = refl
at_end behind (n ∷ names) done begins =
    let q : front [] ≡ token (sign Open) begins.0 = ap front done ∙ begins.1 in
    absurd (cc)

pub reads_braces : (scheme : SchemeNames) (bytes behind listed rank : List ℕ) (so_far result : Result Level LevelFault) → StandsFirst bytes (name rank) behind →
    ([] ≡ past_blanks behind → ⊥) → StandsFirst behind (sign Open) listed → Reads scheme (record { rank = rank; categories = [] }) so_far →
    ReadsOn scheme so_far listed result → (text : LevelText) → ReadsAsLevel bytes text → Reads scheme text result
reads_braces scheme bytes behind listed rank so_far result at more brace read on text reads =
    let first = rank_first bytes behind rank text at reads in
    go text.categories refl first.1
  where
    first_is : text.rank ≡ rank
    first_is = (rank_first bytes behind rank text at reads).0

    go : (names : List (List ℕ)) → text.categories ≡ names → Begins behind (spell_categories names) [] → Reads scheme text result
    go [] e begins = absurd (more begins)
    go (n ∷ names) e begins =
        let q = (same_first behind (sign Open) (sign Open) begins.0 listed begins.1 brace).1 in
        let lists : Lists listed (n ∷ names) = subst (λ b. Lists b (n ∷ names)) q begins.2 in
        subst (λ t. Reads scheme t result) (sym (same_text text rank (n ∷ names) first_is e)) (on.reads (record { rank = rank; categories = [] }) (n ∷ names) read lists)

pub braces_syntax : (scheme : SchemeNames) (bytes behind listed rank : List ℕ) (so_far result : Result Level LevelFault) → StandsFirst bytes (name rank) behind →
    StandsFirst behind (sign Open) listed → ReadsOn scheme so_far listed result → ((text : LevelText) → ReadsAsLevel bytes text → ⊥) → result ≡ Err Syntax
braces_syntax scheme bytes behind listed rank so_far result at brace on none =
    on.syntax (λ names lists. no names lists)
  where
    no : (names : List (List ℕ)) → Lists listed names → ⊥
    no [] lists = lists
    no (n ∷ names) lists = none (record { rank = rank; categories = n ∷ names }) (behind, at, (listed, brace, lists))
