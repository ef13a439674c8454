-- How long the text of a setup may be.
use Rattle.std.proofs.Common.{◌≡◌, ℕ, zero, suc, ◌+◌, ◌*◌, ◌≤◌, Bool, true, false, cond, ◌&&◌, Some, None, List, [], ◌∷◌, ◌++◌, length, map, get_or, arith, length-append}
use Rattle.std.specs.Prelude.{◌==◌}
use Rattle.std.specs.List.{AllByRecursion}
use Rattle.std.specs.Int.{bit_at}
use Rattle.bl_document.specs.Content.{IsContent}
use Rattle.bl_name.specs.Canonical.{canonical, gap, is_word, spelled}
use Rattle.bl_name.specs.Lexing.{word_text}
use Rattle.bl_name.specs.Name.{IsName}
use Rattle.bl_name.specs.Token.{Tok, reserved}
use Rattle.bl_name.specs.declared.token.Keyword.{Keyword}
use Rattle.bl_name.specs.declared.token.Keyword.TheVariants as word
use Rattle.bl_level.specs.Level.{SecurityLevel}
use Rattle.bl_level.specs.LevelText.{held_names, spell_categories, spell_level, spell_more, text_of}
use Rattle.bl_level.specs.Scheme.{SchemeNames, IsScheme}
use Rattle.bl_policy.specs.declared.access.Mode.{Mode}
use Rattle.bl_policy.specs.declared.access.Mode.TheVariants.{Read, Append, Write}
use Rattle.bl_policy.specs.Matrix.{Matrix}
use Rattle.bl_policy.specs.Policy.{Clearance}
use Rattle.std.proofs.lemmas.List.Elements.{recursion_from_All}
use Rattle.bl_declare.specs.Declaration.{Declaration, categories, letter_of, document_word, spell_content, spell_declaration, spell_flag, spell_modes, spell_names}
use Rattle.bl_setup.specs.Setup.{Setup}
use Rattle.bl_state.specs.Texts.{allow_lines, body_lines, cell_lines, declarations_of, document_lines, joined, line_text, modes_at, rank_lines, row_lines, setup_text, subject_lines}
use Rattle.bl_state.specs.Whole.{IsWhole}

-- ---- tokens: each takes its bytes and a space at most

abbrev cost : List Tok → ℕ
cost [] = 0
cost (t ∷ ts) = (length (spelled t) + 1) + cost ts

gap-short : (t : Tok) (ts : List Tok) → length (gap t ts) ≤ 1
gap-short t [] = omega arith
gap-short t (u ∷ us) = go (is_word t && is_word u)
  where
    go : (b : Bool) → length {A = ℕ} (cond b (32 ∷ []) []) ≤ 1
    go true = omega arith
    go false = omega arith

canonical-short : (ts : List Tok) → length (canonical ts) ≤ cost ts
canonical-short [] = omega arith
canonical-short (t ∷ ts) =
    omega (arith, length-append (spelled t) (gap t ts ++ canonical ts), length-append (gap t ts) (canonical ts), gap-short t ts, canonical-short ts)

cost-append : (a b : List Tok) → cost (a ++ b) ≡ cost a + cost b
cost-append [] b = omega arith
cost-append (t ∷ a) b = omega (arith, cost-append a b)

name-short : (bytes : List ℕ) → IsName bytes → length bytes ≤ 32
name-short [] n = omega arith
name-short (b ∷ bytes) n = n.0.2

-- reserved words have ten bytes at most
word-short : (k : Keyword) → length (word_text k) ≤ 10
word-short word.Hello = omega arith
word-short word.Wait = omega arith
word-short word.Give = omega arith
word-short word.Rescind = omega arith
word-short word.Current = omega arith
word-short word.Classify = omega arith
word-short word.When = omega arith
word-short word.Read = omega arith
word-short word.Append = omega arith
word-short word.Write = omega arith
word-short word.Do = omega arith
word-short word.End = omega arith
word-short word.Show = omega arith
word-short word.Say = omega arith
word-short word.Add = omega arith
word-short word.Set = omega arith
word-short word.Copy = omega arith
word-short word.Pour = omega arith
word-short word.To = omega arith
word-short word.If = omega arith
word-short word.Is = omega arith
word-short word.Has = omega arith
word-short word.Then = omega arith
word-short word.Else = omega arith
word-short word.Spawn = omega arith
word-short word.Ranks = omega arith
word-short word.Categories = omega arith
word-short word.Subject = omega arith
word-short word.Greatest = omega arith
word-short word.Document = omega arith
word-short word.Allow = omega arith
word-short word.Trusted = omega arith
word-short word.Admin = omega arith
word-short word.Create = omega arith
word-short word.Delete = omega arith
word-short word.Reserve = omega arith

-- ---- levels

names-short : (level : SecurityLevel) (k : ℕ) (names : List (List ℕ)) → AllByRecursion IsName names
    → cost (spell_more (held_names level k names)) ≤ 35 * length names + 2
names-short level k [] all = omega arith
names-short level k (n ∷ names) all = go (bit_at level.categories k == 1) (names-short level (suc k) names all.1)
  where
    go : (b : Bool) → cost (spell_more (held_names level (suc k) names)) ≤ 35 * length names + 2
        → cost (spell_more (cond b (n ∷ held_names level (suc k) names) (held_names level (suc k) names))) ≤ 35 * suc (length names) + 2
    go true rest = omega (arith, rest, name-short n all.0)
    go false rest = omega (arith, rest)

-- braces take no more than commas
braces-short : (names : List (List ℕ)) → cost (spell_categories names) ≤ cost (spell_more names)
braces-short [] = omega arith
braces-short (n ∷ names) = omega arith

rank-short : (rs : List (List ℕ)) → AllByRecursion IsName rs → (k : ℕ) → length (get_or rs k []) ≤ 32
rank-short [] all k = omega arith
rank-short (n ∷ rs) all zero = name-short n all.0
rank-short (n ∷ rs) all (suc k) = rank-short rs all.1 k

level-short : (scheme : SchemeNames) → IsScheme scheme → (level : SecurityLevel) → cost (spell_level (text_of scheme level)) ≤ 1155
level-short scheme is level =
    omega (
      arith,
      rank-short scheme.ranks (recursion_from_All IsName scheme.ranks is.ranks.proper) level.rank,
      braces-short (held_names level 0 scheme.categories),
      names-short level 0 scheme.categories (recursion_from_All IsName scheme.categories is.categories.proper),
      is.categories_fit,
    )

flag-short : (k : Keyword) (b : Bool) → cost (spell_flag k b) ≤ 11
flag-short k true = omega (arith, word-short k)
flag-short k false = omega arith

spelled-names-short : (ns : List (List ℕ)) → AllByRecursion IsName ns → cost (spell_names ns) ≤ 33 * length ns
spelled-names-short [] all = omega arith
spelled-names-short (n ∷ ns) all = omega (arith, name-short n all.0, spelled-names-short ns all.1)

-- ---- lines: each has an LF more

abbrev total : List Declaration → ℕ
total [] = 0
total (d ∷ ds) = (cost (spell_declaration d) + 1) + total ds

total-append : (a b : List Declaration) → total (a ++ b) ≡ total a + total b
total-append [] b = omega arith
total-append (d ∷ a) b = omega (arith, total-append a b)

joined-short : (ds : List Declaration) → length (joined (map line_text ds)) ≤ total ds
joined-short [] = omega arith
joined-short (d ∷ ds) =
    omega (
      arith,
      length-append (line_text d ++ 10 ∷ []) (joined (map line_text ds)),
      length-append (line_text d) (10 ∷ []),
      canonical-short (spell_declaration d),
      joined-short ds,
    )

module _ (scheme : SchemeNames) (is : IsScheme scheme) where
  subject-short : (n : List ℕ) (c : Clearance) → IsName n → total (subject_lines scheme (n ∷ []) (c ∷ [])) ≤ 2399
  subject-short n c proper =
      omega (
        arith,
        name-short n proper,
        level-short scheme is c.greatest,
        level-short scheme is c.current,
        cost-append (spell_level (text_of scheme c.greatest)) (reserved word.Current ∷ (spell_level (text_of scheme c.current) ++ (spell_flag word.Trusted c.trusted ++ spell_flag word.Admin c.admin))),
        cost-append (spell_level (text_of scheme c.current)) (spell_flag word.Trusted c.trusted ++ spell_flag word.Admin c.admin),
        cost-append (spell_flag word.Trusted c.trusted) (spell_flag word.Admin c.admin),
        flag-short word.Trusted c.trusted,
        flag-short word.Admin c.admin,
        word-short word.Subject,
        word-short word.Greatest,
        word-short word.Current,
      )

  subjects-short : (ns : List (List ℕ)) (cs : List Clearance) → AllByRecursion IsName ns → total (subject_lines scheme ns cs) ≤ 2399 * length ns
  subjects-short [] cs all = omega arith
  subjects-short (n ∷ ns) [] all = omega arith
  subjects-short (n ∷ ns) (c ∷ cs) all = omega (arith, subject-short n c all.0, subjects-short ns cs all.1)

  content-short : (p : Bool) (x : List ℕ) → IsContent x → cost (spell_content (cond p (Some x) None)) ≤ 65539
  content-short true x h = omega (arith, h.short, length-append x (34 ∷ []))
  content-short false x h = omega arith

  document-short : (n : List ℕ) (l : SecurityLevel) (p : Bool) (x : List ℕ) → IsName n → IsContent x
      → total (document_lines scheme (n ∷ []) (l ∷ []) (p ∷ []) (x ∷ [])) ≤ 66739
  document-short n l p x proper plain =
      omega (
        arith,
        name-short n proper,
        level-short scheme is l,
        content-short p x plain,
        cost-append (spell_level (text_of scheme l)) (spell_content (cond p (Some x) None)),
        either p,
      )
    where
      either : (b : Bool) → length (word_text (document_word (cond b (Some x) None))) ≤ 10
      either true = word-short word.Document
      either false = word-short word.Reserve

  documents-short : (ns : List (List ℕ)) (ls : List SecurityLevel) (ps : List Bool) (xs : List (List ℕ)) → AllByRecursion IsName ns
      → AllByRecursion IsContent xs → total (document_lines scheme ns ls ps xs) ≤ 66739 * length ns
  documents-short [] ls ps xs all plain = omega arith
  documents-short (n ∷ ns) [] ps xs all plain = omega arith
  documents-short (n ∷ ns) (l ∷ ls) [] xs all plain = omega arith
  documents-short (n ∷ ns) (l ∷ ls) (p ∷ ps) [] all plain = omega arith
  documents-short (n ∷ ns) (l ∷ ls) (p ∷ ps) (x ∷ xs) all plain =
      omega (arith, document-short n l p x all.0 plain.0, documents-short ns ls ps xs all.1 plain.1)

-- ---- cells

letter-short : (m : Mode) → length (letter_of m) ≤ 1
letter-short Read = omega arith
letter-short Append = omega arith
letter-short Write = omega arith

modes-short : (ms : List Mode) → cost (spell_modes ms) ≤ 2 * length ms
modes-short [] = omega arith
modes-short (m ∷ ms) = omega (arith, letter-short m, modes-short ms)

few-modes : (r a w : Bool) → length (cond r (Read ∷ []) [] ++ (cond a (Append ∷ []) [] ++ cond w (Write ∷ []) [])) ≤ 3
few-modes true true true = omega arith
few-modes true true false = omega arith
few-modes true false true = omega arith
few-modes true false false = omega arith
few-modes false true true = omega arith
few-modes false true false = omega arith
few-modes false false true = omega arith
few-modes false false false = omega arith

allow-short : (s d : List ℕ) → IsName s → IsName d → (ms : List Mode) → length ms ≤ 3 → total (allow_lines s d ms) ≤ 84
allow-short s d p q [] few = omega arith
allow-short s d p q (m ∷ ms) few = omega (arith, name-short s p, name-short d q, letter-short m, modes-short ms, few, word-short word.Allow)

module _ (m : Matrix) where
  row-short : (s : ℕ) (n : List ℕ) (o : ℕ) (ds : List (List ℕ)) → IsName n → AllByRecursion IsName ds → total (row_lines m s n o ds) ≤ 84 * length ds
  row-short s n o [] p all = omega arith
  row-short s n o (d ∷ ds) p all =
      omega (
        arith,
        total-append (allow_lines n d (modes_at m s o)) (row_lines m s n (suc o) ds),
        allow-short n d p all.0 (modes_at m s o) (few-modes _ _ _),
        row-short s n (suc o) ds p all.1,
      )

  cells-short : (ds : List (List ℕ)) (s : ℕ) (ns : List (List ℕ)) → AllByRecursion IsName ds → AllByRecursion IsName ns → length ds ≤ 1024
      → total (cell_lines m ds s ns) ≤ 86016 * length ns
  cells-short ds s [] all names few = omega arith
  cells-short ds s (n ∷ ns) all names few =
      omega (arith, total-append (row_lines m s n 0 ds) (cell_lines m ds (suc s) ns), row-short s n 0 ds names.0 all, few, cells-short ds (suc s) ns all names.1 few)

ranks-short : (rs : List (List ℕ)) → AllByRecursion IsName rs → length rs ≤ 16 → total (rank_lines rs) ≤ 540
ranks-short [] all few = omega arith
ranks-short (r ∷ rs) all few = omega (arith, name-short r all.0, spelled-names-short rs all.1, few, word-short word.Ranks)

pub text-short : (setup : Setup) → IsWhole setup → length (setup_text setup) ≤ 134217728
text-short setup whole =
    let scheme = setup.names.scheme in
    let is = whole.names.scheme in
    let ns = recursion_from_All IsName setup.names.subjects whole.names.subjects.proper in
    let ds = recursion_from_All IsName setup.names.documents whole.names.documents.proper in
    let subjects = subject_lines scheme setup.names.subjects setup.policy.subjects in
    let documents = document_lines scheme setup.names.documents setup.policy.documents setup.policy.present setup.contents in
    let cells = cell_lines setup.policy.matrix setup.names.documents 0 setup.names.subjects in
    omega (
      arith,
      joined-short (declarations_of setup),
      total-append (rank_lines scheme.ranks) (categories scheme.categories ∷ body_lines setup),
      ranks-short scheme.ranks (recursion_from_All IsName scheme.ranks is.ranks.proper) is.ranks_fit,
      spelled-names-short scheme.categories (recursion_from_All IsName scheme.categories is.categories.proper),
      is.categories_fit,
      word-short word.Categories,
      total-append subjects (documents ++ cells),
      total-append documents cells,
      subjects-short scheme is setup.names.subjects setup.policy.subjects ns,
      whole.names.subjects_fit,
      documents-short scheme is setup.names.documents setup.policy.documents setup.policy.present setup.contents ds whole.contents,
      whole.names.documents_fit,
      cells-short setup.policy.matrix setup.names.documents 0 setup.names.subjects ds ns whole.names.documents_fit,
    )
