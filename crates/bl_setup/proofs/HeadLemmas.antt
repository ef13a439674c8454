-- What the first two lines declare, and why they declare nothing.
use Rattle.std.proofs.Common.{◌≡◌, ℕ, zero, suc, ◌<◌, min, List, [], ◌∷◌, length, get_or, sym, subst, ◌∙◌, arith}
use Rattle.std.specs.List.{All}
use Rattle.std.specs.Borrow.{Bor}
use Rattle.std.proofs.lemmas.List.{length-take, get_or-take, length-map, get_or-map}
use Rattle.std.proofs.lemmas.Option.{get_or_from_slice_get, slice_get_within}
use Rattle.bl_level.specs.Lexing.{Begins}
use Rattle.bl_level.specs.Name.{IsName, AreProper}
use Rattle.bl_level.specs.Table.{IsTable, IsFirstRepeated}
use Rattle.bl_level.specs.Scheme.{SchemeNames}
use Rattle.bl_declare.specs.Declaration.{ranks, categories, spell_names, spell_declaration}
use Rattle.bl_setup.specs.Heads.{DeclaresRanks, DeclaresCategories}
use Rattle.bl_declare.specs.Words.{names_of}
use Rattle.bl_setup.proofs.WholeLemmas.{one_spelled}

-- names that are spelled are names
pub names_proper : (names : List (List ℕ)) → AreProper (spell_names names) → All IsName names
names_proper [] p k d within = absurd (omega arith)
names_proper (n ∷ names) p zero d within = p.0
names_proper (n ∷ names) p (suc k) d within = names_proper names p.1 k d (omega arith)

-- the name at a place
pub name_at : (words : List (Bor (List ℕ))) (k : ℕ) (d : Bor (List ℕ)) → k < length words → All IsName (names_of words) → IsName (get_or words k d).now
name_at words k d within all =
    let P : List ℕ → Type 0 = IsName in
    let e : get_or (names_of words) k [] ≡ (get_or words k d).now = get_or-map (λ (n : Bor (List ℕ)). n.now) words k d [] within in
    subst P e (all k [] (omega (arith, length-map words (λ (n : Bor (List ℕ)). n.now))))

-- names of which one stood before are no table
pub repeated_not : (names : List (List ℕ)) (n : List ℕ) → IsFirstRepeated names n → IsTable names → ⊥
repeated_not names n r table =
    let before = r.before in
    let k = before.0 in
    let short : k < min r.place (length names) = omega (arith, length-take r.place names, before.1) in
    let first : get_or names k n ≡ n = sym (get_or-take r.place names k n (omega arith)) ∙ before.2 in
    let second : get_or names r.place n ≡ n = get_or_from_slice_get names r.place n n r.is in
    table.distinct k r.place n (omega arith) (slice_get_within names r.place n r.is) (first ∙ sym second)

-- the ranks that a line declares are those that it spells
pub ranks_are : (line lowest : List ℕ) (higher : List (List ℕ)) → Begins line (spell_declaration (ranks lowest higher)) [] → (names : List (List ℕ)) → DeclaresRanks line names → names ≡ lowest ∷ higher
ranks_are line lowest higher spelled names r =
    let same : ranks r.lowest r.higher ≡ ranks lowest higher = one_spelled line (ranks r.lowest r.higher) (ranks lowest higher) r.spelled spelled in
    let e = r.is in
    cc

-- so are the categories
pub categories_are : (line : List ℕ) (names words : List (List ℕ)) → Begins line (spell_declaration (categories words)) [] → (scheme : SchemeNames) → DeclaresCategories line names scheme
    → scheme ≡ record { ranks = names; categories = words }
categories_are line names words spelled scheme r =
    let same : categories r.words ≡ categories words = one_spelled line (categories r.words) (categories words) r.spelled spelled in
    let e : r.words ≡ words = cc in
    r.is ∙ (λ i. record { ranks = names; categories = e i })
