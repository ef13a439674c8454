-- The file as a whole: its first two lines, and then the others.
use Rattle.std.proofs.Common.{◌≡◌, ℕ, ◌≤◌, List, [], ◌∷◌, length, refl, sym, subst, ◌∙◌}
use Rattle.bl_level.specs.Lexing.{Begins}
use Rattle.bl_level.specs.Scheme.{SchemeNames, IsScheme}
use Rattle.bl_setup.specs.Setup.{Setup}
use Rattle.bl_setup.specs.Agreement.{of_scheme}
use Rattle.bl_declare.specs.Declaration.{Declaration, ranks, categories, spell_declaration}
use Rattle.bl_setup.specs.Grammar.{IsSetupWithin, Spells, Leads}
use Rattle.bl_setup.specs.Heads.{DeclaresRanks, DeclaresCategories, BeginsWith, Remain}
use Rattle.bl_setup.specs.Lines.{lines_read}
use Rattle.bl_setup.proofs.HeadLemmas.{ranks_are, categories_are}

-- two lines declare the same ranks
same_ranks : (line : List ℕ) (names others : List (List ℕ)) → DeclaresRanks line names → DeclaresRanks line others → others ≡ names
same_ranks line names others r s = ranks_are line r.lowest r.higher r.spelled others s ∙ sym r.is

-- lines that spell ranks, categories and more
record Heads (lines : List (List ℕ)) (lowest : List ℕ) (higher names : List (List ℕ)) (ds : List Declaration) : Type 0 where
  pub first : List ℕ
  pub second : List ℕ
  pub rest : List (List ℕ)
  pub split : lines ≡ first ∷ second ∷ rest
  pub ranks_spelled : Begins first (spell_declaration (ranks lowest higher)) []
  pub categories_spelled : Begins second (spell_declaration (categories names)) []
  pub others : Spells rest ds

heads_of : (lines : List (List ℕ)) (lowest : List ℕ) (higher names : List (List ℕ)) (ds : List Declaration) → Spells lines (ranks lowest higher ∷ categories names ∷ ds) → Heads lines lowest higher names ds
heads_of [] lowest higher names ds s = absurd (cc)
heads_of (x ∷ []) lowest higher names ds (d, ds', e, b, s) = let none : ds' ≡ [] = s in absurd (cc)
heads_of (x ∷ y ∷ rest) lowest higher names ds (d, ds', e, b, (d', ds'', e', b', s)) =
    let one : d ≡ ranks lowest higher = cc in
    let two : d' ≡ categories names = cc in
    let behind : ds'' ≡ ds = cc in
    record {
      first = x;
      second = y;
      rest = rest;
      split = refl;
      ranks_spelled = subst (λ z. Begins x (spell_declaration z) []) one b;
      categories_spelled = subst (λ z. Begins y (spell_declaration z) []) two b';
      others = subst (Spells rest) behind s;
    }

-- what a setup's text begins with, and what is left then
pub record Parts (lines : List (List ℕ)) (setup : Setup) : Type 0 where
  pub rest : List (List ℕ)
  pub scheme : SchemeNames
  pub begins : BeginsWith lines rest scheme
  pub remain : Remain rest (of_scheme scheme) setup

pub parts_of : (most : ℕ) (bytes : List ℕ) (setup : Setup) → IsSetupWithin most bytes setup → Parts (lines_read bytes) setup
parts_of most bytes setup s =
    let h = heads_of (lines_read bytes) s.lowest s.higher s.names s.declarations s.spelled in
    record {
      rest = h.rest;
      scheme = record { ranks = s.lowest ∷ s.higher; categories = s.names };
      begins = record {
        first = h.first;
        second = h.second;
        names = s.lowest ∷ s.higher;
        split = h.split;
        ranks = record {
          lowest = s.lowest;
          higher = s.higher;
          is = refl;
          spelled = h.ranks_spelled;
          fit = record { some = s.scheme.some; fit = s.scheme.ranks_fit; table = s.scheme.ranks };
        };
        categories = record { words = s.names; is = refl; spelled = h.categories_spelled; whole = s.scheme };
      };
      remain = record { declarations = s.declarations; spelled = h.others; leads = s.leads };
    }

-- the scheme and the lines behind it are one
record Same (rest : List (List ℕ)) (scheme : SchemeNames) (others : List (List ℕ)) (other : SchemeNames) : Type 0 where
  pub lines : others ≡ rest
  pub schemes : other ≡ scheme

same_begin : (lines rest others : List (List ℕ)) (scheme other : SchemeNames) → BeginsWith lines rest scheme → BeginsWith lines others other → Same rest scheme others other
same_begin lines rest others scheme other a b =
    let s = a.split in
    let t = b.split in
    let first : b.first ≡ a.first = cc in
    let second : b.second ≡ a.second = cc in
    let behind : others ≡ rest = cc in
    let n = same_ranks a.first a.names b.names a.ranks (subst (λ x. DeclaresRanks x b.names) first b.ranks) in
    let c = subst (λ x. DeclaresCategories x a.names other) second (subst (λ x. DeclaresCategories b.second x other) n b.categories) in
    record { lines = behind; schemes = categories_are a.second a.names a.categories.words a.categories.spelled other c ∙ sym a.categories.is }

-- so a setup of the text is led to from there
pub remain_of : (most : ℕ) (bytes : List ℕ) (rest : List (List ℕ)) (scheme : SchemeNames) (setup : Setup) → BeginsWith (lines_read bytes) rest scheme → IsSetupWithin most bytes setup → Remain rest (of_scheme scheme) setup
remain_of most bytes rest scheme setup b s =
    let p = parts_of most bytes setup s in
    let e = same_begin (lines_read bytes) rest p.rest scheme p.scheme b p.begins in
    subst (λ x. Remain x (of_scheme scheme) setup) e.lines (subst (λ x. Remain p.rest (of_scheme x) setup) e.schemes p.remain)

-- and what is led to from there is a setup of the text
pub setup_found : (most : ℕ) (bytes : List ℕ) (rest : List (List ℕ)) (scheme : SchemeNames) (setup : Setup) → length bytes ≤ most → BeginsWith (lines_read bytes) rest scheme
    → Remain rest (of_scheme scheme) setup → IsSetupWithin most bytes setup
setup_found most bytes rest scheme setup size b r =
    let e : scheme ≡ record { ranks = b.ranks.lowest ∷ b.ranks.higher; categories = b.categories.words } =
    b.categories.is ∙ (λ i. record { ranks = b.ranks.is i; categories = b.categories.words }) in
    record {
      size = size;
      lowest = b.ranks.lowest;
      higher = b.ranks.higher;
      names = b.categories.words;
      declarations = r.declarations;
      spelled = rw b.split (
        ranks b.ranks.lowest b.ranks.higher,
        categories b.categories.words ∷ r.declarations,
        refl,
        b.ranks.spelled,
        (categories b.categories.words, r.declarations, refl, b.categories.spelled, r.spelled),
      );
      scheme = subst IsScheme e b.categories.whole;
      leads = subst (λ x. Leads (of_scheme x) r.declarations setup) e r.leads;
    }
