-- A rule is read again from its canonical text, and no text of it is shorter.
use Rattle.std.proofs.Common.{◌≡◌, ◌<◌, ◌≤◌, ℕ, List, [], ◌∷◌, ◌++◌, length, get_or, refl, sym, ap, subst, arith, length-append}
use Rattle.bl_name.specs.declared.token.Keyword.TheVariants.{Current, Classify}
use Rattle.bl_level.specs.Canonical.{canonical}
use Rattle.bl_level.specs.Level.{SecurityLevel}
use Rattle.bl_level.specs.Lexing.{Begins, word_text}
use Rattle.bl_level.specs.LevelText.{canonical_level, spell_level, text_of}
use Rattle.bl_level.specs.Name.{IsName, AreProper}
use Rattle.bl_level.specs.Scheme.{HoldsLevel}
use Rattle.bl_level.specs.Table.{IsTable}
use Rattle.bl_level.specs.Token.{Tok, name}
use Rattle.bl_level.proofs.WritingLevels.{place_is, text_means, level_reads_back}
use Rattle.bl_policy.specs.declared.access.Mode.{Mode}
use Rattle.bl_policy.specs.declared.access.Mode.TheVariants.{Read, Append, Write}
use Rattle.bl_policy.specs.declared.rule.Rule.{Rule}
use Rattle.bl_policy.specs.declared.rule.Rule.TheVariants as asked
use Rattle.bl_work.specs.declared.asked.Line.TheVariants as line
use Rattle.bl_work.specs.declared.work.Work.TheVariants as work
use Rattle.bl_work.specs.Grammar.{SpelledLine, hello, wait, when, rule, spell}
use Rattle.bl_write.specs.Known.{IsKnownRule, canonical_rule}
use Rattle.bl_work.specs.LineGrammar.{Means, LineOf}
use Rattle.bl_work.specs.Names.{KnownNames, AreNames}
use Rattle.bl_work.specs.RuleMeaning.{MeansRule}
use Rattle.bl_work.specs.SpelledRules.{SpelledRule, give, rescind, current, classify, create, delete, letter_of, spell_rule}
use Rattle.bl_write.specs.There.{IsRuleThere}
use Rattle.bl_write.specs.Unread.{unread_rule}
use Rattle.bl_work.proofs.Widths.{name_is, place_within, held, level_shorter}

-- what laws of the tokens say
abbrev CanonicalReadsAgain : Type 0
CanonicalReadsAgain = (ts : List Tok) → AreProper ts → Begins (canonical ts) ts []

abbrev CanonicalIsShortest : Type 0
CanonicalIsShortest = (ts : List Tok) (bytes rest : List ℕ) → Begins bytes ts rest → length (canonical ts) ≤ length bytes

abbrev ReadTokensAreProper : Type 0
ReadTokensAreProper = (bytes rest : List ℕ) (ts : List Tok) → Begins bytes ts rest → AreProper ts

-- ---- a rule that is there is read again

-- a letter reads as a name
letter_reads : (mode : Mode) → Begins (letter_of mode) (name (letter_of mode) ∷ []) []
letter_reads Read = ([], refl, refl)
letter_reads Append = ([], refl, refl)
letter_reads Write = ([], refl, refl)

-- the name at a place is a name
table_name : (table : List (List ℕ)) (i : ℕ) → IsTable table → i < length table → IsName (get_or table i [])
table_name table i is within = is.proper i [] within

module _ (proper : ReadTokensAreProper) (names : KnownNames) (table : AreNames names) where
  letter_name : (mode : Mode) → IsName (letter_of mode)
  letter_name mode = (proper (letter_of mode) [] (name (letter_of mode) ∷ []) (letter_reads mode)).0

  level_proper : (level : SecurityLevel) → HoldsLevel names.scheme level → AreProper (spell_level (text_of names.scheme level))
  level_proper level holds =
      let bytes = canonical_level names.scheme level in
      proper bytes [] (spell_level (text_of names.scheme level)) (level_reads_back names.scheme level table.scheme holds bytes refl).spelled

  rule_proper : (r : Rule) → IsRuleThere names r → AreProper (spell_rule (unread_rule names r))
  rule_proper (asked.Give t o m) there =
      (tt, (table_name names.subjects t table.subjects there.ids.0, (table_name names.documents o table.documents there.ids.1, (letter_name m, tt))))
  rule_proper (asked.Rescind t o m) there =
      (tt, (table_name names.subjects t table.subjects there.ids.0, (table_name names.documents o table.documents there.ids.1, (letter_name m, tt))))
  rule_proper (asked.Current l) there = (tt, level_proper l there.level)
  rule_proper (asked.Classify o l) there = (tt, (table_name names.documents o table.documents there.ids, level_proper l there.level))
  rule_proper (asked.Create o) there = (tt, (table_name names.documents o table.documents there.ids, tt))
  rule_proper (asked.Delete o) there = (tt, (table_name names.documents o table.documents there.ids, tt))

module _ (names : KnownNames) (table : AreNames names) where
  -- a rule that is there is what its spelling asks
  pub rule_means : (r : Rule) → IsRuleThere names r → MeansRule names (unread_rule names r) r
  rule_means (asked.Give t o m) there =
      (place_is names.subjects t [] table.subjects.distinct there.ids.0, place_is names.documents o [] table.documents.distinct there.ids.1, refl)
  rule_means (asked.Rescind t o m) there =
      (place_is names.subjects t [] table.subjects.distinct there.ids.0, place_is names.documents o [] table.documents.distinct there.ids.1, refl)
  rule_means (asked.Current l) there = text_means names.scheme l table.scheme there.level
  rule_means (asked.Classify o l) there = (place_is names.documents o [] table.documents.distinct there.ids, text_means names.scheme l table.scheme there.level)
  rule_means (asked.Create o) there = place_is names.documents o [] table.documents.distinct there.ids
  rule_means (asked.Delete o) there = place_is names.documents o [] table.documents.distinct there.ids

pub rule_reads_again : CanonicalReadsAgain → ReadTokensAreProper → (names : KnownNames) (r : Rule) → AreNames names → IsKnownRule names r
    → LineOf names (canonical_rule names r) (line.Work (work.Rule r))
rule_reads_again again proper names r table known = record {
  short = known.short;
  spelled = rule (unread_rule names r);
  reads = again (spell_rule (unread_rule names r)) (rule_proper proper names table r known.there);
  means = rule_means names table r known.there;
}

-- ---- what a text reads as

-- a longer end makes a longer text
longer_end : (front xs ys : List ℕ) → length xs ≤ length ys → length (front ++ xs) ≤ length (front ++ ys)
longer_end front xs ys le = omega (arith, length-append front xs, length-append front ys, le)

same_length : (xs ys : List ℕ) → xs ≡ ys → length xs ≤ length ys
same_length xs ys e = omega (arith, ap length e)

-- what is known of the rule of a line: it is there, and its canonical text is no longer than its tokens
record IsOfSpelled (names : KnownNames) (spelled : SpelledRule) (r : Rule) : Type 0 where
  there : IsRuleThere names r
  shorter : length (canonical_rule names r) ≤ length (canonical (spell_rule spelled))

module _ (names : KnownNames) (table : AreNames names) where
  -- two names that stand at two places are those of the tables
  same_right : (s o : List ℕ) (t d : ℕ) (m k : Mode) (front : List ℕ → List ℕ → Mode → SpelledRule) → s ≡ get_or names.subjects t [] → o ≡ get_or names.documents d [] → m ≡ k
      → front (get_or names.subjects t []) (get_or names.documents d []) k ≡ front s o m
  same_right s o t d m k front p q e = λ i. front (sym p i) (sym q i) (sym e i)

  of_spelled : (spelled : SpelledRule) (r : Rule) → MeansRule names spelled r → IsOfSpelled names spelled r
  of_spelled (give s o m) (asked.Give t d k) means = record {
    there = record { ids = (place_within names.subjects s t means.0, place_within names.documents o d means.1); level = tt };
    shorter = same_length _ _ (ap (λ x. canonical (spell_rule x))
        (same_right s o t d m k give (name_is names.subjects s t means.0) (name_is names.documents o d means.1) means.2));
  }
  of_spelled (give s o m) _ means = absurd means
  of_spelled (rescind s o m) (asked.Rescind t d k) means = record {
    there = record { ids = (place_within names.subjects s t means.0, place_within names.documents o d means.1); level = tt };
    shorter = same_length _ _ (ap (λ x. canonical (spell_rule x))
        (same_right s o t d m k rescind (name_is names.subjects s t means.0) (name_is names.documents o d means.1) means.2));
  }
  of_spelled (rescind s o m) _ means = absurd means
  of_spelled (current text) (asked.Current l) means = record {
    there = record { ids = tt; level = held names.scheme text l means };
    shorter = longer_end (word_text Current ++ 32 ∷ []) (canonical (spell_level (text_of names.scheme l))) (canonical (spell_level text))
        (level_shorter names.scheme text l means table.scheme);
  }
  of_spelled (current text) _ means = absurd means
  of_spelled (classify o text) (asked.Classify d l) means = record {
    there = record { ids = place_within names.documents o d means.0; level = held names.scheme text l means.1 };
    shorter = subst (λ n. length (canonical (spell_rule (classify n (text_of names.scheme l)))) ≤ length (canonical (spell_rule (classify o text))))
        (name_is names.documents o d means.0)
        (longer_end (word_text Classify ++ 32 ∷ []) (o ++ 32 ∷ canonical (spell_level (text_of names.scheme l))) (o ++ 32 ∷ canonical (spell_level text))
        (longer_end o (32 ∷ canonical (spell_level (text_of names.scheme l))) (32 ∷ canonical (spell_level text))
        (longer_end (32 ∷ []) (canonical (spell_level (text_of names.scheme l))) (canonical (spell_level text)) (level_shorter names.scheme text l means.1 table.scheme))));
  }
  of_spelled (classify o text) _ means = absurd means
  of_spelled (create o) (asked.Create d) means = record {
    there = record { ids = place_within names.documents o d means; level = tt };
    shorter = same_length _ _ (ap (λ n. canonical (spell_rule (create n))) (sym (name_is names.documents o d means)));
  }
  of_spelled (create o) _ means = absurd means
  of_spelled (delete o) (asked.Delete d) means = record {
    there = record { ids = place_within names.documents o d means; level = tt };
    shorter = same_length _ _ (ap (λ n. canonical (spell_rule (delete n))) (sym (name_is names.documents o d means)));
  }
  of_spelled (delete o) _ means = absurd means

-- what is known of the rule of a line: it is there, and its canonical text is no longer than the bytes
record IsOfLine (names : KnownNames) (bytes : List ℕ) (r : Rule) : Type 0 where
  there : IsRuleThere names r
  shortest : length (canonical_rule names r) ≤ length bytes

of_line : CanonicalIsShortest → (names : KnownNames) (bytes : List ℕ) (r : Rule) (l : SpelledLine) → AreNames names → Begins bytes (spell l) []
    → Means names l (line.Work (work.Rule r)) → IsOfLine names bytes r
of_line shortest names bytes r (hello n) table begins means = absurd means
of_line shortest names bytes r wait table begins means = absurd means
of_line shortest names bytes r (when f m b) table begins means = absurd means
of_line shortest names bytes r (rule spelled) table begins means =
    let of = of_spelled names table spelled r means in
    record { there = of.there; shortest = omega (arith, of.shorter, shortest (spell_rule spelled) bytes [] begins) }

pub rule_shortest : CanonicalIsShortest → (names : KnownNames) (bytes : List ℕ) (r : Rule) → AreNames names → LineOf names bytes (line.Work (work.Rule r))
    → length (canonical_rule names r) ≤ length bytes
rule_shortest shortest names bytes r table l = (of_line shortest names bytes r l.spelled table l.reads l.means).shortest

pub rule_known : CanonicalIsShortest → (names : KnownNames) (bytes : List ℕ) (r : Rule) → AreNames names → LineOf names bytes (line.Work (work.Rule r)) → IsKnownRule names r
rule_known shortest names bytes r table l =
    let of = of_line shortest names bytes r l.spelled table l.reads l.means in
    record { there = of.there; short = omega (arith, of.shortest, l.short) }
