-- The text of a line as it is read back: it reads as the line, it is canonical, and no text of the line is shorter.
use Rattle.std.proofs.Common.{◌≡◌, ℕ, zero, suc, ◌+◌, ◌-◌, ◌≤◌, List, [], ◌∷◌, length, get_or, Some, Ok, Err, refl, sym, subst, arith}
use Rattle.std.specs.Prelude.{Result, IfOk}
use Rattle.std.specs.Str.{bytes_eq}
use Rattle.std.proofs.lemmas.List.Quantifiers.{position-Some}
use Rattle.bl_level.specs.Canonical.{canonical}
use Rattle.bl_level.specs.Lexing.{Begins}
use Rattle.bl_level.specs.Table.{place_of}
use Rattle.bl_policy.specs.declared.access.Access.{Access}
use Rattle.bl_work.specs.declared.asked.Line.{Line}
use Rattle.bl_work.specs.declared.asked.Line.TheVariants as line
use Rattle.bl_work.specs.declared.script.Condition.{Condition}
use Rattle.bl_policy.specs.declared.rule.Rule as asked_rule
use Rattle.bl_policy.specs.declared.rule.Rule.TheVariants as rule_of
use Rattle.bl_work.specs.declared.work.Work.TheVariants.{Behaviour, Rule}
use Rattle.bl_write.specs.CanonicalLine.{IsTidy, IsTidyRule, IsTidyLine, IsCanonicalOf, canonical_line}
use Rattle.bl_work.specs.Grammar.{SpelledLine, hello, wait, when, rule, spell}
use Rattle.bl_write.specs.Known.{IsKnownScript}
use Rattle.bl_work.specs.LineGrammar.{Means, LineOf}
use Rattle.bl_work.specs.Meaning.{script_of}
use Rattle.bl_work.specs.Names.{KnownNames, AreNames}
use Rattle.bl_work.specs.Script.{IsScript}
use Rattle.bl_work.specs.Spelled.{SpelledBody, empty, show, say, add, set, copy, pour, if_then, if_else, spawn}
use Rattle.bl_work.specs.Statements.{Statements, Nothing, Show, Say, Add, Set, Copy, Pour, If, Spawn, Part}
use Rattle.bl_write.specs.Unread.{SpelledWhen, no_when, unread_if, unread_body, unread_when, unread_from, unread, unread_rule, unread_line}
use Rattle.bl_work.proofs.AskedScripts.{CanonicalIsShortest, ReadTokensAreProper, asked_script}
use Rattle.bl_work.proofs.Behaviours.{same_bytes}
use Rattle.bl_write.proofs.Faultless.{faultless_is}
use Rattle.bl_write.proofs.Reread.{script_is, names_known}
use Rattle.bl_write.proofs.Knowing.{line_known, line_shortest}
use Rattle.bl_write.proofs.ReadAgain.{CanonicalReadsAgain, script_reads_again}
use Rattle.bl_write.proofs.RulesWritten.{rule_known, rule_means, rule_reads_again, rule_shortest}

-- ---- no `else` before a body of no statements

module _ (names : KnownNames) where
  tidy_if : (document : List ℕ) (asks : Condition) (words : List ℕ) (t e rest : SpelledBody) → IsTidy t → IsTidy e → IsTidy rest
      → IsTidy (unread_if names document asks words t e rest)
  tidy_if document asks words t empty rest ht he hr = (ht, hr)
  tidy_if document asks words t (show a r) rest ht he hr = (λ p. cc, ht, he, hr)
  tidy_if document asks words t (say a r) rest ht he hr = (λ p. cc, ht, he, hr)
  tidy_if document asks words t (add a b r) rest ht he hr = (λ p. cc, ht, he, hr)
  tidy_if document asks words t (set a b r) rest ht he hr = (λ p. cc, ht, he, hr)
  tidy_if document asks words t (copy a b r) rest ht he hr = (λ p. cc, ht, he, hr)
  tidy_if document asks words t (pour a b r) rest ht he hr = (λ p. cc, ht, he, hr)
  tidy_if document asks words t (if_then a b c d r) rest ht he hr = (λ p. cc, ht, he, hr)
  tidy_if document asks words t (if_else a b c d f r) rest ht he hr = (λ p. cc, ht, he, hr)
  tidy_if document asks words t (spawn a b c r) rest ht he hr = (λ p. cc, ht, he, hr)

  tidy_body : (below : ℕ → SpelledWhen) (b : Statements) → ((j : ℕ) → IsTidy (below j).body) → IsTidy (unread_body names below b)
  tidy_body below Nothing h = tt
  tidy_body below (Show doc rest) h = tidy_body below rest h
  tidy_body below (Say words rest) h = tidy_body below rest h
  tidy_body below (Add doc words rest) h = tidy_body below rest h
  tidy_body below (Set doc words rest) h = tidy_body below rest h
  tidy_body below (Copy from to rest) h = tidy_body below rest h
  tidy_body below (Pour from to rest) h = tidy_body below rest h
  tidy_body below (If doc asks words t e rest) h =
      tidy_if _ asks words (unread_body names below t) (unread_body names below e) (unread_body names below rest) (tidy_body below t h) (tidy_body below e h) (tidy_body below rest h)
  tidy_body below (Spawn behaviour rest) h = (h behaviour, tidy_body below rest h)

  tidy_when : (accesses : List Access) (b : SpelledBody) → IsTidy b → IsTidy (unread_when names accesses b).body
  tidy_when [] b h = h
  tidy_when (a ∷ more) b h = h

  tidy_from : (k : ℕ) (parts : List Part) (i : ℕ) → IsTidy (get_or (unread_from names k parts) i no_when).body
  tidy_from k [] i = tt
  tidy_from k (part ∷ rest) zero =
      tidy_when part.accesses (unread_body names (λ j. get_or (unread_from names (k + 1) rest) (j - (k + 1)) no_when) part.body)
      (tidy_body (λ j. get_or (unread_from names (k + 1) rest) (j - (k + 1)) no_when) part.body (λ j. tidy_from (k + 1) rest (j - (k + 1))))
  tidy_from k (part ∷ rest) (suc i) = tidy_from (k + 1) rest i

  -- a rule as it is read back has the categories of its level in order
  tidy_rule : (asked : asked_rule.Rule) → IsTidyRule names.scheme (unread_rule names asked)
  tidy_rule (rule_of.Give subject doc mode) = tt
  tidy_rule (rule_of.Rescind subject doc mode) = tt
  tidy_rule (rule_of.Current level) = (level, refl)
  tidy_rule (rule_of.Classify doc level) = (level, refl)
  tidy_rule (rule_of.Create doc) = tt
  tidy_rule (rule_of.Delete doc) = tt

  -- a line as it is read back has no `else` before a body of no statements
  tidy_line : (asked : Line) → IsTidyLine names.scheme (unread_line names asked)
  tidy_line (line.Hello subject) = tt
  tidy_line line.Wait = tt
  tidy_line (line.Work (Behaviour script)) = tidy_from 0 script 0
  tidy_line (line.Work (Rule asked)) = tidy_rule asked

-- ---- what a line as it is read back asks

module _ (names : KnownNames) where
  -- a `hello` has one spelling
  hello_is : (name : List ℕ) (subject : ℕ) → place_of name names.subjects ≡ Some subject → name ≡ get_or names.subjects subject []
  hello_is name subject means = same_bytes name (get_or names.subjects subject []) (position-Some (bytes_eq name) names.subjects subject [] means).1

-- what is written of a line: the text reads as it, no text of it is shorter, and it is canonical
pub record IsWritten (names : KnownNames) (asked : Line) (text : List ℕ) : Type 0 where
  pub reads : LineOf names text asked
  pub shortest : (bytes : List ℕ) → LineOf names bytes asked → length text ≤ length bytes
  pub canonical : IsCanonicalOf names text asked

module _ (again : CanonicalReadsAgain) (shortest : CanonicalIsShortest) (proper : ReadTokensAreProper) (names : KnownNames) (asked : Line) (spelled : SpelledLine) where
  -- a line of one spelling is written so
  one_spelling : ((bytes : List ℕ) → LineOf names bytes asked → Begins bytes (spell spelled) [] × Means names spelled asked) → IsTidyLine names.scheme spelled
      → (bytes : List ℕ) → LineOf names bytes asked → IsWritten names asked (canonical (spell spelled))
  one_spelling only tidy bytes l =
      let least : (bytes : List ℕ) → LineOf names bytes asked → length (canonical (spell spelled)) ≤ length bytes =
      λ bytes l. shortest (spell spelled) bytes [] (only bytes l).0 in
      record {
        reads = record {
          short = omega (arith, least bytes l, l.short);
          spelled = spelled;
          reads = again (spell spelled) (proper bytes [] (spell spelled) (only bytes l).0);
          means = (only bytes l).1;
        };
        shortest = least;
        canonical = record { spelled = spelled; tidy = tidy; means = (only bytes l).1; text = refl };
      }

module _ (names : KnownNames) where
  -- each text of a `hello` has its tokens
  only_hello : (subject : ℕ) (bytes : List ℕ) → LineOf names bytes (line.Hello subject)
      → Begins bytes (spell (hello (get_or names.subjects subject []))) [] × Means names (hello (get_or names.subjects subject [])) (line.Hello subject)
  only_hello subject bytes l = go l.spelled l.reads l.means
    where
      go : (spelled : SpelledLine) → Begins bytes (spell spelled) [] → Means names spelled (line.Hello subject)
          → Begins bytes (spell (hello (get_or names.subjects subject []))) [] × Means names (hello (get_or names.subjects subject [])) (line.Hello subject)
      go (hello name) reads means =
          let is = hello_is names name subject means in (
            subst (λ n. Begins bytes (spell (hello n)) []) is reads,
            subst (λ n. place_of n names.subjects ≡ Some subject) is means,
          )
      go wait reads means = absurd means
      go (when first more body) reads means = absurd means
      go (rule asked) reads means = absurd means

  -- each text of a `wait` has its token
  only_wait : (bytes : List ℕ) → LineOf names bytes line.Wait → Begins bytes (spell wait) [] × Means names wait line.Wait
  only_wait bytes l = go l.spelled l.reads l.means
    where
      go : (spelled : SpelledLine) → Begins bytes (spell spelled) [] → Means names spelled line.Wait → Begins bytes (spell wait) [] × Means names wait line.Wait
      go (hello name) reads means = absurd means
      go wait reads means = (reads, tt)
      go (when first more body) reads means = absurd means
      go (rule asked) reads means = absurd means

  -- the `when` that a known script is read back as asks the script
  script_means : (script : List Part) → AreNames names → IsScript script → IsKnownScript names script
      → Means names (unread_line names (line.Work (Behaviour script))) (line.Work (Behaviour script))
  script_means script table is known =
      let first = (unread names script).first in
      let more = (unread names script).more in
      let body = (unread names script).body in
      let same : script ≡ script_of names first more body = script_is names table.documents.distinct script is.preorder is.each known.there in
      let documents = names_known names table.documents.distinct script is.preorder is.each known.there in
      (faultless_is names first more body (subst IsScript same is) documents, same)

  pub line_written : CanonicalReadsAgain → CanonicalIsShortest → ReadTokensAreProper → (asked : Line) → AreNames names → (bytes : List ℕ) → LineOf names bytes asked
      → IsWritten names asked (canonical_line names asked)
  line_written again shortest proper (line.Hello subject) table bytes l =
      one_spelling again shortest proper names (line.Hello subject) (hello (get_or names.subjects subject [])) (only_hello subject) tt bytes l
  line_written again shortest proper line.Wait table bytes l = one_spelling again shortest proper names line.Wait wait only_wait tt bytes l
  line_written again shortest proper (line.Work (Behaviour script)) table bytes l =
      let asked : Line = line.Work (Behaviour script) in
      let known = line_known shortest names bytes script l in
      let is = asked_script shortest proper names bytes script l in
      record {
        reads = script_reads_again again names script table is known;
        shortest = λ bytes l. line_shortest shortest names bytes script l;
        canonical = record { spelled = unread_line names asked; tidy = tidy_line names asked; means = script_means script table is known; text = refl };
      }
  line_written again shortest proper (line.Work (Rule r)) table bytes l =
      let known = rule_known shortest names bytes r table l in
      record {
        reads = rule_reads_again again proper names r table known;
        shortest = λ bytes l. rule_shortest shortest names bytes r table l;
        canonical = record { spelled = rule (unread_rule names r); tidy = tidy_rule names r; means = rule_means names table r known.there; text = refl };
      }

-- ---- what an answer says

-- what holds of these bytes holds of the text that is answered
pub along_text : {T E : Type 0} (r : Result T E) (items : T → List ℕ) (P : List ℕ → Type 0) (bytes : List ℕ) → IfOk r (λ t. items t ≡ bytes) → P bytes
    → IfOk r (λ t. P (items t))
along_text (Ok t) items P bytes is p = subst P (sym is) p
along_text (Err e) items P bytes is p = tt
