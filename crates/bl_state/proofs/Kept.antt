-- What a reached state keeps of a setup that a file can declare.
use Rattle.std.proofs.Common.{◌≡◌, ◌≢◌, ◌↔◌, ◌⊎◌, inl, inr, ℕ, zero, suc, ◌<◌, Bool, true, false, cond, List, [], ◌∷◌, length, get_or, set, refl, sym, ◌∙◌, subst, arith, length-set}
use Rattle.std.specs.Prelude.{IsTrue, Option, Some, None, ◌==◌}
use Rattle.std.specs.List.{AllByRecursion}
use Rattle.std.specs.Str.{bytes_eq}
use Rattle.std.proofs.lemmas.List.Quantifiers.{position-Some}
use Rattle.bl_level.specs.Level.{SecurityLevel}
use Rattle.bl_level.specs.LevelText.{LevelText, Means}
use Rattle.bl_level.specs.Scheme.{SchemeNames, HoldsLevel}
use Rattle.bl_policy.specs.Matrix.{Matrix, Triple, triple, is_in, put_in, take_out, without_document}
use Rattle.bl_policy.specs.Policy.{SecurityPolicy, nobody, clearance_of}
use Rattle.bl_policy.specs.RuleEffect.{HasIdsBelow, Permits, after_rule, rule_fault, rule_makes, unless_failed}
use Rattle.bl_policy.specs.declared.denial.Denial.{Denial}
use Rattle.bl_policy.specs.declared.rule.Rule.{Rule}
use Rattle.bl_policy.specs.declared.rule.Rule.TheVariants.{Give, Rescind, Current, Classify, Create, Delete}
use Rattle.bl_work.specs.KnownLine.{AreKnown, IsKnownLine}
use Rattle.bl_work.specs.LineGrammar.{LineOf}
use Rattle.bl_work.specs.Names.{KnownNames}
use Rattle.bl_work.specs.RuleMeaning.{MeansRule}
use Rattle.bl_work.specs.SpelledRules.{SpelledRule, give, rescind, current, classify, create, delete}
use Rattle.bl_work.specs.Grammar.{SpelledLine, hello, wait, when, rule}
use Rattle.bl_work.specs.LineGrammar as lines
use Rattle.bl_work.specs.declared.answer.Answer.{Answer}
use Rattle.bl_work.specs.declared.asked.Line.TheVariants as line
use Rattle.bl_work.specs.declared.asked.Line.{Line as AskedLine}
use Rattle.bl_work.specs.declared.work.Work.{Work}
use Rattle.bl_work.specs.declared.work.Work.TheVariants as work
use Rattle.bl_setup.specs.Setup.{Setup}
use Rattle.bl_order.specs.Known.{IsAsked}
use Rattle.bl_order.specs.Now.{ended_before}
use Rattle.bl_order.specs.Order.{Entry, Line, Child, Task, Runs, Applies}
use Rattle.bl_order.specs.Past.{Past, at_place, changed, child_task, earlier, first_task, no_entry, place, policy_of, task_of, was_lost}
use Rattle.bl_state.specs.Whole.{IsCleared}

-- ---- levels and ids of rules that a line asks

pub level-held : (scheme : SchemeNames) (text : LevelText) (level : SecurityLevel) → Means scheme text level → HoldsLevel scheme level
level-held scheme text level m = record {
  rank = (position-Some (bytes_eq text.rank) scheme.ranks level.rank [] m.rank).0;
  categories = λ k has. let named = (m.categories k).0 has in (position-Some (bytes_eq named.0) scheme.categories k [] named.2).0;
}

-- the level that a rule gives is the scheme's
abbrev pub RuleHolds : SchemeNames → Rule → Type 0
RuleHolds scheme (Give t o m) = Unit {0}
RuleHolds scheme (Rescind t o m) = Unit {0}
RuleHolds scheme (Current level) = HoldsLevel scheme level
RuleHolds scheme (Classify o level) = HoldsLevel scheme level
RuleHolds scheme (Create o) = Unit {0}
RuleHolds scheme (Delete o) = Unit {0}

rule-holds : (names : KnownNames) (r : Rule) (s : SpelledRule) → MeansRule names s r → RuleHolds names.scheme r
rule-holds names (Give t o m) s h = tt
rule-holds names (Rescind t o m) s h = tt
rule-holds names (Create o) s h = tt
rule-holds names (Delete o) s h = tt
rule-holds names (Current level) (give a b c) h = absurd h
rule-holds names (Current level) (rescind a b c) h = absurd h
rule-holds names (Current level) (current text) h = level-held names.scheme text level h
rule-holds names (Current level) (classify a b) h = absurd h
rule-holds names (Current level) (create a) h = absurd h
rule-holds names (Current level) (delete a) h = absurd h
rule-holds names (Classify o level) (give a b c) h = absurd h
rule-holds names (Classify o level) (rescind a b c) h = absurd h
rule-holds names (Classify o level) (current text) h = absurd h
rule-holds names (Classify o level) (classify a text) h = level-held names.scheme text level h.1
rule-holds names (Classify o level) (create a) h = absurd h
rule-holds names (Classify o level) (delete a) h = absurd h

line-rule : (names : KnownNames) (r : Rule) (s : SpelledLine) → lines.Means names s (line.Work (work.Rule r)) → RuleHolds names.scheme r
line-rule names r (hello name) h = absurd h
line-rule names r wait h = absurd h
line-rule names r (when first more body) h = absurd h
line-rule names r (rule s) h = rule-holds names r s h

-- what a task names is known, and the level that a rule gives is the scheme's
abbrev pub TaskFits : KnownNames → Task → Type 0
TaskFits names (Runs script index) = AreKnown names script
TaskFits names (Applies r) = RuleHolds names.scheme r × HasIdsBelow (length names.subjects) (length names.documents) r

abbrev pub EntryFits : KnownNames → Entry → Type 0
EntryFits names (Line session ordinal subject asked) = TaskFits names (first_task asked)
EntryFits names (Child parent which) = Unit {0}

module _ (names : KnownNames) (known : (bytes : List ℕ) (l : AskedLine) → LineOf names bytes l → IsKnownLine names l) where
  work-fits : (asked : Work) (bytes : List ℕ) → LineOf names bytes (line.Work asked) → TaskFits names (first_task asked)
  work-fits (work.Behaviour script) bytes reads = known bytes (line.Work (work.Behaviour script)) reads
  work-fits (work.Rule r) bytes reads = (line-rule names r reads.spelled reads.means, known bytes (line.Work (work.Rule r)) reads)

  pub entry-fits : (e : Entry) → IsAsked names e → EntryFits names e
  entry-fits (Line session ordinal subject asked) h = work-fits asked h.0 h.1
  entry-fits (Child parent which) h = tt

-- ---- tasks of places

abbrev pub AllFit : KnownNames → List Past → Type 0
AllFit names h = AllByRecursion (λ (p : Past). TaskFits names p.task) h

module _ (names : KnownNames) where
  no-script : AreKnown names []
  no-script = λ k d lt. absurd (omega (arith, lt))

  at-fits : (h : List Past) → AllFit names h → (n : ℕ) → TaskFits names (at_place h n).task
  at-fits [] f n = no-script
  at-fits (p ∷ h) f n = go (n == length h) (at-fits h f.1 n)
    where
      go : (b : Bool) → TaskFits names (at_place h n).task → TaskFits names (cond b p (at_place h n)).task
      go true deeper = f.0
      go false deeper = deeper

  child-fits : (t : Task) (b : ℕ) → TaskFits names t → TaskFits names (child_task t b)
  child-fits (Runs script index) b f = f
  child-fits (Applies r) b f = f

  task-fits : (e : Entry) → EntryFits names e → (h : List Past) → AllFit names h → TaskFits names (task_of h e)
  task-fits (Line session ordinal subject asked) f h g = f
  task-fits (Child parent which) f h g = child-fits (at_place h parent).task _ (at-fits h g parent)

  module _ (setup : Setup) (lost : ℕ → Bool) (order : List Entry) (fits : (k : ℕ) → EntryFits names (get_or order k no_entry)) where
    pub earlier-fits : (n : ℕ) → AllFit names (earlier setup lost order n)
    earlier-fits zero = tt
    earlier-fits (suc n) = (task-fits (get_or order n no_entry) (fits n) (earlier setup lost order n) (earlier-fits n), earlier-fits n)

    pub ended-fits : (ended : ℕ → Bool) (n : ℕ) → AllFit names (ended_before setup lost order ended n)
    ended-fits ended zero = tt
    ended-fits ended (suc n) = go (ended n) (ended-fits ended n)
      where
        go : (b : Bool) → AllFit names (ended_before setup lost order ended n)
            → AllFit names (cond b (place setup lost order n ∷ ended_before setup lost order ended n) (ended_before setup lost order ended n))
        go true rest = ((earlier-fits (suc n)).0, rest)
        go false rest = rest

-- ---- the policy

-- a policy that a file can declare for these names
pub record IsPolicyFor (names : KnownNames) (p : SecurityPolicy) : Type 0 where
  pub subjects : length names.subjects ≡ length p.subjects
  pub documents : length names.documents ≡ length p.documents
  pub presence : length names.documents ≡ length p.present
  pub cleared : AllByRecursion (IsCleared names.scheme) p.subjects
  pub held : AllByRecursion (HoldsLevel names.scheme) p.documents
  pub cells : (t : Triple) → IsTrue (is_in p.matrix t) → (t.subject < length names.subjects) × (t.document < length names.documents)

pub all-get : {A : Type 0} (P : A → Type 0) (xs : List A) (i : ℕ) (d : A) → AllByRecursion P xs → i < length xs → P (get_or xs i d)
all-get P [] i d all lt = absurd (omega (arith, lt))
all-get P (x ∷ xs) zero d all lt = all.0
all-get P (x ∷ xs) (suc i) d all lt = all-get P xs i d all.1 (omega (arith, lt))

pub all-set : {A : Type 0} (P : A → Type 0) (xs : List A) (i : ℕ) (y : A) → AllByRecursion P xs → (i < length xs → P y) → AllByRecursion P (set xs i y)
all-set P [] i y all new = tt
all-set P (x ∷ xs) zero y all new = (new (omega arith), all.1)
all-set P (x ∷ xs) (suc i) y all new = (all.0, all-set P xs i y all.1 (λ lt. new (omega (arith, lt))))

-- what is said of matrices and of rules
pub record RuleLaws : Type 1 where
  pub put : (matrix : Matrix) (u t : Triple) → IsTrue (is_in (put_in matrix u) t) ↔ ((t ≡ u) ⊎ IsTrue (is_in matrix t))
  pub out : (matrix : Matrix) (u t : Triple) → IsTrue (is_in (take_out matrix u) t) ↔ ((t ≢ u) × IsTrue (is_in matrix t))
  pub without : (matrix : Matrix) (o : ℕ) (t : Triple) → IsTrue (is_in (without_document matrix o) t) ↔ ((t.document ≢ o) × IsTrue (is_in matrix t))
  pub none : (p : SecurityPolicy) (s : ℕ) (r : Rule) → (rule_fault p s r ≡ None) ↔ Permits p s r

module _ (laws : RuleLaws) (names : KnownNames) where
  put-cells : (p : SecurityPolicy) → IsPolicyFor names p → (u : Triple) → (u.subject < length names.subjects) × (u.document < length names.documents)
      → (t : Triple) → IsTrue (is_in (put_in p.matrix u) t) → (t.subject < length names.subjects) × (t.document < length names.documents)
  put-cells p w u within t there = go ((laws.put p.matrix u t).0 there)
    where
      go : (t ≡ u) ⊎ IsTrue (is_in p.matrix t) → (t.subject < length names.subjects) × (t.document < length names.documents)
      go (inl same) = subst (λ (v : Triple). (v.subject < length names.subjects) × (v.document < length names.documents)) (sym same) within
      go (inr old) = w.cells t old

  makes-fit : (p : SecurityPolicy) (s : ℕ) (r : Rule) → RuleHolds names.scheme r → HasIdsBelow (length names.subjects) (length names.documents) r
      → Permits p s r → IsPolicyFor names p → IsPolicyFor names (rule_makes p s r)
  makes-fit p s (Give t o m) holds ids permits w = record {
    subjects = w.subjects;
    documents = w.documents;
    presence = w.presence;
    cleared = w.cleared;
    held = w.held;
    cells = put-cells p w (triple t o m) ids;
  }
  makes-fit p s (Rescind t o m) holds ids permits w = record {
    subjects = w.subjects;
    documents = w.documents;
    presence = w.presence;
    cleared = w.cleared;
    held = w.held;
    cells = λ u there. w.cells u ((laws.out p.matrix (triple t o m) u).0 there).1;
  }
  makes-fit p s (Current level) holds ids permits w = record {
    subjects = w.subjects ∙ sym (length-set p.subjects s _);
    documents = w.documents;
    presence = w.presence;
    cleared = all-set (IsCleared names.scheme) p.subjects s (record (clearance_of p s) { current = level }) w.cleared (λ lt. record {
      greatest = (all-get (IsCleared names.scheme) p.subjects s nobody w.cleared lt).greatest;
      current = holds;
      dominates = permits;
    });
    held = w.held;
    cells = w.cells;
  }
  makes-fit p s (Classify o level) holds ids permits w = record {
    subjects = w.subjects;
    documents = w.documents ∙ sym (length-set p.documents o level);
    presence = w.presence;
    cleared = w.cleared;
    held = all-set (HoldsLevel names.scheme) p.documents o level w.held (λ lt. holds);
    cells = w.cells;
  }
  makes-fit p s (Create o) holds ids permits w = record {
    subjects = w.subjects;
    documents = w.documents;
    presence = w.presence ∙ sym (length-set p.present o true);
    cleared = w.cleared;
    held = w.held;
    cells = w.cells;
  }
  makes-fit p s (Delete o) holds ids permits w = record {
    subjects = w.subjects;
    documents = w.documents;
    presence = w.presence ∙ sym (length-set p.present o false);
    cleared = w.cleared;
    held = w.held;
    cells = λ u there. w.cells u ((laws.without p.matrix o u).0 there).1;
  }

  rule-fits : (p : SecurityPolicy) (s : ℕ) (r : Rule) → RuleHolds names.scheme r → HasIdsBelow (length names.subjects) (length names.documents) r
      → IsPolicyFor names p → IsPolicyFor names (after_rule p s r)
  rule-fits p s r holds ids w = go (rule_fault p s r) refl
    where
      go : (f : Option Denial) → rule_fault p s r ≡ f → IsPolicyFor names (unless_failed f (rule_makes p s r) p)
      go None is = makes-fit p s r holds ids ((laws.none p s r).0 is) w
      go (Some denial) is = w

  changed-fits : (a : Answer) (t : Task) (s : ℕ) (p : SecurityPolicy) → TaskFits names t → IsPolicyFor names p → IsPolicyFor names (changed a t s p)
  changed-fits a (Runs script index) s p f w = w
  changed-fits a (Applies r) s p f w = go (was_lost a)
    where
      go : (b : Bool) → IsPolicyFor names (cond b p (after_rule p s r))
      go true = w
      go false = rule-fits p s r f.0 f.1 w

  pub policy-fits : (setup : Setup) (h : List Past) → AllFit names h → IsPolicyFor names setup.policy → IsPolicyFor names (policy_of setup h)
  policy-fits setup [] f w = w
  policy-fits setup (p ∷ h) f w = changed-fits p.answer p.task p.subject (policy_of setup h) f.0 (policy-fits setup h f.1 w)
