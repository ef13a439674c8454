-- What a behaviour that ran makes of the contents, and what a task does that did not run.
use Rattle.std.proofs.Common.{◌≡◌, ℕ, ◌<◌, Bool, true, false, cond, ◌&&◌, ◌||◌, List, [], ◌∷◌, ◌++◌, length, set, take, drop, refl, sym, ◌∙◌, ap, subst, arith, ◌⊎◌, inl, inr, Option, None, Some, ◌≤◌}
use Rattle.std.specs.Prelude.{◌==◌, All, slice_index_or}
use Rattle.std.proofs.lemmas.List.{take-append-le, take_all, length-set, get_or-set_same, get_or-set_other}
use Rattle.std.proofs.lemmas.Bool.{or_cases}
use Rattle.std.proofs.lemmas.Bool.Decides.{eqb_tells}
use Rattle.std.proofs.lemmas.List.Elements.{All-head, All-tail}
use Rattle.bl_policy.specs.FirstFault.{first_fault}
use Rattle.bl_policy.specs.Policy.{SecurityPolicy}
use Rattle.bl_policy.specs.declared.access.Access.{Access}
use Rattle.bl_policy.specs.declared.access.Mode.{Mode}
use Rattle.bl_policy.specs.declared.denial.Denial.{Denial}
use Rattle.bl_policy.specs.RuleEffect.{rule_fault}
use Rattle.bl_policy.specs.declared.rule.Rule.{Rule}
use Rattle.bl_policy.specs.declared.rule.Rule.TheVariants.{Give, Rescind, Current, Classify, Create, Delete}
use Rattle.bl_work.specs.Modes.{declares, observes, alters, is_write, KeepsModes}
use Rattle.bl_work.specs.Effects.{Effect, after, effects_of, outputs, children}
use Rattle.bl_work.specs.Script.{IsBehaviour}
use Rattle.bl_work.specs.Statements as statement
use Rattle.bl_work.specs.Statements.{Statements, Part, no_part}
use Rattle.bl_work.proofs.Blind.{effects_from-same}
use Rattle.bl_work.proofs.Altered.{unaltered-stays}
use Rattle.bl_order.specs.Order.{Task, Runs, Applies, is_declared, is_altered}
use Rattle.bl_order.specs.Past.{Past, lent, deeds, deletes, left_by, leaves, may_alter, answer_of, only_if_done, fault_of_task}
use Rattle.bl_monitor.specs.declared.run.Run.{Run}
use Rattle.bl_monitor.specs.Undoing.{content_listed}
use Rattle.bl_monitor.specs.Running.{StandsAfter, GoesOn, UsesBelow}
use Rattle.bl_monitor.specs.declared.place.Admitted.{Admitted}
use Rattle.bl_monitor.specs.Judging.{Case, case_of, Leaves, content_once_run, effects_on, content_behind, record_of}

abbrev IsBelow : ℕ → Access → Type 0
IsBelow count access = access.doc < count

-- a document that is declared is there
declared_below : (test : Mode → Bool) (count : ℕ) (accesses : List Access) (doc : ℕ) → All (IsBelow count) accesses → declares test accesses doc ≡ true → doc < count
declared_below test count [] doc all h = cc
declared_below test count (a ∷ rest) doc all h =
    elim (or_cases ((a.doc == doc) && test a.mode) (declares test rest doc) h) [
      | inl here ↦
          elim (eqb_tells a.doc doc) [
            | inl p ↦ let lt : a.doc < count = All-head (IsBelow count) a rest all in omega (arith, p.1)
            | inr p ↦ cc (ap (λ b. b && test a.mode) p.0, here)
          ]
      | inr later ↦ declared_below test count rest doc (All-tail (IsBelow count) a rest all) later
    ]

-- the documents that a body uses are there
pub uses_below : (count : ℕ) (accesses : List Access) → All (IsBelow count) accesses → (body : Statements) → KeepsModes accesses body → UsesBelow count body
uses_below count accesses all statement.Nothing keeps = tt
uses_below count accesses all (statement.Show doc rest) keeps = (declared_below observes count accesses doc all keeps.0, uses_below count accesses all rest keeps.1)
uses_below count accesses all (statement.Say text rest) keeps = uses_below count accesses all rest keeps
uses_below count accesses all (statement.Add doc text rest) keeps = (declared_below alters count accesses doc all keeps.0, uses_below count accesses all rest keeps.1)
uses_below count accesses all (statement.Set doc text rest) keeps = (declared_below is_write count accesses doc all keeps.0, uses_below count accesses all rest keeps.1)
uses_below count accesses all (statement.Copy from to rest) keeps =
    (declared_below observes count accesses from all keeps.0, declared_below is_write count accesses to all keeps.1, uses_below count accesses all rest keeps.2)
uses_below count accesses all (statement.Pour from to rest) keeps =
    (declared_below observes count accesses from all keeps.0, declared_below alters count accesses to all keeps.1, uses_below count accesses all rest keeps.2)
uses_below count accesses all (statement.If doc asks text taken left_out rest) keeps =
    (declared_below observes count accesses doc all keeps.0, uses_below count accesses all taken keeps.1, uses_below count accesses all left_out keeps.2, uses_below count accesses all rest keeps.3)
uses_below count accesses all (statement.Spawn behaviour rest) keeps = uses_below count accesses all rest keeps

-- what is declared in some mode is declared
is_there : (test : Mode → Bool) (accesses : List Access) (doc : ℕ) → declares test accesses doc ≡ true → is_declared accesses doc ≡ true
is_there test [] doc h = h
is_there test (a ∷ accesses) doc h = go (a.doc == doc) (test a.mode) (declares test accesses doc) (is_declared accesses doc) h (is_there test accesses doc)
  where
    go : (x y r s : Bool) → ((x && y) || r) ≡ true → (r ≡ true → s ≡ true) → (x || s) ≡ true
    go true y r s h f = refl
    go false y r s h f = f h

-- a body that keeps to its accesses does on all contents what it does on those that were lent
same_effects : (contents : List (List ℕ)) (part : Part) → KeepsModes part.accesses part.body → effects_of (content_listed contents) part.body ≡ effects_on contents part
same_effects contents part keeps =
    effects_from-same part.accesses (content_listed contents) (lent part.accesses (content_listed contents))
    (λ doc looks. sym (ap (λ b. cond b (content_listed contents doc) []) (is_there observes part.accesses doc looks))) part.body [] keeps

-- what a run has come to
pub record HasRun (contents : List (List ℕ)) (part : Part) (now : List (List ℕ)) (run : Run) : Type 0 where
  pub shown : run.shown.items ≡ outputs (effects_on contents part)
  pub spawned : run.spawned.items ≡ children (effects_on contents part)
  pub leaves : Leaves contents (content_once_run contents part) now

pub has_run : (contents now : List (List ℕ)) (part : Part) (body : Statements) (first new : Run) → body ≡ part.body → IsBehaviour part → first.shown.items ≡ [] → first.spawned.items ≡ []
    → length now ≡ length contents → GoesOn body contents first now new → HasRun contents part now new
has_run contents now part body first new is right shown behaviours long goes =
    let same : effects_of (content_listed contents) part.body ≡ effects_on contents part = same_effects contents part right.modes in
    let stands : StandsAfter (content_listed contents) (effects_of (content_listed contents) part.body) now new =
    subst (λ (b : Statements). StandsAfter (content_listed contents) (effects_of (content_listed contents) b) now new) is
    (goes (content_listed contents) [] (record { contents = λ doc lt. refl; shown = shown; spawned = behaviours })) in
    record {
      shown = stands.shown ∙ ap outputs same;
      spawned = stands.spawned ∙ ap children same;
      leaves = record {
        as_many = long;
        left = λ doc lt. go same stands doc lt (is_altered part.accesses doc) refl;
      };
    }
  where
    go : effects_of (content_listed contents) part.body ≡ effects_on contents part → StandsAfter (content_listed contents) (effects_of (content_listed contents) part.body) now new
        → (doc : ℕ) → doc < length contents → (b : Bool) → is_altered part.accesses doc ≡ b → content_listed now doc ≡ content_once_run contents part doc
    go same stands doc lt true e =
        stands.contents doc (omega (arith, long)) ∙ ap (λ es. after (content_listed contents doc) es doc) same
        ∙ ap (λ b. cond b (after (content_listed contents doc) (effects_on contents part) doc) (content_listed contents doc)) (sym e)
    go same stands doc lt false e =
        stands.contents doc (omega (arith, long)) ∙ unaltered-stays part.accesses (content_listed contents) part.body right.modes doc e
        ∙ ap (λ b. cond b (after (content_listed contents doc) (effects_on contents part) doc) (content_listed contents doc)) (sym e)

-- the record of a task, by whether it is lost and what is held against it
abbrev past_with : List (List ℕ) → Past → Bool → Option Denial → Past
past_with contents past lost fault =
    let effects : List Effect = deeds past.task (content_listed contents) in
    record past { answer = answer_of lost fault past.task effects; effects = only_if_done (answer_of lost fault past.task effects) effects }

-- a behaviour that nothing is held against leaves what it makes
pub leaves_done : (policy : SecurityPolicy) (contents : List (List ℕ)) (a : Admitted) (script : List Part) (index : ℕ) (now : List (List ℕ))
    → a.lost ≡ false → None ≡ first_fault policy a.subject a.carried (slice_index_or script index no_part).accesses
    → Leaves contents (content_once_run contents (slice_index_or script index no_part)) now
    → Leaves contents (content_behind contents (record_of policy contents (case_of a (Runs script index)))) now
leaves_done policy contents a script index now unlost none stands = record {
  as_many = stands.as_many;
  left = λ doc lt.
      stands.left doc lt
      ∙ ap (λ (f : Option Denial). leaves (past_with contents past false f) doc (content_listed contents doc)) none
      ∙ ap (λ b. leaves (past_with contents past b (fault_of_task policy a.subject a.carried (Runs script index))) doc (content_listed contents doc)) (sym unlost);
}
  where
    past : Past
    past = record_of policy contents (case_of a (Runs script index))

-- a place that leaves each content leaves them all
leaves_all : (contents : List (List ℕ)) (past : Past) → ((doc : ℕ) → leaves past doc (content_listed contents doc) ≡ content_listed contents doc)
    → Leaves contents (content_behind contents past) contents
leaves_all contents past same = record { as_many = refl; left = λ doc lt. sym (same doc) }

either_way : (b : Bool) (content : List ℕ) → cond b content content ≡ content
either_way true content = refl
either_way false content = refl

-- what is lost leaves the contents
pub leaves_lost : (policy : SecurityPolicy) (contents : List (List ℕ)) (c : Case) → c.lost ≡ true
    → Leaves contents (content_behind contents (record_of policy contents c)) contents
leaves_lost policy contents c is =
    leaves_all contents (record_of policy contents c)
    (λ doc. ap (λ b. leaves (record_of policy contents (record c { lost = b })) doc (content_listed contents doc)) is
    ∙ either_way (may_alter c.task doc) (content_listed contents doc))

-- what is denied leaves the contents
pub leaves_denied : (policy : SecurityPolicy) (contents : List (List ℕ)) (a : Admitted) (task : Task) (denial : Denial)
    → a.lost ≡ false → Some denial ≡ fault_of_task policy a.subject a.carried task
    → Leaves contents (content_behind contents (record_of policy contents (case_of a task))) contents
leaves_denied policy contents a task denial unlost some =
    leaves_all contents past
    (λ doc. ap (λ b. leaves (past_with contents past b (fault_of_task policy a.subject a.carried task)) doc (content_listed contents doc)) unlost
    ∙ sym (ap (λ (f : Option Denial). leaves (past_with contents past false f) doc (content_listed contents doc)) some)
    ∙ either_way (may_alter task doc) (content_listed contents doc))
  where
    past : Past
    past = record_of policy contents (case_of a task)

-- a rule that is no deletion deletes no document
deletes_none : (rule : Rule) → ((doc : ℕ) → rule ≡ Delete doc → ⊥) → (o : ℕ) → deletes rule o ≡ false
deletes_none (Give subject doc mode) other o = refl
deletes_none (Rescind subject doc mode) other o = refl
deletes_none (Current level) other o = refl
deletes_none (Classify doc level) other o = refl
deletes_none (Create doc) other o = refl
deletes_none (Delete doc) other o = absurd (other doc refl)

-- and leaves the contents
pub leaves_rule : (policy : SecurityPolicy) (contents : List (List ℕ)) (a : Admitted) (rule : Rule) → ((doc : ℕ) → rule ≡ Delete doc → ⊥)
    → Leaves contents (content_behind contents (record_of policy contents (case_of a (Applies rule)))) contents
leaves_rule policy contents a rule other =
    leaves_all contents past
    (λ doc. ap (λ b. cond b (left_by past.answer past.effects doc (content_listed contents doc)) (content_listed contents doc)) (deletes_none rule other doc))
  where
    past : Past
    past = record_of policy contents (case_of a (Applies rule))

-- a deletion that nothing is held against leaves the content of its document empty, and each other content
pub leaves_deleted : (policy : SecurityPolicy) (contents now : List (List ℕ)) (a : Admitted) (doc : ℕ)
    → a.lost ≡ false → None ≡ rule_fault policy a.subject (Delete doc) → doc < length contents → now ≡ set contents doc []
    → Leaves contents (content_behind contents (record_of policy contents (case_of a (Applies (Delete doc))))) now
leaves_deleted policy contents now a doc unlost none there is = record {
  as_many = ap length is ∙ length-set contents doc [];
  left = λ o lt.
      ap (λ cs. content_listed cs o) is
      ∙ go o (eqb_tells doc o)
      ∙ ap (λ (f : Option Denial). leaves (past_with contents past false f) o (content_listed contents o)) none
      ∙ ap (λ b. leaves (past_with contents past b (rule_fault policy a.subject (Delete doc))) o (content_listed contents o)) (sym unlost);
}
  where
    past : Past
    past = record_of policy contents (case_of a (Applies (Delete doc)))

    go : (o : ℕ) → (((doc == o) ≡ true) × (doc ≡ o)) ⊎ (((doc == o) ≡ false) × (doc ≡ o → ⊥))
        → content_listed (set contents doc []) o ≡ cond (doc == o) [] (content_listed contents o)
    go o (inl p) =
        ap (content_listed (set contents doc [])) (sym p.1) ∙ get_or-set_same contents doc [] [] there
        ∙ ap (λ b. cond b [] (content_listed contents o)) (sym p.0)
    go o (inr p) =
        get_or-set_other contents doc o [] [] (λ e. p.1 (sym e)) ∙ ap (λ b. cond b [] (content_listed contents o)) (sym p.0)

-- a list that was written as a whole
pub whole_again : (written before : List (List ℕ)) (n : ℕ) → n ≡ length written → take n (written ++ drop (length written) before) ≡ written
whole_again written before n is =
    let le : n ≤ length written = omega arith in
    let ge : length written ≤ n = omega arith in
    take-append-le n written (drop (length written) before) le ∙ take_all n written ge
