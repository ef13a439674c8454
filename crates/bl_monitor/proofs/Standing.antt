-- What a monitor keeps is one whole, and the setup that stands behind what it was told.
use Rattle.std.proofs.Common.{◌≡◌, ◌⊎◌, inl, inr, ℕ, zero, suc, ◌+◌, ◌<◌, ◌≤◌, Bool, true, false, cond, List, [], ◌∷◌, length, get_or, refl, sym, ◌∙◌, ap, subst, arith, zero-add}
use Rattle.std.specs.Prelude.{Option, Some, None}
use Rattle.std.proofs.lemmas.List.{length-set}
use Rattle.bl_policy.specs.Policy.{SecurityPolicy}
use Rattle.bl_policy.specs.Properties.{IsPresent}
use Rattle.bl_policy.specs.RuleEffect.{rule_fault, rule_makes, unless_failed, after_rule}
use Rattle.bl_policy.specs.declared.denial.Denial.{Denial}
use Rattle.bl_policy.specs.declared.rule.Rule.{Rule}
use Rattle.bl_policy.specs.declared.rule.Rule.TheVariants.{Give, Rescind, Current, Classify, Create, Delete}
use Rattle.bl_work.specs.Names.{KnownNames}
use Rattle.bl_work.specs.declared.answer.Answer.{Answer}
use Rattle.bl_setup.specs.Agreement.{Agree}
use Rattle.bl_setup.specs.Setup.{Setup, by_version}
use Rattle.bl_setup.specs.declared.version.Version.TheVariants.{Two}
use Rattle.bl_order.specs.Order.{Task, Runs, Applies}
use Rattle.bl_order.specs.Past.{Past, changed, policy_of, policy_before, content_before, was_lost}
use Rattle.bl_order.specs.Standing.{setup_after, tabled}
use Rattle.bl_order.proofs.Absent.{absent-empty}
use Rattle.bl_monitor.specs.declared.monitor.Monitor.TheInside.{Inside}
use Rattle.bl_monitor.specs.Heard.{Heard, is_lost}
use Rattle.bl_monitor.specs.Sound.{setup_of, heard_of, pasts_of, IsSound}
use Rattle.bl_monitor.proofs.Coming.{as_long, ruled}

-- ---- no task adds or drops a document's presence

present_made : (p : SecurityPolicy) (s : ℕ) (rule : Rule) → length (rule_makes p s rule).present ≡ length p.present
present_made p s (Give t o m) = refl
present_made p s (Rescind t o m) = refl
present_made p s (Current level) = refl
present_made p s (Classify o level) = refl
present_made p s (Create o) = length-set p.present o true
present_made p s (Delete o) = length-set p.present o false

present_unless : (p : SecurityPolicy) (s : ℕ) (rule : Rule) (x : Option Denial) → length (unless_failed x (rule_makes p s rule) p).present ≡ length p.present
present_unless p s rule None = present_made p s rule
present_unless p s rule (Some denial) = refl

present_changed : (a : Answer) (t : Task) (s : ℕ) (p : SecurityPolicy) → length (changed a t s p).present ≡ length p.present
present_changed a (Runs script index) s p = refl
present_changed a (Applies rule) s p = go (was_lost a)
  where
    go : (b : Bool) → length (cond b p (after_rule p s rule)).present ≡ length p.present
    go true = refl
    go false = present_unless p s rule (rule_fault p s rule)

present_ruled : (setup : Setup) (pasts : List Past) → length (policy_of setup pasts).present ≡ length setup.policy.present
present_ruled setup [] = refl
present_ruled setup (p ∷ pasts) = present_changed p.answer p.task p.subject (policy_of setup pasts) ∙ present_ruled setup pasts

-- ---- lists

beyond : (xs : List (List ℕ)) (i : ℕ) → length xs ≤ i → get_or xs i [] ≡ []
beyond [] i le = refl
beyond (x ∷ xs) zero le = absurd (omega (arith, le))
beyond (x ∷ xs) (suc i) le = beyond xs i (omega (arith, le))

-- a list of so many contents, each of which is the function's
is_tabled : (xs : List (List ℕ)) (k n : ℕ) (f : ℕ → List ℕ) → length xs ≡ n → ((i : ℕ) → i < n → get_or xs i [] ≡ f (k + i)) → xs ≡ tabled k n f
is_tabled [] k zero f long each = refl
is_tabled [] k (suc n) f long each = absurd (omega (arith, long))
is_tabled (x ∷ xs) k zero f long each = absurd (omega (arith, long))
is_tabled (x ∷ xs) k (suc n) f long each =
    let here : k + 0 ≡ k = omega arith in
    ap (λ y. y ∷ xs) (each 0 (omega arith) ∙ ap f here)
    ∙ ap (λ l. f k ∷ l) (is_tabled xs (suc k) n f (omega (arith, long)) (λ i lt. each (suc i) (omega (arith, lt)) ∙ ap f (moved i)))
  where
    moved : (i : ℕ) → k + suc i ≡ suc k + i
    moved i = omega arith

-- ---- the whole

below_or_not : (a b : ℕ) → (a < b) ⊎ (b ≤ a)
below_or_not a b = grind arith

abbrev pub of_parts : KnownNames → SecurityPolicy → List (List ℕ) → Setup
of_parts names policy contents = record { names = names; policy = policy; contents = contents; version = Two }

-- the first names, with what is kept
abbrev pub whole_of : Inside → Setup
whole_of m = of_parts (setup_of m).names m.policy m.contents.items

-- copies make an equal one
pub same_whole : (m : Inside) (names : KnownNames) (policy : SecurityPolicy) (contents : List (List ℕ)) → names ≡ (setup_of m).names → policy ≡ m.policy
    → contents ≡ m.contents.items → of_parts names policy contents ≡ whole_of m
same_whole m names policy contents same ruled current = λ i. of_parts (same i) (ruled i) (current i)

module _ (m : Inside) (sound : IsSound (setup_of m) m.policy m.contents.items m.places.items) where
  abbrev setup : Setup
  setup = setup_of m

  abbrev h : Heard
  h = heard_of setup m.places.items

  absent_now : (o : ℕ) → (IsPresent m.policy o → ⊥) → get_or m.contents.items o [] ≡ []
  absent_now o none = go (below_or_not o (length m.contents.items))
    where
      go : (o < length m.contents.items) ⊎ (length m.contents.items ≤ o) → get_or m.contents.items o [] ≡ []
      go (inl lt) =
          sound.current o lt
          ∙ absent-empty setup (is_lost h) h.order o (length m.places.items) sound.agree (λ p. none (subst (λ q. IsPresent q o) (sym sound.ruled) p))
      go (inr le) = beyond m.contents.items o le

  pub whole_agrees : Agree (whole_of m)
  whole_agrees = record {
    subjects = sound.agree.subjects ∙ sym (ruled m sound).subjects;
    documents = sound.agree.documents ∙ sym (ruled m sound).documents;
    presence = sound.agree.presence ∙ sym (ap (λ (p : SecurityPolicy). length p.present) sound.ruled ∙ present_ruled setup (pasts_of setup m.places.items));
    contents = sound.agree.contents ∙ sym sound.as_many;
    absent = absent_now;
  }

  policy_stands : m.policy ≡ policy_before setup (is_lost h) h.order (length h.order)
  policy_stands = sound.ruled ∙ ap (policy_before setup (is_lost h) h.order) (sym (as_long m sound))

  contents_stand : m.contents.items ≡ tabled 0 (length setup.contents) (λ doc. content_before setup (is_lost h) h.order doc (length h.order))
  contents_stand =
      is_tabled m.contents.items 0 (length setup.contents) (λ doc. content_before setup (is_lost h) h.order doc (length h.order)) sound.as_many
      (λ i lt. sound.current i (omega (arith, lt, sound.as_many))
      ∙ ap (content_before setup (is_lost h) h.order i) (sym (as_long m sound))
      ∙ ap (λ doc. content_before setup (is_lost h) h.order doc (length h.order)) (sym (zero-add i)))

  pub whole_stands : whole_of m ≡ by_version Two (setup_after setup (is_lost h) h.order)
  whole_stands =
      ap (λ p. record (whole_of m) { policy = p }) policy_stands
      ∙ ap (λ cs. record (by_version Two (setup_after setup (is_lost h) h.order)) { contents = cs }) contents_stand
