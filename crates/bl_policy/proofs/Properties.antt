-- The tests against the properties. What the test of dominance means is taken as a fact.
use Rattle.std.proofs.Common.{◌≡◌, ℕ, ◌<◌, zero, suc, Bool, true, false, ◌&&◌, ◌||◌, ◌==◌, refl, sym, ◌∙◌, ap, subst, arith, List, [], ◌∷◌, Option, Some, None, inl, inr, ◌⊎◌, true≢false, All}
use Rattle.std.specs.Prelude.{IsTrue, ◌↔◌, slice_get, unwrap_or, if◌then◌else◌}
use Rattle.std.proofs.lemmas.Bool.Decides.{nat_tests}
use Rattle.std.proofs.lemmas.List.Elements.{All-cons}
use Rattle.std.proofs.lemmas.Nat.Bits.{bit_at-zero}
use Rattle.std.specs.Int.{bit_at}
use Rattle.bl_level.specs.Level.{SecurityLevel, dominates, Dominates}
use Rattle.bl_level.proofs.Dominance.{dominates-sets, dominance-antisymmetric}
use Rattle.bl_policy.specs.declared.access.Mode.{Mode}
use Rattle.bl_policy.specs.declared.access.Mode.TheVariants.{Read, Append, Write}
use Rattle.bl_policy.specs.declared.access.Access.{Access}
use Rattle.bl_policy.specs.declared.denial.Clause.{Clause}
use Rattle.bl_policy.specs.declared.denial.Clause.TheVariants as failing
use Rattle.bl_policy.specs.declared.denial.Denial.{Denial}
use Rattle.bl_policy.specs.Policy.{SecurityPolicy, lowest, greatest_of, current_of, level_of, is_present, is_trusted}
use Rattle.bl_policy.specs.Properties.{Observes, Flows, MayCarry, observes, flows, may_carry, Simple, Star, Carry, IsPresent, IsSecure, IsGranted, is_simple, is_star, is_discretionary, is_carry}
use Rattle.bl_policy.specs.FirstFault.{denied, absence, property_fault, carry_fault, fault_of, fault_or, first_fault, FailsFirst, IsFirstFault}

abbrev pub Means : Type 0
Means = (a b : SecurityLevel) → IsTrue (dominates a b) ↔ Dominates a b

both : (a b c d : ℕ) → ((a == b) && (c == d)) ≡ true → (a ≡ b) × (c ≡ d)
both a b c d h = grind (arith, nat_tests)

both_back : (a b c d : ℕ) → a ≡ b → c ≡ d → ((a == b) && (c == d)) ≡ true
both_back a b c d e f = grind (arith, nat_tests)

pub same_level : (a b : SecurityLevel) → IsTrue ((a.rank == b.rank) && (a.categories == b.categories)) ↔ (a ≡ b)
same_level a b = (
  (λ h. let e : (a.rank ≡ b.rank) × (a.categories ≡ b.categories) = both a.rank b.rank a.categories b.categories h in λ i. record { rank = e.0 i; categories = e.1 i }),
  (λ e. both_back a.rank b.rank a.categories b.categories (ap (λ l. l.rank) e) (ap (λ l. l.categories) e)),
)

and_parts : (a b : Bool) → (a && b) ≡ true → (a ≡ true) × (b ≡ true)
and_parts true b h = (refl, h)
and_parts false b h = absurd (true≢false (sym h))

one_test : (a b : Bool) → (a ≡ true → b ≡ true) → (b ≡ true → a ≡ true) → a ≡ b
one_test true b there back = sym (there refl)
one_test false true there back = back refl
one_test false false there back = refl

above_itself : (a : SecurityLevel) → Dominates a a
above_itself a = record { rank = omega arith; categories = λ k h. h }

-- levels that dominate each other are one
write-flows : (current level : SecurityLevel) → (dominates current level && dominates level current) ≡ flows current level Write
write-flows current level = one_test (dominates current level && dominates level current) (flows current level Write) there back
  where
    there : (dominates current level && dominates level current) ≡ true → flows current level Write ≡ true
    there h =
        let parts = and_parts (dominates current level) (dominates level current) h in
        (same_level current level).1 (dominance-antisymmetric current level ((dominates-sets current level).0 parts.0) ((dominates-sets level current).0 parts.1))

    back : flows current level Write ≡ true → (dominates current level && dominates level current) ≡ true
    back h =
        let one : current ≡ level = (same_level current level).0 h in
        let above : Dominates current level = subst (λ (l : SecurityLevel). Dominates current l) one (above_itself current) in
        let below : Dominates level current = subst (λ (l : SecurityLevel). Dominates l current) one (above_itself current) in
        λ i. (dominates-sets current level).1 above i && (dominates-sets level current).1 below i

-- of a write the star property holds where it holds of a read and of an append
pub star-write : (trusted : Bool) (current level : SecurityLevel) → ((trusted || dominates current level) && (trusted || dominates level current)) ≡ (trusted || flows current level Write)
star-write true current level = refl
star-write false current level = write-flows current level

module _ (means : Means) where
  observes-means : (greatest level : SecurityLevel) (m : Mode) → IsTrue (observes greatest level m) ↔ Observes greatest level m
  observes-means greatest level Read = means greatest level
  observes-means greatest level Append = ((λ h. tt), (λ h. refl))
  observes-means greatest level Write = means greatest level

  flows-means : (current level : SecurityLevel) (m : Mode) → IsTrue (flows current level m) ↔ Flows current level m
  flows-means current level Read = means current level
  flows-means current level Append = means level current
  flows-means current level Write = same_level current level

  pub simple-means : (p : SecurityPolicy) (s o : ℕ) (m : Mode) → IsTrue (is_simple p s o m) ↔ Simple p s o m
  simple-means p s o m = observes-means (greatest_of p s) (level_of p o) m

  either : (b f : Bool) (F : Type 0) → IsTrue f ↔ F → IsTrue (b || f) ↔ (IsTrue b ⊎ F)
  either true f F is = ((λ h. inl refl), (λ h. refl))
  either false f F is = ((λ h. inr (is.0 h)), (λ h. elim h [ inl t ↦ absurd (true≢false (sym t)) | inr x ↦ is.1 x ]))

  pub star-means : (p : SecurityPolicy) (s o : ℕ) (m : Mode) → IsTrue (is_star p s o m) ↔ Star p s o m
  star-means p s o m = either (is_trusted p s) (flows (current_of p s) (level_of p o) m) _ (flows-means (current_of p s) (level_of p o) m)

  may_carry-means : (carried level : SecurityLevel) (m : Mode) → IsTrue (may_carry carried level m) ↔ MayCarry carried level m
  may_carry-means carried level Read = ((λ h. tt), (λ h. refl))
  may_carry-means carried level Append = means level carried
  may_carry-means carried level Write = means level carried

  pub carry-means : (p : SecurityPolicy) (s : ℕ) (carried : SecurityLevel) (o : ℕ) (m : Mode) → IsTrue (is_carry p s carried o m) ↔ Carry p s carried o m
  carry-means p s carried o m = either (is_trusted p s) (may_carry carried (level_of p o) m) _ (may_carry-means carried (level_of p o) m)

  -- ---- one access

  abbrev chain : Bool → Bool → Bool → ℕ → ℕ → Option Denial
  chain x y z s o = if x then (if y then (if z then None else denied failing.Discretionary s o) else denied failing.Star s o) else denied failing.Simple s o

  chain_none : (x y z : Bool) (s o : ℕ) → chain x y z s o ≡ None → (x ≡ true) × (y ≡ true) × (z ≡ true)
  chain_none true true true s o e = (refl, refl, refl)
  chain_none true true false s o e = absurd (cc)
  chain_none true false z s o e = absurd (cc)
  chain_none false y z s o e = absurd (cc)

  pub secure-of_none : (p : SecurityPolicy) (s : ℕ) (a : Access) → property_fault p s a ≡ None → IsSecure p s a.doc a.mode
  secure-of_none p s a e =
      let t = chain_none (is_simple p s a.doc a.mode) (is_star p s a.doc a.mode) (is_discretionary p s a.doc a.mode) s a.doc e in
      record { simple = (simple-means p s a.doc a.mode).0 t.0; star = (star-means p s a.doc a.mode).0 t.1; discretionary = t.2 }

  pub none-of_secure : (p : SecurityPolicy) (s : ℕ) (a : Access) → IsSecure p s a.doc a.mode → property_fault p s a ≡ None
  none-of_secure p s a h = λ i. chain ((simple-means p s a.doc a.mode).1 h.simple i) ((star-means p s a.doc a.mode).1 h.star i) (h.discretionary i) s a.doc

  abbrev FailsTests : Clause → Bool → Bool → Bool → Type 0
  FailsTests failing.Simple x y z = x ≡ false
  FailsTests failing.Star x y z = (x ≡ true) × (y ≡ false)
  FailsTests failing.Discretionary x y z = (x ≡ true) × (y ≡ true) × (z ≡ false)
  FailsTests failing.Absent x y z = ⊥
  FailsTests failing.Carry x y z = ⊥
  FailsTests failing.Admin x y z = ⊥
  FailsTests failing.Trusted x y z = ⊥
  FailsTests failing.Greatest x y z = ⊥
  FailsTests failing.Present x y z = ⊥

  some_is : {X : Type 0} (x y : X) → Some x ≡ Some y → x ≡ y
  some_is x y e = ap (λ o. unwrap_or o x) e

  abbrev Told : Bool → Bool → Bool → ℕ → ℕ → Denial → Type 0
  Told x y z s o d = FailsTests d.clause x y z × (d.subject ≡ s) × (d.object ≡ Some o)

  chain_some : (x y z : Bool) (s o : ℕ) (d : Denial) → chain x y z s o ≡ Some d → Told x y z s o d
  chain_some true true true s o d e = absurd (cc)
  chain_some true true false s o d e = subst (Told true true false s o) (some_is _ d e) ((refl, refl, refl), refl, refl)
  chain_some true false z s o d e = subst (Told true false z s o) (some_is _ d e) ((refl, refl), refl, refl)
  chain_some false y z s o d e = subst (Told false y z s o) (some_is _ d e) (refl, refl, refl)

  fails-tests : (clause : Clause) (p : SecurityPolicy) (s : ℕ) (carried : SecurityLevel) (o : ℕ) (m : Mode) → IsPresent p o
      → FailsTests clause (is_simple p s o m) (is_star p s o m) (is_discretionary p s o m) → FailsFirst clause p s carried o m
  fails-tests failing.Absent p s carried o m there t = absurd t
  fails-tests failing.Simple p s carried o m there t = (there, λ h. true≢false (sym ((simple-means p s o m).1 h) ∙ t))
  fails-tests failing.Star p s carried o m there t = (there, (simple-means p s o m).0 t.0, λ h. true≢false (sym ((star-means p s o m).1 h) ∙ t.1))
  fails-tests failing.Discretionary p s carried o m there t = (there, (simple-means p s o m).0 t.0, (star-means p s o m).0 t.1, λ h. true≢false (sym h ∙ t.2))
  fails-tests failing.Carry p s carried o m there t = absurd t
  fails-tests failing.Admin p s carried o m there t = t
  fails-tests failing.Trusted p s carried o m there t = t
  fails-tests failing.Greatest p s carried o m there t = t
  fails-tests failing.Present p s carried o m there t = t

  -- ---- one access, with whether its document is present, and with what is carried

  fault_or_none : (x y : Option Denial) → fault_or x y ≡ None → (x ≡ None) × (y ≡ None)
  fault_or_none None y e = (refl, e)
  fault_or_none (Some d) y e = absurd (cc)

  holds-of_none : (b : Bool) (clause : Clause) (s o : ℕ) → (if b then None else denied clause s o) ≡ None → b ≡ true
  holds-of_none true clause s o e = refl
  holds-of_none false clause s o e = absurd (cc)

  pub granted-of_none : (p : SecurityPolicy) (s : ℕ) (carried : SecurityLevel) (a : Access) → fault_of p s carried a ≡ None → IsGranted p s carried a.doc a.mode
  granted-of_none p s carried a e =
      let parts = fault_or_none (absence p s a) (fault_or (property_fault p s a) (carry_fault p s carried a)) e in
      let later = fault_or_none (property_fault p s a) (carry_fault p s carried a) parts.1 in
      record {
        present = holds-of_none (is_present p a.doc) failing.Absent s a.doc parts.0;
        secure = secure-of_none p s a later.0;
        carry = (carry-means p s carried a.doc a.mode).0 (holds-of_none (is_carry p s carried a.doc a.mode) failing.Carry s a.doc later.1);
      }

  pub none-of_granted : (p : SecurityPolicy) (s : ℕ) (carried : SecurityLevel) (a : Access) → IsGranted p s carried a.doc a.mode → fault_of p s carried a ≡ None
  none-of_granted p s carried a h =
      ap (λ b. fault_or (if b then None else denied failing.Absent s a.doc) (fault_or (property_fault p s a) (carry_fault p s carried a))) h.present
      ∙ ap (λ f. fault_or f (carry_fault p s carried a)) (none-of_secure p s a h.secure)
      ∙ ap (λ b. if b then None else denied failing.Carry s a.doc) ((carry-means p s carried a.doc a.mode).1 h.carry)

  -- a refusal of an access names what it fails first
  pub record Names (p : SecurityPolicy) (s : ℕ) (carried : SecurityLevel) (a : Access) (denial : Denial) : Type 0 where
    pub fails : FailsFirst denial.clause p s carried a.doc a.mode
    pub subject : denial.subject ≡ s
    pub object : denial.object ≡ Some a.doc

  names-carry : (p : SecurityPolicy) (s : ℕ) (carried : SecurityLevel) (a : Access) (denial : Denial) (b : Bool) → is_carry p s carried a.doc a.mode ≡ b
      → IsPresent p a.doc → IsSecure p s a.doc a.mode → (if b then None else denied failing.Carry s a.doc) ≡ Some denial → Names p s carried a denial
  names-carry p s carried a denial true is there secure e = absurd (cc)
  names-carry p s carried a denial false is there secure e =
      subst (λ (d : Denial). Names p s carried a d) (some_is _ denial e)
      (record {
        fails = (there, secure, λ h. true≢false (sym ((carry-means p s carried a.doc a.mode).1 h) ∙ is));
        subject = refl;
        object = refl;
      })

  names-property : (p : SecurityPolicy) (s : ℕ) (carried : SecurityLevel) (a : Access) (denial : Denial) (f : Option Denial) → property_fault p s a ≡ f
      → IsPresent p a.doc → fault_or f (carry_fault p s carried a) ≡ Some denial → Names p s carried a denial
  names-property p s carried a denial None is there e =
      names-carry p s carried a denial (is_carry p s carried a.doc a.mode) refl there (secure-of_none p s a is) e
  names-property p s carried a denial (Some d) is there e =
      let told = chain_some (is_simple p s a.doc a.mode) (is_star p s a.doc a.mode) (is_discretionary p s a.doc a.mode) s a.doc denial (is ∙ e) in
      record { fails = fails-tests denial.clause p s carried a.doc a.mode there told.0; subject = told.1; object = told.2 }

  names-first : (p : SecurityPolicy) (s : ℕ) (carried : SecurityLevel) (a : Access) (denial : Denial) (b : Bool) → is_present p a.doc ≡ b
      → fault_or (if b then None else denied failing.Absent s a.doc) (fault_or (property_fault p s a) (carry_fault p s carried a)) ≡ Some denial → Names p s carried a denial
  names-first p s carried a denial true is e = names-property p s carried a denial (property_fault p s a) refl is e
  names-first p s carried a denial false is e =
      subst (λ (d : Denial). Names p s carried a d) (some_is _ denial e)
      (record { fails = λ h. true≢false (sym h ∙ is); subject = refl; object = refl })

  -- ---- a list of accesses

  pub all-of_none : (p : SecurityPolicy) (s : ℕ) (carried : SecurityLevel) (accesses : List Access) → first_fault p s carried accesses ≡ None → All (λ access. IsGranted p s carried access.doc access.mode) accesses
  all-of_none p s carried [] e = λ k d h. absurd (omega arith)
  all-of_none p s carried (a ∷ rest) e =
      let parts = fault_or_none (fault_of p s carried a) (first_fault p s carried rest) e in
      All-cons (λ access. IsGranted p s carried access.doc access.mode) a rest (granted-of_none p s carried a parts.0) (all-of_none p s carried rest parts.1)

  pub none-of_all : (p : SecurityPolicy) (s : ℕ) (carried : SecurityLevel) (accesses : List Access) → All (λ access. IsGranted p s carried access.doc access.mode) accesses → first_fault p s carried accesses ≡ None
  none-of_all p s carried [] each = refl
  none-of_all p s carried (a ∷ rest) each =
      ap (λ f. fault_or f (first_fault p s carried rest)) (none-of_granted p s carried a (each 0 a (omega arith)))
      ∙ none-of_all p s carried rest (λ k d h. each (suc k) d (omega arith))

  granted_earlier : (p : SecurityPolicy) (s : ℕ) (carried : SecurityLevel) (a : Access) (rest : List Access) (n : ℕ) → IsGranted p s carried a.doc a.mode
      → ((k : ℕ) (earlier : Access) → k < n → slice_get rest k ≡ Some earlier → IsGranted p s carried earlier.doc earlier.mode)
      → (k : ℕ) (earlier : Access) → k < suc n → slice_get (a ∷ rest) k ≡ Some earlier → IsGranted p s carried earlier.doc earlier.mode
  granted_earlier p s carried a rest n first later zero earlier h at = subst (λ (access : Access). IsGranted p s carried access.doc access.mode) (some_is a earlier at) first
  granted_earlier p s carried a rest n first later (suc k) earlier h at = later k earlier (omega arith) at

  some_cons : (p : SecurityPolicy) (s : ℕ) (carried : SecurityLevel) (a : Access) (rest : List Access) (denial : Denial) (f : Option Denial) → fault_of p s carried a ≡ f
      → (first_fault p s carried rest ≡ Some denial → IsFirstFault p s carried rest denial) → fault_or f (first_fault p s carried rest) ≡ Some denial → IsFirstFault p s carried (a ∷ rest) denial
  some_cons p s carried a rest denial None is later e =
      let r = later e in
      record {
        place = suc r.place;
        access = r.access;
        at = r.at;
        granted_before = granted_earlier p s carried a rest r.place (granted-of_none p s carried a is) r.granted_before;
        fails = r.fails;
        subject = r.subject;
        object = r.object;
      }
  some_cons p s carried a rest denial (Some d) is later e =
      let named = names-first p s carried a denial (is_present p a.doc) refl (is ∙ e) in
      record {
        place = 0;
        access = a;
        at = refl;
        granted_before = λ k earlier h at. absurd (omega arith);
        fails = named.fails;
        subject = named.subject;
        object = named.object;
      }

  -- the first fault is that of the first access that is not granted
  pub first-of_some : (p : SecurityPolicy) (s : ℕ) (carried : SecurityLevel) (accesses : List Access) (denial : Denial) → first_fault p s carried accesses ≡ Some denial → IsFirstFault p s carried accesses denial
  first-of_some p s carried [] denial e = absurd (cc)
  first-of_some p s carried (a ∷ rest) denial e = some_cons p s carried a rest denial (fault_of p s carried a) refl (λ later. first-of_some p s carried rest denial later) e

-- every level dominates the lowest one
no_category : (k : ℕ) → bit_at 0 k ≡ 1 → ⊥
no_category k h = absurd (omega (arith, h, bit_at-zero k))

pub above-lowest : (level : SecurityLevel) → Dominates level lowest
above-lowest level = record { rank = omega arith; categories = λ k h. absurd (no_category k h) }

pub carries-lowest : (level : SecurityLevel) (m : Mode) → MayCarry lowest level m
carries-lowest level Read = tt
carries-lowest level Append = above-lowest level
carries-lowest level Write = above-lowest level
