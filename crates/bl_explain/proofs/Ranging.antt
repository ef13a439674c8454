-- That an access is granted at just the current levels of its range.
use Rattle.std.proofs.Common.{◌≡◌, ℕ, ◌<◌, Bool, true, false, ◌&&◌, refl, sym, ap, subst, length, Some, None, ◌⊎◌, true≢false}
use Rattle.std.specs.Prelude.{◌↔◌, IsTrue, if◌then◌else◌, unwrap_or}
use Rattle.std.proofs.lemmas.List.{get_or-set_same}
use Rattle.bl_level.specs.Level.{SecurityLevel, Dominates}
use Rattle.bl_policy.specs.declared.access.Access.{Access}
use Rattle.bl_policy.specs.declared.access.Mode.{Mode}
use Rattle.bl_policy.specs.Policy.{SecurityPolicy, Clearance, nobody, clearance_of, greatest_of, level_of, is_present, is_trusted, allows, with_current}
use Rattle.bl_policy.specs.Properties.{Observes, Flows, MayCarry, Simple, Carry, IsGranted, is_simple, is_carry}
use Rattle.bl_explain.specs.declared.range.LevelRange.{LevelRange}
use Rattle.bl_explain.specs.Grounds.{grounds_of}
use Rattle.bl_explain.specs.Ranges.{IsInRange, levels_on, range_on}
use Rattle.bl_explain.proofs.Between.{Antisymmetric, IsWithin, bound, wide}

-- what a grant needs, of a subject with this clearance
record Needs (p : SecurityPolicy) (s : ℕ) (carried : SecurityLevel) (access : Access) (c : Clearance) : Type 0 where
  present : IsTrue (is_present p access.doc)
  simple : Observes c.greatest (level_of p access.doc) access.mode
  star : IsTrue c.trusted ⊎ Flows c.current (level_of p access.doc) access.mode
  discretionary : IsTrue (allows p s access.doc access.mode)
  carry : IsTrue c.trusted ⊎ MayCarry carried (level_of p access.doc) access.mode

abbrev moved : SecurityPolicy → ℕ → SecurityLevel → Clearance
moved p s current = record (clearance_of p s) { current = current }

moved_is : (p : SecurityPolicy) (s : ℕ) (current : SecurityLevel) → s < length p.subjects → clearance_of (with_current p s current) s ≡ moved p s current
moved_is p s current known = get_or-set_same p.subjects s (moved p s current) nobody known

needs : (p : SecurityPolicy) (s : ℕ) (carried : SecurityLevel) (access : Access) (current : SecurityLevel) → s < length p.subjects
    → IsGranted (with_current p s current) s carried access.doc access.mode ↔ Needs p s carried access (moved p s current)
needs p s carried access current known = (
  (λ g. subst (Needs p s carried access) (moved_is p s current known)
      (record { present = g.present; simple = g.secure.simple; star = g.secure.star; discretionary = g.secure.discretionary; carry = g.carry })),
  (λ n. let back : Needs p s carried access (clearance_of (with_current p s current) s) = subst (Needs p s carried access) (sym (moved_is p s current known)) n in
      record {
        present = back.present;
        secure = record { simple = back.simple; star = back.star; discretionary = back.discretionary };
        carry = back.carry;
      }),
)

held : (a b c d : Bool) → (a && (b && (c && d))) ≡ true → (a ≡ true) × (b ≡ true) × (c ≡ true) × (d ≡ true)
held true true true true e = (refl, refl, refl, refl)
held true true true false e = absurd (true≢false (sym e))
held true true false d e = absurd (true≢false (sym e))
held true false c d e = absurd (true≢false (sym e))
held false b c d e = absurd (true≢false (sym e))

in_some : (b : Bool) (r : LevelRange) (level : SecurityLevel) → IsInRange (if b then Some r else None) level ↔ ((b ≡ true) × IsWithin r level)
in_some true r level = ((λ h. (refl, h)), (λ h. h.1))
in_some false r level = ((λ h. absurd h), (λ h. absurd (true≢false (sym h.0))))

some_range : (b : Bool) (r range : LevelRange) → (if b then Some r else None) ≡ Some range → (b ≡ true) × (r ≡ range)
some_range true r range e = (refl, ap (λ o. unwrap_or o r) e)
some_range false r range e = absurd (cc)

abbrev pub SimpleMeans : Type 0
SimpleMeans = (p : SecurityPolicy) (s o : ℕ) (m : Mode) → IsTrue (is_simple p s o m) ↔ Simple p s o m

abbrev pub CarryMeans : Type 0
CarryMeans = (p : SecurityPolicy) (s : ℕ) (carried : SecurityLevel) (o : ℕ) (m : Mode) → IsTrue (is_carry p s carried o m) ↔ Carry p s carried o m

module _ (anti : Antisymmetric) (simple-means : SimpleMeans) (carry-means : CarryMeans) where
  abbrev holds : SecurityPolicy → ℕ → SecurityLevel → Access → Bool
  holds p s carried access =
      is_present p access.doc && (is_simple p s access.doc access.mode && (allows p s access.doc access.mode && is_carry p s carried access.doc access.mode))

  abbrev range : SecurityPolicy → ℕ → SecurityLevel → Access → LevelRange
  range p s carried access = levels_on (grounds_of p s carried access) access.mode

  there : (p : SecurityPolicy) (s : ℕ) (carried : SecurityLevel) (access : Access) (current : SecurityLevel) → Dominates (greatest_of p s) current
      → Needs p s carried access (moved p s current) → IsInRange (range_on (grounds_of p s carried access) access.mode) current
  there p s carried access current below n =
      (in_some (holds p s carried access) (range p s carried access) current).1 (
        (λ i. n.present i && ((simple-means p s access.doc access.mode).1 n.simple i && (n.discretionary i && (carry-means p s carried access.doc access.mode).1 n.carry i))),
        (bound anti (greatest_of p s) (level_of p access.doc) current access.mode (is_trusted p s) n.simple).0 (below, n.star),
      )

  back : (p : SecurityPolicy) (s : ℕ) (carried : SecurityLevel) (access : Access) (current : SecurityLevel)
      → IsInRange (range_on (grounds_of p s carried access) access.mode) current → Dominates (greatest_of p s) current × Needs p s carried access (moved p s current)
  back p s carried access current h =
      let parts = (in_some (holds p s carried access) (range p s carried access) current).0 h in
      let each = held (is_present p access.doc) (is_simple p s access.doc access.mode) (allows p s access.doc access.mode) (is_carry p s carried access.doc access.mode) parts.0 in
      let simple : Observes (greatest_of p s) (level_of p access.doc) access.mode = (simple-means p s access.doc access.mode).0 each.1 in
      let star = (bound anti (greatest_of p s) (level_of p access.doc) current access.mode (is_trusted p s) simple).1 parts.1 in (
        star.0,
        record { present = each.0; simple = simple; star = star.1; discretionary = each.2; carry = (carry-means p s carried access.doc access.mode).0 each.3 },
      )

  pub just : (p : SecurityPolicy) (s : ℕ) (carried : SecurityLevel) (access : Access) (current : SecurityLevel) → s < length p.subjects
      → (Dominates (greatest_of p s) current × IsGranted (with_current p s current) s carried access.doc access.mode)
      ↔ IsInRange (range_on (grounds_of p s carried access) access.mode) current
  just p s carried access current known = (
    (λ h. there p s carried access current h.0 ((needs p s carried access current known).0 h.1)),
    (λ h. let parts = back p s carried access current h in (parts.0, (needs p s carried access current known).1 parts.1)),
  )

  pub not_empty : (p : SecurityPolicy) (s : ℕ) (carried : SecurityLevel) (access : Access) (r : LevelRange)
      → range_on (grounds_of p s carried access) access.mode ≡ Some r → Dominates r.highest r.lowest
  not_empty p s carried access r e =
      let parts = some_range (holds p s carried access) (range p s carried access) r e in
      let each = held (is_present p access.doc) (is_simple p s access.doc access.mode) (allows p s access.doc access.mode) (is_carry p s carried access.doc access.mode) parts.0 in
      let simple : Observes (greatest_of p s) (level_of p access.doc) access.mode = (simple-means p s access.doc access.mode).0 each.1 in
      subst (λ (l : LevelRange). Dominates l.highest l.lowest) parts.1 (wide (greatest_of p s) (level_of p access.doc) access.mode (is_trusted p s) simple)
