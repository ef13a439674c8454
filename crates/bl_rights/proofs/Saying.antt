-- That a permission says where an access is granted.
use Rattle.std.proofs.Common.{◌≡◌, ℕ, Bool, true, false, refl, sym, ap, subst, ◌∙◌, true≢false, arith}
use Rattle.std.specs.Prelude.{◌↔◌, ◌&&◌, ◌||◌, not, is_none, Option, Some, None, IsTrue, if◌then◌else◌}
use Rattle.bl_level.specs.Level.{SecurityLevel, Dominates, dominates}
use Rattle.bl_policy.specs.declared.access.Access.{Access}
use Rattle.bl_policy.specs.declared.access.Mode.{Mode}
use Rattle.bl_policy.specs.declared.access.Mode.TheVariants.{Read, Append, Write}
use Rattle.bl_policy.specs.Policy.{SecurityPolicy, allows, is_present, lowest}
use Rattle.bl_policy.specs.Properties.{flows, is_simple, may_carry, observes}
use Rattle.bl_policy.proofs.Properties.{above-lowest}
use Rattle.bl_explain.specs.declared.grounds.Grounds.{Grounds}
use Rattle.bl_explain.specs.declared.range.LevelRange.{LevelRange}
use Rattle.bl_explain.specs.Grounds.{grounds_of}
use Rattle.bl_explain.specs.Ranges.{IsInRange, hold_at_any_level, levels_on, range_on, star_range}
use Rattle.bl_explain.specs.Tests.{fails_first, in_order, is_exempt, tests_on}
use Rattle.bl_rights.specs.declared.permission.Permission.{Permission}
use Rattle.bl_rights.specs.declared.permission.Permission.TheVariants.{NoRight, Now, Exempt, Never}
use Rattle.bl_rights.specs.Permissions.{IsPermittedAt, first_grounds, is_granted_on, is_permitted_now, levels_where, permission_on}

-- ---- an access is granted where each of its tests is answered with yes

all-hold : (a b c d e : Bool) → is_none (fails_first (in_order (record { present = a; simple = b; star = c; discretionary = d; carry = e })))
    ≡ (a && (b && (c && (d && e))))
all-hold false b c d e = refl
all-hold true false c d e = refl
all-hold true true false d e = refl
all-hold true true true false e = refl
all-hold true true true true false = refl
all-hold true true true true true = refl

-- where the right is not there, nothing is granted
needs-right : (a b c d e : Bool) → (a && (b && (c && (d && e)))) ≡ true → d ≡ true
needs-right false b c d e h = absurd (true≢false (sym h))
needs-right true false c d e h = absurd (true≢false (sym h))
needs-right true true false d e h = absurd (true≢false (sym h))
needs-right true true true false e h = absurd (true≢false (sym h))
needs-right true true true true e h = refl

-- where all but star holds, it alone decides
star-decides : (a b c d e : Bool) → (a && (b && (d && e))) ≡ true → c ≡ true → (a && (b && (c && (d && e)))) ≡ true
star-decides a b true d e h refl' = h
star-decides a b false d e h does = absurd (true≢false (sym does))

granted-has-right : (g : Grounds) (m : Mode) → is_granted_on g m ≡ true → g.allowed ≡ true
granted-has-right g m h =
    needs-right g.present (observes g.greatest g.level m) (g.trusted || flows g.current g.level m) g.allowed (g.trusted || may_carry g.carried g.level m)
    (sym (all-hold g.present (observes g.greatest g.level m) (g.trusted || flows g.current g.level m) g.allowed (g.trusted || may_carry g.carried g.level m)) ∙ h)

first-of-two : (a b : Bool) → (a && b) ≡ true → a ≡ true
first-of-two true b h = refl
first-of-two false b h = absurd (true≢false (sym h))

exempt-granted : (g : Grounds) (m : Mode) → is_exempt g m ≡ true → is_granted_on g m ≡ true
exempt-granted g m h = first-of-two (is_granted_on g m) _ h

-- who is trusted is bound by no star
or-true : (t b : Bool) → t ≡ true → (t || b) ≡ true
or-true true b h = refl
or-true false b h = absurd (true≢false (sym h))

trusted-granted : (g : Grounds) (m : Mode) → hold_at_any_level (tests_on g m) ≡ true → g.trusted ≡ true → is_granted_on g m ≡ true
trusted-granted g m holds trusts =
    all-hold g.present (observes g.greatest g.level m) (g.trusted || flows g.current g.level m) g.allowed (g.trusted || may_carry g.carried g.level m)
    ∙ star-decides g.present (observes g.greatest g.level m) (g.trusted || flows g.current g.level m) g.allowed (g.trusted || may_carry g.carried g.level m)
    holds (or-true g.trusted (flows g.current g.level m) trusts)

-- ---- what is said of now

later : (m : Mode) (range : Option LevelRange) → is_permitted_now (levels_where m range) ≡ false
later m None = refl
later Read (Some range) = refl
later Append (Some range) = refl
later Write (Some range) = refl

-- the permission on a right, an exemption, a grant, and what is said of other levels
abbrev said : Bool → Bool → Bool → Permission → Permission
said allowed exempt granted other = if not allowed then NoRight else (if exempt then Exempt else (if granted then Now else other))

said-now : (a x y : Bool) (other : Permission) → is_permitted_now other ≡ false → (y ≡ true → a ≡ true) → (x ≡ true → y ≡ true)
    → is_permitted_now (said a x y other) ≡ y
said-now false x true other later' needs gives = absurd (true≢false (sym (needs refl)))
said-now false x false other later' needs gives = refl
said-now true true true other later' needs gives = refl
said-now true true false other later' needs gives = absurd (true≢false (sym (gives refl)))
said-now true false true other later' needs gives = refl
said-now true false false other later' needs gives = later'

permitted-is-granted : (g : Grounds) (m : Mode) → is_permitted_now (permission_on g m) ≡ is_granted_on g m
permitted-is-granted g m =
    said-now g.allowed (is_exempt g m) (is_granted_on g m) (levels_where m (range_on g m)) (later m (range_on g m)) (granted-has-right g m) (exempt-granted g m)

-- ---- what is said of other levels

said-later : (a x y : Bool) (other : Permission) → y ≡ false → (x ≡ true → y ≡ true) → a ≡ true → said a x y other ≡ other
said-later a x true other fails gives has = absurd (true≢false fails)
said-later true true false other fails gives has = absurd (true≢false (sym (gives refl)))
said-later true false false other fails gives has = refl
said-later false x false other fails gives has = absurd (true≢false (sym has))

said-nothing : (a x y : Bool) (other : Permission) → a ≡ false → said a x y other ≡ NoRight
said-nothing true x y other fails = absurd (true≢false fails)
said-nothing false x y other fails = refl

abbrev pub Antisymmetric : Type 0
Antisymmetric = (a b : SecurityLevel) → Dominates a b → Dominates b a → a ≡ b

dominates-itself : (c : SecurityLevel) → Dominates c c
dominates-itself c = record { rank = omega arith; categories = λ k h. h }

-- the levels of a range, up to the greatest, are those that are said
module _ (anti : Antisymmetric) (greatest level current : SecurityLevel) (below : Dominates greatest current) where
  abbrev range_by : Bool → Mode → LevelRange
  range_by trusted m = if trusted then record { lowest = lowest; highest = greatest } else star_range greatest level m

  by-range : (holds trusted : Bool) (m : Mode) → (holds ≡ true → trusted ≡ false)
      → IsInRange (if holds then Some (range_by trusted m) else None) current
      ↔ IsPermittedAt (levels_where m (if holds then Some (range_by trusted m) else None)) current
  by-range false trusted m plain = ((λ h. absurd h), (λ h. absurd h))
  by-range true true m plain = absurd (true≢false (plain refl))
  by-range true false Read plain = ((λ h. h.0), (λ h. (h, below)))
  by-range true false Append plain = ((λ h. h.1), (λ h. (above-lowest current, h)))
  by-range true false Write plain = (
    (λ h. anti current level h.0 h.1),
    (λ h. (subst (λ l. Dominates current l) h (dominates-itself current), subst (λ l. Dominates l current) h (dominates-itself current))),
  )

not-granted : (g : Grounds) (m : Mode) → is_granted_on g m ≡ false → hold_at_any_level (tests_on g m) ≡ true → g.trusted ≡ false
not-granted g m fails holds = go g.trusted refl
  where
    go : (t : Bool) → g.trusted ≡ t → g.trusted ≡ false
    go true is = absurd (true≢false (sym (trusted-granted g m holds is) ∙ fails))
    go false is = is

without-right : (a b d e : Bool) → d ≡ false → (a && (b && (d && e))) ≡ false
without-right true true true e fails = absurd (true≢false fails)
without-right true true false e fails = refl
without-right true false d e fails = refl
without-right false b d e fails = refl

in-none : (b : Bool) (r : LevelRange) (c : SecurityLevel) → b ≡ false → IsInRange (if b then Some r else None) c → ⊥
in-none true r c fails h = true≢false fails
in-none false r c fails h = h

-- the levels at which an access is granted that is not granted now
pub levels-said : Antisymmetric → (g : Grounds) (m : Mode) (current : SecurityLevel) → Dominates g.greatest current → is_granted_on g m ≡ false
    → IsInRange (range_on g m) current ↔ IsPermittedAt (permission_on g m) current
levels-said anti g m current below fails = go g.allowed refl
  where
    go : (a : Bool) → g.allowed ≡ a → IsInRange (range_on g m) current ↔ IsPermittedAt (permission_on g m) current
    go true has = subst (λ q. IsInRange (range_on g m) current ↔ IsPermittedAt q current)
        (sym (said-later g.allowed (is_exempt g m) (is_granted_on g m) (levels_where m (range_on g m)) fails (exempt-granted g m) has))
        (by-range anti g.greatest g.level current below (hold_at_any_level (tests_on g m)) g.trusted m (not-granted g m fails))
    go false has = subst (λ q. IsInRange (range_on g m) current ↔ IsPermittedAt q current)
        (sym (said-nothing g.allowed (is_exempt g m) (is_granted_on g m) (levels_where m (range_on g m)) has)) (
          (λ h. in-none (hold_at_any_level (tests_on g m)) (levels_on g m) current
              (without-right g.present (observes g.greatest g.level m) g.allowed (g.trusted || may_carry g.carried g.level m) has) h),
          (λ h. absurd h),
        )

-- ---- the grounds as a run begins are those of a document that is there

pub as-found : (p : SecurityPolicy) (s : ℕ) (access : Access) → IsTrue (is_present p access.doc) → first_grounds p s access ≡ grounds_of p s lowest access
as-found p s access there = ap (λ b. record (grounds_of p s lowest access) { present = b }) (sym there)

pub now-said : (p : SecurityPolicy) (s : ℕ) (access : Access) → IsTrue (is_present p access.doc)
    → is_permitted_now (permission_on (first_grounds p s access) access.mode) ≡ is_granted_on (grounds_of p s lowest access) access.mode
now-said p s access there =
    permitted-is-granted (first_grounds p s access) access.mode ∙ ap (λ g. is_granted_on g access.mode) (as-found p s access there)

-- what is not in the matrix, and that alone, is said to be no right
no-right : (a x y : Bool) (m : Mode) (range : Option LevelRange) → said a x y (levels_where m range) ≡ NoRight → a ≡ false
no-right false x y m range h = refl
no-right true true y m range h = absurd (cc)
no-right true false true m range h = absurd (cc)
no-right true false false m None h = absurd (cc)
no-right true false false Read (Some range) h = absurd (cc)
no-right true false false Append (Some range) h = absurd (cc)
no-right true false false Write (Some range) h = absurd (cc)

pub right-said : (g : Grounds) (m : Mode) → (permission_on g m ≡ NoRight) ↔ (g.allowed ≡ false)
right-said g m = (
  (λ h. no-right g.allowed (is_exempt g m) (is_granted_on g m) m (range_on g m) h),
  (λ h. said-nothing g.allowed (is_exempt g m) (is_granted_on g m) (levels_where m (range_on g m)) h),
)

-- ---- what is never permitted

needs-simple : (a b c d e : Bool) → (a && (b && (c && (d && e)))) ≡ true → b ≡ true
needs-simple false b c d e h = absurd (true≢false (sym h))
needs-simple true false c d e h = absurd (true≢false (sym h))
needs-simple true true c d e h = refl

granted-simple : (g : Grounds) (m : Mode) → is_granted_on g m ≡ true → observes g.greatest g.level m ≡ true
granted-simple g m h =
    needs-simple g.present (observes g.greatest g.level m) (g.trusted || flows g.current g.level m) g.allowed (g.trusted || may_carry g.carried g.level m)
    (sym (all-hold g.present (observes g.greatest g.level m) (g.trusted || flows g.current g.level m) g.allowed (g.trusted || may_carry g.carried g.level m)) ∙ h)

abbrev pub DominanceMeant : Type 0
DominanceMeant = (a b : SecurityLevel) → IsTrue (dominates a b) ↔ Dominates a b

or-second : (t b : Bool) → b ≡ true → (t || b) ≡ true
or-second true b h = refl
or-second false b h = h

-- who carries nothing may carry it anywhere
carries-nothing : DominanceMeant → (trusted : Bool) (level : SecurityLevel) (m : Mode) → (trusted || may_carry lowest level m) ≡ true
carries-nothing means trusted level Read = or-second trusted true refl
carries-nothing means trusted level Append = or-second trusted (dominates level lowest) ((means level lowest).1 (above-lowest level))
carries-nothing means trusted level Write = or-second trusted (dominates level lowest) ((means level lowest).1 (above-lowest level))

-- the range of a document that is there
abbrev range_where : Bool → Bool → Bool → LevelRange → Option LevelRange
range_where simple allowed carry range = if true && (simple && (allowed && carry)) then Some range else None

forbids : (a x y simple carry : Bool) (m : Mode) (range : LevelRange) → carry ≡ true → said a x y (levels_where m (range_where simple a carry range)) ≡ Never
    → (a ≡ true) × (simple ≡ false)
forbids a x y simple false m range e h = absurd (true≢false (sym e))
forbids false x y simple true m range e h = absurd (cc)
forbids true true y simple true m range e h = absurd (cc)
forbids true false true simple true m range e h = absurd (cc)
forbids true false false false true m range e h = (refl, refl)
forbids true false false true true Read range e h = absurd (cc)
forbids true false false true true Append range e h = absurd (cc)
forbids true false false true true Write range e h = absurd (cc)

forbidden : (a x y simple carry : Bool) (m : Mode) (range : LevelRange) → a ≡ true → simple ≡ false → (y ≡ true → simple ≡ true) → (x ≡ true → y ≡ true)
    → said a x y (levels_where m (range_where simple a carry range)) ≡ Never
forbidden false x y simple carry m range has fails needs gives = absurd (true≢false (sym has))
forbidden true x y true carry m range has fails needs gives = absurd (true≢false fails)
forbidden true x true false carry m range has fails needs gives = absurd (true≢false (sym (needs refl)))
forbidden true true false false carry m range has fails needs gives = absurd (true≢false (sym (gives refl)))
forbidden true false false false carry m range has fails needs gives = refl

pub never-said : DominanceMeant → (p : SecurityPolicy) (s : ℕ) (access : Access)
    → (permission_on (first_grounds p s access) access.mode ≡ Never) ↔ ((allows p s access.doc access.mode ≡ true) × (is_simple p s access.doc access.mode ≡ false))
never-said means p s access =
    let g = first_grounds p s access in
    let m = access.mode in
    let simple = observes g.greatest g.level m in
    let carry = g.trusted || may_carry g.carried g.level m in (
      (λ h. forbids g.allowed (is_exempt g m) (is_granted_on g m) simple carry m (levels_on g m) (carries-nothing means g.trusted g.level m) h),
      (λ h. forbidden g.allowed (is_exempt g m) (is_granted_on g m) simple carry m (levels_on g m) h.0 h.1 (granted-simple g m) (exempt-granted g m)),
    )
