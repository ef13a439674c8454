-- For whom a place speaks is in the policy, and what it carries has a name.
use Rattle.std.proofs.Common.{◌≡◌, ◌<◌, ◌⊎◌, ◌∷◌, ◌∙◌, ◌+◌, ℕ, zero, suc, List, [], ap, arith, get_or, inl, inr, length, refl, subst, sym}
use Rattle.std.specs.Prelude.{Some}
use Rattle.std.specs.List.{AllByRecursion}
use Rattle.bl_level.specs.Level.{HasCategory, SecurityLevel, join_of}
use Rattle.bl_level.proofs.Masks.{or-member}
use Rattle.bl_level.specs.Scheme.{HoldsLevel, IsScheme, SchemeNames}
use Rattle.bl_policy.specs.Policy.{lowest, nobody}
use Rattle.bl_setup.specs.Setup.{Setup}
use Rattle.bl_setup.specs.declared.version.Version.{Version}
use Rattle.bl_setup.specs.declared.version.Version.TheVariants.{One, Two}
use Rattle.bl_order.specs.Headline.{Holds, IsReached}
use Rattle.bl_order.specs.Machine.{Event, Opens, Admits, Starts, Ends, Loses, IsTrail, Needs, Session, State, change, child_entries, is_lost, no_session, past_at, session_at, start, state_after}
use Rattle.bl_work.specs.declared.work.Work.{Work}
use Rattle.bl_order.specs.Order.{Child, Entry, Line}
use Rattle.bl_order.specs.Past.{Past, carried_of, earlier, no_entry, policy_of, subject_of}
use Rattle.bl_order.proofs.Places.{at_place-earlier}
use Rattle.bl_state.specs.Whole.{IsCleared}
use Rattle.bl_state.proofs.Kept.{EntryFits, IsPolicyFor, TaskFits, all-get, all-set, earlier-fits, policy-fits}
use Rattle.bl_state.proofs.Standing.{asked-fits}
use Rattle.bl_trail.proofs.Following.{all-append}
use Rattle.bl_explaining.proofs.Held.{lowest-held}
use Rattle.bl_explaining_trail.proofs.Fitting.{FittingLaws}
use Rattle.bl_ruled.proofs.Starting.{within}

-- the subject of a line is below this number
abbrev EntrySpeaks : ℕ → Entry → Type 0
EntrySpeaks k (Line session ordinal subject asked) = subject < k
EntrySpeaks k (Child parent which) = Unit {0}

abbrev SessionSpeaks : ℕ → Session → Type 0
SessionSpeaks k s = s.subject < k

abbrev Speaks : ℕ → State → Type 0
Speaks k x = AllByRecursion (SessionSpeaks k) x.sessions × AllByRecursion (EntrySpeaks k) x.order

children-speak : (k parent which : ℕ) (behaviours : List ℕ) → AllByRecursion (EntrySpeaks k) (child_entries parent which behaviours)
children-speak k parent which [] = tt
children-speak k parent which (behaviour ∷ behaviours) = (tt, children-speak k parent (which + 1) behaviours)

speak-next : (x : State) (e : Event) → Needs x e → Speaks (length x.setup.policy.subjects) x → Speaks (length x.setup.policy.subjects) (change x e)
speak-next x (Opens s) needs speaks =
    let k = length x.setup.policy.subjects in
    (all-append (SessionSpeaks k) x.sessions (record { subject = s; last = 0 } ∷ []) speaks.0 (needs.0, tt), speaks.1)
speak-next x (Admits i o w) needs speaks =
    let k = length x.setup.policy.subjects in
    let own : (session_at x i).subject < k = all-get (SessionSpeaks k) x.sessions i no_session speaks.0 needs.0 in (
      all-set (SessionSpeaks k) x.sessions i (record (session_at x i) { last = o }) speaks.0 (λ lt. own),
      all-append (EntrySpeaks k) x.order (Line i o (session_at x i).subject w ∷ []) speaks.1 (own, tt),
    )
speak-next x (Starts n) needs speaks = speaks
speak-next x (Ends n) needs speaks =
    let k = length x.setup.policy.subjects in
    (speaks.0, all-append (EntrySpeaks k) x.order (child_entries n 1 _) speaks.1 (children-speak k n 1 _))
speak-next x (Loses n) needs speaks = speaks

setup-next : (x : State) (e : Event) → (change x e).setup ≡ x.setup
setup-next x (Opens s) = refl
setup-next x (Admits i o w) = refl
setup-next x (Starts n) = refl
setup-next x (Ends n) = refl
setup-next x (Loses n) = refl

speak-end : (x : State) (events : List Event) → IsTrail x events → Speaks (length x.setup.policy.subjects) x
    → Speaks (length (state_after x events).setup.policy.subjects) (state_after x events)
speak-end x [] steps speaks = speaks
speak-end x (e ∷ events) steps speaks =
    speak-end (change x e) events steps.1
    (subst (λ (s : Setup). Speaks (length s.policy.subjects) (change x e)) (sym (setup-next x e)) (speak-next x e steps.0 speaks))

speaks-there : (x : State) → IsReached x → Speaks (length x.setup.policy.subjects) x
speaks-there x reached =
    subst (λ (y : State). Speaks (length y.setup.policy.subjects) y) (sym reached.leads)
    (speak-end (start reached.setup reached.limit) reached.events reached.trail (tt, tt))

join-held : (scheme : SchemeNames) (a b : SecurityLevel) → HoldsLevel scheme a → HoldsLevel scheme b → HoldsLevel scheme (join_of a b)
join-held scheme a b one other = record {
  rank = omega (arith, one.rank, other.rank);
  categories = λ k has. go k ((or-member a.categories b.categories k).0 has);
}
  where
    go : (k : ℕ) → HasCategory a k ⊎ HasCategory b k → k < length scheme.categories
    go k (inl has) = one.categories k has
    go k (inr has) = other.categories k has

line-carries : (v : Version) (past : List Past) (session ordinal subject : ℕ) (asked : Work)
    → carried_of v past (Line session ordinal subject asked) ≡ lowest
line-carries One past session ordinal subject asked = refl
line-carries Two past session ordinal subject asked = refl

-- for whom a place speaks is in the policy, whatever its levels are
module _ (x : State) (reached : IsReached x) (holds : Holds x) where
  abbrev before : ℕ → List Past
  before n = earlier x.setup (is_lost x) x.order n

  abbrev Speaker : ℕ → Type 0
  Speaker n = (past_at x n).subject < length x.setup.policy.subjects

  speaker-by : (n : ℕ) → n < length x.order → (e : Entry) → get_or x.order n no_entry ≡ e → EntrySpeaks (length x.setup.policy.subjects) e
      → ((p : ℕ) → p < n → Speaker p) → Speaker n
  speaker-by n lt (Line session ordinal subject asked) same speaks below =
      subst (λ (e : Entry). subject_of (before n) e < length x.setup.policy.subjects) (sym same) speaks
  speaker-by n lt (Child p w) same speaks below =
      let behind : p < n = (holds.legal.placed n p w (within x.order n lt ∙ ap Some same)).behind in
      subst (λ (e : Entry). subject_of (before n) e < length x.setup.policy.subjects) (sym same)
      (subst (λ (q : Past). q.subject < length x.setup.policy.subjects) (sym (at_place-earlier x.setup (is_lost x) x.order n p behind)) (below p behind))

  speaker-below : (bound n : ℕ) → n < bound → n < length x.order → Speaker n
  speaker-below zero n lt there = absurd (omega (arith, lt))
  speaker-below (suc bound) n lt there =
      speaker-by n there (get_or x.order n no_entry) refl
      (all-get (EntrySpeaks (length x.setup.policy.subjects)) x.order n no_entry (speaks-there x reached).1 there)
      (λ p less. speaker-below bound p (omega (arith, less, lt)) (omega (arith, less, there)))

  pub speaker-known : (n : ℕ) → n < length x.order → Speaker n
  speaker-known n there = speaker-below (suc n) n (omega arith) there

-- of a run over a setup whose names and policy are these
module _ (laws : FittingLaws) (x : State) (reached : IsReached x) (holds : Holds x) (first : IsPolicyFor x.setup.names x.setup.policy)
    (is : IsScheme x.setup.names.scheme) where
  abbrev past : ℕ → List Past
  past n = earlier x.setup (is_lost x) x.order n

  fits : (k : ℕ) → EntryFits x.setup.names (get_or x.order k no_entry)
  fits = asked-fits x.setup.names (laws.known x.setup.names) x.order (laws.asked x reached)

  -- what a place does names what is known
  pub task-fits : (n : ℕ) → TaskFits x.setup.names (past_at x n).task
  task-fits n = (earlier-fits x.setup.names x.setup (is_lost x) x.order fits (suc n)).0

  policy-there : (n : ℕ) → IsPolicyFor x.setup.names (policy_of x.setup (past n))
  policy-there n = policy-fits laws.rules x.setup.names x.setup (past n) (earlier-fits x.setup.names x.setup (is_lost x) x.order fits n) first

  abbrev Carries : ℕ → Type 0
  Carries n = HoldsLevel x.setup.names.scheme (past_at x n).carried

  -- the level at which a place runs
  level-held : (n : ℕ) → n < length x.order → HoldsLevel x.setup.names.scheme (past_at x n).level
  level-held n there =
      let fit = policy-there n in
      let known = speaker-known x reached holds n there in
      (all-get (IsCleared x.setup.names.scheme) (policy_of x.setup (past n)).subjects (past_at x n).subject nobody fit.cleared
      (omega (arith, known, first.subjects, fit.subjects))).current

  by-version : (v : Version) (n p w : ℕ) → p < n → n < length x.order → Carries p → HoldsLevel x.setup.names.scheme (carried_of v (past n) (Child p w))
  by-version One n p w behind there carries = lowest-held x.setup.names.scheme is
  by-version Two n p w behind there carries =
      subst (λ (q : Past). HoldsLevel x.setup.names.scheme (join_of q.level q.carried)) (sym (at_place-earlier x.setup (is_lost x) x.order n p behind))
      (join-held x.setup.names.scheme (past_at x p).level (past_at x p).carried (level-held p (omega (arith, behind, there))) carries)

  by-entry : (n : ℕ) → n < length x.order → (e : Entry) → get_or x.order n no_entry ≡ e → ((p : ℕ) → p < n → Carries p) → Carries n
  by-entry n there (Line session ordinal subject asked) same below =
      subst (λ (e : Entry). HoldsLevel x.setup.names.scheme (carried_of x.setup.version (past n) e)) (sym same)
      (subst (HoldsLevel x.setup.names.scheme) (sym (line-carries x.setup.version (past n) session ordinal subject asked)) (lowest-held x.setup.names.scheme is))
  by-entry n there (Child p w) same below =
      let behind : p < n = (holds.legal.placed n p w (within x.order n there ∙ ap Some same)).behind in
      subst (λ (e : Entry). HoldsLevel x.setup.names.scheme (carried_of x.setup.version (past n) e)) (sym same)
      (by-version x.setup.version n p w behind there (below p behind))

  carries-below : (bound n : ℕ) → n < bound → n < length x.order → Carries n
  carries-below zero n lt there = absurd (omega (arith, lt))
  carries-below (suc bound) n lt there =
      by-entry n there (get_or x.order n no_entry) refl (λ p less. carries-below bound p (omega (arith, less, lt)) (omega (arith, less, there)))

  pub carried-known : (n : ℕ) → n < length x.order → Carries n
  carried-known n there = carries-below (suc n) n (omega arith) there
