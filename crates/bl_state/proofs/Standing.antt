-- The setup that stands where all has ended is one that a file can declare.
use Rattle.std.proofs.Common.{◌≡◌, ◌⊎◌, inl, inr, ℕ, zero, suc, ◌<◌, ◌≤◌, Bool, true, false, cond, ◌&&◌, ◌||◌, List, [], ◌∷◌, length, get_or, refl, sym, ◌∙◌, ap, subst, arith, true≢false}
use Rattle.std.specs.Prelude.{All, ◌==◌}
use Rattle.std.specs.List.{AllByRecursion}
use Rattle.std.proofs.lemmas.Bool.Decides.{nat_tests}
use Rattle.bl_document.specs.Content.{IsContent}
use Rattle.bl_policy.specs.Properties.{IsPresent}
use Rattle.bl_policy.specs.RuleEffect.{HasIdsBelow}
use Rattle.bl_policy.specs.declared.access.Access.{Access}
use Rattle.bl_policy.specs.declared.rule.Rule.{Rule}
use Rattle.bl_policy.specs.declared.rule.Rule.TheVariants.{Give, Rescind, Current, Classify, Create, Delete}
use Rattle.bl_work.specs.Effects.{after}
use Rattle.bl_work.specs.KnownLine.{IsKnownLine}
use Rattle.bl_work.specs.Laws.{StaysContent}
use Rattle.bl_work.specs.LineGrammar.{LineOf}
use Rattle.bl_work.specs.Modes.{alters}
use Rattle.bl_work.specs.Names.{KnownNames}
use Rattle.bl_work.specs.Script.{HasContents}
use Rattle.bl_work.specs.Statements.{Part, Statements, no_part}
use Rattle.bl_work.specs.declared.answer.Answer.{Answer}
use Rattle.bl_work.specs.declared.answer.Answer.TheVariants.{Done, RuleDone, Denied, Lost}
use Rattle.bl_work.specs.declared.asked.Line.{Line as AskedLine}
use Rattle.bl_setup.specs.Agreement.{Agree}
use Rattle.bl_setup.specs.Setup.{Setup, by_version}
use Rattle.bl_setup.specs.declared.version.Version.TheVariants.{Two}
use Rattle.bl_order.specs.Headline.{IsReached}
use Rattle.bl_order.specs.Known.{IsAsked}
use Rattle.bl_order.specs.Machine.{State, has_ended, is_lost, past_at}
use Rattle.bl_order.specs.Now.{content_now, ended_before, policy_now}
use Rattle.bl_order.specs.Order.{Entry, Task, Runs, Applies, accesses_of, body_of, is_altered, is_declared}
use Rattle.bl_order.specs.Past.{content_of, deeds, deletes, earlier, is_done, leaves, left_by, lent, may_alter, no_entry, place, policy_of}
use Rattle.bl_order.specs.Room.{IsBehaviourOrRule}
use Rattle.bl_order.proofs.Conflicts.{altered_is_declared}
use Rattle.bl_order.proofs.PlaceLaws.{answered}
use Rattle.bl_order.specs.Standing.{HaveAllEnded, setup_after, setup_now, tabled}
use Rattle.bl_state.specs.Orders.{IsEmptyBeyond}
use Rattle.bl_state.specs.Whole.{IsWhole}
use Rattle.bl_state.proofs.Alike.{tabled-at, tabled-beyond, tabled-length}
use Rattle.bl_state.proofs.Kept.{EntryFits, IsPolicyFor, RuleLaws, TaskFits, all-get, earlier-fits, ended-fits, entry-fits, policy-fits}

below_or_not : (a b : ℕ) → (a < b) ⊎ (b ≤ a)
below_or_not a b = grind arith

same_number : (a b : ℕ) → (a == b) ≡ true → a ≡ b
same_number a b h = grind (arith, nat_tests)

get-beyond : {A : Type 0} (xs : List A) (i : ℕ) (d : A) → length xs ≤ i → get_or xs i d ≡ d
get-beyond [] i d le = refl
get-beyond (x ∷ xs) zero d le = absurd (omega (arith, le))
get-beyond (x ∷ xs) (suc i) d le = get-beyond xs i d (omega (arith, le))

-- where all has ended, the ended places are all
all-ended : (s : Setup) (l : ℕ → Bool) (order : List Entry) (ended : ℕ → Bool) (n : ℕ) → ((k : ℕ) → k < n → ended k ≡ true)
    → ended_before s l order ended n ≡ earlier s l order n
all-ended s l order ended zero all = refl
all-ended s l order ended (suc n) all =
    ap (λ b. cond b (place s l order n ∷ ended_before s l order ended n) (ended_before s l order ended n)) (all n (omega arith))
    ∙ ap (λ h. place s l order n ∷ h) (all-ended s l order ended n (λ k lt. all k (omega (arith, lt))))

now-earlier : (x : State) → HaveAllEnded x
    → ended_before x.setup (is_lost x) x.order (has_ended x) (length x.order) ≡ earlier x.setup (is_lost x) x.order (length x.order)
now-earlier x all = all-ended x.setup (is_lost x) x.order (has_ended x) (length x.order) all

pub now-after : (x : State) → HaveAllEnded x → setup_now x ≡ setup_after x.setup (is_lost x) x.order
now-after x all = λ i. record {
  names = x.setup.names;
  policy = policy_of x.setup (now-earlier x all i);
  contents = tabled 0 (length x.setup.contents) (content_of x.setup (now-earlier x all i));
  version = x.setup.version;
}

-- ---- entries

pub asked-fits : (names : KnownNames) (known : (bytes : List ℕ) (l : AskedLine) → LineOf names bytes l → IsKnownLine names l) (order : List Entry)
    → All (IsAsked names) order → (k : ℕ) → EntryFits names (get_or order k no_entry)
asked-fits names known order all k = go (below_or_not k (length order))
  where
    go : (k < length order) ⊎ (length order ≤ k) → EntryFits names (get_or order k no_entry)
    go (inl lt) = entry-fits names known (get_or order k no_entry) (all k no_entry lt)
    go (inr le) = subst (EntryFits names) (sym (get-beyond order k no_entry le)) tt

-- ---- what is altered is known

module _ (names : KnownNames) where
  altered-known : (accesses : List Access) (doc : ℕ) → All (λ (a : Access). a.doc < length names.documents) accesses
      → is_altered accesses doc ≡ true → doc < length names.documents
  altered-known [] doc all h = absurd (true≢false (sym h))
  altered-known (a ∷ rest) doc all h = go (a.doc == doc) refl h (altered-known rest doc (λ i d lt. all (suc i) d (omega (arith, lt))))
    where
      go : (b : Bool) → (a.doc == doc) ≡ b → ((b && alters a.mode) || is_altered rest doc) ≡ true
          → (is_altered rest doc ≡ true → doc < length names.documents) → doc < length names.documents
      go true e k deeper = subst (λ j. j < length names.documents) (same_number a.doc doc e) (all zero a (omega arith))
      go false e k deeper = deeper k

  deleted-known : (r : Rule) (doc : ℕ) → HasIdsBelow (length names.subjects) (length names.documents) r → deletes r doc ≡ true → doc < length names.documents
  deleted-known (Give t o m) doc ids h = absurd (true≢false (sym h))
  deleted-known (Rescind t o m) doc ids h = absurd (true≢false (sym h))
  deleted-known (Current level) doc ids h = absurd (true≢false (sym h))
  deleted-known (Classify o level) doc ids h = absurd (true≢false (sym h))
  deleted-known (Create o) doc ids h = absurd (true≢false (sym h))
  deleted-known (Delete o) doc ids h = subst (λ j. j < length names.documents) (same_number o doc h) ids

  pub alters-known : (t : Task) (doc : ℕ) → TaskFits names t → may_alter t doc ≡ true → doc < length names.documents
  alters-known (Runs script index) doc fits h = go (below_or_not index (length script))
    where
      go : (index < length script) ⊎ (length script ≤ index) → doc < length names.documents
      go (inl lt) = altered-known (get_or script index no_part).accesses doc (fits index no_part lt) h
      go (inr le) = absurd (true≢false (sym h ∙ ap (λ (p : Part). is_altered p.accesses doc) (get-beyond script index no_part le)))
  alters-known (Applies r) doc fits h = deleted-known r doc fits.1 h

-- ---- contents

no-content : IsContent []
no-content = record { short = omega arith; plain = refl }

module _ (stays : (contents : ℕ → List ℕ) (body : Statements) → ((doc : ℕ) → IsContent (contents doc)) → HasContents body → StaysContent contents body)
    (setup : Setup) (lost : ℕ → Bool) (order : List Entry) (first : (doc : ℕ) → IsContent (get_or setup.contents doc []))
    (tasks : (n : ℕ) → n < length order → IsBehaviourOrRule (place setup lost order n).task) where
  lent-content : (accesses : List Access) (f : ℕ → List ℕ) → ((doc : ℕ) → IsContent (f doc)) → (doc : ℕ) → IsContent (lent accesses f doc)
  lent-content accesses f all doc = go (is_declared accesses doc)
    where
      go : (b : Bool) → IsContent (cond b (f doc) [])
      go true = all doc
      go false = no-content

  texts-of : (t : Task) → IsBehaviourOrRule t → HasContents (body_of t)
  texts-of (Runs script index) h = (h.0.each index no_part h.1).texts
  texts-of (Applies r) h = tt

  done-content : (t : Task) (f : ℕ → List ℕ) (doc : ℕ) → IsBehaviourOrRule t → ((d : ℕ) → IsContent (f d)) → may_alter t doc ≡ true
      → IsContent (after (f doc) (deeds t f) doc)
  done-content (Runs script index) f doc is all h =
      let accesses : List Access = accesses_of (Runs script index) in
      let seen : lent accesses f doc ≡ f doc = ap (λ b. cond b (f doc) []) (altered_is_declared accesses doc h) in
      subst (λ c. IsContent (after c (deeds (Runs script index) f) doc)) seen
      ((stays (lent accesses f) (body_of (Runs script index)) (lent-content accesses f all) (texts-of (Runs script index) is)).left doc)
  done-content (Applies r) f doc is all h = all doc

  left-content : (n : ℕ) → n < length order → ((d : ℕ) → IsContent (content_of setup (earlier setup lost order n) d)) → (doc : ℕ)
      → IsContent (leaves (place setup lost order n) doc (content_of setup (earlier setup lost order n) doc))
  left-content n lt all doc = go (may_alter (place setup lost order n).task doc) refl
    where
      f : ℕ → List ℕ
      f = content_of setup (earlier setup lost order n)

      by : may_alter (place setup lost order n).task doc ≡ true → (a : Answer) → (place setup lost order n).answer ≡ a
          → IsContent (left_by a (place setup lost order n).effects doc (f doc))
      by h (Done shown) is =
          subst (λ e. IsContent (after (f doc) e doc)) (sym ((answered setup lost order n).deeds_done (ap is_done is)))
          (done-content (place setup lost order n).task f doc (tasks n lt) all h)
      by h RuleDone is = no-content
      by h (Denied denial) is = all doc
      by h Lost is = all doc

      go : (b : Bool) → may_alter (place setup lost order n).task doc ≡ b
          → IsContent (cond b (left_by (place setup lost order n).answer (place setup lost order n).effects doc (f doc)) (f doc))
      go true h = by h (place setup lost order n).answer refl
      go false h = all doc

  pub contents-at : (n : ℕ) → n ≤ length order → (doc : ℕ) → IsContent (content_of setup (earlier setup lost order n) doc)
  contents-at zero le = first
  contents-at (suc n) le = left-content n (omega (arith, le)) (contents-at n (omega (arith, le)))

-- of a document that is not known nothing is changed
module _ (setup : Setup) (lost : ℕ → Bool) (order : List Entry) (fits : (k : ℕ) → EntryFits setup.names (get_or order k no_entry))
    (as_many : length setup.names.documents ≡ length setup.contents) where
  beyond-at : (doc : ℕ) → length setup.contents ≤ doc → (n : ℕ) → content_of setup (earlier setup lost order n) doc ≡ []
  beyond-at doc le zero = get-beyond setup.contents doc [] le
  beyond-at doc le (suc n) = go (may_alter (place setup lost order n).task doc) refl (beyond-at doc le n)
    where
      c : List ℕ
      c = content_of setup (earlier setup lost order n) doc

      go : (b : Bool) → may_alter (place setup lost order n).task doc ≡ b
          → c ≡ [] → cond b (left_by (place setup lost order n).answer (place setup lost order n).effects doc c) c ≡ []
      go true h deeper = absurd (omega (arith, le, as_many, alters-known setup.names (place setup lost order n).task doc (earlier-fits setup.names setup lost order fits (suc n)).0 h))
      go false h deeper = deeper

  pub empty-beyond : IsEmptyBeyond setup lost order
  empty-beyond doc le = beyond-at doc le (length order)

-- ---- the whole

tabled-all : {A : Type 0} (P : A → Type 0) (k n : ℕ) (f : ℕ → A) → ((i : ℕ) → P (f i)) → AllByRecursion P (tabled k n f)
tabled-all P k zero f all = tt
tabled-all P k (suc n) f all = (all k, tabled-all P (suc k) n f all)

get-all : (xs : List (List ℕ)) (i : ℕ) → AllByRecursion IsContent xs → IsContent (get_or xs i [])
get-all xs i all = go (below_or_not i (length xs))
  where
    go : (i < length xs) ⊎ (length xs ≤ i) → IsContent (get_or xs i [])
    go (inl lt) = all-get IsContent xs i [] all lt
    go (inr le) = subst IsContent (sym (get-beyond xs i [] le)) no-content

pub record StateLaws : Type 1 where
  pub rules : RuleLaws
  pub known : (names : KnownNames) (bytes : List ℕ) (l : AskedLine) → LineOf names bytes l → IsKnownLine names l
  pub stays : (contents : ℕ → List ℕ) (body : Statements) → ((doc : ℕ) → IsContent (contents doc)) → HasContents body → StaysContent contents body
  pub asked : (x : State) → IsReached x → All (IsAsked x.setup.names) x.order
  pub tasks : (x : State) (n : ℕ) → IsReached x → n < length x.order → IsBehaviourOrRule (past_at x n).task
  pub absent : (x : State) (doc : ℕ) → IsReached x → Agree x.setup → ¬ IsPresent (policy_now x) doc → content_now x doc ≡ []

-- by whatever version the run was judged
module _ (laws : StateLaws) (x : State) (reached : IsReached x) (all : HaveAllEnded x) (whole : IsWhole (by_version Two x.setup)) where
  agree : Agree x.setup
  agree = record {
    subjects = whole.agree.subjects;
    documents = whole.agree.documents;
    presence = whole.agree.presence;
    contents = whole.agree.contents;
    absent = whole.agree.absent;
  }

  fits : (k : ℕ) → EntryFits x.setup.names (get_or x.order k no_entry)
  fits = asked-fits x.setup.names (laws.known x.setup.names) x.order (laws.asked x reached)

  policy-is : IsPolicyFor x.setup.names (policy_now x)
  policy-is =
      policy-fits laws.rules x.setup.names x.setup (ended_before x.setup (is_lost x) x.order (has_ended x) (length x.order))
      (ended-fits x.setup.names x.setup (is_lost x) x.order fits (has_ended x) (length x.order)) (record {
        subjects = whole.agree.subjects;
        documents = whole.agree.documents;
        presence = whole.agree.presence;
        cleared = whole.cleared;
        held = whole.held;
        cells = whole.cells;
      })

  content-is : (doc : ℕ) → IsContent (content_now x doc)
  content-is doc =
      subst (λ h. IsContent (content_of x.setup h doc)) (sym (now-earlier x all))
      (contents-at laws.stays x.setup (is_lost x) x.order (λ d. get-all x.setup.contents d whole.contents) (λ n lt. laws.tasks x n reached lt)
      (length x.order) (omega arith) doc)

  absent-is : (o : ℕ) → ¬ IsPresent (policy_now x) o → get_or (tabled 0 (length x.setup.contents) (content_now x)) o [] ≡ []
  absent-is o none = go (below_or_not o (length x.setup.contents))
    where
      go : (o < length x.setup.contents) ⊎ (length x.setup.contents ≤ o) → get_or (tabled 0 (length x.setup.contents) (content_now x)) o [] ≡ []
      go (inl lt) = tabled-at (length x.setup.contents) (content_now x) o [] lt ∙ laws.absent x o reached agree none
      go (inr le) = tabled-beyond 0 (length x.setup.contents) (content_now x) o [] le

  pub whole-by : IsWhole (by_version Two (setup_now x))
  whole-by = record {
    names = whole.names;
    agree = record {
      subjects = policy-is.subjects;
      documents = policy-is.documents;
      presence = policy-is.presence;
      contents = whole.agree.contents ∙ sym (tabled-length 0 (length x.setup.contents) (content_now x));
      absent = absent-is;
    };
    cleared = policy-is.cleared;
    held = policy-is.held;
    contents = tabled-all IsContent 0 (length x.setup.contents) (content_now x) content-is;
    two = refl;
    cells = policy-is.cells;
  }

  nothing-by : IsEmptyBeyond x.setup (is_lost x) x.order
  nothing-by = empty-beyond x.setup (is_lost x) x.order fits whole.agree.contents

-- a whole setup is of version 2
as-two : (setup : Setup) → IsWhole setup → IsWhole (by_version Two setup)
as-two setup whole = subst (λ v. IsWhole (by_version v setup)) whole.two whole

module _ (laws : StateLaws) (x : State) (reached : IsReached x) (all : HaveAllEnded x) (whole : IsWhole x.setup) where
  pub whole-now : IsWhole (setup_now x)
  whole-now = subst (λ v. IsWhole (by_version v (setup_now x))) (sym whole.two) (whole-by laws x reached all (as-two x.setup whole))

  pub nothing-beyond : IsEmptyBeyond x.setup (is_lost x) x.order
  nothing-beyond = nothing-by laws x reached all (as-two x.setup whole)
