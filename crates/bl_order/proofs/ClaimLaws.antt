-- The claims of a task by number.
use Rattle.std.proofs.Common.{◌≡◌, ◌≢◌, ℕ, zero, suc, ◌<◌, ◌+◌, Bool, true, false, ◌&&◌, ◌||◌, not, List, [], ◌∷◌, length, map, refl, sym, ap, ◌∙◌, arith, get_or}
use Rattle.std.specs.Prelude.{◌==◌, All}
use Rattle.std.specs.List.{list_any}
use Rattle.std.proofs.lemmas.Bool.Decides.{nat_tests}
use Rattle.std.proofs.lemmas.List.{length-map}
use Rattle.std.proofs.lemmas.List.Elements.{All-cons, All-get_or}
use Rattle.std.proofs.lemmas.List.Kept.{AllPairs-cons}
use Rattle.bl_policy.specs.declared.access.Access.{Access}
use Rattle.bl_policy.specs.declared.access.Mode.TheVariants.{Read}
use Rattle.bl_work.specs.Modes.{alters}
use Rattle.bl_work.specs.Script.{IsBehaviour}
use Rattle.bl_work.specs.Statements.{Part, no_part}
use Rattle.bl_order.specs.Order.{Cown, OfPolicy, OfDocument, Claim, Task, Runs, Applies, same_cown, excludes, conflict, claims_of, document_claims, accesses_of}
use Rattle.bl_order.specs.Claims.{cown_number, NumberedClaim, numbered, numbered_claims, numbers_exclude, numbers_conflict, AreFewAndApart}
use Rattle.bl_order.specs.Room.{IsBehaviourOrRule}

-- ---- conflicts

same-number : (a b : Cown) → (cown_number a == cown_number b) ≡ same_cown a b
same-number OfPolicy OfPolicy = refl
same-number OfPolicy (OfDocument doc) = grind (arith, nat_tests)
same-number (OfDocument doc) OfPolicy = grind (arith, nat_tests)
same-number (OfDocument doc) (OfDocument other) = grind (arith, nat_tests)

not_both : (a b : Bool) → not (not a && not b) ≡ (a || b)
not_both true b = refl
not_both false true = refl
not_both false false = refl

exclude-numbered : (a b : Claim) → numbers_exclude (numbered a) (numbered b) ≡ excludes a b
exclude-numbered a b =
    ap (λ t. t && not (not a.exclusive && not b.exclusive)) (same-number a.cown b.cown)
    ∙ ap (λ t. same_cown a.cown b.cown && t) (not_both a.exclusive b.exclusive)

any-along : {X Y : Type 0} (f : X → Y) (test : Y → Bool) (tried : X → Bool) (xs : List X) → ((x : X) → test (f x) ≡ tried x) → list_any test (map f xs) ≡ list_any tried xs
any-along f test tried [] same = refl
any-along f test tried (x ∷ xs) same =
    ap (λ t. t || list_any test (map f xs)) (same x) ∙ ap (λ t. tried x || t) (any-along f test tried xs same)

pub conflict-numbered : (earlier later : Task) → conflict earlier later ≡ numbers_conflict (numbered_claims earlier) (numbered_claims later)
conflict-numbered earlier later =
    sym (any-along numbered (λ a. list_any (λ b. numbers_exclude a b) (numbered_claims later)) (λ a. list_any (λ b. excludes a b) (claims_of later)) (claims_of earlier)
    (λ a. any-along numbered (λ b. numbers_exclude (numbered a) b) (λ b. excludes a b) (claims_of later) (λ b. exclude-numbered a b)))

-- ---- how many, and of which cowns

-- the claim of a document, by number
abbrev document_claim : Access → Claim
document_claim access = record { cown = OfDocument access.doc; exclusive = alters access.mode }

some_access : Access
some_access = record { doc = 0; mode = Read }

cown-at : (accesses : List Access) (i : ℕ) (d : NumberedClaim) (e : Access) → i < length accesses
    → (get_or (map numbered (document_claims accesses)) i d).cown ≡ (get_or accesses i e).doc + 1
cown-at [] i d e lt = absurd (omega arith)
cown-at (access ∷ accesses) zero d e lt = refl
cown-at (access ∷ accesses) (suc i) d e lt = cown-at accesses i d e (omega arith)

length-numbered : (accesses : List Access) → length (map numbered (document_claims accesses)) ≡ length accesses
length-numbered accesses = length-map (document_claims accesses) numbered ∙ length-map accesses document_claim

-- the claims of a behaviour are the policy's and those of its documents
abbrev policy_claim : NumberedClaim
policy_claim = numbered (record { cown = OfPolicy; exclusive = false })

few-behaviour : (part : Part) → IsBehaviour part → AreFewAndApart (policy_claim ∷ map numbered (document_claims part.accesses))
few-behaviour part is = record {
  few = omega (arith, length-numbered part.accesses, is.few);
  apart = AllPairs-cons (λ (a b : NumberedClaim). a.cown ≢ b.cown) policy_claim (map numbered (document_claims part.accesses))
      (λ i d lt same. let at = cown-at part.accesses i d some_access (within i lt) in omega (arith, same, at))
      (λ i j d lt inside same.
      let one = cown-at part.accesses i d some_access (omega (arith, lt, within j inside)) in
      let other = cown-at part.accesses j d some_access (within j inside) in
      is.apart i j some_access lt (within j inside) (omega (arith, same, one, other)));
}
  where
    within : (i : ℕ) → i < length (map numbered (document_claims part.accesses)) → i < length part.accesses
    within i lt = omega (arith, lt, length-numbered part.accesses)

pub few-numbered : (task : Task) → IsBehaviourOrRule task → AreFewAndApart (numbered_claims task)
few-numbered (Runs script index) is = few-behaviour (get_or script index no_part) (All-get_or IsBehaviour script index no_part is.1 is.0.each)
few-numbered (Applies rule) is = record {
  few = omega arith;
  apart = λ i j d lt within same. absurd (omega arith);
}

pub known-numbered : (task : Task) (documents : ℕ) → All (λ (access : Access). access.doc < documents) (accesses_of task)
    → All (λ (claim : NumberedClaim). claim.cown < documents + 1) (numbered_claims task)
known-numbered (Runs script index) documents below =
    All-cons (λ (claim : NumberedClaim). claim.cown < documents + 1) policy_claim (map numbered (document_claims accesses)) (omega arith)
    (λ i d lt. let inside : i < length accesses = omega (arith, lt, length-numbered accesses) in
    let at = cown-at accesses i d some_access inside in
    let is : (get_or accesses i some_access).doc < documents = below i some_access inside in
    omega (arith, at, is))
  where
    accesses : List Access
    accesses = accesses_of (Runs script index)
known-numbered (Applies rule) documents below =
    All-cons (λ (claim : NumberedClaim). claim.cown < documents + 1) (numbered (record { cown = OfPolicy; exclusive = true })) [] (omega arith) (λ i d lt. absurd (omega arith))
