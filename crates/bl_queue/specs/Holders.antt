-- Who holds each cown and who waits for it, as the code keeps it.
use Rattle.std.specs.Prelude.{◌≡◌, ℕ, zero, suc, ◌+◌, ◌-◌, ◌<◌, ◌≤◌, ◌≢◌, ◌⊎◌, Bool, true, false, ◌&&◌, ◌||◌, not, ◌==◌, nat_lt, nat_le, if◌then◌else◌, is_none, Option, Some, None, unwrap_or, List, [], ◌∷◌, ◌++◌, length, slice_index, slice_index_or, slice_set, replicate, map, Contains}
use Rattle.bl_queue.specs.declared.claim.Claim.{Claim}
use Rattle.bl_queue.specs.declared.cown.Held.{Held}
use Rattle.bl_queue.specs.declared.cown.Cown.{Cown}

-- how many numbers below a bound pass a test
abbrev pub count_below : (ℕ → Bool) → ℕ → ℕ
count_below f zero = 0
count_below f (suc n) = (if f n then 1 else 0) + count_below f n

-- the claims of all entries in the order in which they entered, which of them are over, for each the next of its cown, the
-- cowns, how many claims of each entry wait, and the entries none of whose claims wait, in the order in which they came to it
pub record Holders : Type 0 where
  pub claims : List Held
  pub over : List Bool
  pub next : List (Option ℕ)
  pub cowns : List Cown
  pub waits : List ℕ
  pub free : List ℕ
  pub limit : ℕ

-- what stands where there is no claim, and no cown
abbrev pub no_held : Held
no_held = record { cown = 0; shared = false; entry = 0 }

abbrev pub no_cown : Cown
no_cown = record { holders = 0; shared = false; first = None; last = None }

abbrev pub held_at : List Held → ℕ → Held
held_at claims p = slice_index_or claims p no_held

abbrev pub cown_at : List Cown → ℕ → Cown
cown_at cowns k = slice_index_or cowns k no_cown

abbrev pub over_at : List Bool → ℕ → Bool
over_at over p = slice_index_or over p true

-- a place, or one past all claims where there is none
abbrev pub nowhere : ℕ
nowhere = 4294967296

abbrev pub place_of : Option ℕ → ℕ
place_of o = unwrap_or o nowhere

abbrev pub next_at : List (Option ℕ) → ℕ → Option ℕ
next_at next p = slice_index_or next p None

-- a claim that holds its cown: it stands before the first of that cown that waits, and is not over
unfoldable pub holds : List Held → List Bool → ℕ → ℕ → ℕ → Bool
holds claims over k first p = ((held_at claims p).cown == k) && (nat_lt p first && not (over_at over p))

-- a claim of this entry that waits for its cown
unfoldable pub waits_for : List Held → List Cown → ℕ → ℕ → Bool
waits_for claims cowns n p = ((held_at claims p).entry == n) && nat_le (place_of (cown_at cowns (held_at claims p).cown).first) p

-- whether a further claim may hold the cown too
abbrev pub may_hold : Cown → Bool → Bool
may_hold c shared = (c.holders == 0) || (shared && c.shared)

-- what is kept of one cown: how many hold it, that they are one or share it, the first that waits, and the last of all
pub record IsCown (claims : List Held) (over : List Bool) (k : ℕ) (c : Cown) : Type 0 where
  pub held : c.holders ≡ count_below (holds claims over k (place_of c.first)) (length claims)
  pub alike : (p : ℕ) → p < length claims → holds claims over k (place_of c.first) p ≡ true → (held_at claims p).shared ≡ c.shared
  pub alone : c.shared ≡ false → c.holders ≤ 1
  pub first : (h : ℕ) → c.first ≡ Some h → (h < length claims) × ((held_at claims h).cown ≡ k)
  pub over_before : (p : ℕ) → p < length claims → (held_at claims p).cown ≡ k → over_at over p ≡ true → p < place_of c.first
  pub last_on : (l : ℕ) → c.last ≡ Some l → (l < length claims) × ((held_at claims l).cown ≡ k)
  pub last : (q : ℕ) → q < length claims → (held_at claims q).cown ≡ k → (l : ℕ) × (c.last ≡ Some l) × (q ≤ l)

-- the first claim that waits may not hold the cown yet
abbrev pub IsSettled : List Held → Cown → Type 0
IsSettled claims c = (h : ℕ) → c.first ≡ Some h → may_hold c (held_at claims h).shared ≡ false

-- from each claim the next one of its cown is found
pub record AreLinks (claims : List Held) (next : List (Option ℕ)) : Type 0 where
  pub on : (p q : ℕ) → p < length claims → next_at next p ≡ Some q → (p < q) × (q < length claims) × ((held_at claims q).cown ≡ (held_at claims p).cown)
  pub least : (p q : ℕ) → p < q → q < length claims → (held_at claims q).cown ≡ (held_at claims p).cown → place_of (next_at next p) ≤ q

-- the entries none of whose claims wait are listed, once each
pub record AreFree (waits free : List ℕ) : Type 0 where
  pub listed : (n : ℕ) → n < length waits → slice_index waits n ≡ 0 → Contains free n
  pub right : (i : ℕ) → i < length free → (slice_index free i < length waits) × (slice_index waits (slice_index free i) ≡ 0)
  pub count : length free ≡ count_below (λ n. slice_index waits n == 0) (length waits)

-- what is kept of the claims of so many entries
pub record AreHeld (s : Holders) (m : ℕ) : Type 0 where
  pub over : length s.over ≡ length s.claims
  pub next : length s.next ≡ length s.claims
  pub small : length s.claims + 1 < nowhere
  pub cown_known : (p : ℕ) → p < length s.claims → (held_at s.claims p).cown < length s.cowns
  pub entry_known : (p : ℕ) → p < length s.claims → (held_at s.claims p).entry < m
  pub links : AreLinks s.claims s.next
  pub cowns : (k : ℕ) → k < length s.cowns → IsCown s.claims s.over k (cown_at s.cowns k)
  pub waits : (n : ℕ) → n < length s.waits → slice_index s.waits n ≡ count_below (waits_for s.claims s.cowns n) (length s.claims)
  pub free : AreFree s.waits s.free

-- no cown has a first claim that waits and may hold it
abbrev pub AreSettled : Holders → Type 0
AreSettled s = (k : ℕ) → k < length s.cowns → IsSettled s.claims (cown_at s.cowns k)

-- the same, but for one cown
abbrev pub AreSettledBut : Holders → ℕ → Type 0
AreSettledBut s k = (j : ℕ) → j < length s.cowns → j ≢ k → IsSettled s.claims (cown_at s.cowns j)

-- before any claim
abbrev pub no_holders : ℕ → ℕ → Holders
no_holders cowns limit = record {
  claims = [];
  over = [];
  next = [];
  cowns = replicate cowns no_cown;
  waits = [];
  free = [];
  limit = limit;
}

-- a claim is over
abbrev pub left_at : Holders → ℕ → Holders
left_at s p =
    let k = (held_at s.claims p).cown in
    let c = cown_at s.cowns k in
    record s { over = slice_set s.over p true; cowns = slice_set s.cowns k (record c { holders = c.holders - 1 }) }

-- a cown that one more claim holds
abbrev pub taken : Cown → Bool → Option ℕ → Cown
taken c shared next = record c { holders = c.holders + 1; shared = shared; first = next }

-- the entries without a waiting claim, after one of them has one fewer
abbrev pub freed : List ℕ → ℕ → ℕ → List ℕ
freed free n waits = if waits == 0 then free ++ n ∷ [] else free

-- the first claim that waits for its cown holds it
abbrev pub granted : Holders → ℕ → Holders
granted s h =
    let b = held_at s.claims h in
    let waits = slice_index s.waits b.entry - 1 in
    record s {
      cowns = slice_set s.cowns b.cown (taken (cown_at s.cowns b.cown) b.shared (next_at s.next h));
      waits = slice_set s.waits b.entry waits;
      free = freed s.free b.entry waits;
    }

-- whether a new claim holds its cown at once
abbrev pub is_held_at_once : Cown → Bool → Bool
is_held_at_once c shared = is_none c.first && may_hold c shared

-- a cown that has one more claim, at this place
abbrev pub joined_cown : Cown → Bool → ℕ → Cown
joined_cown c shared place = if is_held_at_once c shared
    then record { holders = c.holders + 1; shared = shared; first = None; last = Some place }
    else record { holders = c.holders; shared = c.shared; first = Some (unwrap_or c.first place); last = Some place }

-- the last claim of a cown gets a next one
abbrev pub linked : List (Option ℕ) → Option ℕ → ℕ → List (Option ℕ)
linked next None place = next
linked next (Some l) place = slice_set next l (Some place)

-- a claim more
abbrev pub joined : Holders → Held → Holders
joined s b =
    let c = cown_at s.cowns b.cown in
    record s {
      claims = s.claims ++ b ∷ [];
      over = s.over ++ false ∷ [];
      next = linked s.next c.last (length s.claims) ++ None ∷ [];
      cowns = slice_set s.cowns b.cown (joined_cown c b.shared (length s.claims));
    }

-- the claims of an entry, with its number
abbrev pub held_of : ℕ → Claim → Held
held_of n c = record { cown = c.cown; shared = c.shared; entry = n }

-- an entry more, of whose claims so many wait
abbrev pub listed : Holders → ℕ → Holders
listed s waits = record s { waits = s.waits ++ waits ∷ []; free = freed s.free (length s.waits) waits }

-- the first claim that waits for this cown, where it may hold the cown
pub record IsGrantable (s : Holders) (m h : ℕ) : Type 0 where
  pub kept : AreHeld s m
  pub within : h < length s.claims
  pub first : (cown_at s.cowns (held_at s.claims h).cown).first ≡ Some h
  pub may : may_hold (cown_at s.cowns (held_at s.claims h).cown) (held_at s.claims h).shared ≡ true
  pub entries : m ≤ length s.waits

-- the same claims, of which some that waited may hold their cowns now: more entries may be free
pub record IsAfter (before now : Holders) : Type 0 where
  pub claims : now.claims ≡ before.claims
  pub over : now.over ≡ before.over
  pub limit : now.limit ≡ before.limit
  pub cowns : length now.cowns ≡ length before.cowns
  pub waits : length now.waits ≡ length before.waits
  pub free : (more : List ℕ) × (now.free ≡ before.free ++ more)

-- a claim that holds its cown
abbrev pub is_holding : Holders → ℕ → Bool
is_holding s p = holds s.claims s.over (held_at s.claims p).cown (place_of (cown_at s.cowns (held_at s.claims p).cown).first) p

-- an entry more has entered, with these claims
pub record HasEntered (before now : Holders) (given : List Claim) : Type 0 where
  pub claims : now.claims ≡ before.claims ++ map (held_of (length before.waits)) given
  pub over : now.over ≡ before.over ++ replicate (length given) false
  pub limit : now.limit ≡ before.limit
  pub cowns : length now.cowns ≡ length before.cowns
  pub waits : length now.waits ≡ length before.waits + 1
  pub free : (more : List ℕ) × (now.free ≡ before.free ++ more)

-- what is kept while the claims of an entry come to be over
pub record IsEnding (start : Holders) (first place : ℕ) (now : Holders) : Type 0 where
  pub kept : AreHeld now (length now.waits)
  pub settled : AreSettled now
  pub claims : now.claims ≡ start.claims
  pub limit : now.limit ≡ start.limit
  pub cowns : length now.cowns ≡ length start.cowns
  pub waits : length now.waits ≡ length start.waits
  pub inside : (p : ℕ) → first ≤ p → p < place → over_at now.over p ≡ true
  pub outside : (p : ℕ) → (p < first) ⊎ (place ≤ p) → over_at now.over p ≡ over_at start.over p
  pub free : (more : List ℕ) × (now.free ≡ start.free ++ more)
