-- The claims as the code keeps them, after a write.
use Rattle.std.proofs.Common.{◌≡◌, ℕ, ◌<◌, ◌==◌, if◌then◌else◌, Bool, true, Option, Some, None, List, get_or, set, map, ap, ◌∙◌, arith}
use Rattle.std.proofs.Math.Seq.{map-set_same}
use Rattle.std.proofs.lemmas.Bool.{ne_eqb}
use Rattle.std.proofs.lemmas.List.{map-set}
use Rattle.bl_queue.specs.declared.cown.Held.{Held}
use Rattle.bl_queue.specs.declared.link.Link.{Link}
use Rattle.bl_queue.specs.Holders.{Holders}
use Rattle.bl_queue.specs.Links.{no_place, claim_of, next_of}

abbrev pub is_over : Link → Bool
is_over l = l.over

abbrev marked : Link → Link
marked l = record { entry = l.entry; next = l.next; cown = l.cown; shared = l.shared; over = true }

abbrev led_to : Link → ℕ → Link
led_to l place = record { entry = l.entry; next = place; cown = l.cown; shared = l.shared; over = l.over }

-- what the three lists of the claims make
pub made : (make : List Held → List Bool → List (Option ℕ) → Holders) → {a a' : List Held} {b b' : List Bool} {n n' : List (Option ℕ)}
    → a ≡ a' → b ≡ b' → n ≡ n' → make a b n ≡ make a' b' n'
made make {a} {a'} {b} {b'} {n} {n'} ea eb en = ap (λ (x : List Held). make x b n) ea ∙ ap (λ (x : List Bool). make a' x n) eb ∙ ap (make a' b') en

-- ---- a claim is marked as over

pub marked_claims : (links : List Link) (p : ℕ) (l : Link) → l ≡ get_or links p l → map claim_of (set links p (marked l)) ≡ map claim_of links
marked_claims links p l is = map-set_same claim_of links p (marked l) l (ap claim_of is)

pub marked_over : (links : List Link) (p : ℕ) (l : Link) → map is_over (set links p (marked l)) ≡ set (map is_over links) p true
marked_over links p l = map-set is_over links p (marked l)

pub marked_next : (links : List Link) (p : ℕ) (l : Link) → l ≡ get_or links p l → map next_of (set links p (marked l)) ≡ map next_of links
marked_next links p l is = map-set_same next_of links p (marked l) l (ap next_of is)

-- ---- a claim gets a next one

pub led_claims : (links : List Link) (p place : ℕ) (l : Link) → l ≡ get_or links p l → map claim_of (set links p (led_to l place)) ≡ map claim_of links
led_claims links p place l is = map-set_same claim_of links p (led_to l place) l (ap claim_of is)

pub led_over : (links : List Link) (p place : ℕ) (l : Link) → l ≡ get_or links p l → map is_over (set links p (led_to l place)) ≡ map is_over links
led_over links p place l is = map-set_same is_over links p (led_to l place) l (ap is_over is)

some_place : (place : ℕ) → place < no_place → (if place == no_place then None else Some place) ≡ Some place
some_place place lt = ap (λ (b : Bool). if b then None else Some place) (ne_eqb place no_place (λ is. not_there is))
  where
    not_there : place ≡ no_place → ⊥
    not_there is = omega (arith, lt, is)

pub led_next : (links : List Link) (p place : ℕ) (l : Link) → place < no_place → map next_of (set links p (led_to l place)) ≡ set (map next_of links) p (Some place)
led_next links p place l lt = map-set next_of links p (led_to l place) ∙ ap (set (map next_of links) p) (some_place place lt)
