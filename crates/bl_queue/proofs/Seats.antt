-- The entries and the claims as the code keeps them.
use Rattle.std.proofs.Common.{◌≡◌, ℕ, suc, ◌+◌, ◌-◌, ◌<◌, ◌≤◌, List, [], ◌∷◌, ◌++◌, length, get_or, set, map, take, drop, refl, sym, ap, ◌∙◌, arith, length-drop}
use Rattle.std.proofs.Math.Seq.{drop-append_seam, map-set_same}
use Rattle.std.proofs.lemmas.List.{get_or-map, map-set, map-append, length-map, drop-append-le, take-append-le, take_all}
use Rattle.bl_queue.specs.declared.claim.Claim.{Claim}
use Rattle.bl_queue.specs.declared.cown.Held.{Held}
use Rattle.bl_queue.specs.declared.entry.Seat.{Seat}
use Rattle.bl_queue.specs.declared.entry.Stand.{Stand}
use Rattle.bl_queue.specs.declared.entry.Stand.TheVariants.{Waiting}
use Rattle.bl_queue.specs.Entries.{Entry, entry_at, no_entry, entered, standing}
use Rattle.bl_queue.specs.Holders.{held_of}
use Rattle.bl_queue.specs.Queued.{moved, longer}
use Rattle.bl_queue.specs.Seats.{given, entry_of}

-- an entry's claims are there
abbrev pub IsWithin : List Held → Seat → Type 0
IsWithin claims s = s.place + s.count ≤ length claims

pub entry_of_seat : (claims : List Held) (seats : List Seat) (n : ℕ) (d : Seat) → n < length seats → entry_at (map (entry_of claims) seats) n ≡ entry_of claims (get_or seats n d)
entry_of_seat claims seats n d lt = get_or-map (entry_of claims) seats n d no_entry lt

rest : (claims : List Held) (s : Seat) → IsWithin claims s → s.count ≤ length (drop s.place claims)
rest claims s within =
    let size : length (drop s.place claims) ≡ length claims - s.place = length-drop s.place claims in
    let le : s.place + s.count ≤ length claims = within in
    omega (arith, size, le)

same_entry : (claims more : List Held) (s : Seat) → IsWithin claims s → entry_of (claims ++ more) s ≡ entry_of claims s
same_entry claims more s within =
    let le : s.place + s.count ≤ length claims = within in
    let own : take s.count (drop s.place (claims ++ more)) ≡ take s.count (drop s.place claims) =
    ap (take s.count) (drop-append-le s.place claims more (omega (arith, le))) ∙ take-append-le s.count (drop s.place claims) more (rest claims s within) in
    ap (λ (l : List Held). record { claims = map given l; stand = s.stand }) own

-- the entries stay as they are while claims come
pub same_entries : (claims more : List Held) (seats : List Seat) → ((n : ℕ) (d : Seat) → n < length seats → IsWithin claims (get_or seats n d))
    → map (entry_of (claims ++ more)) seats ≡ map (entry_of claims) seats
same_entries claims more [] within = refl
same_entries claims more (s ∷ seats) within =
    ap (λ (e : Entry). e ∷ map (entry_of (claims ++ more)) seats) (same_entry claims more s (within 0 s (omega arith)))
    ∙ ap (λ (es : List Entry). entry_of claims s ∷ es) (same_entries claims more seats (λ n d lt. within (suc n) d (omega (arith, lt))))

given_back : (n : ℕ) (claims : List Claim) → map given (map (held_of n) claims) ≡ claims
given_back n [] = refl
given_back n (c ∷ claims) = ap (λ (cs : List Claim). c ∷ cs) (given_back n claims)

-- a seat for an entry whose claims are the last
pub new_entry : (held : List Held) (n : ℕ) (claims : List Claim)
    → entry_of (held ++ map (held_of n) claims) (record { place = length held; count = length claims; stand = Waiting }) ≡ entered claims
new_entry held n claims =
    let size : length (map (held_of n) claims) ≡ length claims = length-map claims (held_of n) in
    let own : take (length claims) (drop (length held) (held ++ map (held_of n) claims)) ≡ map (held_of n) claims =
    ap (take (length claims)) (drop-append_seam held (map (held_of n) claims)) ∙ take_all (length claims) (map (held_of n) claims) (omega (arith, size)) in
    ap (λ (l : List Held). record { claims = map given l; stand = Waiting }) own ∙ ap (λ (cs : List Claim). entered cs) (given_back n claims)

abbrev place_of_seat : Seat → ℕ
place_of_seat s = s.place

-- ---- an entry stands elsewhere

pub moved_entries : (claims : List Held) (seats : List Seat) (n : ℕ) (s : Seat) (stand : Stand) → n < length seats → s ≡ get_or seats n s
    → map (entry_of claims) (set seats n (record { place = s.place; count = s.count; stand = stand })) ≡ moved (map (entry_of claims) seats) n stand
moved_entries claims seats n s stand lt is =
    let at : entry_at (map (entry_of claims) seats) n ≡ entry_of claims s = entry_of_seat claims seats n s lt ∙ ap (entry_of claims) (sym is) in
    map-set (entry_of claims) seats n (record { place = s.place; count = s.count; stand = stand })
    ∙ ap (λ (e : Entry). set (map (entry_of claims) seats) n (standing e stand)) (sym at)

pub moved_places : (seats : List Seat) (n : ℕ) (s : Seat) (stand : Stand) → s ≡ get_or seats n s
    → map place_of_seat (set seats n (record { place = s.place; count = s.count; stand = stand })) ≡ map place_of_seat seats
moved_places seats n s stand is =
    map-set_same place_of_seat seats n (record { place = s.place; count = s.count; stand = stand }) s (ap place_of_seat is)

-- ---- an entry enters

pub longer_entries : (held now : List Held) (n place : ℕ) (claims : List Claim) (seats items : List Seat) → now ≡ held ++ map (held_of n) claims → place ≡ length held
    → items ≡ seats ++ record { place = place; count = length claims; stand = Waiting } ∷ [] → ((k : ℕ) (d : Seat) → k < length seats → IsWithin held (get_or seats k d))
    → map (entry_of now) items ≡ longer (map (entry_of held) seats) claims
longer_entries held now n place claims seats items is at pushed within =
    let all : List Held = held ++ map (held_of n) claims in
    let new : Seat = record { place = length held; count = length claims; stand = Waiting } in
    let seated : items ≡ seats ++ new ∷ [] = pushed ∙ ap (λ (p : ℕ). seats ++ record { place = p; count = length claims; stand = Waiting } ∷ []) at in
    ap (λ (hs : List Held). map (entry_of hs) items) is ∙ ap (map (entry_of all)) seated ∙ map-append (entry_of all) seats (new ∷ [])
    ∙ ap (λ (es : List Entry). es ++ entry_of all new ∷ []) (same_entries held (map (held_of n) claims) seats within)
    ∙ ap (λ (e : Entry). map (entry_of held) seats ++ e ∷ []) (new_entry held n claims)

pub longer_places : (seats items : List Seat) (place size count : ℕ) → place ≡ size → items ≡ seats ++ record { place = place; count = count; stand = Waiting } ∷ []
    → map place_of_seat items ≡ map place_of_seat seats ++ size ∷ []
longer_places seats items place size count is pushed =
    ap (map place_of_seat) pushed ∙ map-append place_of_seat seats (record { place = place; count = count; stand = Waiting } ∷ [])
    ∙ ap (λ (p : ℕ). map place_of_seat seats ++ p ∷ []) is
