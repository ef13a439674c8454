-- How the places of a session hang together: the places of each line in order of their labels, and the lines of a
-- session, the last one first.
use Rattle.std.specs.Prelude.{◌≡◌, ◌≢◌, ℕ, zero, suc, ◌+◌, ◌-◌, ◌<◌, ◌≤◌, Bool, false, ◌==◌, if◌then◌else◌, List, []}
use Rattle.std.specs.Prelude.{◌∷◌, ◌++◌, All, length, slice_index_or, slice_set, Option, Some, None}
use Rattle.bl_order.specs.Labels.{Tag, tag, is_before, is_of}
use Rattle.bl_order.specs.Order.{Entry, Line, Child}
use Rattle.bl_order.specs.Past.{no_entry}
use Rattle.bl_hall.specs.declared.link.Link.{Link}
use Rattle.bl_hall.specs.declared.link.Tally.{Tally}

-- one place more among those in order of their labels
abbrev pub put_place : List Entry → ℕ → List ℕ → List ℕ
put_place order n [] = n ∷ []
put_place order n (m ∷ places) = if is_before (tag order n).label
    (tag order m).label then n ∷ m ∷ places else m ∷ put_place order n places

-- the places below n whose tags pass a test, in order of their labels
abbrev pub places_with : List Entry → (Tag → Bool) → ℕ → List ℕ
places_with order mine zero = []
places_with order mine (suc n) = if mine (tag order n) then put_place order n
    (places_with order mine n) else places_with order mine n

-- the places of a line and of its descendants, in order of their labels
abbrev pub family : List Entry → ℕ → ℕ → List ℕ
family order session ordinal = places_with order (is_of session ordinal) (length order)

-- whether the entry is a line of the session
abbrev pub is_line_of : ℕ → Entry → Bool
is_line_of session (Line other ordinal subject work) = other == session
is_line_of session (Child parent which) = false

-- the places below n of the lines of a session, the last one first
abbrev pub lines_below : List Entry → ℕ → ℕ → List ℕ
lines_below order session zero = []
lines_below order session (suc n) =
    if is_line_of session (slice_index_or order n no_entry) then n ∷ lines_below order session n else lines_below order session n

abbrev pub no_link : Link
no_link = record { session = 0; next = None; earlier = None }

abbrev pub link_at : List Link → ℕ → Link
link_at links n = slice_index_or links n no_link

abbrev pub next_in : List Link → ℕ → Option ℕ
next_in links n = (link_at links n).next

abbrev pub earlier_in : List Link → ℕ → Option ℕ
earlier_in links n = (link_at links n).earlier

-- from a place on, each place leads to the one after it, and the last one to none
abbrev pub Leads : (ℕ → Option ℕ) → Option ℕ → List ℕ → Type 0
Leads step at [] = at ≡ None
Leads step at (n ∷ places) = (at ≡ Some n) × Leads step (step n) places

-- where a row of places leads that begins at one and has so many: to the first of them, or to what stands behind it
abbrev pub lead_to : ℕ → ℕ → Option ℕ → Option ℕ
lead_to at zero behind = behind
lead_to at (suc places) behind = Some at

-- So many children have entered behind all places: the parent leads to the first of them, each to the one after it, and
-- the last one to where the parent led.
pub record HaveEntered (links : List Link) (n children : ℕ) (after : List Link) : Type 0 where
  pub as_many : length after ≡ length links + children
  pub others : (m : ℕ) → m < length links → m ≢ n → link_at after m ≡ link_at links m
  pub parent : link_at after n
      ≡ record {
        session = (link_at links n).session;
        next = lead_to (length links) children
            (next_in links n);
        earlier = earlier_in links n;
      }
  pub entered : (i : ℕ) → i < children → link_at after (length links + i)
      ≡ record {
        session = (link_at links n).session;
        next = lead_to (length links + i + 1) (children - i - 1)
            (next_in links n);
        earlier = None;
      }

abbrev pub no_tally : Tally
no_tally = record { awaited = 0; line = None }

abbrev pub tally_at : List Tally → ℕ → Tally
tally_at tallies session = slice_index_or tallies session no_tally

-- the tallies of sessions where one entry less is awaited: that of a place
abbrev pub one_less : List Link → List Tally → ℕ → List Tally
one_less links tallies n =
    let session = (link_at links n).session in
    slice_set tallies session (record {
      awaited = (tally_at tallies session).awaited - 1;
      line =
          (tally_at tallies session).line;
    })

-- and where so many more are awaited
abbrev pub more_awaited : List Link → List Tally → ℕ → ℕ → List Tally
more_awaited links tallies n children =
    let session = (link_at links n).session in
    slice_set tallies session (record {
      awaited = (tally_at tallies session).awaited + children;
      line =
          (tally_at tallies session).line;
    })

-- the ordinal of a line; 0 for a child
abbrev pub line_ordinal : Entry → ℕ
line_ordinal (Line session ordinal subject work) = ordinal
line_ordinal (Child parent which) = 0

abbrev pub ordinal_in : List Entry → ℕ → ℕ
ordinal_in order n = line_ordinal (slice_index_or order n no_entry)

-- these are the lines of a session above an ordinal, the last one first
pub record AreLinesAbove (order : List Entry) (session after : ℕ) (lines : List ℕ) : Type 0 where
  pub upto : ℕ
  pub split : lines_below order session (length order) ≡ lines ++ lines_below order session upto
  pub within : upto ≤ length order
  pub above : All (λ n. after < ordinal_in order n) lines
  pub rest : (n : ℕ) (more : List ℕ) → lines_below order session upto ≡ n ∷ more → ordinal_in order n ≤ after

-- a line leads over places that are there
pub record HasFamily (links : List Link) (line : ℕ) : Type 0 where
  pub family : List ℕ
  pub leads : Leads (next_in links) (Some line) family
  pub there : All (λ n. n < length links) family
  pub few : length family ≤ length links

-- the places over which these lines lead, those of the last one in front
abbrev pub AreGathered : List Link → List ℕ → List ℕ → Type 0
AreGathered links [] places = places ≡ []
AreGathered links (line ∷ lines) places =
    (front : List ℕ) × (family : List ℕ) × AreGathered links lines front × Leads (next_in links) (Some line) family
    × (places ≡ front ++ family)
