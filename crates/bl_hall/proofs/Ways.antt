-- Walks over the links.
use Rattle.std.proofs.Common.{◌≡◌, ℕ, zero, suc, ◌<◌, ◌≤◌, List, [], ◌∷◌, ◌++◌, length, refl, sym, ap, subst, ◌∙◌, arith, append_assoc, append-nil, true≢false}
use Rattle.std.specs.Prelude.{All, IsSome, Option, Some, None, ◌↔◌}
use Rattle.std.proofs.lemmas.List.Elements.{All-nil, All-head, All-tail, All-push}
use Rattle.bl_order.specs.Order.{Entry}
use Rattle.bl_hall.specs.declared.link.Link.{Link}
use Rattle.bl_hall.specs.Linked.{AreGathered, AreLinesAbove, HasFamily, Leads, earlier_in, lines_below, next_in, ordinal_in}
use Rattle.bl_hall.proofs.Gathering.{top-line}

-- how many steps lead from a place on, so many at most
abbrev pub steps_from : (ℕ → Option ℕ) → ℕ → Option ℕ → ℕ
steps_from f zero at = 0
steps_from f (suc most) None = 0
steps_from f (suc most) (Some n) = suc (steps_from f most (f n))

pub steps-are : (f : ℕ → Option ℕ) (most : ℕ) (at : Option ℕ) (ms : List ℕ) → Leads f at ms → length ms ≤ most → steps_from f most at ≡ length ms
steps-are f zero at [] l le = refl
steps-are f zero at (m ∷ ms) l le = absurd (omega arith)
steps-are f (suc most) None [] l le = refl
steps-are f (suc most) (Some n) [] l le = absurd (cc)
steps-are f (suc most) None (m ∷ ms) l le = let e : None ≡ Some m = l.0 in absurd (cc)
steps-are f (suc most) (Some n) (m ∷ ms) l le =
    let e : Some n ≡ Some m = l.0 in
    let one : n ≡ m = cc in
    ap (λ j. suc (steps_from f most (f j))) one ∙ ap suc (steps-are f most (f m) ms l.1 (omega arith))

-- a place, as a number that falls
abbrev pub place_of : Option ℕ → ℕ
place_of None = 0
place_of (Some n) = suc n

-- the places of a line so far, and where to go on
pub record IsUnderWay (links : List Link) (line : ℕ) (start now : List ℕ) (at : Option ℕ) : Type 0 where
  pub done : List ℕ
  pub rest : List ℕ
  pub added : now ≡ start ++ done
  pub leads : Leads (next_in links) at rest
  pub there : All (λ n. n < length links) rest
  pub few : length rest ≤ length links
  pub whole : Leads (next_in links) (Some line) (done ++ rest)

-- the lines of a session so far, and where to go on
pub record IsOnTheWay (order : List Entry) (links : List Link) (session after : ℕ) (lines : List ℕ) (at : Option ℕ) : Type 0 where
  pub upto : ℕ
  pub within : upto ≤ length order
  pub split : lines_below order session (length order) ≡ lines ++ lines_below order session upto
  pub above : All (λ n. after < ordinal_in order n) lines
  pub leads : Leads (earlier_in links) at (lines_below order session upto)

pub under-start : (links : List Link) (line : ℕ) (start : List ℕ) → HasFamily links line → IsUnderWay links line start start (Some line)
under-start links line start h = record {
  done = [];
  rest = h.family;
  added = sym (append-nil start);
  leads = h.leads;
  there = h.there;
  few = h.few;
  whole = h.leads;
}

-- one place more
pub record IsStepped (links : List Link) (line : ℕ) (start now : List ℕ) (at : Option ℕ) (n : ℕ) : Type 0 where
  pub there : n < length links
  pub next : IsUnderWay links line start (now ++ n ∷ []) (next_in links n)
  pub smaller : steps_from (next_in links) (length links) (next_in links n) < steps_from (next_in links) (length links) at

pub under-next : (links : List Link) (line : ℕ) (start now : List ℕ) (at : Option ℕ) (n : ℕ) → IsUnderWay links line start now at → at ≡ Some n → IsStepped links line start now at n
under-next links line start now at n w is = go w.rest w.leads w.there w.few w.whole
  where
    go : (rest : List ℕ) → Leads (next_in links) at rest → All (λ n. n < length links) rest → length rest ≤ length links → Leads (next_in links) (Some line) (w.done ++ rest)
        → IsStepped links line start now at n
    go [] l there few whole = let e : Some n ≡ None = sym is ∙ l in absurd (cc)
    go (m ∷ rest) l there few whole =
        let e : Some m ≡ Some n = sym l.0 ∙ is in
        let one : m ≡ n = cc in
        let leads : Leads (next_in links) (next_in links n) rest = subst (λ j. Leads (next_in links) (next_in links j) rest) one l.1 in
        record {
          there = subst (λ j. j < length links) one (All-head (λ j. j < length links) m rest there);
          next = record {
            done = w.done ++ n ∷ [];
            rest = rest;
            added = ap (λ t. t ++ n ∷ []) w.added ∙ append_assoc start w.done (n ∷ []);
            leads = leads;
            there = All-tail (λ j. j < length links) m rest there;
            few = omega (arith, few);
            whole =
                subst (Leads (next_in links) (Some line))
                (ap (λ j. w.done ++ j ∷ rest) one ∙ sym (append_assoc w.done (n ∷ []) rest)) whole;
          };
          smaller =
              omega (arith, steps-are (next_in links) (length links) (next_in links n) rest leads (omega (arith, few)), steps-are (next_in links) (length links) at (m ∷ rest) l few);
        }

-- ---- families, gathered from the last line

pub gather-step : (links : List Link) (lines : List ℕ) (x : ℕ) (family tail : List ℕ) → Leads (next_in links) (Some x) family → AreGathered links lines tail → AreGathered links (lines ++ x ∷ []) (family ++ tail)
gather-step links [] x family tail l g = ([], family, refl, l, ap (λ t. family ++ t) g ∙ append-nil family)
gather-step links (y ∷ lines) x family tail l g = (
  family ++ g.0,
  g.1,
  gather-step links lines x family g.0 l g.2,
  g.3,
  ap (λ t. family ++ t) g.4 ∙ sym (append_assoc family g.0 g.1),
)

-- ---- the lines of a session, back from its last one

pub on-start : (order : List Entry) (links : List Link) (s after : ℕ) (at : Option ℕ) → Leads (earlier_in links) at (lines_below order s (length order)) → IsOnTheWay order links s after [] at
on-start order links s after at l = record {
  upto = length order;
  within = omega arith;
  split = refl;
  above = All-nil (λ n. after < ordinal_in order n);
  leads = l;
}

pub record IsWalked (order : List Entry) (links : List Link) (s after : ℕ) (lines : List ℕ) (at : Option ℕ) (line : ℕ) : Type 0 where
  pub there : line < length order
  pub next : after < ordinal_in order line → IsOnTheWay order links s after (lines ++ line ∷ []) (earlier_in links line)
  pub smaller : place_of (earlier_in links line) < place_of at
  pub stop : ordinal_in order line ≤ after → AreLinesAbove order s after lines

pub on-next : (order : List Entry) (links : List Link) (s after : ℕ) (lines : List ℕ) (at : Option ℕ) (line : ℕ) → IsOnTheWay order links s after lines at → at ≡ Some line → IsWalked order links s after lines at line
on-next order links s after lines at line w is = go (lines_below order s w.upto) refl w.leads
  where
    falls : (at' : Option ℕ) (l : List ℕ) → Leads (earlier_in links) at' l → lines_below order s line ≡ l → place_of at' < suc line
    falls at' [] h e = subst (λ o. place_of o < suc line) (sym h) (omega arith)
    falls at' (q ∷ more) h e =
        let first = top-line order s line q more e in
        subst (λ o. place_of o < suc line) (sym h.0) (omega (arith, first.0))

    go : (l : List ℕ) → lines_below order s w.upto ≡ l → Leads (earlier_in links) at l → IsWalked order links s after lines at line
    go [] e h = let f : Some line ≡ None = sym is ∙ h in absurd (cc)
    go (m ∷ more) e h =
        let f : Some m ≡ Some line = sym h.0 ∙ is in
        let one : m ≡ line = cc in
        let first = top-line order s w.upto m more e in
        let leads : Leads (earlier_in links) (earlier_in links line) (lines_below order s line) =
        subst (λ j. Leads (earlier_in links) (earlier_in links j) (lines_below order s j)) one (subst (Leads (earlier_in links) (earlier_in links m)) first.1 h.1)
        in
        record {
          there = let le : w.upto ≤ length order = w.within in omega (arith, first.0, one, le);
          next = λ above. record {
            upto = line;
            within = let le : w.upto ≤ length order = w.within in omega (arith, first.0, one, le);
            split =
                w.split ∙ ap (λ t. lines ++ t) (e ∙ ap (λ t. m ∷ t) first.1) ∙ ap (λ j. lines ++ j ∷ lines_below order s j) one
                ∙ sym (append_assoc lines (line ∷ []) (lines_below order s line));
            above = All-push (λ n. after < ordinal_in order n) lines line w.above above;
            leads = leads;
          };
          smaller = subst (λ o. place_of (earlier_in links line) < place_of o) (sym is) (falls (earlier_in links line) (lines_below order s line) leads refl);
          stop = λ small. record {
            upto = w.upto;
            split = w.split;
            within = w.within;
            above = w.above;
            rest = λ n rest g. (let same : n ∷ rest ≡ m ∷ more = sym g ∙ e in let two : n ≡ m = cc in subst (λ j. ordinal_in order j ≤ after) (sym (two ∙ one)) small);
          };
        }

-- where nothing is popped nothing is left
pub nothing-left : (xs : List ℕ) (n : ℕ) (r : Option ℕ) → n ≡ length xs → (IsSome r ↔ (0 < n)) → ((x : ℕ) → r ≡ Some x → ⊥) → xs ≡ []
nothing-left [] n r e v none = refl
nothing-left (x ∷ xs) n None e v none = absurd (true≢false (sym (v.1 (omega (arith, e)))))
nothing-left (x ∷ xs) n (Some y) e v none = absurd (none y refl)
