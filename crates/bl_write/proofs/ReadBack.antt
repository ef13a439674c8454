-- The script of a `when` is read back as that `when`, without an `else` before an empty body.
use Rattle.std.proofs.Common.{◌≡◌, ℕ, zero, suc, ◌+◌, ◌-◌, ◌≤◌, List, [], ◌∷◌, ◌++◌, length, drop, map, get_or, refl, sym, ap, subst, ◌∙◌, append_assoc, arith}
use Rattle.std.specs.Prelude.{All, Contains}
use Rattle.std.proofs.lemmas.List.{append-nil, drop-drop, drop_at}
use Rattle.std.proofs.lemmas.List.Elements.{All-head, All-tail}
use Rattle.bl_work.specs.Building.{when_from}
use Rattle.bl_work.specs.Meaning.{whens, document_of, access_of, numbered, spawned_from, script_of}
use Rattle.bl_work.specs.Names.{KnownNames}
use Rattle.bl_work.specs.Spelled.{SpelledAccess, SpelledBody, empty, show, say, add, set, copy, pour, if_then, if_else, spawn}
use Rattle.bl_work.specs.Statements.{Part}
use Rattle.bl_write.specs.Unread.{SpelledWhen, no_when, name_at, unread_access, unread_if, unread_body, unread_when, unread_from, unread_at}
use Rattle.bl_work.specs.WhenFaults.{documents_in, names_in, names_of_when}
use Rattle.bl_work.proofs.Behaviours.{at_place}
use Rattle.bl_work.proofs.Numbering.{spawned_long}
use Rattle.bl_write.proofs.Tidy.{tidy}
use Rattle.bl_work.proofs.WhenFaults.{all_left, all_right}

-- what stands behind the front of a part of a list is the part that begins there
pub drop_past : {X : Type 0} (list front behind : List X) (base n w : ℕ) → base ≤ n → drop (n - base) list ≡ front ++ behind → length front ≡ w → drop (n + w - base) list ≡ behind
drop_past list front behind base n w within is long =
    let same : n + w - base ≡ (n - base) + w = omega arith in
    ap (λ k. drop k list) same ∙ sym (drop-drop w (n - base) list) ∙ ap (drop w) is ∙ drop_at front behind w long

module _ (names : KnownNames) where
  -- the name is a document's
  abbrev pub IsDocument : List ℕ → Type 0
  IsDocument name = Contains names.documents name

  -- the `when` that the table gives for a number, the first of these behaviours having this one
  abbrev pub below_from : ℕ → List Part → ℕ → SpelledWhen
  below_from k rest j = get_or (unread_from names k rest) (j - k) no_when

  abbrev pub tidy_when : SpelledAccess → List SpelledAccess → SpelledBody → SpelledWhen
  tidy_when f m b = record { first = f; more = m; body = tidy names b }

  -- where the behaviours of a `when` stand among these, the first of them having this number, the table gives the `when`
  abbrev UnreadsFrom : ℕ → List Part → Type 0
  UnreadsFrom k rest =
      (j : ℕ) → k ≤ j → (f : SpelledAccess) (m : List SpelledAccess) (b : SpelledBody) (behind : List Part)
      → drop (j - k) rest ≡ when_from names j f m b ++ behind → All IsDocument (names_of_when f m b) → below_from k rest j ≡ tidy_when f m b

  -- a document is read back by its name
  name_again : (d : List ℕ) → IsDocument d → name_at names (document_of names d) ≡ d
  name_again d known = at_place names.documents d known

  access_again : (a : SpelledAccess) → IsDocument a.document → unread_access names (access_of names a) ≡ a
  access_again a known = ap (λ d. record { mode = a.mode; document = d }) (name_again a.document known)

  accesses_again : (list : List SpelledAccess) → All IsDocument (documents_in list) → map (unread_access names) (map (access_of names) list) ≡ list
  accesses_again [] known = refl
  accesses_again (a ∷ list) known =
      let here = access_again a (All-head IsDocument a.document (documents_in list) known) in
      let more = accesses_again list (All-tail IsDocument a.document (documents_in list) known) in
      λ i. here i ∷ more i

  module _ (k : ℕ) (rest : List Part) (unreads : UnreadsFrom k rest) where
    -- the `when` of each spawned behaviour
    abbrev below : ℕ → SpelledWhen
    below = below_from k rest

    -- the statements of a body are read back, where what it spawns stands among these
    body_again : (b : SpelledBody) (next : ℕ) (behind : List Part) → k ≤ next → drop (next - k) rest ≡ spawned_from names next b ++ behind → All IsDocument (names_in b)
        → unread_body names below (numbered names next b) ≡ tidy names b
    body_again empty next behind within is known = refl
    body_again (show d r) next behind within is known =
        let here = name_again d (All-head IsDocument d (names_in r) known) in
        let more = body_again r next behind within is (All-tail IsDocument d (names_in r) known) in
        λ i. show (here i) (more i)
    body_again (say w r) next behind within is known = ap (say w) (body_again r next behind within is known)
    body_again (add d w r) next behind within is known =
        let here = name_again d (All-head IsDocument d (names_in r) known) in
        let more = body_again r next behind within is (All-tail IsDocument d (names_in r) known) in
        λ i. add (here i) w (more i)
    body_again (set d w r) next behind within is known =
        let here = name_again d (All-head IsDocument d (names_in r) known) in
        let more = body_again r next behind within is (All-tail IsDocument d (names_in r) known) in
        λ i. set (here i) w (more i)
    body_again (copy d e r) next behind within is known =
        let later = All-tail IsDocument d (e ∷ names_in r) known in
        let from = name_again d (All-head IsDocument d (e ∷ names_in r) known) in
        let to = name_again e (All-head IsDocument e (names_in r) later) in
        let more = body_again r next behind within is (All-tail IsDocument e (names_in r) later) in
        λ i. copy (from i) (to i) (more i)
    body_again (pour d e r) next behind within is known =
        let later = All-tail IsDocument d (e ∷ names_in r) known in
        let from = name_again d (All-head IsDocument d (e ∷ names_in r) known) in
        let to = name_again e (All-head IsDocument e (names_in r) later) in
        let more = body_again r next behind within is (All-tail IsDocument e (names_in r) later) in
        λ i. pour (from i) (to i) (more i)
    body_again (if_then d a w t r) next behind within is known =
        let s = spawned_from names next t in
        let x = spawned_from names (next + whens t) r in
        let split : drop (next - k) rest ≡ s ++ (x ++ behind) = is ∙ append_assoc s x behind in
        let later = All-tail IsDocument d (names_in t ++ names_in r) known in
        let here = name_again d (All-head IsDocument d (names_in t ++ names_in r) known) in
        let inner = body_again t next (x ++ behind) within split (all_left IsDocument (names_in t) (names_in r) later) in
        let more = body_again r (next + whens t) behind (omega arith)
        (drop_past rest s (x ++ behind) k next (whens t) within split (spawned_long names t next)) (all_right IsDocument (names_in t) (names_in r) later) in
        λ i. if_then (here i) a w (inner i) (more i)
    body_again (if_else d a w t e r) next behind within is known =
        let s = spawned_from names next t in
        let y = spawned_from names (next + whens t) e in
        let x = spawned_from names (next + whens t + whens e) r in
        let split : drop (next - k) rest ≡ s ++ (y ++ (x ++ behind)) = is ∙ append_assoc s (y ++ x) behind ∙ ap (λ l. s ++ l) (append_assoc y x behind) in
        let second = drop_past rest s (y ++ (x ++ behind)) k next (whens t) within split (spawned_long names t next) in
        let later = All-tail IsDocument d (names_in t ++ (names_in e ++ names_in r)) known in
        let last = all_right IsDocument (names_in t) (names_in e ++ names_in r) later in
        let here = name_again d (All-head IsDocument d (names_in t ++ (names_in e ++ names_in r)) known) in
        let inner = body_again t next (y ++ (x ++ behind)) within split (all_left IsDocument (names_in t) (names_in e ++ names_in r) later) in
        let other = body_again e (next + whens t) (x ++ behind) (omega arith) second (all_left IsDocument (names_in e) (names_in r) last) in
        let more = body_again r (next + whens t + whens e) behind (omega arith)
        (drop_past rest y (x ++ behind) k (next + whens t) (whens e) (omega arith) second (spawned_long names e (next + whens t)))
        (all_right IsDocument (names_in e) (names_in r) last) in
        λ i. unread_if names (here i) a w (inner i) (other i) (more i)
    body_again (spawn f m b r) next behind within is known =
        let s = spawned_from names (next + 1) b in
        let x = spawned_from names (next + 1 + whens b) r in
        let split : drop (next - k) rest ≡ when_from names next f m b ++ (x ++ behind) =
        is ∙ ap (λ l. record { accesses = map (access_of names) (f ∷ m); body = numbered names (next + 1) b } ∷ l) (append_assoc s x behind) in
        let inner = all_left IsDocument (documents_in (f ∷ m)) (names_in b) (all_left IsDocument (documents_in (f ∷ m) ++ names_in b) (names_in r)
        (subst (All IsDocument) (sym (append_assoc (documents_in (f ∷ m)) (names_in b) (names_in r))) known)) in
        let own = all_left IsDocument (names_of_when f m b) (names_in r)
        (subst (All IsDocument) (sym (append_assoc (documents_in (f ∷ m)) (names_in b) (names_in r))) known) in
        let when_is : below next ≡ tidy_when f m b = unreads next within f m b (x ++ behind) split own in
        let long : length (when_from names next f m b) ≡ 1 + whens b = omega (arith, spawned_long names b (next + 1)) in
        let same : next + (1 + whens b) - k ≡ next + 1 + whens b - k = omega arith in
        let more = body_again r (next + 1 + whens b) behind (omega arith)
        (ap (λ n. drop n rest) (sym same) ∙ drop_past rest (when_from names next f m b) (x ++ behind) k next (1 + whens b) within split long)
        (all_right IsDocument (names_in b) (names_in r) (all_right IsDocument (documents_in (f ∷ m)) (names_in b ++ names_in r) known)) in
        λ i. spawn (when_is i).first (when_is i).more (when_is i).body (more i)

  no_part_of_none : {X : Type 0} (n : ℕ) (x : X) (xs : List X) → drop n [] ≡ x ∷ xs → ⊥
  no_part_of_none zero x xs e = absurd (cc)
  no_part_of_none (suc n) x xs e = absurd (cc)

  -- the accesses of a behaviour, of which there is a first, and its body make the `when`
  when_again : (f : SpelledAccess) (m : List SpelledAccess) (body : SpelledBody) → map (unread_access names) (map (access_of names) (f ∷ m)) ≡ f ∷ m
      → unread_when names (map (access_of names) (f ∷ m)) body ≡ record { first = f; more = m; body = body }
  when_again f m body e =
      let head : unread_access names (access_of names f) ≡ f = cc in
      let tail : map (unread_access names) (map (access_of names) m) ≡ m = cc in
      λ i. record { first = head i; more = tail i; body = body }

  -- one more behaviour before those whose `when` the table gives
  unreads_more : (k : ℕ) (part : Part) (rest : List Part) → UnreadsFrom (k + 1) rest → (n j : ℕ) → j - k ≡ n → k ≤ j → (f : SpelledAccess) (m : List SpelledAccess) (b : SpelledBody) (behind : List Part)
      → drop n (part ∷ rest) ≡ when_from names j f m b ++ behind → All IsDocument (names_of_when f m b) → get_or (unread_from names k (part ∷ rest)) n no_when ≡ tidy_when f m b
  unreads_more k part rest later zero j e within f m b behind is known =
      let first : part ≡ record { accesses = map (access_of names) (f ∷ m); body = numbered names (j + 1) b } = cc in
      let others : rest ≡ spawned_from names (j + 1) b ++ behind = cc in
      let none : j + 1 - (k + 1) ≡ 0 = omega arith in
      let body = body_again (k + 1) rest later b (j + 1) behind (omega arith) (ap (λ i. drop i rest) none ∙ others)
      (all_right IsDocument (documents_in (f ∷ m)) (names_in b) known) in
      let accesses = accesses_again (f ∷ m) (all_left IsDocument (documents_in (f ∷ m)) (names_in b) known) in
      ap (λ (p : Part). unread_when names p.accesses (unread_body names (below_from (k + 1) rest) p.body)) first
      ∙ ap (unread_when names (map (access_of names) (f ∷ m))) body
      ∙ when_again f m (tidy names b) accesses
  unreads_more k part rest later (suc n) j e within f m b behind is known =
      let same : j - (k + 1) ≡ n = omega arith in
      ap (λ i. get_or (unread_from names (k + 1) rest) i no_when) (sym same)
      ∙ later j (omega arith) f m b behind (ap (λ i. drop i rest) same ∙ is) known

  -- a `when` is read back from its behaviours, wherever they stand among others
  unreads_from : (rest : List Part) (k : ℕ) → UnreadsFrom k rest
  unreads_from [] k j within f m b behind is known = absurd (no_part_of_none (j - k) _ _ is)
  unreads_from (part ∷ rest) k j within f m b behind is known = unreads_more k part rest (unreads_from rest (k + 1)) (j - k) j refl within f m b behind is known

  -- the script of a `when` is read back as it
  pub script_again : (f : SpelledAccess) (m : List SpelledAccess) (b : SpelledBody) → All IsDocument (names_of_when f m b)
      → unread_at names (script_of names f m b) 0 ≡ tidy_when f m b
  script_again f m b known =
      unreads_from (script_of names f m b) 0 0 (omega arith) f m b [] (sym (append-nil (script_of names f m b))) known
