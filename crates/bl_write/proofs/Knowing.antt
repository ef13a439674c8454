-- What a text reads as is known, and its canonical text is no longer than the text.
use Rattle.std.proofs.Common.{◌≡◌, ℕ, ◌+◌, ◌<◌, ◌≤◌, Some, None, true, cond, List, [], ◌∷◌, ◌++◌, length, map, sym, ap, subst, ◌∙◌, arith}
use Rattle.std.specs.Prelude.{All, unwrap_or}
use Rattle.std.specs.List.{position_or_len}
use Rattle.std.specs.Str.{bytes_eq}
use Rattle.std.proofs.lemmas.Bool.{lt-ltb}
use Rattle.std.proofs.lemmas.Slice.Eq.{bytes_eq-Decides}
use Rattle.std.proofs.lemmas.List.Elements.{All-cons, All-nil, All-head, All-tail, All-append}
use Rattle.bl_level.specs.Canonical.{canonical}
use Rattle.bl_level.specs.Lexing.{Begins}
use Rattle.bl_level.specs.Table.{place_of}
use Rattle.bl_level.specs.Token.{Tok}
use Rattle.bl_policy.specs.declared.access.Access.{Access}
use Rattle.bl_work.specs.declared.asked.Line.TheVariants as line
use Rattle.bl_work.specs.declared.work.Work.TheVariants.{Behaviour}
use Rattle.bl_work.specs.Grammar.{SpelledLine, hello, wait, when, rule, spell}
use Rattle.bl_write.specs.Known.{IsKnownScript, canonical_script}
use Rattle.bl_work.specs.LineGrammar.{Means, LineOf}
use Rattle.bl_work.specs.Meaning.{whens, document_of, access_of, numbered, spawned_from, script_of}
use Rattle.bl_work.specs.Names.{KnownNames}
use Rattle.bl_work.specs.Spelled.{SpelledAccess, SpelledBody, empty, show, say, add, set, copy, pour, if_then, if_else, spawn, spell_when}
use Rattle.bl_work.specs.Statements.{Part}
use Rattle.bl_write.specs.There.{AreIn, AreThere}
use Rattle.bl_write.specs.Unread.{SpelledWhen, unread}
use Rattle.bl_work.specs.WhenFaults.{documents_in, names_in, names_of_when}
use Rattle.bl_work.proofs.Behaviours.{first_within}
use Rattle.bl_write.proofs.Tidy.{tidy, tidy_when_shorter}
use Rattle.bl_write.proofs.ReadBack.{IsDocument, script_again}
use Rattle.bl_work.proofs.WhenFaults.{all_left, all_right}

-- ---- each document is there

module _ (names : KnownNames) where
  -- how many documents there are
  abbrev pub count : ℕ
  count = length names.documents

  -- the place of a name that is there
  pub place_there : (d : List ℕ) → IsDocument names d → document_of names d < count
  place_there d (k, lt, at) =
      let itself : bytes_eq d d ≡ true = let e = bytes_eq-Decides d d in grind (arith, e) in
      let within = first_within (bytes_eq d) names.documents k d lt (ap (bytes_eq d) at ∙ itself) in
      let place : place_of d names.documents ≡ Some (position_or_len (bytes_eq d) names.documents) =
      ap (λ b. cond b (Some (position_or_len (bytes_eq d) names.documents)) None) (lt-ltb _ _ within) in
      subst (λ o. unwrap_or o 0 < count) (sym place) within

  -- the document of an access is there
  abbrev pub IsIn : Access → Type 0
  IsIn access = access.doc < count

  accesses_there : (list : List SpelledAccess) → All (IsDocument names) (documents_in list) → AreIn count (map (access_of names) list)
  accesses_there [] known = All-nil IsIn
  accesses_there (a ∷ list) known =
      All-cons IsIn (access_of names a) (map (access_of names) list) (place_there a.document (All-head (IsDocument names) a.document (documents_in list) known))
      (accesses_there list (All-tail (IsDocument names) a.document (documents_in list) known))

  -- each document that a behaviour declares is there
  abbrev pub AreOfPart : Part → Type 0
  AreOfPart part = AreIn count part.accesses

  -- each document that a behaviour which a body spawns declares is there
  spawned_there : (b : SpelledBody) (next : ℕ) → All (IsDocument names) (names_in b) → All AreOfPart (spawned_from names next b)
  spawned_there empty next known = All-nil AreOfPart
  spawned_there (show d r) next known = spawned_there r next (All-tail (IsDocument names) d (names_in r) known)
  spawned_there (say w r) next known = spawned_there r next known
  spawned_there (add d w r) next known = spawned_there r next (All-tail (IsDocument names) d (names_in r) known)
  spawned_there (set d w r) next known = spawned_there r next (All-tail (IsDocument names) d (names_in r) known)
  spawned_there (copy d e r) next known = spawned_there r next (all_right (IsDocument names) (d ∷ e ∷ []) (names_in r) known)
  spawned_there (pour d e r) next known = spawned_there r next (all_right (IsDocument names) (d ∷ e ∷ []) (names_in r) known)
  spawned_there (if_then d a w t r) next known =
      let later = All-tail (IsDocument names) d (names_in t ++ names_in r) known in
      All-append AreOfPart (spawned_from names next t) (spawned_from names (next + whens t) r)
      (spawned_there t next (all_left (IsDocument names) (names_in t) (names_in r) later))
      (spawned_there r (next + whens t) (all_right (IsDocument names) (names_in t) (names_in r) later))
  spawned_there (if_else d a w t e r) next known =
      let later = All-tail (IsDocument names) d (names_in t ++ (names_in e ++ names_in r)) known in
      let last = all_right (IsDocument names) (names_in t) (names_in e ++ names_in r) later in
      All-append AreOfPart (spawned_from names next t) (spawned_from names (next + whens t) e ++ spawned_from names (next + whens t + whens e) r)
      (spawned_there t next (all_left (IsDocument names) (names_in t) (names_in e ++ names_in r) later))
      (All-append AreOfPart (spawned_from names (next + whens t) e) (spawned_from names (next + whens t + whens e) r)
      (spawned_there e (next + whens t) (all_left (IsDocument names) (names_in e) (names_in r) last))
      (spawned_there r (next + whens t + whens e) (all_right (IsDocument names) (names_in e) (names_in r) last)))
  spawned_there (spawn f m b r) next known =
      let later = all_right (IsDocument names) (documents_in (f ∷ m)) (names_in b ++ names_in r) known in
      let inner = all_left (IsDocument names) (names_in b) (names_in r) later in
      All-cons AreOfPart (record { accesses = map (access_of names) (f ∷ m); body = numbered names (next + 1) b })
      (spawned_from names (next + 1) b ++ spawned_from names (next + 1 + whens b) r)
      (accesses_there (f ∷ m) (all_left (IsDocument names) (documents_in (f ∷ m)) (names_in b ++ names_in r) known))
      (All-append AreOfPart (spawned_from names (next + 1) b) (spawned_from names (next + 1 + whens b) r) (spawned_there b (next + 1) inner)
      (spawned_there r (next + 1 + whens b) (all_right (IsDocument names) (names_in b) (names_in r) later)))

  script_there : (f : SpelledAccess) (m : List SpelledAccess) (b : SpelledBody) → All (IsDocument names) (names_of_when f m b) → AreThere names (script_of names f m b)
  script_there f m b known =
      let inner = all_right (IsDocument names) (documents_in (f ∷ m)) (names_in b) known in
      All-cons AreOfPart (record { accesses = map (access_of names) (f ∷ m); body = numbered names 1 b }) (spawned_from names 1 b)
      (accesses_there (f ∷ m) (all_left (IsDocument names) (documents_in (f ∷ m)) (names_in b) known))
      (spawned_there b 1 inner)

-- ---- what a text reads as

-- what a law of the tokens says
abbrev pub CanonicalIsShortest : Type 0
CanonicalIsShortest = (ts : List Tok) (bytes rest : List ℕ) → Begins bytes ts rest → length (canonical ts) ≤ length bytes

-- what is known of the script of a line: its documents are there, and its canonical text is no longer than the bytes
pub record IsOfLine (names : KnownNames) (bytes : List ℕ) (script : List Part) : Type 0 where
  pub there : AreThere names script
  pub shortest : length (canonical_script names script) ≤ length bytes

of_when : CanonicalIsShortest → (names : KnownNames) (bytes : List ℕ) (f : SpelledAccess) (m : List SpelledAccess) (b : SpelledBody) → Begins bytes (spell_when f m b) []
    → All (IsDocument names) (names_of_when f m b) → IsOfLine names bytes (script_of names f m b)
of_when shortest names bytes f m b begins known =
    let again : unread names (script_of names f m b) ≡ record { first = f; more = m; body = tidy names b } = script_again names f m b known in
    let same : canonical_script names (script_of names f m b) ≡ canonical (spell_when f m (tidy names b)) = ap (λ (w : SpelledWhen). canonical (spell_when w.first w.more w.body)) again in
    record {
      there = script_there names f m b known;
      shortest = omega (arith, ap length same, tidy_when_shorter names f m b, shortest (spell_when f m b) bytes [] begins);
    }

of_line : CanonicalIsShortest → (names : KnownNames) (bytes : List ℕ) (script : List Part) (l : SpelledLine) → Begins bytes (spell l) [] → Means names l (line.Work (Behaviour script))
    → IsOfLine names bytes script
of_line shortest names bytes script (hello n) begins means = absurd means
of_line shortest names bytes script wait begins means = absurd means
of_line shortest names bytes script (rule asked) begins means = absurd means
of_line shortest names bytes script (when f m b) begins (faultless, is) =
    subst (IsOfLine names bytes) (sym is) (of_when shortest names bytes f m b begins faultless.known)

pub line_shortest : CanonicalIsShortest → (names : KnownNames) (bytes : List ℕ) (script : List Part) → LineOf names bytes (line.Work (Behaviour script))
    → length (canonical_script names script) ≤ length bytes
line_shortest shortest names bytes script l = (of_line shortest names bytes script l.spelled l.reads l.means).shortest

pub line_known : CanonicalIsShortest → (names : KnownNames) (bytes : List ℕ) (script : List Part) → LineOf names bytes (line.Work (Behaviour script)) → IsKnownScript names script
line_known shortest names bytes script l =
    let p = of_line shortest names bytes script l.spelled l.reads l.means in
    record { there = p.there; short = omega (arith, p.shortest, l.short) }
