-- The first name at fault, from part to part of a declaration.
use Rattle.std.proofs.Common.{◌≡◌, ℕ, zero, suc, ◌+◌, ◌*◌, ◌-◌, ◌<◌, ◌≤◌, Bool, true, false, not, List, [], ◌∷◌, ◌++◌, length, get_or, map, take, drop, Option, Some, None, refl, sym, ap, subst, ◌∙◌, append_assoc, length-append, inl, inr, arith}
use Rattle.std.proofs.Math.Seq.{take-append_seam}
use Rattle.std.specs.Borrow.{Bor}
use Rattle.std.specs.Prelude.{◌↔◌, Contains, IsSome, IsTrue, is_some, slice_get, unwrap_or}
use Rattle.std.proofs.lemmas.Bool.{false≢true}
use Rattle.bl_level.specs.LevelText.{LevelText, spell_level}
use Rattle.bl_level.specs.Scheme.{SchemeNames}
use Rattle.bl_work.specs.Names.{KnownNames}
use Rattle.bl_declare.specs.Declaration.{Declaration, SubjectText, DocumentText, ranks, categories, subject, document, allow}
use Rattle.bl_declare.specs.declared.fault.SetupFaultKind.{SetupFaultKind}
use Rattle.bl_declare.specs.declared.fault.SetupFaultKind.TheVariants.{Unknown, Repeated}
use Rattle.bl_declare.specs.Words.{names_of}
use Rattle.bl_setup.specs.FirstSetupFault.{SoFar, nothing, ranked, declared, IsDue, Question, is_new, is_known, IsSo, kind_of, AllHold, FirstFails, asked, asked_of_names, asked_of_categories, asked_of_level}
use Rattle.bl_setup.proofs.FaultLemmas.{fails_right}
use Rattle.bl_spot.specs.declared.asked.Asked.{Asked}
use Rattle.bl_spot.specs.declared.located.Named.{Named}
use Rattle.bl_spot.specs.declared.located.Named.TheVariants.{Rank, Category, Subject, Document}
use Rattle.bl_spot.specs.Asking.{Asking, asking, questions_of, ask_names, ask_categories, ask_level, ask_subject, ask_document, ask, FailsFirst, Fails}

pub fails_here : (q : Asking) (more : List Asking) (a : Asked) → (IsSo q.question → ⊥) → a.token ≡ q.token → a.named ≡ q.named → a.kind ≡ kind_of q.question → FailsFirst (q ∷ more) a
fails_here q more a fails token named kind =
    record { earlier = []; failing = q; later = more; split = refl; hold = tt; fails = fails; token = token; named = named; kind = kind }

pub fails_later : (q : Asking) (more : List Asking) (o : Option Asked) → IsSo q.question → Fails more o → Fails (q ∷ more) o
fails_later q more None holds f = (holds, f)
fails_later q more (Some a) holds f = record {
  earlier = q ∷ f.earlier;
  failing = f.failing;
  later = f.later;
  split = ap (λ l. q ∷ l) f.split;
  hold = (holds, f.hold);
  fails = f.fails;
  token = f.token;
  named = f.named;
  kind = f.kind;
}

pub fails_in_front : (these more : List Asking) (a : Asked) → FailsFirst these a → FailsFirst (these ++ more) a
fails_in_front these more a f = record {
  earlier = f.earlier;
  failing = f.failing;
  later = f.later ++ more;
  split = ap (λ l. l ++ more) f.split ∙ append_assoc f.earlier (f.failing ∷ f.later) more;
  hold = f.hold;
  fails = f.fails;
  token = f.token;
  named = f.named;
  kind = f.kind;
}

pub fails_behind : (these more : List Asking) (o : Option Asked) → AllHold (questions_of these) → Fails more o → Fails (these ++ more) o
fails_behind [] more o hold f = f
fails_behind (q ∷ these) more o (h, hold) f = fails_later q (these ++ more) o h (fails_behind these more o hold f)

questions_both : (these more : List Asking) → questions_of (these ++ more) ≡ questions_of these ++ questions_of more
questions_both [] more = refl
questions_both (q ∷ these) more = ap (λ l. q.question ∷ l) (questions_both these more)

-- the kind of the first that fails
pub first_kind : (askings : List Asking) (a : Asked) → FailsFirst askings a → FirstFails (questions_of askings) a.kind
first_kind askings a f =
    let here : FirstFails (f.failing.question ∷ questions_of f.later) a.kind = inl (f.kind, f.fails) in
    subst (λ l. FirstFails l a.kind) (sym (ap questions_of f.split ∙ questions_both f.earlier (f.failing ∷ f.later)))
    (fails_right (questions_of f.earlier) (f.failing.question ∷ questions_of f.later) a.kind f.hold here)

-- ---- what is asked is asked of its tokens

asks_names : (token : ℕ) (named : Named) (before names : List (List ℕ)) → questions_of (ask_names token named before names) ≡ asked_of_names before names
asks_names token named before [] = refl
asks_names token named before (n ∷ names) = ap (λ l. is_new before n ∷ l) (asks_names (suc token) named (before ++ n ∷ []) names)

asks_categories : (scheme : SchemeNames) (token : ℕ) (before names : List (List ℕ)) → questions_of (ask_categories scheme token before names) ≡ asked_of_categories scheme before names
asks_categories scheme token before [] = refl
asks_categories scheme token before (n ∷ names) =
    ap (λ l. is_known scheme.categories n ∷ is_new before n ∷ l) (asks_categories scheme (suc (suc token)) (before ++ n ∷ []) names)

asks_level : (scheme : SchemeNames) (token : ℕ) (l : LevelText) → questions_of (ask_level scheme token l) ≡ asked_of_level scheme l
asks_level scheme token l = ap (λ qs. is_known scheme.ranks l.rank ∷ qs) (asks_categories scheme (suc (suc token)) [] l.categories)

pub asks_what_is_asked : (before : SoFar) (d : Declaration) → questions_of (ask before d) ≡ asked before d
asks_what_is_asked nothing (ranks lowest higher) = asks_names 1 Rank [] (lowest ∷ higher)
asks_what_is_asked nothing (categories names) = refl
asks_what_is_asked nothing (subject s) = refl
asks_what_is_asked nothing (document d) = refl
asks_what_is_asked nothing (allow a) = refl
asks_what_is_asked (ranked names) (ranks lowest higher) = refl
asks_what_is_asked (ranked names) (categories words) = asks_names 1 Category [] words
asks_what_is_asked (ranked names) (subject s) = refl
asks_what_is_asked (ranked names) (document d) = refl
asks_what_is_asked (ranked names) (allow a) = refl
asks_what_is_asked (declared setup) (ranks lowest higher) = refl
asks_what_is_asked (declared setup) (categories names) = refl
asks_what_is_asked (declared setup) (subject s) =
    ap (λ l. is_new setup.names.subjects s.name ∷ l)
    (questions_both (ask_level setup.names.scheme 3 s.greatest) (ask_level setup.names.scheme (4 + length (spell_level s.greatest)) s.current)
    ∙ ap (λ l. l ++ questions_of (ask_level setup.names.scheme (4 + length (spell_level s.greatest)) s.current)) (asks_level setup.names.scheme 3 s.greatest)
    ∙ ap (λ l. asked_of_level setup.names.scheme s.greatest ++ l) (asks_level setup.names.scheme (4 + length (spell_level s.greatest)) s.current))
asks_what_is_asked (declared setup) (document d) = ap (λ l. is_new setup.names.documents d.name ∷ l) (asks_level setup.names.scheme 2 d.level)
asks_what_is_asked (declared setup) (allow a) = refl

-- ---- from name to name

-- these names were looked at, in front of the rest, and the rest decides
pub record Looked (token : ℕ) (named : Named) (names rest : List (Bor (List ℕ))) (count : ℕ) : Type 0 where
  pub front : List (Bor (List ℕ))
  pub split : names ≡ front ++ rest
  pub counted : count ≡ length front
  pub decides : (o : Option Asked) → Fails (ask_names (token + count) named (names_of front) (names_of rest)) o → Fails (ask_names token named [] (names_of names)) o

pub looked_none : (token : ℕ) (named : Named) (names : List (Bor (List ℕ))) → Looked token named names names 0
looked_none token named names = record {
  front = [];
  split = refl;
  counted = refl;
  decides = λ o f. let e : token + 0 ≡ token = omega arith in subst (λ n. Fails (ask_names n named [] (names_of names)) o) e f;
}

names_push : (names : List (Bor (List ℕ))) (n : Bor (List ℕ)) → names_of (names ++ n ∷ []) ≡ names_of names ++ n.now ∷ []
names_push [] n = refl
names_push (x ∷ names) n = ap (λ l. x.now ∷ l) (names_push names n)

pub front_taken : (names front rest : List (Bor (List ℕ))) (count : ℕ) → names ≡ front ++ rest → count ≡ length front → take count names ≡ front
front_taken names front rest count split counted = ap (λ k. take k names) counted ∙ ap (take (length front)) split ∙ take-append_seam front rest

module _ (token : ℕ) (named : Named) (names behind : List (Bor (List ℕ))) (n : Bor (List ℕ)) (count : ℕ) (l : Looked token named names (n ∷ behind) count) where
  pub looked_more : (Contains (names_of l.front) n.now → ⊥) → Looked token named names behind (count + 1)
  looked_more new = record {
    front = l.front ++ n ∷ [];
    split = l.split ∙ sym (append_assoc l.front (n ∷ []) behind);
    counted = omega (arith, l.counted, length-append l.front (n ∷ []));
    decides = λ o f.
        let on : token + (count + 1) ≡ suc (token + count) = omega arith in
        let g = subst (λ ns. Fails (ask_names (suc (token + count)) named ns (names_of behind)) o) (names_push l.front n)
        (subst (λ k. Fails (ask_names k named (names_of (l.front ++ n ∷ [])) (names_of behind)) o) on f)
        in
        l.decides o (fails_later (asking (token + count) named (is_new (names_of l.front) n.now)) _ o new g);
  }

  pub looked_repeated : Contains (names_of l.front) n.now → FailsFirst (ask_names token named [] (names_of names)) (record { token = token + count; named = named; kind = Repeated })
  looked_repeated there = l.decides (Some _) (fails_here (asking (token + count) named (is_new (names_of l.front) n.now)) _ _ (λ new. new there) refl refl refl)

pub looked_all : (token : ℕ) (named : Named) (names rest : List (Bor (List ℕ))) (count : ℕ) → Looked token named names rest count → rest ≡ []
    → AllHold (questions_of (ask_names token named [] (names_of names)))
looked_all token named names rest count l e =
    let at = l.decides None in
    at (subst (λ x. Fails (ask_names (token + count) named (names_of l.front) (names_of x)) None) (sym e) tt)

-- these categories were looked at, in front of the rest, and the rest decides
pub record Passed (scheme : SchemeNames) (token : ℕ) (names rest : List (Bor (List ℕ))) (count : ℕ) : Type 0 where
  pub front : List (Bor (List ℕ))
  pub split : names ≡ front ++ rest
  pub counted : count ≡ length front
  pub decides : (o : Option Asked) → Fails (ask_categories scheme (token + 2 * count) (names_of front) (names_of rest)) o → Fails (ask_categories scheme token [] (names_of names)) o

pub passed_none : (scheme : SchemeNames) (token : ℕ) (names : List (Bor (List ℕ))) → Passed scheme token names names 0
passed_none scheme token names = record {
  front = [];
  split = refl;
  counted = refl;
  decides = λ o f. let e : token + 2 * 0 ≡ token = omega arith in subst (λ n. Fails (ask_categories scheme n [] (names_of names)) o) e f;
}

module _ (scheme : SchemeNames) (token : ℕ) (names behind : List (Bor (List ℕ))) (n : Bor (List ℕ)) (count : ℕ) (l : Passed scheme token names (n ∷ behind) count) where
  abbrev known_asked : Asking
  known_asked = asking (token + 2 * count) Category (is_known scheme.categories n.now)

  abbrev new_asked : Asking
  new_asked = asking (token + 2 * count) Category (is_new (names_of l.front) n.now)

  pub passed_more : Contains scheme.categories n.now → (Contains (names_of l.front) n.now → ⊥) → Passed scheme token names behind (count + 1)
  passed_more known new = record {
    front = l.front ++ n ∷ [];
    split = l.split ∙ sym (append_assoc l.front (n ∷ []) behind);
    counted = omega (arith, l.counted, length-append l.front (n ∷ []));
    decides = λ o f.
        let on : token + 2 * (count + 1) ≡ suc (suc (token + 2 * count)) = omega arith in
        let g = subst (λ ns. Fails (ask_categories scheme (suc (suc (token + 2 * count))) ns (names_of behind)) o) (names_push l.front n)
        (subst (λ k. Fails (ask_categories scheme k (names_of (l.front ++ n ∷ [])) (names_of behind)) o) on f)
        in
        l.decides o (fails_later known_asked (new_asked ∷ ask_categories scheme (suc (suc (token + 2 * count))) (names_of l.front ++ n.now ∷ []) (names_of behind)) o known
        (fails_later new_asked (ask_categories scheme (suc (suc (token + 2 * count))) (names_of l.front ++ n.now ∷ []) (names_of behind)) o new g));
  }

  pub passed_unknown : (Contains scheme.categories n.now → ⊥) → FailsFirst (ask_categories scheme token [] (names_of names)) (record { token = token + 2 * count; named = Category; kind = Unknown })
  passed_unknown unknown = l.decides (Some _) (fails_here known_asked _ _ unknown refl refl refl)

  pub passed_repeated : Contains scheme.categories n.now → Contains (names_of l.front) n.now
      → FailsFirst (ask_categories scheme token [] (names_of names)) (record { token = token + 2 * count; named = Category; kind = Repeated })
  passed_repeated known there = l.decides (Some _) (fails_later known_asked _ (Some _) known (fails_here new_asked _ _ (λ new. new there) refl refl refl))

pub passed_all : (scheme : SchemeNames) (token : ℕ) (names rest : List (Bor (List ℕ))) (count : ℕ) → Passed scheme token names rest count → rest ≡ []
    → AllHold (questions_of (ask_categories scheme token [] (names_of names)))
passed_all scheme token names rest count l e =
    let at = l.decides None in
    at (subst (λ x. Fails (ask_categories scheme (token + 2 * count) (names_of l.front) (names_of x)) None) (sym e) tt)

-- ---- names among others

pub among_here : (names : List (Bor (List ℕ))) (n : Bor (List ℕ)) → Contains (names_of (n ∷ names)) n.now
among_here names n = (0, omega arith, refl)

pub among_behind : (names : List (Bor (List ℕ))) (other : Bor (List ℕ)) (n : List ℕ) → Contains (names_of names) n → Contains (names_of (other ∷ names)) n
among_behind names other n (k, within, at) = (suc k, omega (arith, within), at)

pub among_others : (names : List (Bor (List ℕ))) (other : Bor (List ℕ)) (n : List ℕ) → (other.now ≡ n → ⊥) → Contains (names_of (other ∷ names)) n → Contains (names_of names) n
among_others names other n differs (zero, within, at) = absurd (differs at)
among_others names other n differs (suc k, within, at) = (k, omega (arith, within), at)

pub among_none : (rest : List (Bor (List ℕ))) (n : List ℕ) → length rest < 1 → Contains (names_of rest) n → ⊥
among_none [] n none (k, within, at) = omega (arith, within)
among_none (x ∷ rest) n none there = omega (arith, none)

-- what a slice has where it has nothing
abbrev pub no_name : Bor (List ℕ)
no_name = record { ref_ptr = (0, 0); now = [] }

-- one name is looked at, and it is not the one that is looked for
pub among_rest : (names rest : List (Bor (List ℕ))) (n : List ℕ) (same : Bool) → 1 ≤ length rest → (IsTrue same ↔ ((get_or rest 0 no_name).now ≡ n)) → same ≡ false
    → (Contains (names_of names) n ↔ Contains (names_of rest) n) → Contains (names_of names) n ↔ Contains (names_of (drop 1 rest)) n
among_rest names [] n same some is not_same l = absurd (omega (arith, some))
among_rest names (other ∷ behind) n same some is not_same l =
    let differs : other.now ≡ n → ⊥ = λ e. false≢true (sym not_same ∙ is.1 e) in
    (λ there. among_others behind other n differs (l.0 there), λ there. l.1 (among_behind behind other n there))

-- or it is
pub among_first : (names rest : List (Bor (List ℕ))) (n : List ℕ) (same : Bool) → 1 ≤ length rest → (IsTrue same ↔ ((get_or rest 0 no_name).now ≡ n)) → same ≡ true
    → (Contains (names_of names) n ↔ Contains (names_of rest) n) → Contains (names_of names) n
among_first names [] n same some is is_same l = absurd (omega (arith, some))
among_first names (other ∷ behind) n same some is is_same l = l.1 (subst (λ x. Contains (names_of (other ∷ behind)) x) (is.0 is_same) (among_here behind other))

pub nil_below : (rest : List (Bor (List ℕ))) → length rest < 1 → rest ≡ []
nil_below [] none = refl
nil_below (x ∷ rest) none = absurd (omega (arith, none))

-- ---- one name more is looked at

module _ (token : ℕ) (named : Named) (names : List (Bor (List ℕ))) (count : ℕ) where
  pub looked_rest : (rest : List (Bor (List ℕ))) → Looked token named names rest count → 1 ≤ length rest
      → (same : Bool) → (IsTrue same ↔ Contains (names_of (take count names)) (get_or rest 0 no_name).now) → same ≡ false → Looked token named names (drop 1 rest) (count + 1)
  looked_rest [] l some same is not_same = absurd (omega (arith, some))
  looked_rest (n ∷ behind) l some same is not_same =
      let taken = front_taken names l.front (n ∷ behind) count l.split l.counted in
      looked_more token named names behind n count l (λ there. false≢true (sym not_same ∙ is.1 (subst (λ ns. Contains (names_of ns) n.now) (sym taken) there)))

  pub looked_found : (rest : List (Bor (List ℕ))) → Looked token named names rest count → 1 ≤ length rest
      → (same : Bool) → (IsTrue same ↔ Contains (names_of (take count names)) (get_or rest 0 no_name).now) → same ≡ true
      → FailsFirst (ask_names token named [] (names_of names)) (record { token = token + count; named = named; kind = Repeated })
  looked_found [] l some same is is_same = absurd (omega (arith, some))
  looked_found (n ∷ behind) l some same is is_same =
      let taken = front_taken names l.front (n ∷ behind) count l.split l.counted in
      looked_repeated token named names behind n count l (subst (λ ns. Contains (names_of ns) n.now) taken (is.0 is_same))

module _ (scheme : SchemeNames) (token : ℕ) (names : List (Bor (List ℕ))) (count : ℕ) (known : List (List ℕ)) (known_is : known ≡ scheme.categories) where
  pub passed_rest : (rest : List (Bor (List ℕ))) → Passed scheme token names rest count → 1 ≤ length rest → Contains known (get_or rest 0 no_name).now
      → (same : Bool) → (IsTrue same ↔ Contains (names_of (take count names)) (get_or rest 0 no_name).now) → same ≡ false → Passed scheme token names (drop 1 rest) (count + 1)
  passed_rest [] l some there same is not_same = absurd (omega (arith, some))
  passed_rest (n ∷ behind) l some there same is not_same =
      let taken = front_taken names l.front (n ∷ behind) count l.split l.counted in
      passed_more scheme token names behind n count l (subst (λ ns. Contains ns n.now) known_is there)
      (λ before. false≢true (sym not_same ∙ is.1 (subst (λ ns. Contains (names_of ns) n.now) (sym taken) before)))

  pub passed_absent : (rest : List (Bor (List ℕ))) → Passed scheme token names rest count → 1 ≤ length rest → (Contains known (get_or rest 0 no_name).now → ⊥)
      → FailsFirst (ask_categories scheme token [] (names_of names)) (record { token = token + 2 * count; named = Category; kind = Unknown })
  passed_absent [] l some absent = absurd (omega (arith, some))
  passed_absent (n ∷ behind) l some absent =
      passed_unknown scheme token names behind n count l (λ there. absent (subst (λ ns. Contains ns n.now) (sym known_is) there))

  pub passed_found : (rest : List (Bor (List ℕ))) → Passed scheme token names rest count → 1 ≤ length rest → Contains known (get_or rest 0 no_name).now
      → (same : Bool) → (IsTrue same ↔ Contains (names_of (take count names)) (get_or rest 0 no_name).now) → same ≡ true
      → FailsFirst (ask_categories scheme token [] (names_of names)) (record { token = token + 2 * count; named = Category; kind = Repeated })
  passed_found [] l some there same is is_same = absurd (omega (arith, some))
  passed_found (n ∷ behind) l some there same is is_same =
      let taken = front_taken names l.front (n ∷ behind) count l.split l.counted in
      passed_repeated scheme token names behind n count l (subst (λ ns. Contains ns n.now) known_is there) (subst (λ ns. Contains (names_of ns) n.now) taken (is.0 is_same))

-- the ranks are asked where they are due
pub ranks_asked : (after : SoFar) (lowest : List ℕ) (higher : List (List ℕ)) (o : Option Asked) → IsDue after (ranks lowest higher) → Fails (ask_names 1 Rank [] (lowest ∷ higher)) o
    → Fails (ask after (ranks lowest higher)) o
ranks_asked nothing lowest higher o due f = f
ranks_asked (ranked names) lowest higher o due f = absurd due
ranks_asked (declared setup) lowest higher o due f = absurd due

take_suc : (xs : List (List ℕ)) (i : ℕ) (x : List ℕ) → slice_get xs i ≡ Some x → take (suc i) xs ≡ take i xs ++ x ∷ []
take_suc [] i x e = absurd (cc)
take_suc (y ∷ xs) zero x e = let same : y ≡ x = ap (λ o. unwrap_or o y) e in ap (λ z. z ∷ []) same
take_suc (y ∷ xs) (suc i) x e = ap (λ l. y ∷ l) (take_suc xs i x e)

take_next : (xs : List (List ℕ)) (i : ℕ) (x : List ℕ) → slice_get xs i ≡ Some x → take (i + 1) xs ≡ take i xs ++ x ∷ []
take_next xs i x e = let on : i + 1 ≡ suc i = omega arith in ap (λ k. take k xs) on ∙ take_suc xs i x e

-- one name more is listed
pub pushed_next : (xs items new : List (List ℕ)) (i : ℕ) (x copy : List ℕ) → new ≡ items ++ copy ∷ [] → copy ≡ x → items ≡ take i xs → slice_get xs i ≡ Some x → new ≡ take (i + 1) xs
pushed_next xs items new i x copy pushed same before at =
    pushed ∙ ap (λ y. items ++ y ∷ []) same ∙ ap (λ l. l ++ x ∷ []) before ∙ sym (take_next xs i x at)

-- ---- what a look-up tells

pub none_there : {T : Type 0} (P : Type 0) (o : Option T) (b : Bool) → is_some o ≡ not b → b ≡ true → (IsSome o ↔ P) → P → ⊥
none_there P o b e t f p = false≢true (sym (e ∙ ap not t) ∙ f.1 p)

pub not_none_there : {T : Type 0} (P : Type 0) (o : Option T) (b : Bool) → is_some o ≡ not b → b ≡ false → (IsSome o ↔ P) → P
not_none_there P o b e t f = f.0 (e ∙ ap not t)

pub some_there : {T : Type 0} (P : Type 0) (o : Option T) (b : Bool) → b ≡ is_some o → b ≡ true → (IsSome o ↔ P) → P
some_there P o b e t f = f.0 (sym e ∙ t)

pub not_some_there : {T : Type 0} (P : Type 0) (o : Option T) (b : Bool) → b ≡ is_some o → b ≡ false → (IsSome o ↔ P) → P → ⊥
not_some_there P o b e t f p = false≢true (sym t ∙ e ∙ f.1 p)

-- ---- levels and lines

pub level_unknown : (scheme : SchemeNames) (token : ℕ) (l : LevelText) → (Contains scheme.ranks l.rank → ⊥) → FailsFirst (ask_level scheme token l) (record { token = token; named = Rank; kind = Unknown })
level_unknown scheme token l unknown = fails_here (asking token Rank (is_known scheme.ranks l.rank)) _ _ unknown refl refl refl

pub level_behind : (scheme : SchemeNames) (token : ℕ) (l : LevelText) (o : Option Asked) → Contains scheme.ranks l.rank → Fails (ask_categories scheme (token + 2) [] l.categories) o
    → Fails (ask_level scheme token l) o
level_behind scheme token l o known f =
    let on : token + 2 ≡ suc (suc token) = omega arith in
    fails_later (asking token Rank (is_known scheme.ranks l.rank)) (ask_categories scheme (suc (suc token)) [] l.categories) o known
    (subst (λ k. Fails (ask_categories scheme k [] l.categories) o) on f)

module _ (names : KnownNames) (s : SubjectText) where
  abbrev greatest_asked : List Asking
  greatest_asked = ask_level names.scheme 3 s.greatest

  abbrev current_asked : List Asking
  current_asked = ask_level names.scheme (4 + length (spell_level s.greatest)) s.current

  pub subject_repeated : Contains names.subjects s.name → FailsFirst (ask_subject names s) (record { token = 1; named = Subject; kind = Repeated })
  subject_repeated there = fails_here (asking 1 Subject (is_new names.subjects s.name)) (greatest_asked ++ current_asked) _ (λ new. new there) refl refl refl

  pub subject_greatest : (a : Asked) → (Contains names.subjects s.name → ⊥) → FailsFirst greatest_asked a → FailsFirst (ask_subject names s) a
  subject_greatest a new f =
      fails_later (asking 1 Subject (is_new names.subjects s.name)) (greatest_asked ++ current_asked) (Some a) new (fails_in_front greatest_asked current_asked a f)

  pub subject_current : (o : Option Asked) → (Contains names.subjects s.name → ⊥) → AllHold (questions_of greatest_asked) → Fails current_asked o → Fails (ask_subject names s) o
  subject_current o new hold f =
      fails_later (asking 1 Subject (is_new names.subjects s.name)) (greatest_asked ++ current_asked) o new (fails_behind greatest_asked current_asked o hold f)

module _ (names : KnownNames) (d : DocumentText) where
  pub document_repeated : Contains names.documents d.name → FailsFirst (ask_document names d) (record { token = 1; named = Document; kind = Repeated })
  document_repeated there = fails_here (asking 1 Document (is_new names.documents d.name)) (ask_level names.scheme 2 d.level) _ (λ new. new there) refl refl refl

  pub document_level : (o : Option Asked) → (Contains names.documents d.name → ⊥) → Fails (ask_level names.scheme 2 d.level) o → Fails (ask_document names d) o
  document_level o new f = fails_later (asking 1 Document (is_new names.documents d.name)) (ask_level names.scheme 2 d.level) o new f
