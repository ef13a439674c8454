-- A script in pre-order is that of the `when` that it is read back as, by names that have each of its documents.
use Rattle.std.proofs.Common.{◌≡◌, ℕ, zero, suc, ◌+◌, ◌-◌, ◌<◌, ◌≤◌, inl, inr, Bool, true, ◌&&◌, List, [], ◌∷◌, ◌++◌, length, drop, map, get_or, refl, sym, ap, subst, ◌∙◌, append_assoc, arith, add-zero, zero-add}
use Rattle.std.specs.Prelude.{All, sum_by, ◌==◌}
use Rattle.std.proofs.lemmas.Bool.{cases_order, or_cases, and_parts, eqb-true, false≢true}
use Rattle.std.proofs.lemmas.List.{append-nil, drop-drop, drop_all, get_or-drop, length-drop}
use Rattle.std.proofs.lemmas.List.Elements.{All-cons, All-nil, All-head, All-tail, All-append, All-get_or, Contains-get_or}
use Rattle.std.proofs.lemmas.List.Sums.{sum_by-cons, sum_by-append}
use Rattle.bl_level.specs.Table.{AreDistinct}
use Rattle.bl_policy.specs.declared.access.Access.{Access}
use Rattle.bl_policy.specs.declared.access.Mode.{Mode}
use Rattle.bl_work.specs.declared.script.Condition.{Condition}
use Rattle.bl_work.specs.Building.{when_from}
use Rattle.bl_work.specs.Meaning.{whens, document_of, access_of, numbered, spawned_from, script_of}
use Rattle.bl_work.specs.Modes.{observes, alters, is_write, declares, KeepsModes}
use Rattle.bl_work.specs.Names.{KnownNames}
use Rattle.bl_work.specs.Nesting.{spawned, sizes_from, size_at, AreNumbered, IsPreorder}
use Rattle.bl_work.specs.Script.{IsBehaviour}
use Rattle.bl_work.specs.Spelled.{SpelledBody, empty, show, say, add, set, copy, pour, if_then, if_else, spawn}
use Rattle.bl_work.specs.Statements.{Statements, Nothing, Show, Say, Add, Set, Copy, Pour, If, Spawn, Part, no_part}
use Rattle.bl_write.specs.There.{AreIn, AreThere}
use Rattle.bl_write.specs.Unread.{SpelledWhen, no_when, name_at, unread_access, unread_if, unread_body, unread_when, unread_from, unread}
use Rattle.bl_work.specs.WhenFaults.{documents_in, names_in, names_of_when}
use Rattle.bl_work.proofs.Behaviours.{at_place}
use Rattle.bl_write.proofs.Knowing.{place_there, IsIn, AreOfPart}
use Rattle.bl_write.proofs.ReadBack.{IsDocument, below_from}

-- ---- names and places

-- one name stands at one place
one_index : (list : List (List ℕ)) (i j : ℕ) → AreDistinct list → i < length list → j < length list → get_or list i [] ≡ get_or list j [] → i ≡ j
one_index list i j distinct here there same =
    elim (cases_order i j) [
      | inl q ↦ q
      | inr q ↦ elim q [ inl less ↦ absurd (distinct i j [] less there same) | inr more ↦ absurd (distinct j i [] more here (sym same)) ]
    ]

-- the size of a behaviour, by the part of the script that begins with it
size_there : (list : List Part) (base k : ℕ) → get_or (sizes_from base list) k 0 ≡ get_or (sizes_from (base + k) (drop k list)) 0 0
size_there list base zero = ap (λ n. get_or (sizes_from n list) 0 0) (sym (add-zero _))
size_there [] base (suc k) = refl
size_there (part ∷ list) base (suc k) =
    let same : base + 1 + k ≡ base + suc k = omega arith in
    size_there list (base + 1) k ∙ ap (λ n. get_or (sizes_from n (drop k list)) 0 0) same

module _ (names : KnownNames) (distinct : AreDistinct names.documents) where
  abbrev count : ℕ
  count = length names.documents

  document_there : (d : ℕ) → d < count → IsDocument names (name_at names d)
  document_there d there = Contains-get_or names.documents d [] there

  -- a document has again the place that its name was taken from
  place_again : (d : ℕ) → d < count → document_of names (name_at names d) ≡ d
  place_again d there =
      let known = document_there d there in
      one_index names.documents (document_of names (name_at names d)) d distinct (place_there names (name_at names d) known) there (at_place names.documents (name_at names d) known)

  accesses_back : (list : List Access) → AreIn count list → map (access_of names) (map (unread_access names) list) ≡ list
  accesses_back [] there = refl
  accesses_back (a ∷ list) there =
      let here : document_of names (name_at names a.doc) ≡ a.doc = place_again a.doc (All-head (IsIn names) a list there) in
      let more = accesses_back list (All-tail (IsIn names) a list there) in
      λ i. record { mode = a.mode; doc = here i } ∷ more i

  accesses_known : (list : List Access) → AreIn count list → All (IsDocument names) (documents_in (map (unread_access names) list))
  accesses_known [] there = All-nil (IsDocument names)
  accesses_known (a ∷ list) there =
      All-cons (IsDocument names) (name_at names a.doc) (documents_in (map (unread_access names) list)) (document_there a.doc (All-head (IsIn names) a list there))
      (accesses_known list (All-tail (IsIn names) a list there))

  declared_in : (test : Mode → Bool) (list : List Access) (d : ℕ) → AreIn count list → declares test list d ≡ true → d < count
  declared_in test [] d there h = absurd (false≢true h)
  declared_in test (a ∷ list) d there h =
      elim (or_cases ((a.doc == d) && test a.mode) (declares test list d) h) [
        | inl q ↦ subst (λ n. n < count) (eqb-true a.doc d (and_parts (a.doc == d) (test a.mode) q).0) (All-head (IsIn names) a list there)
        | inr q ↦ declared_in test list d (All-tail (IsIn names) a list there) q
      ]

  -- ---- an `if` with an `else` before an empty body, or without it

  -- both bodies stand for the same
  record IsAlike (b c : SpelledBody) : Type 0 where
    pub whens_are : whens b ≡ whens c
    pub statements : (next : ℕ) → numbered names next b ≡ numbered names next c
    pub behaviours : (next : ℕ) → spawned_from names next b ≡ spawned_from names next c
    pub names_are : names_in b ≡ names_in c

  alike : (b : SpelledBody) → IsAlike b b
  alike b = record { whens_are = refl; statements = λ next. refl; behaviours = λ next. refl; names_are = refl }

  alike_if : (d : List ℕ) (a : Condition) (w : List ℕ) (t e r : SpelledBody) → IsAlike (unread_if names d a w t e r) (if_else d a w t e r)
  alike_if d a w t empty r = record {
    whens_are = omega arith;
    statements = λ next. ap (λ n. If (document_of names d) a w (numbered names next t) Nothing (numbered names n r)) (sym (add-zero _));
    behaviours = λ next. ap (λ n. spawned_from names next t ++ spawned_from names n r) (sym (add-zero _));
    names_are = refl;
  }
  alike_if d a w t (show x y) r = alike _
  alike_if d a w t (say x y) r = alike _
  alike_if d a w t (add x y z) r = alike _
  alike_if d a w t (set x y z) r = alike _
  alike_if d a w t (copy x y z) r = alike _
  alike_if d a w t (pour x y z) r = alike _
  alike_if d a w t (if_then x y z u v) r = alike _
  alike_if d a w t (if_else x y z u v s) r = alike _
  alike_if d a w t (spawn x y z u) r = alike _

  module _ (script : List Part) where
    -- the `when` of a behaviour stands for it and all within it, and this is its size
    record Reads (j : ℕ) (w : SpelledWhen) (size : ℕ) : Type 0 where
      pub size_is : size ≡ 1 + whens w.body
      pub within : size_at script j ≡ 1 + whens w.body
      pub behaviours : drop j script ≡ when_from names j w.first w.more w.body ++ drop (j + (1 + whens w.body)) script
      pub known : All (IsDocument names) (names_of_when w.first w.more w.body)

    -- the tables of the behaviours from this number on have the `when` of each, and its size
    abbrev ReadsFrom : ℕ → List Part → Type 0
    ReadsFrom k rest = (j : ℕ) → k ≤ j → j < length script → Reads j (below_from names k rest j) (get_or (sizes_from k rest) (j - k) 0)

    module _ (k : ℕ) (rest : List Part) (reads : ReadsFrom k rest) (accesses : List Access) (listed : AreIn count accesses) where
      -- a document that the accesses declare is there
      is_in : (test : Mode → Bool) (d : ℕ) → declares test accesses d ≡ true → d < count
      is_in test d h = declared_in test accesses d listed h

      abbrev below : ℕ → SpelledWhen
      below = below_from names k rest

      abbrev size_of : ℕ → ℕ
      size_of j = get_or (sizes_from k rest) (j - k) 0

      -- the body stands for the statements, and for the behaviours that they name, which begin at this place with these behind them
      record IsBody (b : Statements) (next : ℕ) (more : List ℕ) (u : SpelledBody) : Type 0 where
        pub statements : numbered names next u ≡ b
        pub behaviours : drop next script ≡ spawned_from names next u ++ drop (next + whens u) script
        pub known : All (IsDocument names) (names_in u)
        pub sizes : sum_by size_of (spawned b) ≡ whens u
        pub behind : AreNumbered script (next + whens u) more

      abbrev BodyOf : Statements → Type 0
      BodyOf b = (next : ℕ) (more : List ℕ) → k ≤ next → KeepsModes accesses b → AreNumbered script next (spawned b ++ more) → IsBody b next more (unread_body names below b)

      body_nothing : BodyOf Nothing
      body_nothing next more late there numbers = record {
        statements = refl;
        behaviours = ap (λ n. drop n script) (sym (add-zero _));
        known = All-nil (IsDocument names);
        sizes = refl;
        behind = subst (λ n. AreNumbered script n more) (sym (add-zero _)) numbers;
      }

      body_show : (d : ℕ) (r : Statements) → BodyOf r → BodyOf (Show d r)
      body_show d r rest_is next more late (there, others) numbers =
          let p = rest_is next more late others numbers in
          let here = place_again d (is_in observes d there) in
          record {
            statements = λ i. Show (here i) (p.statements i);
            behaviours = p.behaviours;
            known = All-cons (IsDocument names) (name_at names d) _ (document_there d (is_in observes d there)) p.known;
            sizes = p.sizes;
            behind = p.behind;
          }

      body_say : (w : List ℕ) (r : Statements) → BodyOf r → BodyOf (Say w r)
      body_say w r rest_is next more late there numbers =
          let p = rest_is next more late there numbers in
          record { statements = ap (Say w) p.statements; behaviours = p.behaviours; known = p.known; sizes = p.sizes; behind = p.behind }

      body_add : (d : ℕ) (w : List ℕ) (r : Statements) → BodyOf r → BodyOf (Add d w r)
      body_add d w r rest_is next more late (there, others) numbers =
          let p = rest_is next more late others numbers in
          let here = place_again d (is_in alters d there) in
          record {
            statements = λ i. Add (here i) w (p.statements i);
            behaviours = p.behaviours;
            known = All-cons (IsDocument names) (name_at names d) _ (document_there d (is_in alters d there)) p.known;
            sizes = p.sizes;
            behind = p.behind;
          }

      body_set : (d : ℕ) (w : List ℕ) (r : Statements) → BodyOf r → BodyOf (Set d w r)
      body_set d w r rest_is next more late (there, others) numbers =
          let p = rest_is next more late others numbers in
          let here = place_again d (is_in is_write d there) in
          record {
            statements = λ i. Set (here i) w (p.statements i);
            behaviours = p.behaviours;
            known = All-cons (IsDocument names) (name_at names d) _ (document_there d (is_in is_write d there)) p.known;
            sizes = p.sizes;
            behind = p.behind;
          }

      -- two documents, and then these names
      two_known : (d e : ℕ) (list : List (List ℕ)) → d < count → e < count → All (IsDocument names) list → All (IsDocument names) (name_at names d ∷ name_at names e ∷ list)
      two_known d e list here there known =
          All-cons (IsDocument names) (name_at names d) (name_at names e ∷ list) (document_there d here)
          (All-cons (IsDocument names) (name_at names e) list (document_there e there) known)

      body_copy : (d e : ℕ) (r : Statements) → BodyOf r → BodyOf (Copy d e r)
      body_copy d e r rest_is next more late (here, there, others) numbers =
          let p = rest_is next more late others numbers in
          let from = place_again d (is_in observes d here) in
          let to = place_again e (is_in is_write e there) in
          record {
            statements = λ i. Copy (from i) (to i) (p.statements i);
            behaviours = p.behaviours;
            known = two_known d e _ (is_in observes d here) (is_in is_write e there) p.known;
            sizes = p.sizes;
            behind = p.behind;
          }

      body_pour : (d e : ℕ) (r : Statements) → BodyOf r → BodyOf (Pour d e r)
      body_pour d e r rest_is next more late (here, there, others) numbers =
          let p = rest_is next more late others numbers in
          let from = place_again d (is_in observes d here) in
          let to = place_again e (is_in alters e there) in
          record {
            statements = λ i. Pour (from i) (to i) (p.statements i);
            behaviours = p.behaviours;
            known = two_known d e _ (is_in observes d here) (is_in alters e there) p.known;
            sizes = p.sizes;
            behind = p.behind;
          }

      -- an `if` with an `else` stands for the same
      body_alike : (b : Statements) (next : ℕ) (more : List ℕ) (u v : SpelledBody) → IsAlike u v → IsBody b next more v → IsBody b next more u
      body_alike b next more u v same p = record {
        statements = same.statements next ∙ p.statements;
        behaviours = p.behaviours ∙ (λ i. (sym (same.behaviours next)) i ++ drop (next + (sym same.whens_are) i) script);
        known = subst (All (IsDocument names)) (sym same.names_are) p.known;
        sizes = p.sizes ∙ sym same.whens_are;
        behind = subst (λ n. AreNumbered script (next + n) more) (sym same.whens_are) p.behind;
      }

      body_if : (d : ℕ) (a : Condition) (w : List ℕ) (t e r : Statements) → BodyOf t → BodyOf e → BodyOf r → BodyOf (If d a w t e r)
      body_if d a w t e r then_is else_is rest_is next more late (there, there_t, there_e, there_r) numbers =
          let u = unread_body names below t in
          let v = unread_body names below e in
          let z = unread_body names below r in
          let split : (spawned t ++ spawned e) ++ spawned r ++ more ≡ spawned t ++ (spawned e ++ (spawned r ++ more)) =
          append_assoc (spawned t ++ spawned e) (spawned r) more ∙ append_assoc (spawned t) (spawned e) (spawned r ++ more) in
          let p = then_is next (spawned e ++ (spawned r ++ more)) late there_t (subst (AreNumbered script next) split numbers) in
          let q = else_is (next + whens u) (spawned r ++ more) (omega arith) there_e p.behind in
          let s = rest_is (next + whens u + whens v) more (omega arith) there_r q.behind in
          let here = place_again d (is_in observes d there) in
          let end : next + whens u + whens v + whens z ≡ next + (whens u + (whens v + whens z)) = omega arith in
          let a_list = spawned_from names next u in
          let b_list = spawned_from names (next + whens u) v in
          let c_list = spawned_from names (next + whens u + whens v) z in
          body_alike (If d a w t e r) next more (unread_if names (name_at names d) a w u v z) (if_else (name_at names d) a w u v z) (alike_if (name_at names d) a w u v z) (record {
            statements = λ i. If (here i) a w (p.statements i) (q.statements i) (s.statements i);
            behaviours = p.behaviours ∙ ap (λ l. a_list ++ l) (q.behaviours ∙ ap (λ l. b_list ++ l) (s.behaviours ∙ ap (λ n. c_list ++ drop n script) end))
                ∙ ap (λ l. a_list ++ l) (sym (append_assoc b_list c_list (drop (next + (whens u + (whens v + whens z))) script)))
                ∙ sym (append_assoc a_list (b_list ++ c_list) (drop (next + (whens u + (whens v + whens z))) script));
            known = All-cons (IsDocument names) (name_at names d) _ (document_there d (is_in observes d there))
                (All-append (IsDocument names) (names_in u) (names_in v ++ names_in z) p.known (All-append (IsDocument names) (names_in v) (names_in z) q.known s.known));
            sizes = omega (arith, sum_by-append size_of (spawned t ++ spawned e) (spawned r), sum_by-append size_of (spawned t) (spawned e), p.sizes, q.sizes, s.sizes);
            behind = subst (λ n. AreNumbered script n more) end s.behind;
          })

      body_spawn : (j : ℕ) (r : Statements) → BodyOf r → BodyOf (Spawn j r)
      body_spawn j r rest_is next more late there (is, within, numbers) =
          let w = below j in
          let p = reads j (omega (arith, is)) within in
          let past : next + size_at script j ≡ next + 1 + whens w.body = omega (arith, p.within) in
          let z = unread_body names below r in
          let q = rest_is (next + 1 + whens w.body) more (omega arith) there (subst (λ n. AreNumbered script n (spawned r ++ more)) past numbers) in
          let end : next + 1 + whens w.body + whens z ≡ next + (1 + (whens w.body + whens z)) = omega arith in
          let here : drop next script ≡ when_from names next w.first w.more w.body ++ drop (next + (1 + whens w.body)) script =
          subst (λ n. drop n script ≡ when_from names n w.first w.more w.body ++ drop (n + (1 + whens w.body)) script) is p.behaviours in
          let same : next + (1 + whens w.body) ≡ next + 1 + whens w.body = omega arith in
          let own = when_from names next w.first w.more w.body in
          let c_list = spawned_from names (next + 1 + whens w.body) z in
          record {
            statements = λ i. Spawn ((sym is) i) (q.statements i);
            behaviours = here ∙ ap (λ l. own ++ l) (ap (λ n. drop n script) same ∙ q.behaviours ∙ ap (λ n. c_list ++ drop n script) end)
                ∙ sym (append_assoc own c_list (drop (next + (1 + (whens w.body + whens z))) script));
            known = subst (All (IsDocument names)) (append_assoc (documents_in (w.first ∷ w.more)) (names_in w.body) (names_in z))
                (All-append (IsDocument names) (names_of_when w.first w.more w.body) (names_in z) p.known q.known);
            sizes = sum_by-cons size_of j (spawned r) ∙ omega (arith, p.size_is, q.sizes);
            behind = subst (λ n. AreNumbered script n more) end q.behind;
          }

      body_is : (b : Statements) → BodyOf b
      body_is Nothing = body_nothing
      body_is (Show d r) = body_show d r (body_is r)
      body_is (Say w r) = body_say w r (body_is r)
      body_is (Add d w r) = body_add d w r (body_is r)
      body_is (Set d w r) = body_set d w r (body_is r)
      body_is (Copy d e r) = body_copy d e r (body_is r)
      body_is (Pour d e r) = body_pour d e r (body_is r)
      body_is (If d a w t e r) = body_if d a w t e r (body_is t) (body_is e) (body_is r)
      body_is (Spawn j r) = body_spawn j r (body_is r)

    -- ---- a behaviour

    -- a behaviour with accesses, and what its body stands for
    when_reads : (accesses : List Access) (u : SpelledBody) (k size : ℕ) → 0 < length accesses → AreIn count accesses → size ≡ 1 + whens u → size_at script k ≡ 1 + whens u
        → drop k script ≡ record { accesses = accesses; body = numbered names (k + 1) u } ∷ (spawned_from names (k + 1) u ++ drop (k + (1 + whens u)) script)
        → All (IsDocument names) (names_in u) → Reads k (unread_when names accesses u) size
    when_reads [] u k size some there size_is within is known = absurd (omega arith)
    when_reads (first ∷ more) u k size some there size_is within is known =
        let back = accesses_back (first ∷ more) there in
        record {
          size_is = size_is;
          within = within;
          behaviours = is ∙ ap (λ l. record { accesses = l; body = numbered names (k + 1) u } ∷ (spawned_from names (k + 1) u ++ drop (k + (1 + whens u)) script)) (sym back);
          known = All-append (IsDocument names) (documents_in (map (unread_access names) (first ∷ more))) (names_in u) (accesses_known (first ∷ more) there) known;
        }

    module _ (preorder : IsPreorder script) (each : All IsBehaviour script) (there : AreThere names script) where
      -- the first of the behaviours from this number on
      first_reads : (k : ℕ) (part : Part) (rest : List Part) → drop k script ≡ part ∷ rest → ReadsFrom (k + 1) rest
          → Reads k (get_or (unread_from names k (part ∷ rest)) 0 no_when) (get_or (sizes_from k (part ∷ rest)) 0 0)
      first_reads k part rest is reads =
          let long : k < length script = omega (arith, length-drop k script, ap length is) in
          let at : get_or script k no_part ≡ part = ap (λ n. get_or script n no_part) (sym (add-zero _)) ∙ sym (get_or-drop k script 0 no_part) ∙ ap (λ l. get_or l 0 no_part) is in
          let own : IsBehaviour part = subst IsBehaviour at (All-get_or IsBehaviour script k no_part long each) in
          let listed : AreIn count part.accesses = subst (AreOfPart names) at (All-get_or (AreOfPart names) script k no_part long there) in
          let numbers : AreNumbered script (k + 1) (spawned part.body ++ []) =
          subst (AreNumbered script (k + 1)) (sym (append-nil (spawned part.body))) (subst (λ (p : Part). AreNumbered script (k + 1) (spawned p.body)) at (preorder.numbered k long)) in
          let u = unread_body names (below_from names (k + 1) rest) part.body in
          let p = body_is (k + 1) rest reads part.accesses listed part.body (k + 1) [] (omega arith) own.modes numbers in
          let size = get_or (sizes_from k (part ∷ rest)) 0 0 in
          let size_is : size ≡ 1 + whens u = ap (λ n. 1 + n) p.sizes in
          let within : size_at script k ≡ size = size_there script 0 k ∙ (λ i. get_or (sizes_from (zero-add k i) (is i)) 0 0) in
          let next : drop (k + 1) script ≡ rest = sym (drop-drop 1 k script) ∙ ap (drop 1) is in
          let same : k + 1 + whens u ≡ k + (1 + whens u) = omega arith in
          let others : rest ≡ spawned_from names (k + 1) u ++ drop (k + (1 + whens u)) script = sym next ∙ p.behaviours ∙ ap (λ n. spawned_from names (k + 1) u ++ drop n script) same in
          when_reads part.accesses u k size own.some listed size_is (within ∙ size_is)
          (is ∙ (λ i. record { accesses = part.accesses; body = (sym p.statements) i } ∷ others i)) p.known

      -- the tables have the `when` of each of the behaviours from this number on
      more_read : (k : ℕ) (part : Part) (rest : List Part) → drop k script ≡ part ∷ rest → ReadsFrom (k + 1) rest → (n j : ℕ) → j - k ≡ n → k ≤ j → j < length script
          → Reads j (get_or (unread_from names k (part ∷ rest)) n no_when) (get_or (sizes_from k (part ∷ rest)) n 0)
      more_read k part rest is reads zero j e late within =
          let same : k ≡ j = omega arith in
          subst (λ i. Reads i (get_or (unread_from names k (part ∷ rest)) 0 no_when) (get_or (sizes_from k (part ∷ rest)) 0 0)) same (first_reads k part rest is reads)
      more_read k part rest is reads (suc n) j e late within =
          let same : j - (k + 1) ≡ n = omega arith in
          subst (λ i. Reads j (get_or (unread_from names (k + 1) rest) i no_when) (get_or (sizes_from (k + 1) rest) i 0)) same (reads j (omega arith) within)

      all_read : (rest : List Part) (k : ℕ) → drop k script ≡ rest → ReadsFrom k rest
      all_read [] k is j late within = absurd (omega (arith, length-drop k script, ap length is))
      all_read (part ∷ rest) k is j late within =
          let next : drop (k + 1) script ≡ rest = sym (drop-drop 1 k script) ∙ ap (drop 1) is in
          more_read k part rest is (all_read rest (k + 1) next) (j - k) j refl late within

      -- the whole script
      whole_reads : Reads 0 (unread names script) (get_or (sizes_from 0 script) 0 0)
      whole_reads = all_read script 0 refl 0 (omega arith) preorder.some

      pub script_is : script ≡ script_of names (unread names script).first (unread names script).more (unread names script).body
      script_is =
          let p = whole_reads in
          let long : length script ≤ 0 + (1 + whens (unread names script).body) = omega (arith, p.within, preorder.whole) in
          p.behaviours ∙ ap (λ l. script_of names (unread names script).first (unread names script).more (unread names script).body ++ l) (drop_all _ script long)
          ∙ append-nil _

      pub names_known : All (IsDocument names) (names_of_when (unread names script).first (unread names script).more (unread names script).body)
      names_known = whole_reads.known
