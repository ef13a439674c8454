-- What is in a set of triples, and that a set is no more than its members.
use Rattle.std.proofs.Common.{◌≡◌, ◌≢◌, ℕ, Bool, true, false, not, ◌&&◌, ◌||◌, ◌==◌, refl, sym, ◌∙◌, ap, subst, arith, is_some, cond, Option, Some, None, inl, inr, ◌⊎◌, true≢false}
use Rattle.std.specs.Prelude.{IsTrue, ◌↔◌}
use Rattle.std.specs.Ordering.{nat_cmp, on, then_cmp, eq_by_cmp, is_eq}
use Rattle.std.specs.declared.cmp.Ordering.TheVariants.{Equal}
use Rattle.std.specs.FinMap.Entries.{find, find-put, find-where_key, same_entries}
use Rattle.std.specs.Cmp.{both_tied, unsigned_ties, tied_itself}
use Rattle.std.proofs.lemmas.Bool.Decides.{nat_tests}
use Rattle.bl_policy.specs.declared.access.Mode.{Mode}
use Rattle.bl_policy.specs.declared.access.Mode.TheVariants.{Read, Append, Write}
use Rattle.bl_policy.specs.declared.access.ModeSet.{ModeSet}
use Rattle.bl_policy.specs.Mode.{place_of, has_mode}
use Rattle.bl_policy.specs.Matrix.{Triple, triple, triple_cmp, triple_cmp_total, Matrix, is_in, put_in, take_out, without_document, put_where, put_modes}
use Rattle.bl_policy.specs.Codes.{same_triples, mode_at, mode_at-place_of}

-- the two triples are one
abbrev pub same_triple : Triple → Triple → Bool
same_triple t u = (t.subject == u.subject) && ((t.document == u.document) && (place_of t.mode == place_of u.mode))

pub tied-same : (t u : Triple) → eq_by_cmp triple_cmp t u ≡ same_triple t u
tied-same t u =
    sym (both_tied (t.subject == u.subject) ((t.document == u.document) && (place_of t.mode == place_of u.mode)) (nat_cmp t.subject u.subject) (then_cmp (on (λ t. t.document) nat_cmp) (on (λ t. place_of t.mode) nat_cmp) t u)
    (unsigned_ties t.subject u.subject)
    (both_tied (t.document == u.document) (place_of t.mode == place_of u.mode) (nat_cmp t.document u.document) (nat_cmp (place_of t.mode) (place_of u.mode)) (unsigned_ties t.document u.document) (unsigned_ties (place_of t.mode) (place_of u.mode))))

pub three : (a b c d e f : ℕ) → ((a == b) && ((c == d) && (e == f))) ≡ true → (a ≡ b) × ((c ≡ d) × (e ≡ f))
three a b c d e f h = grind (arith, nat_tests)

pub one-of_same : (t u : Triple) → same_triple t u ≡ true → t ≡ u
one-of_same t u h =
    let e = three t.subject u.subject t.document u.document (place_of t.mode) (place_of u.mode) h in
    let modes : t.mode ≡ u.mode = sym (mode_at-place_of t.mode) ∙ ap mode_at e.1.1 ∙ mode_at-place_of u.mode in
    λ i. record { subject = e.0 i; document = e.1.0 i; mode = modes i }

pub same_itself : (t : Triple) → same_triple t t ≡ true
same_itself t = sym (tied-same t t) ∙ ap is_eq (tied_itself triple_cmp_total t)

pub same-of_one : (t u : Triple) → t ≡ u → same_triple t u ≡ true
same-of_one t u e = subst (λ (v : Triple). same_triple t v ≡ true) e (same_itself t)

pub tied-one : (t u : Triple) → triple_cmp t u ≡ Equal → t ≡ u
tied-one t u e = one-of_same t u (sym (tied-same t u) ∙ ap is_eq e)

some-or : (b : Bool) (x : Option (Unit {0})) → is_some (cond b (Some tt) x) ≡ (b || is_some x)
some-or true x = refl
some-or false x = refl

and-none : (b : Bool) (x : Option (Unit {0})) → is_some (cond b x None) ≡ (b && is_some x)
and-none true x = refl
and-none false x = refl

-- what is in the set with u: u, and what was in it
pub is_in-put_in : (m : Matrix) (u t : Triple) → is_in (put_in m u) t ≡ (same_triple t u || is_in m t)
is_in-put_in m u t =
    ap is_some (find-put triple_cmp triple_cmp_total t u tt m.triples)
    ∙ some-or (eq_by_cmp triple_cmp t u) (find triple_cmp t m.triples)
    ∙ ap (λ b. b || is_in m t) (tied-same t u)

-- what is in the set without u: what was in it, but u
pub is_in-take_out : (m : Matrix) (u t : Triple) → is_in (take_out m u) t ≡ (not (same_triple u t) && is_in m t)
is_in-take_out m u t =
    ap is_some (find-where_key triple_cmp (λ v. not (eq_by_cmp triple_cmp u v)) t (λ v e. ap (λ w. not (eq_by_cmp triple_cmp u w)) (sym (tied-one t v e))) m.triples)
    ∙ and-none (not (eq_by_cmp triple_cmp u t)) (find triple_cmp t m.triples)
    ∙ ap (λ b. not b && is_in m t) (tied-same u t)

-- what is in the set without document o: what was in it, but o's
pub is_in-without_document : (m : Matrix) (o : ℕ) (t : Triple) → is_in (without_document m o) t ≡ (not (t.document == o) && is_in m t)
is_in-without_document m o t =
    ap is_some (find-where_key triple_cmp (λ v. not (v.document == o)) t (λ v e. ap (λ w. not (w.document == o)) (sym (tied-one t v e))) m.triples)
    ∙ and-none (not (t.document == o)) (find triple_cmp t m.triples)

marked : Bool → Option (Unit {0})
marked b = cond b (Some tt) None

marks : (x : Option (Unit {0})) → x ≡ marked (is_some x)
unfolding marked
marks None = refl
marks (Some u) = refl

-- two sets with the same members are one
pub same_members_set : (a b : Matrix) → ((t : Triple) → is_in a t ≡ is_in b t) → a ≡ b
same_members_set a b each =
    same_triples a b (same_entries triple_cmp triple_cmp_total tied-one a.triples b.triples a.in_order b.in_order
    (λ t. marks (find triple_cmp t a.triples) ∙ ap marked (each t) ∙ sym (marks (find triple_cmp t b.triples))))

-- ---- a set of modes

or_false_first : (s b : Bool) → b ≡ ((s && false) || b)
or_false_first true b = refl
or_false_first false b = refl

and_true : (s b : Bool) → (s || b) ≡ ((s && true) || b)
and_true true b = refl
and_true false b = refl

is_in-put_where : (c : Bool) (m : Matrix) (u t : Triple) → is_in (put_where c u m) t ≡ ((same_triple t u && c) || is_in m t)
is_in-put_where true m u t = is_in-put_in m u t ∙ and_true (same_triple t u) (is_in m t)
is_in-put_where false m u t = or_false_first (same_triple t u) (is_in m t)

-- the triple is of this subject and document
abbrev pub is_at : Triple → ℕ → ℕ → Bool
is_at t s o = (t.subject == s) && (t.document == o)

pick_read : (a d r ap wr rest : Bool) → (((a && (d && true)) && r) || (((a && (d && false)) && ap) || (((a && (d && false)) && wr) || rest))) ≡ (((a && d) && r) || rest)
pick_read false d r ap wr rest = refl
pick_read true false r ap wr rest = refl
pick_read true true r ap wr rest = refl

pick_append : (a d r ap wr rest : Bool) → (((a && (d && false)) && r) || (((a && (d && true)) && ap) || (((a && (d && false)) && wr) || rest))) ≡ (((a && d) && ap) || rest)
pick_append false d r ap wr rest = refl
pick_append true false r ap wr rest = refl
pick_append true true r ap wr rest = refl

pick_write : (a d r ap wr rest : Bool) → (((a && (d && false)) && r) || (((a && (d && false)) && ap) || (((a && (d && true)) && wr) || rest))) ≡ (((a && d) && wr) || rest)
pick_write false d r ap wr rest = refl
pick_write true false r ap wr rest = refl
pick_write true true r ap wr rest = refl

pick : (m : Mode) (a d r ap wr rest : Bool) (modes : ModeSet) → r ≡ has_mode modes Read → ap ≡ has_mode modes Append → wr ≡ has_mode modes Write
    → (((a && (d && (place_of m == 0))) && r) || (((a && (d && (place_of m == 1))) && ap) || (((a && (d && (place_of m == 2))) && wr) || rest))) ≡ (((a && d) && has_mode modes m) || rest)
pick Read a d r ap wr rest modes e f g = pick_read a d r ap wr rest ∙ (λ i. ((a && d) && e i) || rest)
pick Append a d r ap wr rest modes e f g = pick_append a d r ap wr rest ∙ (λ i. ((a && d) && f i) || rest)
pick Write a d r ap wr rest modes e f g = pick_write a d r ap wr rest ∙ (λ i. ((a && d) && g i) || rest)

-- what is in the set with the triples of a subject, a document and a set of modes
pub is_in-put_modes : (m : Matrix) (s o : ℕ) (modes : ModeSet) (t : Triple) → is_in (put_modes m s o modes) t ≡ ((is_at t s o && has_mode modes t.mode) || is_in m t)
is_in-put_modes m s o modes t =
    let writes = put_where (has_mode modes Write) (triple s o Write) m in
    let appends = put_where (has_mode modes Append) (triple s o Append) writes in
    is_in-put_where (has_mode modes Read) appends (triple s o Read) t
    ∙ ap (λ b. (same_triple t (triple s o Read) && has_mode modes Read) || b) (is_in-put_where (has_mode modes Append) writes (triple s o Append) t
    ∙ ap (λ b. (same_triple t (triple s o Append) && has_mode modes Append) || b) (is_in-put_where (has_mode modes Write) m (triple s o Write) t))
    ∙ pick t.mode (t.subject == s) (t.document == o) (has_mode modes Read) (has_mode modes Append) (has_mode modes Write) (is_in m t) modes refl refl refl

-- ---- the laws of sets, as facts

or_cases : (a b : Bool) → (a || b) ≡ true → (a ≡ true) ⊎ (b ≡ true)
or_cases true b h = inl refl
or_cases false b h = inr h

or_first : (a b : Bool) → a ≡ true → (a || b) ≡ true
or_first a b e = ap (λ x. x || b) e

or_second : (a b : Bool) → b ≡ true → (a || b) ≡ true
or_second true b e = refl
or_second false b e = e

and_not_cases : (a b : Bool) → (not a && b) ≡ true → (a ≡ false) × (b ≡ true)
and_not_cases true b h = absurd (true≢false (sym h))
and_not_cases false b h = (refl, h)

false-of_not : (a : Bool) → (a ≡ true → ⊥) → a ≡ false
false-of_not true never = absurd (never refl)
false-of_not false never = refl

pub in-put_in : (m : Matrix) (u t : Triple) → IsTrue (is_in (put_in m u) t) ↔ ((t ≡ u) ⊎ IsTrue (is_in m t))
in-put_in m u t = ((λ h. there (or_cases (same_triple t u) (is_in m t) (sym (is_in-put_in m u t) ∙ h))), back)
  where
    there : (same_triple t u ≡ true) ⊎ (is_in m t ≡ true) → (t ≡ u) ⊎ IsTrue (is_in m t)
    there (inl e) = inl (one-of_same t u e)
    there (inr e) = inr e

    back : (t ≡ u) ⊎ IsTrue (is_in m t) → IsTrue (is_in (put_in m u) t)
    back (inl e) = is_in-put_in m u t ∙ or_first (same_triple t u) (is_in m t) (same-of_one t u e)
    back (inr e) = is_in-put_in m u t ∙ or_second (same_triple t u) (is_in m t) e

pub in-take_out : (m : Matrix) (u t : Triple) → IsTrue (is_in (take_out m u) t) ↔ ((t ≢ u) × IsTrue (is_in m t))
in-take_out m u t = (
  (λ h. let parts = and_not_cases (same_triple u t) (is_in m t) (sym (is_in-take_out m u t) ∙ h) in
      ((λ e. true≢false (sym (same-of_one u t (sym e)) ∙ parts.0)), parts.1)),
  (λ h. is_in-take_out m u t ∙ (λ i. not (false-of_not (same_triple u t) (λ e. h.0 (sym (one-of_same u t e))) i) && h.1 i)),
)

pub one_number : (a b : ℕ) → a ≡ b → (a == b) ≡ true
one_number a b e = grind (arith, nat_tests)

pub two_numbers : (a b : ℕ) → a ≢ b → (a == b) ≡ false
two_numbers a b apart = grind (arith, nat_tests)

pub in-without_document : (m : Matrix) (o : ℕ) (t : Triple) → IsTrue (is_in (without_document m o) t) ↔ ((t.document ≢ o) × IsTrue (is_in m t))
in-without_document m o t = (
  (λ h. let parts = and_not_cases (t.document == o) (is_in m t) (sym (is_in-without_document m o t) ∙ h) in
      ((λ e. true≢false (sym (one_number t.document o e) ∙ parts.0)), parts.1)),
  (λ h. is_in-without_document m o t ∙ (λ i. not (two_numbers t.document o h.0 i) && h.1 i)),
)
