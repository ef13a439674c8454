-- Behaviours of the tests, built by hand.
use Rattle.std.proofs.Common.{◌≡◌, ◌≢◌, ℕ, zero, suc, ◌+◌, ◌-◌, ◌<◌, ◌≤◌, List, [], ◌∷◌, length, get_or, refl, ap, sym, subst, arith, lit≤}
use Rattle.std.specs.Prelude.{codes, sum_by, slice_index_or}
use Rattle.bl_policy.specs.declared.access.Access.{Access}
use Rattle.bl_policy.specs.declared.access.Mode.TheVariants.{Read, Append, Write}
use Rattle.bl_work.specs.declared.script.Condition.TheVariants.{Is, Has}
use Rattle.bl_work.specs.Statements.{Part, Nothing, Show, Say, Add, Set, Pour, If, no_part}
use Rattle.std.specs.Prelude.{IsTrue}
use Rattle.std.specs.List.{list_all}
use Rattle.bl_work.specs.Content.{is_content_byte, most_bytes, IsContent}
use Rattle.bl_work.specs.Nesting.{spawned, depth_at, AreNumbered}
use Rattle.bl_work.specs.Script.{AreApart, IsBehaviour, IsScript}
use Rattle.bl_grant.specs.Loans.{loans, entry_of}
use Rattle.bl_eval.specs.Loan.{AreFor}
use Rattle.bl_eval.proofs.Loans.{lent-contents}

numbered : (part : Part) → spawned part.body ≡ [] → (k : ℕ) → k < 1 → AreNumbered (part ∷ []) (k + 1) (spawned (slice_index_or (part ∷ []) k no_part).body)
numbered part alone zero lt = subst (λ (l : List ℕ). AreNumbered (part ∷ []) 1 l) (sym alone) tt
numbered part alone (suc k) lt = absurd (omega arith)

each : (part : Part) → IsBehaviour part → (k : ℕ) (d : Part) → k < 1 → IsBehaviour (get_or (part ∷ []) k d)
each part right zero d lt = right
each part right (suc k) d lt = absurd (omega arith)

pub one-script : (part : Part) → IsBehaviour part → spawned part.body ≡ [] → depth_at (part ∷ []) 0 ≤ 8 → IsScript (part ∷ [])
one-script part right alone shallow =
    record {
      few = lit≤ tt;
      preorder = record { some = omega arith; whole = ap (λ l. 1 + sum_by (λ j. slice_index_or [] (j - 1) 0) l) alone; numbered = numbered part alone };
      shallow = shallow;
      each = each part right;
    }

one-apart : (a : Access) → AreApart (a ∷ [])
one-apart a i j d lt lt' = absurd (omega arith)

two-apart : (a b : Access) → a.doc ≢ b.doc → AreApart (a ∷ b ∷ [])
two-apart a b ne zero zero d lt lt' = absurd (omega arith)
two-apart a b ne zero (suc zero) d lt lt' = ne
two-apart a b ne zero (suc (suc j)) d lt lt' = absurd (omega arith)
two-apart a b ne (suc i) zero d lt lt' = absurd (omega arith)
two-apart a b ne (suc i) (suc zero) d lt lt' = absurd (omega arith)
two-apart a b ne (suc i) (suc (suc j)) d lt lt' = absurd (omega arith)

is_content : (text : List ℕ) → length text ≤ most_bytes → IsTrue (list_all is_content_byte text) → IsContent text
is_content text short plain = record { short = short; plain = plain }

abbrev pub pour_part : Part
pour_part = record { accesses = record { mode = Append; doc = 2 } ∷ record { mode = Read; doc = 1 } ∷ []; body = Pour 1 2 (Show 1 Nothing) }

pub pour-right : IsBehaviour pour_part
pour-right =
    record { some = omega arith; few = omega arith; apart = two-apart (record { mode = Append; doc = 2 }) (record { mode = Read; doc = 1 }) (λ e. absurd (omega (arith, e))); modes = (refl, refl, (refl, tt)); texts = tt }

abbrev pub add_part : Part
add_part = record { accesses = record { mode = Write; doc = 0 } ∷ []; body = Add 0 (codes "xy") Nothing }

pub add-right : IsBehaviour add_part
add-right = record { some = omega arith; few = omega arith; apart = one-apart (record { mode = Write; doc = 0 }); modes = (refl, tt); texts = (is_content (codes "xy") (lit≤ tt) refl, tt) }

abbrev pub choose_part : Part
choose_part =
    record {
      accesses = record { mode = Read; doc = 1 } ∷ record { mode = Write; doc = 0 } ∷ [];
      body = If 1 Is (codes "n1") (Pour 1 0 Nothing) (Set 0 (codes "no") Nothing) (Show 0 (If 0 Has (codes "1n") (Say (codes "yes") Nothing) Nothing Nothing));
    }

pub choose-right : IsBehaviour choose_part
choose-right =
    record {
      some = omega arith;
      few = omega arith;
      apart = two-apart (record { mode = Read; doc = 1 }) (record { mode = Write; doc = 0 }) (λ e. absurd (omega (arith, e)));
      modes = (refl, (refl, refl, tt), (refl, tt), (refl, (refl, tt, tt, tt)));
      texts = (
        is_content (codes "n1") (lit≤ tt) refl,
        tt,
        (is_content (codes "no") (lit≤ tt) refl, tt),
        (is_content (codes "1n") (lit≤ tt) refl, (is_content (codes "yes") (lit≤ tt) refl, tt), tt, tt),
      );
    }

length-loans : (e : ℕ) (xs : List Access) (cs : List (List ℕ)) → length cs ≡ length xs → length (loans e xs cs) ≡ length xs
length-loans e [] cs h = refl
length-loans e (x ∷ xs) [] h = absurd (omega (arith, h))
length-loans e (x ∷ xs) (c ∷ cs) h = ap suc (length-loans e xs cs (omega (arith, h)))

-- grants as they are lent are for their entry and accesses
pub for-loans : (e : ℕ) (xs : List Access) (cs : List (List ℕ)) → length cs ≡ length xs → 0 < length xs
    → (0 < length (loans e xs cs)) × AreFor (entry_of (loans e xs cs)) xs (loans e xs cs)
for-loans e [] cs h lt = absurd (omega arith)
for-loans e (x ∷ xs) [] h lt = absurd (omega (arith, h))
for-loans e (x ∷ xs) (c ∷ cs) h lt = (
  omega arith,
  record {
    each = length-loans e (x ∷ xs) (c ∷ cs) h;
    lent = ap (loans e (x ∷ xs)) (sym (lent-contents e (x ∷ xs) (c ∷ cs) h));
  },
)
