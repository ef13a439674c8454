-- Texts that are put one after the other.
use Rattle.std.proofs.Common.{◌≡◌, ℕ, zero, suc, ◌+◌, ◌≤◌, Bool, true, false, List, [], ◌∷◌, ◌++◌, length, refl, sym, ap, subst, ◌∙◌, append-nil, append_assoc, add-one, ◌<◌, get_or, arith, take, length-append, take_all, drop, length-drop}
use Rattle.std.proofs.Math.Seq.{take-add, take-append-add, take-suc}
use Rattle.std.specs.Io.KnownBytes.{Appends}
use Rattle.std.proofs.KnownBytes.{Appends-nil, Appends-trans}
use Rattle.std.specs.List.{flat_map}
use Rattle.std.proofs.lemmas.Grind.{flat_map-append}
use Rattle.bl_wire.specs.Replies.{output_text}
use Rattle.bl_wire.specs.Watch.{EndState, Puts}

take-zero : (n : ℕ) (a : List ℕ) → n ≡ 0 → take n a ≡ []
take-zero n a is = ap (λ k. take k a) is

take-front-of : (n : ℕ) (a b : List ℕ) → take (length (take n a)) (a ++ b) ≡ take n a
take-front-of zero a b = refl
take-front-of (suc n) [] b = refl
take-front-of (suc n) (x ∷ a) b = ap (λ l. x ∷ l) (take-front-of n a b)

take-over-all : (n : ℕ) (a : List ℕ) → length a ≤ n → take n a ≡ a
take-over-all n a le = take_all n a le

-- no mark is set and not set
pub clash : (b : Bool) → b ≡ true → b ≡ false → ⊥
clash b yes' no' = cc

-- all of a text was put on a writer that did not fail
pub puts-all : (a : List ℕ) (x y : EndState) → Puts a x y → y.failed ≡ false → Appends x.bytes y.bytes a
puts-all a x y p fine = subst (Appends x.bytes y.bytes) (take-over-all p.much a (p.all fine)) p.bytes

pub puts-nil : (x y : EndState) → y ≡ x → Puts [] x y
puts-nil x y is = subst (Puts [] x) (sym is) (record { much = 0; bytes = Appends-nil x.bytes; all = λ fine. omega arith; none = λ failed. (refl, failed) })

pub puts-append : (a b : List ℕ) (x y z : EndState) → Puts a x y → Puts b y z → Puts (a ++ b) x z
puts-append a b x y z p q = go y.failed refl
  where
    go : (failed : Bool) → y.failed ≡ failed → Puts (a ++ b) x z
    go false fine = record {
      much = length a + q.much;
      bytes = subst (Appends x.bytes z.bytes) (sym (take-append-add a b q.much)) (Appends-trans x.bytes y.bytes z.bytes a (take q.much b) (puts-all a x y p fine) q.bytes);
      all = λ well. omega (arith, length-append a b, q.all well);
      none = λ failed. let hit = (p.none failed).1 in cc;
    }
    go true failed = record {
      much = length (take p.much a);
      bytes = subst (Appends x.bytes z.bytes)
          (ap (λ l. take p.much a ++ l) (take-zero q.much b (q.none failed).0) ∙ append-nil (take p.much a) ∙ sym (take-front-of p.much a b))
          (Appends-trans x.bytes y.bytes z.bytes (take p.much a) (take q.much b) p.bytes q.bytes);
      all = λ well. absurd (clash z.failed (q.none failed).1 well);
      none = λ was. (ap (λ k. length (take k a)) (p.none was).0, (q.none failed).1);
    }

-- the same text under another name
pub puts-is : (a t : List ℕ) (x y : EndState) → a ≡ t → Puts a x y → Puts t x y
puts-is a t x y is p = subst (λ l. Puts l x y) is p

-- two texts and three, as one
pub puts-two : (t a b : List ℕ) (x y z : EndState) → t ≡ a ++ b → Puts a x y → Puts b y z → Puts t x z
puts-two t a b x y z is p q = subst (λ l. Puts l x z) (sym is) (puts-append a b x y z p q)

pub puts-three : (t a b c : List ℕ) (x y z u : EndState) → t ≡ a ++ (b ++ c) → Puts a x y → Puts b y z → Puts c z u → Puts t x u
puts-three t a b c x y z u is p q r = puts-two t a (b ++ c) x y u is p (puts-append b c y z u q r)

pub puts-four : (t a b c d : List ℕ) (x y z u v : EndState) → t ≡ a ++ (b ++ (c ++ d)) → Puts a x y → Puts b y z → Puts c z u → Puts d u v → Puts t x v
puts-four t a b c d x y z u v is p q r s = puts-two t a (b ++ (c ++ d)) x y v is p (puts-three (b ++ (c ++ d)) b c d y z u v refl q r s)

-- the texts of a list, and one more between quotation marks
pub puts-output : (front : List ℕ) (xs : List (List ℕ)) (i : ℕ) (text d : List ℕ) (x y z : EndState) → i < length xs → text ≡ get_or xs i d
    → Puts (front ++ flat_map output_text (take i xs)) x y → Puts (output_text text) y z
    → Puts (front ++ flat_map output_text (take (i + 1) xs)) x z
puts-output front xs i text d x y z lt is p q =
    let one : flat_map output_text (take (i + 1) xs) ≡ flat_map output_text (take i xs) ++ output_text text =
    ap (λ k. flat_map output_text (take k xs)) (add-one i) ∙ ap (flat_map output_text) (take-suc xs i d lt ∙ ap (λ t. take i xs ++ t ∷ []) (sym is))
    ∙ flat_map-append output_text (take i xs) (text ∷ []) ∙ ap (λ l. flat_map output_text (take i xs) ++ l) (append-nil (output_text text)) in
    let whole : front ++ flat_map output_text (take (i + 1) xs) ≡ (front ++ flat_map output_text (take i xs)) ++ output_text text =
    ap (λ l. front ++ l) one ∙ sym (append_assoc front (flat_map output_text (take i xs)) (output_text text)) in
    puts-two _ (front ++ flat_map output_text (take i xs)) (output_text text) x y z whole p q

-- four texts, joined from the left
pub puts-line : (a b c d : List ℕ) (x y z u v : EndState) → Puts a x y → Puts b y z → Puts c z u → Puts d u v → Puts (((a ++ b) ++ c) ++ d) x v
puts-line a b c d x y z u v p q r s = puts-append ((a ++ b) ++ c) d x u v (puts-append (a ++ b) c x z u (puts-append a b x y z p q) r) s

-- a first part of a text was written to a writer that had not failed, and then the rest was put
pub puts-rest : (n : ℕ) (bytes rest : List ℕ) (x y z : EndState) → rest ≡ drop n bytes → x.failed ≡ false → Appends x.bytes y.bytes (take n bytes) → Puts rest y z → Puts bytes x z
puts-rest n bytes rest x y z is fine begun q = record {
  much = n + q.much;
  bytes = subst (Appends x.bytes z.bytes) (ap (λ l. take n bytes ++ take q.much l) is ∙ sym (take-add n q.much bytes))
      (Appends-trans x.bytes y.bytes z.bytes (take n bytes) (take q.much rest) begun q.bytes);
  all = λ well. omega (arith, ap length is, length-drop n bytes, q.all well);
  none = λ failed. absurd (clash x.failed failed fine);
}
