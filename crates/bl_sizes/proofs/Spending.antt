-- What a body shows and spawns is within what it may.
use Rattle.std.proofs.Common.{◌≡◌, ℕ, zero, suc, ◌≤◌, ◌<◌, ◌+◌, ◌-◌, Bool, true, false, cond, List, [], ◌∷◌, ◌++◌, length, get_or, refl, ap, ◌∙◌, arith}
use Rattle.std.specs.Prelude.{sum_by, max, ◌==◌}
use Rattle.std.specs.List.{AllByRecursion}
use Rattle.std.proofs.lemmas.List.Sums.{sum_by-cons}
use Rattle.bl_work.specs.Content.{added, most_bytes}
use Rattle.bl_work.specs.Effects as effect
use Rattle.bl_work.specs.Effects.{Effect, after, children, effects_from, effects_of, holds_of, outputs, seen}
use Rattle.bl_work.specs.Nesting.{spawned, size_at, AreNumbered, IsPreorder}
use Rattle.bl_work.specs.Script.{HasContents}
use Rattle.bl_work.specs.Statements.{Statements, Nothing, Show, Say, Add, Set, Copy, Pour, If, Spawn, Part, no_part}
use Rattle.bl_work.proofs.Contents.{is_added}
use Rattle.bl_sizes.specs.Sizes.{coming_from, coming_in, denied_more, most_of, run_most, shown_size}

-- ---- lists

pub each-map : {A : Type 0} (P Q : A → Type 0) (xs : List A) → ((x : A) → P x → Q x) → AllByRecursion P xs → AllByRecursion Q xs
each-map P Q [] f h = tt
each-map P Q (x ∷ xs) f h = (f x h.0, each-map P Q xs f h.1)

each-all : {A : Type 0} (P : A → Type 0) → ((x : A) → P x) → (xs : List A) → AllByRecursion P xs
each-all P f [] = tt
each-all P f (x ∷ xs) = (f x, each-all P f xs)

pub each-left : {A : Type 0} (P : A → Type 0) (xs ys : List A) → AllByRecursion P (xs ++ ys) → AllByRecursion P xs
each-left P [] ys h = tt
each-left P (x ∷ xs) ys h = (h.0, each-left P xs ys h.1)

pub each-right : {A : Type 0} (P : A → Type 0) (xs ys : List A) → AllByRecursion P (xs ++ ys) → AllByRecursion P ys
each-right P [] ys h = h
each-right P (x ∷ xs) ys h = each-right P xs ys h.1

-- ---- effects

-- each text that becomes a content is no longer than a document may be
abbrev pub AreShort : List Effect → Type 0
AreShort [] = Unit {0}
AreShort (effect.Out text ∷ es) = AreShort es
AreShort (effect.Put doc text ∷ es) = (length text ≤ most_bytes) × AreShort es
AreShort (effect.Add doc text ∷ es) = AreShort es
AreShort (effect.Child j ∷ es) = AreShort es

short-append : (es fs : List Effect) → AreShort es → AreShort fs → AreShort (es ++ fs)
short-append [] fs h k = k
short-append (effect.Out text ∷ es) fs h k = short-append es fs h k
short-append (effect.Put doc text ∷ es) fs h k = (h.0, short-append es fs h.1 k)
short-append (effect.Add doc text ∷ es) fs h k = short-append es fs h k
short-append (effect.Child j ∷ es) fs h k = short-append es fs h k

pub one_of : (b : Bool) (xs ys : List ℕ) → length xs ≤ most_bytes → length ys ≤ most_bytes → length (cond b xs ys) ≤ most_bytes
one_of true xs ys h k = h
one_of false xs ys h k = k

-- so are the contents after them
pub after-short : (content : List ℕ) (es : List Effect) (o : ℕ) → length content ≤ most_bytes → AreShort es → length (after content es o) ≤ most_bytes
after-short content [] o c h = c
after-short content (effect.Out text ∷ es) o c h = after-short content es o c h
after-short content (effect.Put d text ∷ es) o c h = after-short (cond (d == o) text content) es o (one_of (d == o) text content h.0 c) h.1
after-short content (effect.Add d text ∷ es) o c h =
    after-short (cond (d == o) (added content text) content) es o (one_of (d == o) (added content text) content (is_added content text).short c) h
after-short content (effect.Child j ∷ es) o c h = after-short content es o c h

-- what effects take: what they show, and the starts of what they spawn with what may come of it
abbrev pub spent : (ℕ → ℕ) → List Effect → ℕ
spent coming [] = 0
spent coming (effect.Out text ∷ es) = shown_size text + spent coming es
spent coming (effect.Put doc text ∷ es) = spent coming es
spent coming (effect.Add doc text ∷ es) = spent coming es
spent coming (effect.Child j ∷ es) = run_most + coming j + spent coming es

spent-append : (coming : ℕ → ℕ) (es fs : List Effect) → spent coming (es ++ fs) ≡ spent coming es + spent coming fs
spent-append coming [] fs = omega arith
spent-append coming (effect.Out text ∷ es) fs = omega (arith, spent-append coming es fs)
spent-append coming (effect.Put doc text ∷ es) fs = spent-append coming es fs
spent-append coming (effect.Add doc text ∷ es) fs = spent-append coming es fs
spent-append coming (effect.Child j ∷ es) fs = omega (arith, spent-append coming es fs)

-- that is the sum of both
pub spent-is : (coming : ℕ → ℕ) (es : List Effect) → spent coming es ≡ sum_by shown_size (outputs es) + sum_by (λ j. run_most + coming j) (children es)
spent-is coming [] = refl
spent-is coming (effect.Out text ∷ es) = omega (arith, spent-is coming es, sum_by-cons shown_size text (outputs es))
spent-is coming (effect.Put doc text ∷ es) = spent-is coming es
spent-is coming (effect.Add doc text ∷ es) = spent-is coming es
spent-is coming (effect.Child j ∷ es) = omega (arith, spent-is coming es, sum_by-cons (λ k. run_most + coming k) j (children es))

module _ (coming : ℕ → ℕ) (contents : ℕ → List ℕ) (all : (doc : ℕ) → length (contents doc) ≤ most_bytes) where
  -- the effects take no more than this, and what they write is short
  abbrev Within : List Effect → ℕ → Type 0
  Within es most = AreShort es × (spent coming es ≤ most)

  either : (b : Bool) (es fs : List Effect) (most : ℕ) → Within es most → Within fs most → Within (cond b es fs) most
  either true es fs most h k = h
  either false es fs most h k = k

  -- a body spends no more than it may
  pub spends : (body : Statements) (so_far : List Effect) → AreShort so_far → HasContents body
      → Within (effects_from contents so_far body) (spent coming so_far + most_of coming body)
  spends Nothing so_far h k = (h, omega arith)
  spends (Show doc rest) so_far h k =
      let e = effect.Out (seen contents so_far doc) ∷ [] in
      let more = spends rest (so_far ++ e) (short-append so_far e h tt) k in
      (more.0, omega (arith, more.1, spent-append coming so_far e, after-short (contents doc) so_far doc (all doc) h))
  spends (Say text rest) so_far h k =
      let e = effect.Out text ∷ [] in
      let more = spends rest (so_far ++ e) (short-append so_far e h tt) k.1 in
      (more.0, omega (arith, more.1, spent-append coming so_far e))
  spends (Add doc text rest) so_far h k =
      let e = effect.Add doc text ∷ [] in
      let more = spends rest (so_far ++ e) (short-append so_far e h tt) k.1 in
      (more.0, omega (arith, more.1, spent-append coming so_far e))
  spends (Set doc text rest) so_far h k =
      let e = effect.Put doc text ∷ [] in
      let more = spends rest (so_far ++ e) (short-append so_far e h (k.0.short, tt)) k.1 in
      (more.0, omega (arith, more.1, spent-append coming so_far e))
  spends (Copy from to rest) so_far h k =
      let e = effect.Put to (seen contents so_far from) ∷ [] in
      let more = spends rest (so_far ++ e) (short-append so_far e h (after-short (contents from) so_far from (all from) h, tt)) k in
      (more.0, omega (arith, more.1, spent-append coming so_far e))
  spends (Pour from to rest) so_far h k =
      let e = effect.Add to (seen contents so_far from) ∷ [] in
      let more = spends rest (so_far ++ e) (short-append so_far e h tt) k in
      (more.0, omega (arith, more.1, spent-append coming so_far e))
  spends (If doc asks text then_body else_body rest) so_far h k =
      let most = spent coming so_far + max (most_of coming then_body) (most_of coming else_body) in
      let first = spends then_body so_far h k.1 in
      let second = spends else_body so_far h k.2 in
      let b = holds_of asks (seen contents so_far doc) text in
      let here = either b (effects_from contents so_far then_body) (effects_from contents so_far else_body) most
      (first.0, omega (arith, first.1)) (second.0, omega (arith, second.1)) in
      let more = spends rest (cond b (effects_from contents so_far then_body) (effects_from contents so_far else_body)) here.0 k.3 in
      (more.0, omega (arith, more.1, here.1))
  spends (Spawn behaviour rest) so_far h k =
      let e = effect.Child behaviour ∷ [] in
      let more = spends rest (so_far ++ e) (short-append so_far e h tt) k in
      (more.0, omega (arith, more.1, spent-append coming so_far e))

-- ---- what may come of each behaviour

-- a body may show and spawn as much, whatever says what may come of the behaviours that it names, where that is the same
most-same : (f g : ℕ → ℕ) (b : Statements) → AllByRecursion (λ j. f j ≡ g j) (spawned b) → most_of f b ≡ most_of g b
most-same f g Nothing h = refl
most-same f g (Show doc rest) h = omega (arith, most-same f g rest h)
most-same f g (Say text rest) h = omega (arith, most-same f g rest h)
most-same f g (Add doc text rest) h = most-same f g rest h
most-same f g (Set doc text rest) h = most-same f g rest h
most-same f g (Copy from to rest) h = most-same f g rest h
most-same f g (Pour from to rest) h = most-same f g rest h
most-same f g (If doc asks text t e rest) h =
    let both = each-left (λ j. f j ≡ g j) (spawned t ++ spawned e) (spawned rest) h in
    let first = most-same f g t (each-left (λ j. f j ≡ g j) (spawned t) (spawned e) both) in
    let second = most-same f g e (each-right (λ j. f j ≡ g j) (spawned t) (spawned e) both) in
    let more = most-same f g rest (each-right (λ j. f j ≡ g j) (spawned t ++ spawned e) (spawned rest) h) in
    (λ i. max (first i) (second i) + more i)
most-same f g (Spawn behaviour rest) h = omega (arith, h.0, most-same f g rest h.1)

-- behaviours numbered one after another have at least the first number, and are the script's
pub numbered-above : (script : List Part) (next : ℕ) (js : List ℕ) → AreNumbered script next js → AllByRecursion (λ j. (next ≤ j) × (j < length script)) js
numbered-above script next [] h = tt
numbered-above script next (j ∷ js) h = (
  (omega (arith, h.0), h.1),
  each-map (λ i. (next + size_at script j ≤ i) × (i < length script)) (λ i. (next ≤ i) × (i < length script)) js (λ i k. (omega (arith, k.0), k.1))
      (numbered-above script (next + size_at script j) js h.2),
)

-- what may come, in the table of the later behaviours, and in the table with one before them
further : (first : ℕ) (rest : List ℕ) (j k : ℕ) → k < j → get_or rest (j - (k + 1)) 0 ≡ get_or (first ∷ rest) (j - k) 0
further first rest j k lt = ap (λ m. get_or (first ∷ rest) m 0) one_more
  where
    one_more : suc (j - (k + 1)) ≡ j - k
    one_more = omega (arith, lt)

comings-at : (k : ℕ) (script : List Part) (i : ℕ) → i < length script
    → ((m : ℕ) → m < length script → AllByRecursion (λ j. k + m < j) (spawned (get_or script m no_part).body))
    → get_or (coming_from k script) i 0 ≡ denied_more + most_of (λ j. get_or (coming_from k script) (j - k) 0) (get_or script i no_part).body
comings-at k [] i lt later = absurd (omega (arith, lt))
comings-at k (part ∷ rest) zero lt later =
    ap (λ v. denied_more + v)
    (most-same (λ j. get_or (coming_from (k + 1) rest) (j - (k + 1)) 0) (λ j. get_or (coming_from k (part ∷ rest)) (j - k) 0) part.body
    (each-map (λ j. k + 0 < j) (λ j. get_or (coming_from (k + 1) rest) (j - (k + 1)) 0 ≡ get_or (coming_from k (part ∷ rest)) (j - k) 0) (spawned part.body)
    (λ j h. further _ (coming_from (k + 1) rest) j k (omega (arith, h))) (later 0 (omega arith))))
comings-at k (part ∷ rest) (suc i) lt later =
    comings-at (k + 1) rest i (omega (arith, lt))
    (λ m within. each-map (λ j. k + suc m < j) (λ j. k + 1 + m < j) (spawned (get_or rest m no_part).body) (λ j h. omega (arith, h)) (later (suc m) (omega (arith, within))))
    ∙ ap (λ v. denied_more + v)
    (most-same (λ j. get_or (coming_from (k + 1) rest) (j - (k + 1)) 0) (λ j. get_or (coming_from k (part ∷ rest)) (j - k) 0) (get_or rest i no_part).body
    (each-map (λ j. k + suc i < j) (λ j. get_or (coming_from (k + 1) rest) (j - (k + 1)) 0 ≡ get_or (coming_from k (part ∷ rest)) (j - k) 0) (spawned (get_or rest i no_part).body)
    (λ j h. further _ (coming_from (k + 1) rest) j k (omega (arith, h))) (later (suc i) lt)))

-- what may come of a behaviour once its start is written: its end or its denial, and what its body may show and spawn
pub coming-is : (script : List Part) → IsPreorder script → (index : ℕ) → index < length script
    → coming_in script index ≡ denied_more + most_of (coming_in script) (get_or script index no_part).body
coming-is script preorder index within =
    comings-at 0 script index within
    (λ m lt. each-map (λ j. (m + 1 ≤ j) × (j < length script)) (λ j. 0 + m < j) (spawned (get_or script m no_part).body) (λ j h. omega (arith, h.0))
    (numbered-above script (m + 1) (spawned (get_or script m no_part).body) (preorder.numbered m lt)))
    ∙ ap (λ v. denied_more + v)
    (most-same (λ j. get_or (coming_from 0 script) (j - 0) 0) (coming_in script) (get_or script index no_part).body
    (each-all (λ j. get_or (coming_from 0 script) (j - 0) 0 ≡ coming_in script j) (λ j. ap (λ m. get_or (coming_from 0 script) m 0) (less_none j)) (spawned (get_or script index no_part).body)))
  where
    less_none : (j : ℕ) → j - 0 ≡ j
    less_none j = omega arith
