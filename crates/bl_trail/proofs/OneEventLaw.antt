-- A line is the text of one event at most.
use Rattle.std.proofs.Common.{◌≡◌, ◌≢◌, ℕ, zero, suc, ◌+◌, ◌<◌, ◌≤◌, ◌^◌, true, false, List, [], ◌∷◌, ◌++◌, length, get_or, drop, refl, sym, ◌∙◌, ap, subst, inl, inr, arith, ◌⊎◌, true≢false, lit<}
use Rattle.std.specs.Prelude.{Some, codes, decimal, IsTrue, AllPairs, ◌==◌}
use Rattle.std.proofs.lemmas.Bool.Decides.{nat_tests}
use Rattle.std.proofs.lemmas.Fmt.{decimal_by_steps, decimal_injective}
use Rattle.bl_write.specs.CanonicalLine.{canonical_line}
use Rattle.bl_work.specs.Names.{KnownNames}
use Rattle.bl_work.specs.LineGrammar.{LineOf}
use Rattle.bl_work.specs.declared.answer.Answer.{Answer}
use Rattle.bl_work.specs.declared.answer.Answer.TheVariants.{Done, RuleDone, Denied, Lost}
use Rattle.bl_work.specs.declared.asked.Line.TheVariants as line
use Rattle.bl_work.specs.declared.work.Work.{Work}
use Rattle.bl_order.specs.Machine.{State, Event, Opens, Admits, Starts, Ends, Loses, Needs, past_at, Phase, Waiting, is_running, runs, MayStart}
use Rattle.bl_setup.specs.Agreement.{Agree}
use Rattle.bl_trail.specs.Asks.{before, behind, HasNo}
use Rattle.bl_trail.specs.EventText.{event_text, start_words}
use Rattle.bl_wire.specs.Replies.{answer_text}
use Rattle.bl_trail.specs.OneEvent.{Reads, IsSmall}
use Rattle.bl_work.specs.Readable.{IsReadable}
use Rattle.bl_trail.proofs.Words.{before-word, behind-word, before-all}

-- a number has no byte below its digits
module _ (sign : ℕ) (low : sign < 48) where
  none-append : (a b : List ℕ) → HasNo sign a → HasNo sign b → HasNo sign (a ++ b)
  none-append [] b h k = k
  none-append (x ∷ a) b h k = (h.0, none-append a b h.1 k)

  digit : (n : ℕ) → n < 10 → HasNo sign ((48 + n) ∷ [])
  digit n lt = ((λ h. absurd (omega (arith, h, low))), tt)

  last_digit : (n : ℕ) → HasNo sign ((48 + n) ∷ [])
  last_digit n = ((λ h. absurd (omega (arith, h, low))), tt)

  pub decimal-has_no : (n : ℕ) → n < 2 ^ 64 → HasNo sign (decimal n)
  decimal-has_no n lt = decimal_by_steps (λ m ds. HasNo sign ds) digit (λ m ds le h. none-append ds _ h (last_digit _)) n lt

pub decimal-no_space : (n : ℕ) → n < 2 ^ 64 → HasNo 32 (decimal n)
decimal-no_space n lt = decimal-has_no 32 (lit< tt) n lt

-- a number, and what stands behind its space
pub number-cut : (t : List ℕ) (n : ℕ) (rest : List ℕ) → n < 2 ^ 32 → t ≡ decimal n ++ (32 ∷ rest) → (before 32 t ≡ decimal n) × (behind 32 t ≡ Some rest)
number-cut t n rest small is =
    let none : HasNo 32 (decimal n) = decimal-no_space n (omega arith) in
    (ap (before 32) is ∙ before-word 32 (decimal n) rest none, ap (behind 32) is ∙ behind-word 32 (decimal n) rest none)

-- what may stand behind a number
abbrev IsBehind : List ℕ → Type 0
IsBehind words = (words ≡ []) ⊎ ((rest : List ℕ) × (words ≡ 32 ∷ rest))

append-nil : (a : List ℕ) → a ++ [] ≡ a
append-nil [] = refl
append-nil (x ∷ a) = ap (λ l. x ∷ l) (append-nil a)

before-number : (n : ℕ) (words : List ℕ) → n < 2 ^ 32 → IsBehind words → before 32 (decimal n ++ words) ≡ decimal n
before-number n words small (inl none) = ap (λ w. before 32 (decimal n ++ w)) none ∙ ap (before 32) (append-nil (decimal n)) ∙ before-all 32 (decimal n) (decimal-no_space n (omega arith))
before-number n words small (inr t) = ap (λ w. before 32 (decimal n ++ w)) t.1 ∙ before-word 32 (decimal n) t.0 (decimal-no_space n (omega arith))

-- of two numbers with words behind them, the numbers are the same
one_number : (m n : ℕ) (a b : List ℕ) → m < 2 ^ 32 → n < 2 ^ 32 → IsBehind a → IsBehind b → decimal m ++ a ≡ decimal n ++ b → m ≡ n
one_number m n a b sm sn ia ib h =
    decimal_injective m n (omega arith) (omega arith) (sym (before-number m a sm ia) ∙ ap (before 32) h ∙ before-number n b sn ib)

some_injective : {a b : List ℕ} → Some a ≡ Some b → a ≡ b
some_injective h = cc

-- and so is what stands behind the space
one_rest : (m n : ℕ) (a b : List ℕ) → m < 2 ^ 32 → n < 2 ^ 32 → decimal m ++ (32 ∷ a) ≡ decimal n ++ (32 ∷ b) → a ≡ b
one_rest m n a b sm sn h =
    some_injective (sym (behind-word 32 (decimal m) a (decimal-no_space m (omega arith))) ∙ ap (behind 32) h ∙ behind-word 32 (decimal n) b (decimal-no_space n (omega arith)))

starts-behind : (names : KnownNames) (a : Answer) → IsBehind (start_words names a)
starts-behind names (Done shown) = inr (_, refl)
starts-behind names RuleDone = inr (_, refl)
starts-behind names (Denied d) = inr (_, refl)
starts-behind names Lost = inr (_, refl)

answer-behind : (names : KnownNames) (a : Answer) → IsBehind (answer_text names a)
answer-behind names (Done shown) = inr (_, refl)
answer-behind names RuleDone = inr (_, refl)
answer-behind names (Denied d) = inr (_, refl)
answer-behind names Lost = inr (_, refl)

-- of two places of a table with one name, there is one
one_name : (names : List (List ℕ)) → AllPairs (λ a b. a ≢ b) names → (m n : ℕ) → m < length names → n < length names → get_or names m [] ≡ get_or names n [] → m ≡ n
one_name names apart m n lm ln h = go (order m n)
  where
    order : (m n : ℕ) → (m ≡ n) ⊎ ((m < n) ⊎ (n < m))
    order m n = grind arith

    go : (m ≡ n) ⊎ ((m < n) ⊎ (n < m)) → m ≡ n
    go (inl e) = e
    go (inr (inl lt)) = absurd (apart m n [] lt ln h)
    go (inr (inr lt)) = absurd (apart n m [] lt lm (sym h))

running_within : (ps : List Phase) (n : ℕ) → is_running (get_or ps n Waiting) ≡ true → n < length ps
running_within [] n h = absurd (true≢false (sym h))
running_within (p ∷ ps) zero h = omega arith
running_within (p ∷ ps) (suc n) h = let lt : n < length ps = running_within ps n h in omega arith

-- the third byte tells events of two kinds apart, and each of them from `stop`
pub kind : List ℕ → ℕ
kind l = get_or l 2 0

itself : (n : ℕ) → (n == n) ≡ true
itself n = grind (arith, nat_tests)

pub told_apart : (m n : ℕ) → (m == n) ≡ false → m ≡ n → ⊥
told_apart m n h e = absurd (true≢false (sym (ap (λ k. k == n) e ∙ itself n) ∙ h))

-- the numbers that events name
module _ (x : State) (small : IsSmall x) where
  pub start_small : (n : ℕ) → MayStart x n → n < 2 ^ 32
  start_small n may = let a : n < length x.order = may.there in let b : length x.order ≤ 100000 = small.order in omega arith

  pub run_small : (n : ℕ) → IsTrue (runs x n) → n < 2 ^ 32
  run_small n r = let a : n < length x.phases = running_within x.phases n r in let b : length x.phases ≤ 100000 = small.phases in omega arith

  pub loss_small : (n : ℕ) → IsTrue (runs x n) ⊎ MayStart x n → n < 2 ^ 32
  loss_small n (inl r) = run_small n r
  loss_small n (inr may) = start_small n may

  pub session_small : (i : ℕ) → i < length x.sessions → i < 2 ^ 32
  session_small i lt = let b : length x.sessions ≤ 1000 = small.sessions in omega arith

module _ (x : State) (reads : Reads x.setup.names) (agree : Agree x.setup) (small : IsSmall x) where
  one_work : (v w : Work) → IsReadable x.setup.names v → IsReadable x.setup.names w
      → canonical_line x.setup.names (line.Work v) ≡ canonical_line x.setup.names (line.Work w) → v ≡ w
  one_work v w rv rw_ h = same (reads.one _ (line.Work v) (line.Work w) (reads.again v rv) (subst (λ bytes. LineOf x.setup.names bytes (line.Work w)) (sym h) (reads.again w rw_)))
    where
      same : line.Work v ≡ line.Work w → v ≡ w
      same e = cc

  -- the text of an event is not `stop`
  pub not_stop : (e : Event) → event_text x e ≡ codes "stop" → ⊥
  unfolding kind
  not_stop (Opens s) h = told_apart 101 111 refl (ap kind h)
  not_stop (Admits i k w) h = told_apart 110 111 refl (ap kind h)
  not_stop (Starts n) h = told_apart 97 111 refl (ap kind h)
  not_stop (Ends n) h = told_apart 100 111 refl (ap kind h)
  not_stop (Loses n) h = told_apart 115 111 refl (ap kind h)

  -- the text of an event is no other event's
  pub one_event : (e f : Event) → Needs x e → Needs x f → event_text x e ≡ event_text x f → e ≡ f
  unfolding kind
  one_event (Opens s) (Opens t) p q h = ap Opens (one_name x.setup.names.subjects reads.names_are.subjects.distinct s t (omega (arith, p.0, agree.subjects)) (omega (arith, q.0, agree.subjects)) (ap (drop 5) h))
  one_event (Admits i k v) (Admits j l w) p q h =
      let texts : decimal i ++ (32 ∷ (decimal k ++ (32 ∷ canonical_line x.setup.names (line.Work v)))) ≡ decimal j ++ (32 ∷ (decimal l ++ (32 ∷ canonical_line x.setup.names (line.Work w)))) = ap (drop 5) h in
      let si : i < 2 ^ 32 = session_small x small i p.0 in
      let sj : j < 2 ^ 32 = session_small x small j q.0 in
      let sk : k < 2 ^ 32 = p.3 in
      let sl : l < 2 ^ 32 = q.3 in
      let ij : i ≡ j = one_number i j _ _ si sj (inr (_, refl)) (inr (_, refl)) texts in
      let behind : decimal k ++ (32 ∷ canonical_line x.setup.names (line.Work v)) ≡ decimal l ++ (32 ∷ canonical_line x.setup.names (line.Work w)) = one_rest i j _ _ si sj texts in
      let kl : k ≡ l = one_number k l _ _ sk sl (inr (_, refl)) (inr (_, refl)) behind in
      let vw : v ≡ w = one_work v w p.1 q.1 (one_rest k l _ _ sk sl behind) in
      ap (λ a. Admits a k v) ij ∙ ap (λ a. Admits j a v) kl ∙ ap (Admits j l) vw
  one_event (Starts m) (Starts n) p q h =
      ap Starts (one_number m n _ _ (start_small x small m p) (start_small x small n q) (starts-behind x.setup.names (past_at x m).answer) (starts-behind x.setup.names (past_at x n).answer) (ap (drop 6) h))
  one_event (Ends m) (Ends n) p q h =
      ap Ends (one_number m n _ _ (run_small x small m p) (run_small x small n q) (answer-behind x.setup.names (past_at x m).answer) (answer-behind x.setup.names (past_at x n).answer) (ap (drop 4) h))
  one_event (Loses m) (Loses n) p q h =
      ap Loses (one_number m n [] [] (loss_small x small m p) (loss_small x small n q) (inl refl) (inl refl) (ap (λ l. drop 5 l ++ []) h))
  one_event e f p q h = absurd (told_apart (kind (event_text x e)) (kind (event_text x f)) refl (ap kind h))
