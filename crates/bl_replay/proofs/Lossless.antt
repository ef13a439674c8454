-- What the lines of a text find in which no place is lost.
use Rattle.std.proofs.Common.{◌≡◌, ℕ, zero, suc, ◌+◌, ◌<◌, ◌≤◌, ◌^◌, Bool, true, false, ◌&&◌, cond, List, [], ◌∷◌, ◌++◌, length, drop, get_or, codes, decimal, refl, sym, ◌∙◌, ap, subst, arith, length-append, append_assoc}
use Rattle.std.specs.Prelude.{Option, Some, None, ◌==◌, if◌then◌else◌}
use Rattle.std.specs.Str.Parse.{digits_value}
use Rattle.memchr.specs.Find.{OccursAt}
use Rattle.bl_work.specs.Names.{KnownNames}
use Rattle.bl_work.specs.declared.answer.Answer.{Answer}
use Rattle.bl_work.specs.declared.answer.Answer.TheVariants.{Done, RuleDone, Denied, Lost}
use Rattle.bl_wire.specs.Replies.{answer_text}
use Rattle.bl_order.specs.Past.{is_done}
use Rattle.bl_order.specs.Machine.{Event, Opens, Admits, Starts, Ends, Loses, Needs, past_at}
use Rattle.bl_trail.specs.Asks.{before, behind}
use Rattle.bl_trail.specs.EventText.{event_text, start_words}
use Rattle.bl_trail.proofs.Numbers.{decimal-whole}
use Rattle.bl_trail.proofs.OneEventLaw.{number-cut, start_small, run_small}
use Rattle.bl_trail.proofs.Words.{cut-none, cut-some}
use Rattle.bl_replay.specs.Findings.{AreFindings, IsFinding}
use Rattle.bl_replay.specs.Marks.{Finding, ending_of, first_end}

abbrev Lossless : List ℕ → Type 0
Lossless text = (k : ℕ) → OccursAt text (codes "lost ") k → ⊥

-- ---- what a line finds, by its third byte, its number and the words behind that

abbrev words_in : Option (List ℕ) → List ℕ
words_in None = []
words_in (Some rest) = rest

-- of all words of a start only `run` has these two
abbrev is_run : List ℕ → Bool
is_run words = (get_or words 0 0 == 114) && (get_or words 2 0 == 110)

abbrev started_in : List ℕ → Finding
started_in rest = if is_run (words_in (behind 32 rest)) then None else Some (digits_value 10 (before 32 rest), false)

abbrev finding_by : ℕ → List ℕ → Finding
finding_by kind line = if kind == 97 then started_in (drop 6 line) else (if kind == 100 then Some (digits_value 10 (before 32 (drop 4 line)), false) else None)

abbrev finding_in : List ℕ → Finding
finding_in line = finding_by (get_or line 2 0) line

number-read : (t : List ℕ) (n : ℕ) (rest : List ℕ) → n < 2 ^ 32 → t ≡ decimal n ++ (32 ∷ rest) → digits_value 10 (before 32 t) ≡ n
number-read t n rest small is = decimal-whole (before 32 t) n small (number-cut t n rest small is).0

start-found : (names : KnownNames) (a : Answer) (n : ℕ) → n < 2 ^ 32 → started_in (decimal n ++ start_words names a) ≡ (if is_done a then None else Some (n, false))
start-found names a n small = go a
  where
    by : (rest : List ℕ) (b : Bool) → is_run rest ≡ b → started_in (decimal n ++ (32 ∷ rest)) ≡ (if b then None else Some (n, false))
    by rest b is =
        ap (λ o. if is_run (words_in o) then None else Some (digits_value 10 (before 32 (decimal n ++ (32 ∷ rest))), false)) (number-cut (decimal n ++ (32 ∷ rest)) n rest small refl).1
        ∙ ap (λ c. if c then None else Some (digits_value 10 (before 32 (decimal n ++ (32 ∷ rest))), false)) is
        ∙ ap (λ k. if b then None else Some (k, false)) (number-read (decimal n ++ (32 ∷ rest)) n rest small refl)

    go : (a : Answer) → started_in (decimal n ++ start_words names a) ≡ (if is_done a then None else Some (n, false))
    go (Done shown) = by (drop 1 (start_words names (Done shown))) true refl
    go RuleDone = by (drop 1 (start_words names RuleDone)) false refl
    go (Denied denial) = by (drop 1 (start_words names (Denied denial))) false refl
    go Lost = by (drop 1 (start_words names Lost)) false refl

end-found : (names : KnownNames) (a : Answer) (n : ℕ) → n < 2 ^ 32 → digits_value 10 (before 32 (decimal n ++ answer_text names a)) ≡ n
end-found names (Done shown) n small = number-read _ n (drop 1 (answer_text names (Done shown))) small refl
end-found names RuleDone n small = number-read _ n (drop 1 (answer_text names RuleDone)) small refl
end-found names (Denied denial) n small = number-read _ n (drop 1 (answer_text names (Denied denial))) small refl
end-found names Lost n small = number-read _ n (drop 1 (answer_text names Lost)) small refl

-- a line that is not a loss finds what its event finds
is-finding : (line : List ℕ) → ((rest : List ℕ) → line ≡ codes "lost " ++ rest → ⊥) → IsFinding line (finding_in line)
is-finding line none x event small needs text = ap finding_in text ∙ go event needs text
  where
    go : (e : Event) → Needs x e → line ≡ event_text x e → finding_in (event_text x e) ≡ ending_of x e
    go (Opens s) step is = refl
    go (Admits i k w) step is = refl
    go (Starts n) step is = start-found x.setup.names (past_at x n).answer n (start_small x small n step)
    go (Ends n) step is = ap (λ m. Some (m, false)) (end-found x.setup.names (past_at x n).answer n (run_small x small n step))
    go (Loses n) step is = absurd (none (decimal n) is)

-- ---- and so no place is lost

kept : (line : List ℕ) (found : List Finding) (k : ℕ) → first_end found k ≡ false → first_end (finding_in line ∷ found) k ≡ false
kept line found k rest = by (get_or line 2 0 == 97) (get_or line 2 0 == 100) (is_run (words_in (behind 32 (drop 6 line)))) (digits_value 10 (before 32 (drop 6 line))) (digits_value 10 (before 32 (drop 4 line)))
  where
    one : (n : ℕ) (c : Bool) → (n == k) ≡ c → first_end (Some (n, false) ∷ found) k ≡ false
    one n true is = ap (λ c. cond c false (first_end found k)) is
    one n false is = ap (λ c. cond c false (first_end found k)) is ∙ rest

    by : (a b c : Bool) (m n : ℕ) → first_end ((if a then (if c then None else Some (m, false)) else (if b then Some (n, false) else None)) ∷ found) k ≡ false
    by true b true m n = rest
    by true b false m n = one m (m == k) refl
    by false true c m n = one n (n == k) refl
    by false false c m n = rest

get-left : (a b : List ℕ) (j : ℕ) → j < length a → get_or (a ++ b) j 0 ≡ get_or a j 0
get-left [] b j lt = absurd (omega arith)
get-left (x ∷ a) b zero lt = refl
get-left (x ∷ a) b (suc j) lt = get-left a b j (omega arith)

zero-add : (j : ℕ) → 0 + j ≡ j
zero-add j = omega arith

suc-add : (m j : ℕ) → suc m + j ≡ suc (m + j)
suc-add m j = omega arith

get-right : (a b : List ℕ) (j : ℕ) → get_or (a ++ b) (length a + j) 0 ≡ get_or b j 0
get-right [] b j = ap (λ i. get_or b i 0) (zero-add j)
get-right (x ∷ a) b j = ap (λ i. get_or (x ∷ (a ++ b)) i 0) (suc-add (length a) j) ∙ get-right a b j

occurs-first : (needle rest : List ℕ) → OccursAt (needle ++ rest) needle 0
occurs-first needle rest = record {
  fits = omega (arith, length-append needle rest);
  reads = λ j lt. ap (λ i. get_or (needle ++ rest) i 0) (zero-add j) ∙ get-left needle rest j lt;
}

occurs-later : (a text needle : List ℕ) (k : ℕ) → OccursAt text needle k → OccursAt (a ++ text) needle (length a + k)
occurs-later a text needle k at = record {
  fits = omega (arith, length-append a text, at.fits);
  reads = λ j lt. ap (λ i. get_or (a ++ text) i 0) (sum (length a) k j) ∙ get-right a text (k + j) ∙ at.reads j lt;
}
  where
    sum : (m n j : ℕ) → m + n + j ≡ m + (n + j)
    sum m n j = omega arith

-- what the lines of a text find, of which none loses a place
abbrev Finds : List ℕ → Type 0
Finds text = (found : List Finding) × AreFindings text found × ((k : ℕ) → first_end found k ≡ false)

pub lossless : (fuel : ℕ) (text : List ℕ) → length text ≤ fuel → ((k : ℕ) → OccursAt text (codes "lost ") k → ⊥)
    → (found : List Finding) × AreFindings text found × ((k : ℕ) → first_end found k ≡ false)
lossless zero [] le none = ([], tt, λ k. refl)
lossless zero (b ∷ text) le none = absurd (omega arith)
lossless (suc fuel) text le none = go (behind 10 text) refl (λ t less deeper. lossless fuel t less deeper)
  where
    go : (o : Option (List ℕ)) → behind 10 text ≡ o → ((t : List ℕ) → length t ≤ fuel → Lossless t → Finds t) → Finds text
    go None is next = ([], cut-none 10 text is, λ k. refl)
    go (Some rest) is next =
        let cut = cut-some 10 text rest is in
        let line : List ℕ = before 10 text in
        let split : text ≡ (line ++ 10 ∷ []) ++ rest = cut.1 ∙ sym (append_assoc line (10 ∷ []) rest) in
        let shorter : length rest ≤ fuel = omega (arith, le, ap length cut.1, length-append line (10 ∷ rest)) in
        let deeper : Finds rest =
        next rest shorter (λ k at. none (length (line ++ 10 ∷ []) + k)
        (subst (λ t. OccursAt t (codes "lost ") (length (line ++ 10 ∷ []) + k)) (sym split) (occurs-later (line ++ 10 ∷ []) rest (codes "lost ") k at))) in
        let no_loss : (more : List ℕ) → line ≡ codes "lost " ++ more → ⊥ =
        λ more same. none 0 (subst (λ t. OccursAt t (codes "lost ") 0) (sym (cut.1 ∙ ap (λ l. l ++ 10 ∷ rest) same ∙ append_assoc (codes "lost ") more (10 ∷ rest)))
        (occurs-first (codes "lost ") (more ++ 10 ∷ rest))) in (
          finding_in line ∷ deeper.0,
          (line, rest, record { plain = cut.0; split = cut.1 }, is-finding line no_loss, deeper.1),
          λ k. kept line deeper.0 k (deeper.2 k),
        )
