-- Texts without an LF.
use Rattle.std.proofs.Common.{◌≡◌, ◌≢◌, ℕ, zero, suc, ◌<◌, ◌^◌, Bool, true, false, ◌&&◌, List, [], ◌∷◌, ◌++◌, length, refl, sym, ◌∙◌, ap, subst, arith, true≢false, take, get_or, lit<}
use Rattle.std.specs.Prelude.{IsTrue, IfSome, Option, Some, None, codes, decimal, not, slice_index_or, ◌==◌}
use Rattle.std.specs.List.{AllByRecursion, flat_map, list_all}
use Rattle.bl_level.specs.Lexing.{is_word_byte}
use Rattle.bl_level.specs.Name.{IsName}
use Rattle.bl_policy.specs.Denial.{word_of}
use Rattle.bl_policy.specs.declared.denial.Clause.{Clause}
use Rattle.bl_policy.specs.declared.denial.Clause.TheVariants.{Absent, Simple, Star, Discretionary, Carry, Admin, Trusted, Greatest, Present}
use Rattle.bl_policy.specs.declared.denial.Denial.{Denial}
use Rattle.bl_work.specs.Content.{is_content_byte}
use Rattle.bl_work.specs.Names.{KnownNames, AreNames}
use Rattle.bl_work.specs.declared.answer.Answer.TheVariants as answer
use Rattle.bl_wire.specs.Named.{NamesDenial}
use Rattle.bl_wire.specs.Replies.{answer_text, object_text, output_text}
use Rattle.bl_trail.specs.StartWords.{NamesWords, words_text}
use Rattle.bl_trail.specs.TrueText.{HasNoLf}
use Rattle.bl_trail.specs.declared.text.Words.{Words}
use Rattle.bl_trail.specs.declared.text.Words.TheVariants as said
use Rattle.bl_trail.proofs.OneEventLaw.{decimal-has_no}

pub plain-append : (a b : List ℕ) → HasNoLf a → HasNoLf b → HasNoLf (a ++ b)
plain-append [] b p q = q
plain-append (x ∷ a) b p q = (p.0, plain-append a b p.1 q)

-- bytes that all pass a test that an LF does not pass
module _ (test : ℕ → Bool) (lf : test 10 ≡ false) where
  pub plain-test : (bytes : List ℕ) → list_all test bytes ≡ true → HasNoLf bytes
  plain-test [] h = tt
  plain-test (b ∷ bytes) h = go (test b) refl h (plain-test bytes)
    where
      go : (c : Bool) → test b ≡ c → (c && list_all test bytes) ≡ true → (list_all test bytes ≡ true → HasNoLf bytes) → (b ≢ 10) × HasNoLf bytes
      go true is h more = ((λ same. true≢false (sym is ∙ ap test same ∙ lf)), more h)
      go false is h more = absurd (true≢false (sym h))

-- words that stand in the code
literal : (bytes : List ℕ) → list_all (λ b. not (b == 10)) bytes ≡ true → HasNoLf bytes
literal bytes h = plain-test (λ b. not (b == 10)) refl bytes h

pub plain-content : (bytes : List ℕ) → IsTrue (list_all is_content_byte bytes) → HasNoLf bytes
plain-content bytes h = plain-test is_content_byte refl bytes h

pub plain-name : (bytes : List ℕ) → IsName bytes → HasNoLf bytes
plain-name [] n = tt
plain-name (b ∷ bytes) n = plain-test is_word_byte refl (b ∷ bytes) n.0.1

pub plain-number : (n : ℕ) → n < 2 ^ 32 → HasNoLf (decimal n)
plain-number n lt = decimal-has_no 10 (lit< tt) n (omega (arith, lt))

-- ---- answers

plain-word : (clause : Clause) → HasNoLf (word_of clause)
plain-word Absent = literal (codes "absent") refl
plain-word Simple = literal (codes "simple") refl
plain-word Star = literal (codes "star") refl
plain-word Discretionary = literal (codes "discretionary") refl
plain-word Carry = literal (codes "carry") refl
plain-word Admin = literal (codes "admin") refl
plain-word Trusted = literal (codes "trusted") refl
plain-word Greatest = literal (codes "greatest") refl
plain-word Present = literal (codes "present") refl

module _ (names : KnownNames) (are : AreNames names) where
  pub plain-subject : (s : ℕ) → s < length names.subjects → HasNoLf (slice_index_or names.subjects s [])
  plain-subject s lt = plain-name (slice_index_or names.subjects s []) (are.subjects.proper s [] lt)

  plain-object : (object : Option ℕ) → IfSome object (λ doc. doc < length names.documents) → HasNoLf (object_text names object)
  plain-object None known = tt
  plain-object (Some doc) known = plain-append (codes " ") _ (literal (codes " ") refl) (plain-name (slice_index_or names.documents doc []) (are.documents.proper doc [] known))

  pub plain-denied : (denial : Denial) → NamesDenial names denial → HasNoLf (answer_text names (answer.Denied denial))
  plain-denied denial known =
      plain-append (codes " denied ") _ (literal (codes " denied ") refl) (plain-append (word_of denial.clause) _ (plain-word denial.clause)
      (plain-append (codes " ") _ (literal (codes " ") refl) (plain-append (slice_index_or names.subjects denial.subject []) _ (plain-subject denial.subject known.subject)
      (plain-object denial.object known.object))))

  pub plain-words : (words : Words) → NamesWords names words → HasNoLf (words_text names words)
  plain-words said.Run known = literal (codes " run") refl
  plain-words said.Rule known = literal (codes " rule") refl
  plain-words (said.Denied denial) known = plain-denied denial known

  pub plain-rule_done : HasNoLf (answer_text names answer.RuleDone)
  plain-rule_done = literal (codes " done") refl

  pub plain-lost : HasNoLf (answer_text names answer.Lost)
  plain-lost = literal (codes " lost") refl

-- ---- what was shown

pub plain-more : (texts : List (List ℕ)) (i : ℕ) (text d : List ℕ) → i < length texts → text ≡ get_or texts i d → HasNoLf text
    → AllByRecursion HasNoLf (take i texts) → AllByRecursion HasNoLf (take (suc i) texts)
plain-more (t ∷ texts) zero text d lt is plain all = (subst HasNoLf is plain, tt)
plain-more (t ∷ texts) (suc i) text d lt is plain all = (all.0, plain-more texts i text d (omega (arith, lt)) is plain all.1)
plain-more [] i text d lt is plain all = absurd (omega (arith, lt))

plain-flat : (texts : List (List ℕ)) → AllByRecursion HasNoLf texts → HasNoLf (flat_map output_text texts)
plain-flat [] all = tt
plain-flat (t ∷ texts) all = plain-append (output_text t) _
    (plain-append (codes " \"") _ (literal (codes " \"") refl) (plain-append t (codes "\"") all.0 (literal (codes "\"") refl))) (plain-flat texts all.1)

pub plain-done : (names : KnownNames) (texts : List (List ℕ)) → AllByRecursion HasNoLf texts → HasNoLf (answer_text names (answer.Done texts))
plain-done names texts all = plain-append (codes " done") _ (literal (codes " done") refl) (plain-flat texts all)

-- ---- lines

pub plain-line : (i k : ℕ) (work : List ℕ) → i < 2 ^ 32 → k < 2 ^ 32 → HasNoLf work → HasNoLf (codes "line " ++ (decimal i ++ (32 ∷ (decimal k ++ (32 ∷ work)))))
plain-line i k work li lk plain =
    plain-append (codes "line ") _ (literal (codes "line ") refl) (plain-append (decimal i) _ (plain-number i li)
    (plain-append (codes " ") _ (literal (codes " ") refl) (plain-append (decimal k) _ (plain-number k lk) (plain-append (codes " ") work (literal (codes " ") refl) plain))))

pub plain-open : (name : List ℕ) → HasNoLf name → HasNoLf (codes "open " ++ name)
plain-open name plain = plain-append (codes "open ") name (literal (codes "open ") refl) plain

pub plain-start : (n : ℕ) (words : List ℕ) → n < 2 ^ 32 → HasNoLf words → HasNoLf (codes "start " ++ (decimal n ++ words))
plain-start n words lt plain = plain-append (codes "start ") _ (literal (codes "start ") refl) (plain-append (decimal n) words (plain-number n lt) plain)

pub plain-end : (n : ℕ) (words : List ℕ) → n < 2 ^ 32 → HasNoLf words → HasNoLf (codes "end " ++ (decimal n ++ words))
plain-end n words lt plain = plain-append (codes "end ") _ (literal (codes "end ") refl) (plain-append (decimal n) words (plain-number n lt) plain)

pub plain-loss : (n : ℕ) → n < 2 ^ 32 → HasNoLf (codes "lost " ++ decimal n)
plain-loss n lt = plain-append (codes "lost ") _ (literal (codes "lost ") refl) (plain-number n lt)

pub plain-stop : HasNoLf (codes "stop")
plain-stop = literal (codes "stop") refl

pub plain-limit : (limit : ℕ) → limit < 2 ^ 32 → HasNoLf (codes "limit " ++ decimal limit)
plain-limit limit lt = plain-append (codes "limit ") _ (literal (codes "limit ") refl) (plain-number limit lt)
