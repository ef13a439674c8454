-- What is given of what is held.
use Rattle.std.proofs.Common.{◌≡◌, ◌<◌, ◌≤◌, ◌∙◌, ◌⊎◌, Bool, true, false, not, ℕ, List, [], ◌++◌, length, take, drop, min, nat_lt, Option, Some, None, inl, inr, refl, sym, ap, subst, arith, append_assoc, take-append-drop}
use Rattle.std.proofs.lemmas.Bool.{cases_eq, false≢true, ltb-false, not_from_false}
use Rattle.std.proofs.lemmas.List.{length-take, nil_from_length, take-append-le}
use Rattle.std.specs.Io.KnownBytes.{Consumes, Keeps, prepend_known}
use Rattle.std.specs.Option.{is_some}
use Rattle.bl_connection.specs.declared.stream.Answer.{Answer}
use Rattle.bl_allowance.specs.Intakes.{to_come}
use Rattle.bl_allowance.specs.Lines.{AreWhole, MayGive, lines_in}
use Rattle.bl_allowance.specs.Streams.{GivesNext, IsOver, ReadsBy, ReadsLines, due, held, inner_of}
use Rattle.bl_allowance.specs.declared.lines.LineStream.{LineStream}
use Rattle.bl_allowance.specs.declared.offer.Offer.{Offer}
use Rattle.bl_allowance.proofs.Counting.{front_fewer}
use Rattle.bl_allowance.proofs.Offering.{gives_whole}

-- ---- what room is set aside for

-- nothing is due of nothing
none_of : (bytes : List ℕ) (count : ℕ) → bytes ≡ [] → count ≤ length bytes → take count bytes ≡ []
none_of bytes count none within =
    let empty : length bytes ≡ 0 = ap length none in
    let zero' : count ≡ 0 = omega (arith, within, empty) in
    ap (λ n. take n bytes) zero'

-- What is taken up of an offer: all of it, or its first line. Where there is nothing to take up the end is there.
pub fit_gives : (ended before : Bool) (bytes : List ℕ) (offer fit : Offer) → offer.bytes ≤ length bytes
    → (0 < offer.bytes → MayGive ended before offer.long offer.lines (take offer.bytes bytes))
    → (offer.bytes ≡ 0 → (ended ≡ true) × (bytes ≡ []))
    → (fit ≡ offer) ⊎ ((1 < offer.lines) × AreWhole bytes 1 fit.bytes fit.lines × (fit.long ≡ false))
    → ((ended ≡ true) × (bytes ≡ []) × (take fit.bytes bytes ≡ [])) ⊎ MayGive ended before fit.long fit.lines (take fit.bytes bytes)
fit_gives ended before bytes offer fit within gives none is =
    elim (cases_eq offer.bytes 0) [
      | inl zero' ↦
          let over = none zero' in
          elim is [
            | inl same ↦ inl (over.0, over.1, none_of bytes fit.bytes over.1 (subst (λ (o : Offer). o.bytes ≤ length bytes) (sym same) within))
            | inr first ↦ inl (over.0, over.1, none_of bytes fit.bytes over.1 first.1.within)
          ]
      | inr some ↦
          let may = gives (omega (arith, some)) in
          elim is [
            | inl same ↦ inr (subst (λ (o : Offer). MayGive ended before o.long o.lines (take o.bytes bytes)) (sym same) may)
            | inr first ↦ elim may [
              | inl lines ↦
                  let more = front_fewer offer.bytes bytes in
                  let one : 0 < fit.lines = omega (arith, first.0, lines.2.room, more, first.1.longest) in
                  inr (inl (lines.0, first.2, gives_whole bytes 1 fit.bytes fit.lines (omega arith) one first.1))
              | inr rest ↦ elim rest [
                | inl long ↦ absurd (omega (arith, first.0, long.room))
                | inr last ↦ absurd (omega (arith, first.0, last.3.room))
              ]
            ]
          ]
    ]

-- the same of other values that are these
pub may_move : (ended ended' before before' after after' : Bool) (lines : ℕ) (given given' : List ℕ) → ended' ≡ ended
    → before' ≡ before → after' ≡ after → given' ≡ given → MayGive ended before after lines given
    → MayGive ended' before' after' lines given'
may_move ended ended' before before' after after' lines given given' e b a l may =
    subst (λ k. MayGive ended' before' after' lines k) (sym l)
    (subst (λ k. MayGive ended' before' k lines given) (sym a)
    (subst (λ k. MayGive ended' k after lines given) (sym b) (subst (λ k. MayGive k before after lines given) (sym e) may)))

-- ---- what is given

pub none_due : (bytes : List ℕ) (t : Bool) → t ≡ nat_lt 0 (length bytes) → t ≡ false → bytes ≡ []
none_due bytes t is none = nil_from_length bytes (omega (arith, ltb-false 0 (length bytes) (sym is ∙ none)))

parts : (n : ℕ) (bytes given rest : List ℕ) → given ≡ take n bytes → rest ≡ drop n bytes → bytes ≡ given ++ rest
parts n bytes given rest front behind =
    sym (take-append-drop n bytes) ∙ ap (λ l. l ++ drop n bytes) (sym front) ∙ ap (λ l. given ++ l) (sym behind)

-- a front of what was due
pub gives_due : {S : Type 0} (old mid new : LineStream S) (n : ℕ) (given : List ℕ) → mid ≡ old → given ≡ take n (due mid)
    → due new ≡ drop n (due mid) → new.lines ≡ mid.lines → inner_of new ≡ inner_of mid → GivesNext old given new
gives_due {S} old mid new n given same front behind lines inner = inl (
  ap due (sym same) ∙ parts n (due mid) given (due new) front behind,
  lines ∙ ap (λ (s : LineStream S). s.lines) same,
  inner ∙ ap inner_of same,
)

-- a front of what is due now, or nothing
pub gives_fresh : {S : Type 0} (old mid new : LineStream S) (n most : ℕ) (given : List ℕ) (P : Type 0) → due old ≡ []
    → (IsOver mid × (due mid ≡ [])) ⊎ MayGive mid.intake.ended old.intake.long mid.intake.long mid.lines (due mid)
    → n ≡ min (length (due mid)) most → given ≡ take n (due mid) → due new ≡ drop n (due mid)
    → held new ≡ drop n (held mid) → new.intake.ended ≡ mid.intake.ended → new.intake.long ≡ mid.intake.long
    → new.lines ≡ mid.lines → new.over ≡ mid.over
    → GivesNext old given new ⊎ ((n ≡ 0) × (P → IsOver new))
gives_fresh {S} old mid new n most given P none found count front behind rest ended long lines over =
    elim found [
      | inl end ↦
          let empty : length (due mid) ≡ 0 = ap length end.1 in
          let zero' : n ≡ 0 = omega (arith, count, empty) in
          let nothing : held new ≡ [] = rest ∙ ap (λ k. drop k (held mid)) zero' ∙ end.0.0 in
          inr (
            zero',
            λ p. (
              nothing,
              elim end.0.1 [
                | inl is_over ↦ inl (over ∙ is_over)
                | inr has_ended ↦ inr (ended ∙ has_ended)
              ],
            ),
          )
      | inr may ↦ inl (inr (
        none,
        subst (λ k. MayGive new.intake.ended old.intake.long new.intake.long k (given ++ due new)) (sym lines)
            (may_move mid.intake.ended new.intake.ended old.intake.long old.intake.long mid.intake.long new.intake.long mid.lines (due mid) (given ++ due new) ended refl long
            (sym (parts n (due mid) given (due new) front behind)) may),
      ))
    ]

-- ---- in order

-- a front of what is due is a front of what is held
front_held : (n count : ℕ) (bytes : List ℕ) → n ≤ length (take count bytes) → take n (take count bytes) ≡ take n bytes
front_held n count bytes within =
    sym (take-append-le n (take count bytes) (drop count bytes) within) ∙ ap (λ l. take n l) (take-append-drop count bytes)

consumes_part : (known : Option (List ℕ)) (bytes given rest : List ℕ) → bytes ≡ given ++ rest
    → Consumes (prepend_known bytes known) (prepend_known rest known) given
consumes_part None bytes given rest is = tt
consumes_part (Some xs) bytes given rest is = ap (λ l. l ++ xs) is ∙ append_assoc given rest xs

pub consumes_after : (before now after : Option (List ℕ)) (given : List ℕ) → Keeps before now → Consumes now after given
    → Consumes before after given
consumes_after None now after given kept took = tt
consumes_after (Some xs) None after given kept took = absurd kept
consumes_after (Some xs) (Some ys) None given kept took = absurd took
consumes_after (Some xs) (Some ys) (Some zs) given kept took = sym kept ∙ took

-- what is given of what is due is the front of what is to come
pub gives_in_order : {S : Type 0} (remaining : S → Option (List ℕ)) (mid new : LineStream S) (n : ℕ) (given : List ℕ)
    → n ≤ length (due mid) → given ≡ take n (due mid) → held new ≡ drop n (held mid) → inner_of new ≡ inner_of mid
    → Consumes (to_come remaining mid.intake) (to_come remaining new.intake) given
gives_in_order {S} remaining mid new n given within front rest inner =
    subst (λ (i : S). Consumes (to_come remaining mid.intake) (prepend_known (held new) (remaining i)) given) (sym inner)
    (consumes_part (remaining (inner_of mid)) (held mid) given (held new)
    (parts n (held mid) given (held new) (front ∙ front_held n mid.intake.buffer.due (held mid) within) rest))

-- ---- any run

-- where another run follows
pub reads_by : {A S : Type 0} (allowance : Option A) (t : Bool) (reads : S → Answer → S → Type 0) (old : LineStream S) (answer : Answer)
    (room : List ℕ) (new : LineStream S) → is_some allowance ≡ not t → t ≡ false → ReadsLines reads old answer room new
    → ReadsBy allowance reads old answer room new
reads_by None t reads old answer room new is none lines = absurd (false≢true (is ∙ not_from_false t none))
reads_by (Some a) t reads old answer room new is none lines = lines
