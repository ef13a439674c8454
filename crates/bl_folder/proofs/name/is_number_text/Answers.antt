use Rattle.std.proofs.Common.{rules, ◌≡◌, ◌≢◌, ◌↔◌, ◌∙◌, ℕ, List, ◌++◌, IsTrue, ap, sym, true≢false, codes, decimal, drop, length}
use Rattle.std.specs.Prelude.{None, Some}
use Rattle.std.proofs.lemmas.Bool.Decides.{Decides-eqb}
use Rattle.std.proofs.lemmas.List.{append_cancel_left}
use Rattle.std.proofs.lemmas.Slice.Eq.{strip_prefix_is}
use Rattle.bl_folder.proofs.name.is_number_text.Goals as goal

pub returns-in-Some : goal.returns-in-Some
returns-in-Some c =
    let run = c.args.run in
    let rest = c.in-Some.rest.now in
    let front = c.as_bytes.result.now in
    let zeros = drop (length (decimal run)) (codes "000000") in
    let is_front : front ≡ zeros = search rules in
    let digits : c.as_bytes-in-Some.result.now ≡ decimal run = search rules in
    let split : c.args.text.now ≡ front ++ rest = strip_prefix_is Decides-eqb c.args.text.now front (Some c.in-Some.rest) c.in-Some.ensures.cases in
    let same : IsTrue c.eq.result ↔ (rest ≡ c.as_bytes-in-Some.result.now) = search rules in (
      (λ yes'. split ∙ ap (λ z. z ++ rest) is_front ∙ ap (λ d. zeros ++ d) (same.0 yes' ∙ digits)),
      (λ is. same.1 (append_cancel_left zeros rest (decimal run) (sym (split ∙ ap (λ z. z ++ rest) is_front) ∙ is) ∙ sym digits)),
    )

pub returns-in-None : goal.returns-in-None
returns-in-None c =
    let run = c.args.run in
    let front = c.as_bytes.result.now in
    let zeros = drop (length (decimal run)) (codes "000000") in
    let is_front : front ≡ zeros = search rules in
    let other : (rest : List ℕ) → c.args.text.now ≢ front ++ rest = strip_prefix_is Decides-eqb c.args.text.now front None c.in-None.ensures.cases in (
      (λ yes'. absurd (true≢false (sym yes'))),
      (λ is. absurd (other (decimal run) (is ∙ ap (λ z. z ++ decimal run) (sym is_front)))),
    )
