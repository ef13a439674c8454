use Rattle.std.proofs.Common.{rules, ◌≡◌, ◌↔◌, ◌∙◌, IsTrue, ⊎_elim, codes, inr, sym, true≢false}
use Rattle.std.proofs.lemmas.Bool.Decides.{Decides-eqb}
use Rattle.std.proofs.lemmas.Slice.Eq.{ends_is}
use Rattle.bl_clock.proofs.timed.is_closing.Goals as goal

-- it is not the closing line alone
pub returns : goal.returns
returns c =
    let text = c.args.text.now in
    let alone : IsTrue c.eq.result ↔ (text ≡ codes "stop\n") = search rules in
    let ends = ends_is Decides-eqb text (codes "\nstop\n") c.ends_with.result c.ends_with.ensures.value in (
      (λ yes'. inr (_, ends.0 yes')),
      (λ closing. ⊎_elim (λ is. absurd (true≢false (sym (alone.1 is) ∙ c.if-eq.false))) (λ behind. ends.1 behind.0 behind.1) closing),
    )
