use Rattle.std.proofs.Common.{◌≡◌, ◌↔◌, ◌≢◌, ℕ, List, ◌++◌, IsTrue, refl, sym, true≢false}
use Rattle.std.specs.Prelude.{None, Some}
use Rattle.std.proofs.lemmas.Bool.Decides.{Decides-eqb}
use Rattle.std.proofs.lemmas.Slice.Eq.{strip_prefix_is}
use Rattle.bl_record.specs.Torn.{IsTornHead, head_front}
use Rattle.bl_journal_files.proofs.Heads.{is_front, no_front, of_front, of_none, of_rest}
use Rattle.bl_journal_files.proofs.torn.is_torn_head.Goals as goal

pub returns-then-starts_with-clause-torn : goal.returns-then-starts_with-clause-torn
returns-then-starts_with-clause-torn c = (
  (λ yes'. of_front c.args.text.now c.starts_with.result c.starts_with.ensures.value c.if-starts_with.true),
  (λ torn. refl),
)

pub returns-then-starts_with-clause-front : goal.returns-then-starts_with-clause-front
returns-then-starts_with-clause-front c yes' =
    is_front c.args.text.now (of_front c.args.text.now c.starts_with.result c.starts_with.ensures.value c.if-starts_with.true)

pub returns-in-Some-clause-torn : goal.returns-in-Some-clause-torn
returns-in-Some-clause-torn c =
    of_rest c.args.text.now c.in-Some.digits.now c.is_limit.result
    (strip_prefix_is Decides-eqb c.args.text.now head_front (Some c.in-Some.digits) c.in-Some.ensures.cases)
    (no_front c.args.text.now c.starts_with.result c.starts_with.ensures.value c.if-starts_with.false) c.is_limit.ensures

pub returns-in-Some-clause-front : goal.returns-in-Some-clause-front
returns-in-Some-clause-front c yes' =
    let torn : IsTrue c.is_limit.result ↔ IsTornHead c.args.text.now = returns-in-Some-clause-torn c in
    is_front c.args.text.now (torn.0 yes')

pub returns-in-None-clause-torn : goal.returns-in-None-clause-torn
returns-in-None-clause-torn c =
    let other : (rest : List ℕ) → c.args.text.now ≢ head_front ++ rest =
    strip_prefix_is Decides-eqb c.args.text.now head_front None c.in-None.ensures.cases in (
      (λ yes'. absurd (true≢false (sym yes'))),
      (λ torn. absurd (of_none c.args.text.now other
          (no_front c.args.text.now c.starts_with.result c.starts_with.ensures.value c.if-starts_with.false) torn)),
    )
