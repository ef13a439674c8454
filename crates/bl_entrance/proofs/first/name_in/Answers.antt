use Rattle.std.proofs.Common.{◌∙◌, ℕ, List, Option, Some, None, ap, sym}
use Rattle.std.specs.Prelude.{IfNone}
use Rattle.std.specs.Borrow.{Bor}
use Rattle.bl_name.specs.Lexing as lexing
use Rattle.bl_name.specs.Token as tokens
use Rattle.bl_name.specs.declared.token.Keyword.TheVariants.{Hello}
use Rattle.bl_entrance.specs.Firsts.{Gives, front_of}
use Rattle.bl_entrance.proofs.FirstLines.{goes-on, name-text, none-ends, none-greets, none-named, text-none, text-some}
use Rattle.bl_entrance.proofs.first.name_in.Goals as goal

as_always : {A P : Type 0} (o : Option A) → P → IfNone o P
as_always None p = p
as_always (Some x) p = tt

pub returns-in_err-rest-clause-none : goal.returns-in_err-rest-clause-none
returns-in_err-rest-clause-none c =
    as_always c.from_residual.result (none-greets c.args.line.now (λ rest hello. c.in_err-rest.ensures.none rest (ap front_of c.without_cr.ensures ∙ hello)))

pub returns-in_err-name-clause-none : goal.returns-in_err-name-clause-none
returns-in_err-name-clause-none c =
    let hello = ap front_of (sym c.without_cr.ensures) ∙ c.in_ok-rest.ensures.some in
    as_always c.from_residual-in_err-name.result (none-named c.args.line.now c.in_ok-rest.rest.now hello c.in_err-name.ensures.none)

pub returns-in-Nothing-clause-some : goal.returns-in-Nothing-clause-some
returns-in-Nothing-clause-some c =
    let line = c.args.line.now in
    let rest = c.in_ok-rest.rest.now in
    let name = c.in_ok-name.name.now in
    let behind = c.in_ok-name.behind.now in
    text-some (λ (s : Bor (List ℕ)). s.now) name _ c.from_utf8.result c.ok.result (λ (s : Bor (List ℕ)). Gives line s.now) c.ok.ensures.value (name-text name c.in_ok-name.ensures.name) c.from_utf8.ensures.cases
    (λ s same. (
      rest,
      behind,
      ap front_of (sym c.without_cr.ensures) ∙ c.in_ok-rest.ensures.some,
      c.in_ok-name.ensures.some ∙ ap (λ (n : List ℕ). lexing.token (tokens.name n) behind) (sym same),
      sym c.in-Nothing.ensures.front,
    ))

pub returns-in-Nothing-clause-none : goal.returns-in-Nothing-clause-none
returns-in-Nothing-clause-none c =
    let name = c.in_ok-name.name.now in
    text-none (λ (s : Bor (List ℕ)). s.now) name _ c.from_utf8.result c.ok.result _ c.ok.ensures.value (name-text name c.in_ok-name.ensures.name) c.from_utf8.ensures.cases

pub returns-in-Token-clause-none : goal.returns-in-Token-clause-none
returns-in-Token-clause-none c =
    let hello = ap front_of (sym c.without_cr.ensures) ∙ c.in_ok-rest.ensures.some in
    none-ends c.args.line.now c.in_ok-rest.rest.now hello c.in_ok-name.name.now c.in_ok-name.behind.now c.in_ok-name.ensures.some
    (goes-on c.next_token.result _ c.next_token.ensures.front c.in-Token.is)
