use Rattle.std.proofs.Common.{◌≡◌, ℕ, ◌++◌, codes, decimal, arith, inl, inr, subst}
use Rattle.std.specs.Prelude.{IfSome, Option}
use Rattle.bl_trail.specs.TrueText.{IsLimit}
use Rattle.bl_trail.proofs.Heading.{no-limit, no-version, two-lines, with-line}
use Rattle.bl_trail.proofs.head.head_of.Goals as goal

pub returns-in_default : goal.returns-in_default
returns-in_default c = (no-version c.args.setup.now c.args.text.now (inl c.in_default.ensures), omega arith)

pub returns-in_default-version_of : goal.returns-in_default-version_of
returns-in_default-version_of c = (
  no-version c.args.setup.now c.args.text.now (inr (c.in-Some.first.now, c.in-Some.behind.now, c.in-Some.ensures, c.version_of.ensures.none c.in_default-version_of.is)),
  omega arith,
)

pub returns-in_default-first_line : goal.returns-in_default-first_line
returns-in_default-first_line c = (
  no-limit c.args.setup.now c.in-Some-version_of.version c.args.text.now c.in-Some.behind.now c.in-Some-version_of.ensures.some.0
      (with-line c.in-Some-version_of.ensures.some.1 c.in-Some.ensures) (inl c.in_default-first_line.ensures),
  omega arith,
)

pub returns-in_default-2 : goal.returns-in_default-2
returns-in_default-2 c = (
  no-limit c.args.setup.now c.in-Some-version_of.version c.args.text.now c.in-Some.behind.now c.in-Some-version_of.ensures.some.0
      (with-line c.in-Some-version_of.ensures.some.1 c.in-Some.ensures)
      (inr (c.in-Some-first_line.second.now, c.in-Some-first_line.rest.now, c.in-Some-first_line.ensures, c.in_ok-limit.ensures.none c.in_default-2.is)),
  omega arith,
)

pub returns : goal.returns
returns c =
    let found : IsLimit c.in-Some-2.limit × (c.in-Some-first_line.second.now ≡ codes "limit " ++ decimal c.in-Some-2.limit) =
    subst (λ (o : Option ℕ). IfSome o (λ limit. IsLimit limit × (c.in-Some-first_line.second.now ≡ codes "limit " ++ decimal limit))) c.in-Some-2.is c.in_ok-limit.ensures.some in (
      c.in-Some-version_of.ensures.some.0,
      found.0,
      two-lines c.in-Some-version_of.version c.in-Some-2.limit c.args.text.now c.in-Some.behind.now c.in-Some-first_line.rest.now
          (with-line c.in-Some-version_of.ensures.some.1 c.in-Some.ensures) (with-line found.1 c.in-Some-first_line.ensures),
    )
