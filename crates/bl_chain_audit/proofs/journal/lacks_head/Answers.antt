use Rattle.std.proofs.Common.{◌∙◌, inl, refl, sym, true≢false}
use Rattle.bl_chain_audit.proofs.Journals.{lacking-first, lacks-second}
use Rattle.bl_chain_audit.proofs.journal.lacks_head.Goals as goal

pub returns-in_default : goal.returns-in_default
returns-in_default c = ((λ t. inl c.in_default.ensures), (λ lacks. refl))

pub returns-then-names_two : goal.returns-then-names_two
returns-then-names_two c = (
  (λ t. lacks-second c.args.text.now c.in-Some.line.now c.in-Some.rest.now c.in-Some.ensures (c.names_two.ensures.0 c.if-names_two.true) (c.has_no_line.ensures.0 t)),
  (λ lacks. c.has_no_line.ensures.1 (lacking-first c.args.text.now c.in-Some.line.now c.in-Some.rest.now c.in-Some.ensures lacks).1),
)

pub returns : goal.returns
returns c = (
  (λ t. absurd (true≢false (sym t))),
  (λ lacks.
      let first = lacking-first c.args.text.now c.in-Some.line.now c.in-Some.rest.now c.in-Some.ensures lacks in
      absurd (true≢false (sym (c.names_two.ensures.1 first.0) ∙ c.if-names_two.false))),
)
