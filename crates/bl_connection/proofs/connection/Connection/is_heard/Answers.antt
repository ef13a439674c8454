use Rattle.std.proofs.Common.{◌≡◌, ◌∙◌, arith, sym, eqb-true, eq-eqb, true≢false}
use Rattle.bl_connection.proofs.States.{heard_all, heard_some}
use Rattle.bl_connection.proofs.connection.Connection.is_heard.Goals as goal

pub returns-in-Input : goal.returns-in-Input
returns-in-Input g c = record {
  all = λ yes'. heard_all c.args.self.now c.requires (λ input. let is = eqb-true c.args.self.now.heard c.len.result yes' in omega arith);
  some = λ no'. (
    sym c.need.ensures ∙ c.in-Input.is,
    heard_some c.args.self.now c.args.self.now.heard_within (λ is. let same : c.args.self.now.heard ≡ c.len.result = omega arith in true≢false (sym (eq-eqb c.args.self.now.heard c.len.result same) ∙ no')),
  );
}

pub returns-in_default : goal.returns-in_default
returns-in_default g c = record {
  all = λ yes'. heard_all c.args.self.now c.requires (λ input. absurd (c.in_default.not-Input (c.need.ensures ∙ input)));
  some = λ no'. absurd (true≢false no');
}
