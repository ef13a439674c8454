use Rattle.std.proofs.Common.{refl, sym, subst}
use Rattle.std.specs.Prelude.{◌↔◌, Contains}
use Rattle.std.proofs.lemmas.Bool.{false≢true}
use Rattle.std.proofs.lemmas.List.{take_rest}
use Rattle.bl_declare.specs.Words.{names_of}
use Rattle.bl_spot.proofs.Failing.{among_first, among_none, among_rest}
use Rattle.bl_spot.proofs.asked.is_among.Goals as goal

pub loop-rest-preserved : goal.loop-rest-preserved
loop-rest-preserved c =
    subst (λ rest. Contains (names_of c.args.names.now) c.args.name.now ↔ Contains (names_of rest) c.args.name.now) (sym (take_rest c.loop-rest.rest.now 1))
    (among_rest c.args.names.now c.loop-rest.rest.now c.args.name.now c.is_same_name.result c.in-len1-up.len_at_least c.is_same_name.ensures c.if-is_same_name.false
    c.loop-rest.invariant)

pub returns-then-is_same_name : goal.returns-then-is_same_name
returns-then-is_same_name c = (
  λ _. among_first c.args.names.now c.loop-rest.rest.now c.args.name.now c.is_same_name.result c.in-len1-up.len_at_least c.is_same_name.ensures c.if-is_same_name.true
      c.loop-rest.invariant,
  λ _. refl,
)

pub returns : goal.returns
returns c = (
  λ e. absurd (false≢true e),
  λ there. absurd (among_none c.loop-rest.rest.now c.args.name.now c.in_default.len_below (c.loop-rest.invariant.0 there)),
)
