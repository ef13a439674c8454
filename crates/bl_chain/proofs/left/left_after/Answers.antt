use Rattle.std.proofs.Common.{◌≡◌, ◌∙◌, refl, true, false, Option, codes, eqb, subst, sym}
use Rattle.std.specs.Prelude.{IfSome}
use Rattle.std.specs.List.{starts_with}
use Rattle.bl_setup.specs.Setup.{Setup}
use Rattle.bl_state.specs.Whole.{IsWhole}
use Rattle.bl_trail.specs.Follow.{IsVerdict}
use Rattle.bl_trail.specs.declared.verdict.Verdict.TheVariants.{Accepted}
use Rattle.bl_left.specs.Left.{IsLeft, end_of}
use Rattle.bl_standing.proofs.Versions.{leads-one, leads-two, stands-two}
use Rattle.bl_chain.proofs.left.left_after.Goals as goal

pub returns-in-Rejected : goal.returns-in-Rejected
returns-in-Rejected c = record {
  stands = tt;
  whole = tt;
  fault = (refl, subst (IsVerdict c.args.setup.now c.args.trail.now) c.in-Rejected.is c.in-Ok.ensures.verdict);
}

-- the trail names version 1
pub returns-then-starts_with : goal.returns-then-starts_with
returns-then-starts_with c =
    let setup = c.args.setup.now in
    let trail = c.args.trail.now in
    let count = c.in-Accepted.field-0 in
    let left = subst (λ verdict. IsLeft setup trail verdict c.in-Ok.remains.setup) c.in-Accepted.is c.in-Ok.ensures.setup in
    let begins : starts_with eqb trail (codes "trail 1\n") ≡ true = sym c.starts_with.ensures.value ∙ c.if-starts_with.true in
    record { stands = tt; whole = tt; fault = (refl, (end_of setup trail count left.0, leads-one setup trail count left.0 begins)) }

-- it is of version 2, and all has ended
pub returns-in-Some : goal.returns-in-Some
returns-in-Some c =
    let setup = c.args.setup.now in
    let trail = c.args.trail.now in
    let count = c.in-Accepted.field-0 in
    let left = subst (IsLeft setup trail (Accepted count)) c.in-Some.is
    (subst (λ verdict. IsLeft setup trail verdict c.in-Ok.remains.setup) c.in-Accepted.is c.in-Ok.ensures.setup) in
    let begins : starts_with eqb trail (codes "trail 1\n") ≡ false = sym c.starts_with.ensures.value ∙ c.if-starts_with.false in
    record {
      stands = stands-two setup trail count left.0 begins c.in-Some.left left.1.0 left.1.1;
      whole = subst (λ (o : Option Setup). IfSome o IsWhole) c.in-Some.is (c.in-Ok.ensures.whole c.requires);
      fault = tt;
    }

-- something has not
pub returns-in-None : goal.returns-in-None
returns-in-None c =
    let setup = c.args.setup.now in
    let trail = c.args.trail.now in
    let count = c.in-Accepted.field-0 in
    let left = subst (IsLeft setup trail (Accepted count)) c.in-None.is
    (subst (λ verdict. IsLeft setup trail verdict c.in-Ok.remains.setup) c.in-Accepted.is c.in-Ok.ensures.setup) in
    let begins : starts_with eqb trail (codes "trail 1\n") ≡ false = sym c.starts_with.ensures.value ∙ c.if-starts_with.false in
    record { stands = tt; whole = tt; fault = (refl, (end_of setup trail count left.0, leads-two setup trail count left.0 begins, left.1)) }
