use Rattle.std.proofs.Common.{◌≡◌, ◌≤◌, ◌++◌, arith, inl, subst}
use Rattle.bl_work.specs.Names.{AreNames}
use Rattle.bl_setup.specs.Setup.{by_version}
use Rattle.bl_order.specs.Machine.{start}
use Rattle.bl_trail.specs.TrueText.{FirstWrong, IsLimit, head_lines, joined}
use Rattle.bl_trail.specs.Heads.{IsHead}
use Rattle.bl_trail.specs.Versions.{HasSetup}
use Rattle.bl_ruled.proofs.Fronts.{front-known, front-rules}
use Rattle.bl_ruled.proofs.ruled.rules_before.Goals as goal

pub returns-in-Wrong-clause-rules : goal.returns-in-Wrong-clause-rules
returns-in-Wrong-clause-rules c =
    let wrong : FirstWrong c.args.setup.now c.args.text.now c.in-Wrong.line × (c.in-Wrong.line ≤ 2) =
    subst (IsHead c.args.setup.now c.args.text.now) c.in-Wrong.is c.in_ok-line.ensures in
    (wrong.0, inl (omega (arith, wrong.1)))

pub returns-in_ok-noted-in-Right-clause-rules : goal.returns-in_ok-noted-in-Right-clause-rules
returns-in_ok-noted-in-Right-clause-rules c =
    let setup = c.args.setup.now in
    let head : HasSetup c.in-Right.version setup × IsLimit c.in-Right.limit
    × (c.args.text.now ≡ joined (head_lines c.in-Right.version c.in-Right.limit) ++ c.in-Right.rest.now) =
    subst (IsHead setup c.args.text.now) c.in-Right.is c.in_ok-line.ensures in
    front-rules setup c.in-Right.version c.in-Right.limit head.0 head.1 c.args.text.now c.in-Right.rest.now head.2
    (c.what_was_followed_tells_the_verdict.ensures setup c.in-Right.version c.in-Right.limit head.0 head.1 c.names-names.ensures.agree
    (subst AreNames c.names.ensures.value c.subjects-subjects.ensures.names) c.in-Right.rest.now)
    c.args.events c.front_of.result
    (c.front_of.ensures (start (by_version c.in-Right.version setup) c.in-Right.limit) c.in-Right.rest.now c.in_ok-noted-in-Right.ensures)

pub returns-in_ok-noted-in-Right-clause-known : goal.returns-in_ok-noted-in-Right-clause-known
returns-in_ok-noted-in-Right-clause-known c =
    let setup = c.args.setup.now in
    let head : HasSetup c.in-Right.version setup × IsLimit c.in-Right.limit
    × (c.args.text.now ≡ joined (head_lines c.in-Right.version c.in-Right.limit) ++ c.in-Right.rest.now) =
    subst (IsHead setup c.args.text.now) c.in-Right.is c.in_ok-line.ensures in
    front-known setup c.in-Right.version c.in-Right.limit head.0 head.1 c.args.text.now c.in-Right.rest.now head.2
    c.args.events c.front_of.result
    (c.front_of.ensures (start (by_version c.in-Right.version setup) c.in-Right.limit) c.in-Right.rest.now c.in_ok-noted-in-Right.ensures)
