use Rattle.std.proofs.Common.{◌≡◌, ◌≤◌, ◌++◌, subst, sym}
use Rattle.bl_work.specs.Names.{AreNames}
use Rattle.bl_setup.specs.Setup.{by_version}
use Rattle.bl_order.specs.Machine.{start}
use Rattle.bl_trail.specs.Follow.{IsVerdict}
use Rattle.bl_trail.specs.declared.verdict.Verdict.{Verdict}
use Rattle.bl_trail.specs.TrueText.{FirstWrong, IsLimit, head_lines, joined}
use Rattle.bl_trail.specs.Heads.{IsHead}
use Rattle.bl_trail.specs.Versions.{HasSetup}
use Rattle.bl_ruled.specs.Ruled.{AreRulesOf}
use Rattle.bl_ruled.proofs.Knowing.{none-known}
use Rattle.bl_ruled.proofs.Rules.{known-of, rules-of, verdict-of}
use Rattle.bl_ruled.proofs.ruled.rules_by.Goals as goal

pub ruled_of-requires : goal.ruled_of-requires
ruled_of-requires c = (start (by_version c.in-Right.version c.args.setup.now) c.in-Right.limit, c.in-Right.rest.now, c.in_ok-noted-in-Right.ensures)

pub returns-in-Wrong-clause-verdict : goal.returns-in-Wrong-clause-verdict
returns-in-Wrong-clause-verdict c =
    let wrong : FirstWrong c.args.setup.now c.args.text.now c.in-Wrong.line × (c.in-Wrong.line ≤ 2) =
    subst (IsHead c.args.setup.now c.args.text.now) c.in-Wrong.is c.in_ok-line.ensures in
    subst (IsVerdict c.args.setup.now c.args.text.now) (sym c.rejected.ensures.verdict) wrong.0

pub returns-in-Wrong-clause-rules : goal.returns-in-Wrong-clause-rules
returns-in-Wrong-clause-rules c =
    subst (λ (v : Verdict). AreRulesOf c.args.setup.now c.args.text.now v c.rejected.result.rules.items) (sym c.rejected.ensures.verdict) c.rejected.ensures.rules

pub returns-in-Wrong-clause-known : goal.returns-in-Wrong-clause-known
returns-in-Wrong-clause-known c = none-known c.args.setup.now.policy _ c.rejected.ensures.rules

pub returns-in_ok-noted-in-Right-clause-verdict : goal.returns-in_ok-noted-in-Right-clause-verdict
returns-in_ok-noted-in-Right-clause-verdict c =
    let setup = c.args.setup.now in
    let head : HasSetup c.in-Right.version setup × IsLimit c.in-Right.limit
    × (c.args.text.now ≡ joined (head_lines c.in-Right.version c.in-Right.limit) ++ c.in-Right.rest.now) =
    subst (IsHead setup c.args.text.now) c.in-Right.is c.in_ok-line.ensures in
    verdict-of setup c.in-Right.version c.in-Right.limit head.0 head.1 c.args.text.now c.in-Right.rest.now head.2
    (c.what_was_followed_tells_the_verdict.ensures setup c.in-Right.version c.in-Right.limit head.0 head.1 c.names-names.ensures.agree
    (subst AreNames c.names.ensures.value c.subjects-subjects.ensures.names) c.in-Right.rest.now)
    c.ruled_of.result.verdict c.ruled_of.result.rules.items
    (c.ruled_of.ensures (start (by_version c.in-Right.version setup) c.in-Right.limit) c.in-Right.rest.now c.in_ok-noted-in-Right.ensures)

pub returns-in_ok-noted-in-Right-clause-rules : goal.returns-in_ok-noted-in-Right-clause-rules
returns-in_ok-noted-in-Right-clause-rules c =
    let setup = c.args.setup.now in
    let head : HasSetup c.in-Right.version setup × IsLimit c.in-Right.limit
    × (c.args.text.now ≡ joined (head_lines c.in-Right.version c.in-Right.limit) ++ c.in-Right.rest.now) =
    subst (IsHead setup c.args.text.now) c.in-Right.is c.in_ok-line.ensures in
    rules-of setup c.in-Right.version c.in-Right.limit head.0 head.1 c.args.text.now c.in-Right.rest.now head.2
    c.ruled_of.result.verdict c.ruled_of.result.rules.items
    (c.ruled_of.ensures (start (by_version c.in-Right.version setup) c.in-Right.limit) c.in-Right.rest.now c.in_ok-noted-in-Right.ensures)

pub returns-in_ok-noted-in-Right-clause-known : goal.returns-in_ok-noted-in-Right-clause-known
returns-in_ok-noted-in-Right-clause-known c =
    let setup = c.args.setup.now in
    let head : HasSetup c.in-Right.version setup × IsLimit c.in-Right.limit
    × (c.args.text.now ≡ joined (head_lines c.in-Right.version c.in-Right.limit) ++ c.in-Right.rest.now) =
    subst (IsHead setup c.args.text.now) c.in-Right.is c.in_ok-line.ensures in
    known-of setup c.in-Right.version c.in-Right.limit head.0 head.1 c.args.text.now c.in-Right.rest.now head.2
    c.ruled_of.result.verdict c.ruled_of.result.rules.items
    (c.ruled_of.ensures (start (by_version c.in-Right.version setup) c.in-Right.limit) c.in-Right.rest.now c.in_ok-noted-in-Right.ensures)
