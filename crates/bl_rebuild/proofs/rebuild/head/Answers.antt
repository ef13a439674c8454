use Rattle.std.proofs.Common.{◌≡◌, ◌≤◌, ◌++◌, ap, subst, ◌∙◌}
use Rattle.bl_setup.specs.declared.version.Version.{Version}
use Rattle.bl_trail.specs.Heads.{IsHead}
use Rattle.bl_trail.specs.TrueText.{FirstWrong, IsLimit, head_lines, joined}
use Rattle.bl_trail.specs.Versions.{HasSetup}
use Rattle.bl_rebuild.proofs.WrongHeads.{no-journal}
use Rattle.bl_rebuild.proofs.rebuild.head.Goals as goal

pub returns-in-Wrong-clause-err : goal.returns-in-Wrong-clause-err
returns-in-Wrong-clause-err c =
    let wrong : FirstWrong c.args.setup.now c.args.text.now c.in-Wrong.line × (c.in-Wrong.line ≤ 2) = subst (IsHead c.args.setup.now c.args.text.now) c.in-Wrong.is c.in_ok-line.ensures in
    record { wrong = wrong.0; of_head = wrong.1; none = no-journal c.args.setup.now c.args.text.now c.in-Wrong.line wrong.0 wrong.1 }

pub returns-in-One-clause-err : goal.returns-in-One-clause-err
returns-in-One-clause-err c =
    let head : HasSetup c.in-Right.version c.args.setup.now × IsLimit c.in-Right.limit
    × (c.args.text.now ≡ joined (head_lines c.in-Right.version c.in-Right.limit) ++ c.in-Right.rest.now) =
    subst (IsHead c.args.setup.now c.args.text.now) c.in-Right.is c.in_ok-line.ensures in
    record {
      has_setup = subst (λ (v : Version). HasSetup v c.args.setup.now) c.in-One.is head.0;
      limit = c.in-Right.limit;
      is_limit = head.1;
      rest = c.in-Right.rest.now;
      split = head.2 ∙ ap (λ (v : Version). joined (head_lines v c.in-Right.limit) ++ c.in-Right.rest.now) c.in-One.is;
    }
