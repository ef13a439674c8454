use Rattle.std.proofs.Common.{◌∙◌, ◌++◌, ap, drop, inl, inr, refl, take}
use Rattle.std.specs.Prelude.{not}
use Rattle.bl_state.specs.Texts.{setup_text}
use Rattle.bl_standing.proofs.Parts.{split-put, take-drop}
use Rattle.bl_standing.proofs.state.put_whole.Goals as goal

-- a growth was refused
pub returns-in_default-clause-part : goal.returns-in_default-clause-part
returns-in_default-clause-part g c =
    let front = c.in_default.ensures.front in
    let much = front.3.much in
    record {
      front = take much front.0;
      rest = drop much front.0 ++ front.1;
      split = split-put much (setup_text c.args.setup.now) front.0 front.1 front.2;
      written = front.3.bytes;
      why = inl refl;
    }

-- the output failed
pub returns-then-not-all-clause-part : goal.returns-then-not-all-clause-part
returns-then-not-all-clause-part g c =
    let text = setup_text c.args.setup.now in
    let much = c.in-Ok.ensures.puts.much in
    record {
      front = take much text;
      rest = drop much text;
      split = take-drop much text;
      written = c.in-Ok.ensures.puts.bytes;
      why = inr (refl, c.in-Ok.ensures.failed ∙ ap not c.if-not-all.true);
    }
