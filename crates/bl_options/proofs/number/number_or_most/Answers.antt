use Rattle.std.proofs.Common.{◌∙◌, inl, inr, refl, rules, sym}
use Rattle.bl_options.proofs.Given.{said_none, said_range, said_written}
use Rattle.bl_options.proofs.number.number_or_most.Goals as goal

pub returns-then-is_said : goal.returns-then-is_said
returns-then-is_said c =
    let said = sym c.if-is_said.true ∙ c.is_said.ensures in
    record {
      range = said_range c.number.result c.args.least c.args.most c.number.ensures.range;
      written = said_written c.args.options.now c.args.name.now c.args.most c.number.result said c.number.ensures.written;
      none = said_none c.args.options.now c.args.name.now c.args.most c.args.least c.args.most c.number.result said c.number.ensures.none;
    }

pub returns-else-is_said : goal.returns-else-is_said
returns-else-is_said c = record {
  range = (inl refl, search rules);
  written = inr (sym c.if-is_said.false ∙ c.is_said.ensures, refl);
  none = tt;
}
