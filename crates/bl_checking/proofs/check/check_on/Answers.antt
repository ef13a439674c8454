use Rattle.std.proofs.Common.{inl, inr, refl}
use Rattle.std.proofs.KnownBytes.{Keeps-refl}
use Rattle.bl_checking.proofs.check.check_on.Goals as goal

pub returns-in-Whole-clause-run : goal.returns-in-Whole-clause-run
returns-in-Whole-clause-run g c =
    inl (record { setup = c.in-Ok.setup; is = c.in-Ok.ensures.setup; written = c.in-Whole.ensures.shown; status_is = refl; unsaid = Keeps-refl _ })

pub returns-in-Cut-clause-run : goal.returns-in-Cut-clause-run
returns-in-Cut-clause-run g c =
    inr (inl (record {
      setup = c.in-Ok.setup;
      is = c.in-Ok.ensures.setup;
      front = c.in-Cut.ensures.shown.1;
      failed = c.in-Cut.ensures.shown.0;
      told = c.tell.ensures.told;
    }))

pub returns-in-Starved-clause-run : goal.returns-in-Starved-clause-run
returns-in-Starved-clause-run g c =
    inr (inr (inl (record {
      setup = c.in-Ok.setup;
      is = c.in-Ok.ensures.setup;
      front = c.in-Starved.ensures.shown;
      told = c.tell-in-Starved.ensures.told;
    })))

pub returns-in-Err-clause-run : goal.returns-in-Err-clause-run
returns-in-Err-clause-run g c = inr (inr (inr (record { unwritten = Keeps-refl _; told = c.tell_first.ensures.told })))
