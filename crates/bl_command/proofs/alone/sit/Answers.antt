use Rattle.std.proofs.Common.{◌≡◌, List, ℕ, inl, inr, rules, subst}
use Rattle.std.proofs.KnownBytes.{Keeps-refl}
use Rattle.bl_wire.specs.Watch.{used}
use Rattle.bl_status.specs.Runs.{Run}
use Rattle.bl_command.specs.Runs.{IsAloneAsked}
use Rattle.bl_command.proofs.alone.sit.Goals as goal

-- the file could not be read
pub returns-in-Err-clause-unread : goal.returns-in-Err-clause-unread
returns-in-Err-clause-unread g c = rw c.in-Err.is (c.tell.ensures.told, Keeps-refl _, Keeps-refl _)

-- over the setup that was read of its bytes
pub returns-in-Ok-given_setup-clause-run : goal.returns-in-Ok-given_setup-clause-run
returns-in-Ok-given_setup-clause-run g c =
    let asked = c.args.asked.now in
    let bytes : c.as_slice-bytes.result.now ≡ c.in-Ok.text.items = search rules in
    let run : Run = record {
      status = c.sit_given.result;
      input = used g.R.Read.remaining c.args.reader.now c.sit_given.new.reader;
      output = used g.W.Write.contents c.args.writer.now c.sit_given.new.writer;
      errors = used g.E.Write.contents c.args.errors.now c.sit_given.new.errors;
    } in
    rw c.in-Ok.is (subst (λ (text : List ℕ). IsAloneAsked asked.trail asked.keeping asked.run.limit text run) bytes
    (inl (c.in-Ok-given_setup.setup, c.in-Ok-given_setup.ensures.setup, c.sit_given.ensures.run)))

-- the bytes are no setup
pub returns-clause-run : goal.returns-clause-run
returns-clause-run g c =
    let asked = c.args.asked.now in
    let bytes : c.as_slice-bytes.result.now ≡ c.in-Ok.text.items = search rules in
    let run : Run = record {
      status = c.tell-in-Err-given_setup.result;
      input = used g.R.Read.remaining c.args.reader.now c.args.reader.now;
      output = used g.W.Write.contents c.args.writer.now c.args.writer.now;
      errors = used g.E.Write.contents c.args.errors.now c.tell-in-Err-given_setup.new.errors;
    } in
    rw c.in-Ok.is (subst (λ (text : List ℕ). IsAloneAsked asked.trail asked.keeping asked.run.limit text run) bytes
    (inr (
      c.in-Err-given_setup.fault,
      c.tell-in-Err-given_setup.ensures.told,
      record { unread = Keeps-refl _; unmet = record { unwritten = Keeps-refl _; none = c.in-Err-given_setup.ensures.fault } },
    )))
