use Rattle.bl_command.proofs.Reading.{read_as}
use Rattle.bl_command.proofs.serve.serve_read.Goals as goal

-- what was read is what these bytes are
pub serve_or_tell-requires-clause-read : goal.serve_or_tell-requires-clause-read
serve_or_tell-requires-clause-read g c κs within =
    read_as c.args.bytes.now c.given_setup-setup.result c.given_setup-setup.ensures.setup c.given_setup-setup.ensures.fault
