use Rattle.bl_standing.proofs.left.fitting_after.Goals as goal

-- its text is longer than a setup file may be
pub returns-then-bytes-gt-MOST_FILE_BYTES-clause-fault : goal.returns-then-bytes-gt-MOST_FILE_BYTES-clause-fault
returns-then-bytes-gt-MOST_FILE_BYTES-clause-fault c =
    (c.in_ok-left.left, c.in_ok-left.ensures.stands, c.setup_len-bytes.ensures.len, c.if-bytes-gt-MOST_FILE_BYTES.true)
