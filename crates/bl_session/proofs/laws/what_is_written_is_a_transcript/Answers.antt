use Rattle.bl_session.specs.Transcript.{transcript}
use Rattle.bl_session.proofs.TranscriptLaws.{is_transcript}
use Rattle.bl_session.proofs.laws.what_is_written_is_a_transcript.Goals as goal

pub returns : goal.returns
returns c = record {
  turns = is_transcript;
  served = λ setup limit reader writer served.
      (transcript setup limit served.fate served.turns, served.put, is_transcript setup limit served.fate served.turns);
}
