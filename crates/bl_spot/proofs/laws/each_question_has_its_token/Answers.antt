use Rattle.bl_spot.proofs.Failing.{asks_what_is_asked}
use Rattle.bl_spot.proofs.Tokens.{asks_its_tokens}
use Rattle.bl_spot.proofs.laws.each_question_has_its_token.Goals as goal

pub returns : goal.returns
returns c = record { questions = asks_what_is_asked; tokens = asks_its_tokens }
