use Rattle.bl_serve.proofs.Together.{all_stay, one_comes, one_goes_on}
use Rattle.bl_serve.proofs.laws.courses_stay.Goals as goal

pub returns-clause-turns : goal.returns-clause-turns
returns-clause-turns c before after sessions on none names first are = all_stay names first before after sessions are on none

pub returns-clause-goes_on : goal.returns-clause-goes_on
returns-clause-goes_on c names first before after sessions i s on one stands are =
    one_goes_on names first before after sessions are on i s one.there one.same one.alone stands

pub returns-clause-opens : goal.returns-clause-opens
returns-clause-opens c before after sessions subject session on opens names first are =
    one_comes names first before after sessions are on subject session opens
