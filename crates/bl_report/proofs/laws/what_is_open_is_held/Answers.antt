use Rattle.bl_report.proofs.Opening.{all-held, open-held}
use Rattle.bl_report.proofs.laws.what_is_open_is_held.Goals as goal

pub returns-clause-places : goal.returns-clause-places
returns-clause-places c setup limit events p n steps reach = open-held setup limit events steps p reach n

pub returns-clause-all : goal.returns-clause-all
returns-clause-all c setup limit events p steps reach = all-held setup limit events steps p reach
