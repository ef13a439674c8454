use Rattle.std.proofs.Common.{[], refl}
use Rattle.std.proofs.lemmas.Slice.Eq.{bytes_eq-Decides}
use Rattle.bl_work.proofs.Pieces.{stands_from_has, has_from_stands}
use Rattle.bl_work.proofs.laws.conditions.Goals as goal

pub returns-clause-is : goal.returns-clause-is
returns-clause-is c content text = bytes_eq-Decides content text

pub returns-clause-has : goal.returns-clause-has
returns-clause-has c content text = (stands_from_has content text, has_from_stands content text)

pub returns-clause-empty : goal.returns-clause-empty
returns-clause-empty c content = has_from_stands content [] (record { before = []; after = content; split = refl })
