use Rattle.std.proofs.Common.{◌∷◌, ◌++◌, codes, decimal, refl}
use Rattle.std.specs.Prelude.{Some}
use Rattle.bl_trail.proofs.Comparing.{is-whole, left-two, left-four}
use Rattle.bl_trail.proofs.compare.is_line.Goals as goal

pub returns : goal.returns
returns c =
    is-whole (codes "line " ++ (decimal c.args.session ++ (32 ∷ (decimal c.args.ordinal ++ (32 ∷ c.args.work.now))))) c.args.line.now _ _
    (left-four (codes "line " ++ (decimal c.args.session ++ (32 ∷ (decimal c.args.ordinal ++ (32 ∷ c.args.work.now)))))
    (codes "line ") (decimal c.args.session) (codes " ") (decimal c.args.ordinal ++ (32 ∷ c.args.work.now)) (Some c.args.line.now) _ _ _ _ refl
    c.after-rest.ensures c.after_number-rest.ensures c.after-rest-2.ensures
    (left-two (decimal c.args.ordinal ++ (32 ∷ c.args.work.now)) (decimal c.args.ordinal) (32 ∷ c.args.work.now) _ _ _ refl c.after_number-rest-2.ensures
    (left-two (32 ∷ c.args.work.now) (codes " ") c.args.work.now _ _ _ refl c.after-rest-3.ensures c.after.ensures))) c.is_over.ensures
