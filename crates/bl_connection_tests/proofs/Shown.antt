-- What is left of replies that show one text.
use Rattle.std.proofs.Common.{◌≡◌, ◌<◌, ◌≤◌, ℕ, Bool, true, false, List, [], ◌++◌, nat_le, cond, codes, decimal, ap, arith}
use Rattle.std.proofs.lemmas.Bool.Decides.{nat_tests}
use Rattle.bl_connection_tests.specs.declared.shows.Shows.{Shows}
use Rattle.bl_connection_tests.specs.Shown.{left_of}

abbrev pub reply_of : Shows → ℕ → List ℕ
reply_of shows k = decimal k ++ (codes " done \"" ++ (shows.text.now ++ codes "\"\n"))

above : (k n : ℕ) → n < k → nat_le k n ≡ false
above k n less = grind (arith, nat_tests)

upto : (k n : ℕ) → k ≤ n → nat_le k n ≡ true
upto k n le = grind (arith, nat_tests)

pub left_above : (shows : Shows) (k : ℕ) → shows.upto < k → left_of shows k ≡ reply_of shows k
left_above shows k less = ap (λ b. cond b [] (reply_of shows k)) (above k shows.upto less)

pub left_none : (shows : Shows) (k : ℕ) → k ≤ shows.upto → left_of shows k ≡ []
left_none shows k le = ap (λ b. cond b [] (reply_of shows k)) (upto k shows.upto le)
