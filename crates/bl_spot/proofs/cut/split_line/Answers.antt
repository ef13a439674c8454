use Rattle.std.proofs.Common.{◌≡◌, ℕ, ◌<◌, ◌≢◌, ◌+◌, suc, eqb, true, get_or, take, length, arith, add-one, refl, sym, inl, inr, take-append-drop}
use Rattle.std.proofs.lemmas.List.{take_rest, drop_all, append-nil}
use Rattle.std.proofs.lemmas.Bool.Decides.{nat_tests}
use Rattle.bl_setup.proofs.CutLemmas.{lines_whole}
use Rattle.bl_spot.proofs.Parting.{first_one, first_closed}
use Rattle.bl_spot.proofs.cut.split_line.Goals as goal

is_lf : (b : ℕ) → eqb b 10 ≡ true → b ≡ 10
is_lf b e = grind (arith, nat_tests)

lf_is : (b : ℕ) → b ≡ 10 → eqb b 10 ≡ true
lf_is b e = grind (arith, nat_tests)

pub returns-in-Some : goal.returns-in-Some
returns-in-Some c =
    let bytes = c.args.bytes.now in
    let at = c.in-Some.at in
    let h = c.in-Some.ensures in
    let none : (k : ℕ) → k < at → get_or bytes k 0 ≢ 10 = λ k before e. h.0.before k (omega arith) before (lf_is (get_or bytes k 0) e) in
    rw (take_rest bytes (at + 1), add-one)
    record {
      taken = take (suc at) bytes;
      split = sym (take-append-drop (suc at) bytes);
      one = first_one bytes at h.0.high (is_lf (get_or bytes at 0) h.1) none;
      ends = inl (first_closed bytes at h.0.high (is_lf (get_or bytes at 0) h.1) none);
    }

pub returns-in-None : goal.returns-in-None
returns-in-None c =
    let bytes = c.args.bytes.now in
    let h = c.in-None.ensures in
    let none : (k : ℕ) → k < length bytes → get_or bytes k 0 ≢ 10 = λ k within e. h k (omega arith) within (lf_is (get_or bytes k 0) e) in
    rw (take_rest bytes (length bytes), drop_all (length bytes) bytes (omega arith))
    record { taken = bytes; split = sym (append-nil bytes); one = lines_whole bytes c.requires none; ends = inr refl }
