-- What is due of bytes of which a front was given.
use Rattle.std.proofs.Common.{◌≡◌, ◌∙◌, ◌+◌, ◌-◌, ◌≤◌, ℕ, List, take, drop, sym, ap, arith, drop-drop}
use Rattle.std.proofs.lemmas.List.{drop-take}

pub due_after : (n due given : ℕ) (bytes : List ℕ) → n ≤ due
    → take (due - n) (drop (given + n) bytes) ≡ drop n (take due (drop given bytes))
due_after n due given bytes within =
    let whole : n + (due - n) ≡ due = omega (arith, within) in
    ap (λ l. take (due - n) l) (sym (drop-drop n given bytes)) ∙ sym (drop-take n (due - n) (drop given bytes))
    ∙ ap (λ k. drop n (take k (drop given bytes))) whole
