use Rattle.std.proofs.Common.{◌≡◌, [], inl, refl, subst, sym}
use Rattle.std.specs.Prelude.{IfOk, Ok, Result}
use Rattle.bl_disk.specs.File.{File}
use Rattle.bl_gate.specs.Gates.{hall_seen}
use Rattle.bl_hall.specs.Chronicle.{Chronicle}
use Rattle.bl_keeper.proofs.Keeping.{kept_now}
use Rattle.bl_keeper.specs.Keeping.{HasKept}
use Rattle.bl_record.specs.Kept.{IsKept}
use Rattle.bl_record.specs.Torn.{IsTornHead, head_front}
use Rattle.bl_record.specs.declared.journal.Journal.{Journal}
use Rattle.bl_setup.specs.Setup.{Setup}
use Rattle.bl_setup.specs.declared.version.Version.TheVariants.{Two}
use Rattle.bl_keeper_tests.proofs.base.begin_in.Goals as goal

-- it has kept each hall in which nothing has happened
abbrev KeepsFirst : {D : Type 0} → (D → File) → Journal D → Type 0
KeepsFirst now journal = (setup : Setup) → setup.version ≡ Two
    → IsKept (record { setup = setup; limit = 10000; trail = [] }) journal.bookmark (now journal.log.device)

keeps_first : {D E : Type 0} (now : D → File) (made : Result (Journal D) E) (journal : Journal D) → made ≡ Ok journal
    → IfOk made (KeepsFirst now) → KeepsFirst now journal
keeps_first now made journal is kept = subst (λ outcome. IfOk outcome (KeepsFirst now)) is kept

-- a file that has nothing has a torn head
pub begin-requires-clause-fresh : goal.begin-requires-clause-fresh
begin-requires-clause-fresh g c = subst IsTornHead (sym c.requires.empty) (inl (head_front, refl))

pub returns-clause-kept : goal.returns-clause-kept
returns-clause-kept g c =
    let journal = c.right-journal.result in
    let now = g.D.Device.now in
    let file = now journal.log.device in
    let pass = c.base_gate-gate.result.1 in
    let setup = pass.gate.base.setup in
    let begun : Chronicle = record { setup = setup; limit = 10000; trail = [] } in
    let seen : hall_seen pass ≡ begun =
    λ i. record { setup = setup; limit = c.base_gate-gate.ensures.limit i; trail = c.base_gate-gate.ensures.seen i } in
    let kept : IsKept begun journal.bookmark file =
    keeps_first now _ journal c.right-journal.ensures c.begin.ensures.kept setup c.base_gate-gate.ensures.version in
    subst (λ (h : Chronicle). HasKept h journal.bookmark file) (sym seen) (kept_now begun journal.bookmark file kept)
