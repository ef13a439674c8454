use Rattle.std.proofs.Common.{◌≡◌, [], ◌∷◌, ◌++◌, length, sym, ◌∙◌, ap, subst, arith}
use Rattle.std.proofs.lemmas.Result.{err_from_is_err_and}
use Rattle.bl_policy.specs.Policy.{current_of}
use Rattle.bl_monitor.specs.declared.place.Place.{Place}
use Rattle.bl_monitor.specs.Heard.{MayCome, Knows, answer_at}
use Rattle.bl_order.specs.Known.{KnowsAnswer}
use Rattle.bl_monitor.specs.Judging.{IsJudged, KnowsEntry, Leaves, carried_by_children, case_of, content_behind, record_of}
use Rattle.bl_monitor.specs.Places.{place_of, task_of}
use Rattle.bl_monitor.specs.Sound.{IsAdmitted, CanCome, IsSound, heard_of, setup_of}
use Rattle.bl_monitor.proofs.Errors.{moved, not_memory, not_ok}
use Rattle.bl_monitor.proofs.Changes.{whole_again}
use Rattle.bl_monitor.proofs.Coming.{may_come, can_come, admitted_can, as_long, next_known, next_sound, next_answer, next_ids}
use Rattle.bl_monitor.proofs.monitor.Monitor.next.Goals as goal

pub returns-in_err-admitted-clause-no_child : goal.returns-in_err-admitted-clause-no_child
returns-in_err-admitted-clause-no_child c =
    let p = err_from_is_err_and c.from_residual.result c.from_residual.ensures.1 in
    let can : MayCome c.args.self.now c.args.entry → CanCome c.deref.result.now c.args.entry =
    λ m. subst (λ ps. CanCome ps c.args.entry) (sym c.deref.ensures.value) (can_come c.self.inside c.self.invariant c.args.entry (subst (λ h. MayCome h c.args.entry) (sym c.self.view_is) m)) in
    let may : CanCome c.deref.result.now c.args.entry → MayCome c.args.self.now c.args.entry =
    λ m. subst (λ h. MayCome h c.args.entry) c.self.view_is (may_come c.self.inside c.self.invariant c.args.entry (subst (λ ps. CanCome ps c.args.entry) c.deref.ensures.value m)) in
    rw (p.1, p.2) (λ x m. c.in_err-admitted.ensures.no_child.0 (moved _ _ x) (can m), λ n. moved _ _ (c.in_err-admitted.ensures.no_child.1 (λ k. n (may k))))

pub returns-in_err-reserve-clause-no_child : goal.returns-in_err-reserve-clause-no_child
returns-in_err-reserve-clause-no_child c =
    let p = err_from_is_err_and c.from_residual-in_err-reserve.result c.from_residual-in_err-reserve.ensures.1 in
    let is : IsAdmitted c.self.inside.places.items c.args.entry c.in_ok-admitted.admitted =
    subst (λ ps. IsAdmitted ps c.args.entry c.in_ok-admitted.admitted) c.deref.ensures.value c.in_ok-admitted.ensures.ok in
    let may : MayCome c.args.self.now c.args.entry =
    subst (λ h. MayCome h c.args.entry) c.self.view_is (may_come c.self.inside c.self.invariant c.args.entry (admitted_can c.self.inside c.self.invariant c.args.entry c.in_ok-admitted.admitted is)) in
    rw (p.1, p.2) (λ x m. not_memory x, λ n. absurd (n may))

pub level_for_children-carried_by_children-requires : goal.level_for_children-carried_by_children-requires
level_for_children-carried_by_children-requires c =
    let is : IsAdmitted c.self.inside.places.items c.args.entry c.in_ok-admitted.admitted =
    subst (λ ps. IsAdmitted ps c.args.entry c.in_ok-admitted.admitted) c.deref.ensures.value c.in_ok-admitted.ensures.ok in
    (next_known c.self.inside c.self.invariant c.args.entry c.in_ok-admitted.admitted
    (subst (λ h. Knows h.setup c.args.entry) (sym c.self.view_is) c.requires) is c.behaviours-behaviours.ensures.script).subject

pub judge-requires : goal.judge-requires
judge-requires c =
    let is : IsAdmitted c.self.inside.places.items c.args.entry c.in_ok-admitted.admitted =
    subst (λ ps. IsAdmitted ps c.args.entry c.in_ok-admitted.admitted) c.deref.ensures.value c.in_ok-admitted.ensures.ok in
    subst (λ cs. KnowsEntry c.self.inside.policy cs c.in_ok-admitted.admitted) (sym c.deref_mut.ensures.value)
    (next_known c.self.inside c.self.invariant c.args.entry c.in_ok-admitted.admitted
    (subst (λ h. Knows h.setup c.args.entry) (sym c.self.view_is) c.requires) is c.behaviours-behaviours.ensures.script)

pub returns-in_err-judged-clause-no_child : goal.returns-in_err-judged-clause-no_child
returns-in_err-judged-clause-no_child c =
    let p = err_from_is_err_and c.from_residual-in_err-judged.result c.from_residual-in_err-judged.ensures.1 in
    let is : IsAdmitted c.self.inside.places.items c.args.entry c.in_ok-admitted.admitted =
    subst (λ ps. IsAdmitted ps c.args.entry c.in_ok-admitted.admitted) c.deref.ensures.value c.in_ok-admitted.ensures.ok in
    let may : MayCome c.args.self.now c.args.entry =
    subst (λ h. MayCome h c.args.entry) c.self.view_is (may_come c.self.inside c.self.invariant c.args.entry (admitted_can c.self.inside c.self.invariant c.args.entry c.in_ok-admitted.admitted is)) in
    rw (p.1, p.2) (λ x m. not_memory x, λ n. absurd (n may))

-- ---- where the entry is answered

known : (c : goal.After-keep) → Knows (setup_of c.self.inside) c.args.entry
known c = subst (λ h. Knows h.setup c.args.entry) (sym c.self.view_is) c.requires

admitted : (c : goal.After-keep) → IsAdmitted c.self.inside.places.items c.args.entry c.in_ok-admitted.admitted
admitted c = subst (λ ps. IsAdmitted ps c.args.entry c.in_ok-admitted.admitted) c.deref.ensures.value c.in_ok-admitted.ensures.ok

may : (c : goal.After-keep) → MayCome c.args.self.now c.args.entry
may c =
    subst (λ h. MayCome h c.args.entry) c.self.view_is
    (may_come c.self.inside c.self.invariant c.args.entry
    (admitted_can c.self.inside c.self.invariant c.args.entry c.in_ok-admitted.admitted (admitted c)))

judged : (c : goal.After-keep) → IsJudged c.self.inside.policy c.self.inside.contents.items (case_of c.in_ok-admitted.admitted (task_of c.in_ok-admitted.admitted)) c.in_ok-judged.judged
judged c =
    subst (λ cs. IsJudged c.self.inside.policy cs (case_of c.in_ok-admitted.admitted (task_of c.in_ok-admitted.admitted)) c.in_ok-judged.judged)
    c.deref_mut.ensures.value c.in_ok-judged.ensures.judged

-- the places after this one was kept
abbrev kept : goal.After-keep → Place
kept c = place_of c.in_ok-admitted.admitted (carried_by_children c.self.inside.version (current_of c.self.inside.policy c.in_ok-admitted.admitted.subject) c.in_ok-admitted.admitted.carried) c.in_ok-judged.judged

grown : (c : goal.After-keep) → c.keep.new.places.items ≡ c.self.inside.places.items ++ kept c ∷ []
grown c = c.keep.ensures.places ∙ ap (λ ps. ps ++ place_of c.in_ok-admitted.admitted c.level_for_children-carried_by_children.result c.in_ok-judged.judged ∷ []) c.in_ok-reserve.ensures.items
    ∙ ap (λ l. c.self.inside.places.items ++ place_of c.in_ok-admitted.admitted l c.in_ok-judged.judged ∷ []) c.level_for_children-carried_by_children.ensures

-- the contents after the entry
leaves : (c : goal.After-keep)
    → Leaves c.self.inside.contents.items (content_behind c.self.inside.contents.items (record_of c.self.inside.policy c.self.inside.contents.items (case_of c.in_ok-admitted.admitted (task_of c.in_ok-admitted.admitted)))) c.judge.new.contents
leaves c =
    subst (λ cs. Leaves cs (content_behind cs (record_of c.self.inside.policy cs (case_of c.in_ok-admitted.admitted (task_of c.in_ok-admitted.admitted)))) c.judge.new.contents)
    c.deref_mut.ensures.value c.in_ok-judged.ensures.left

pub invariant_of-self-2 : goal.invariant_of-self-2
invariant_of-self-2 c =
    let count : c.self.inside.contents.len ≡ length c.judge.new.contents = omega (arith, (leaves c).as_many, c.self.inside.contents.ok.0) in
    subst (λ cs. IsSound (setup_of c.self.inside) c.judge.new.policy cs c.keep.new.places.items)
    (sym (whole_again c.judge.new.contents c.self.inside.contents.items c.self.inside.contents.len count))
    (subst (IsSound (setup_of c.self.inside) c.judge.new.policy c.judge.new.contents) (sym (grown c))
    (next_sound c.self.inside c.self.invariant c.args.entry c.in_ok-admitted.admitted c.in_ok-judged.judged c.judge.new.policy c.judge.new.contents
    (known c) (admitted c) c.behaviours-behaviours.ensures.script (judged c) c.in_ok-judged.ensures.policy (leaves c)))

pub returns-clause-answer : goal.returns-clause-answer
returns-clause-answer c =
    c.keep.ensures.answer
    ∙ next_answer c.self.inside c.self.invariant c.args.entry c.in_ok-admitted.admitted c.in_ok-judged.judged c.judge.new.policy c.judge.new.contents
    (known c) (admitted c) c.behaviours-behaviours.ensures.script (judged c) c.in_ok-judged.ensures.policy (leaves c)
    ∙ ap (λ ps. answer_at (heard_of (setup_of c.self.inside) ps) (length c.self.inside.places.items)) (sym (grown c))
    ∙ ap (answer_at (heard_of (setup_of c.self.inside) c.keep.new.places.items))
    (sym (as_long c.self.inside c.self.invariant) ∙ ap (λ h. length h.order) c.self.view_is)

pub returns-clause-ids : goal.returns-clause-ids
returns-clause-ids c =
    subst (KnowsAnswer c.args.self.now.setup) (sym c.keep.ensures.answer)
    (subst (λ h. KnowsAnswer h.setup c.in_ok-judged.judged.answer) c.self.view_is
    (next_ids c.self.inside c.self.invariant c.args.entry c.in_ok-admitted.admitted c.in_ok-judged.judged c.judge.new.policy c.judge.new.contents
    (known c) (admitted c) c.behaviours-behaviours.ensures.script (judged c) c.in_ok-judged.ensures.policy (leaves c)))

pub returns-clause-came : goal.returns-clause-came
returns-clause-came c = may c

pub returns-clause-no_child : goal.returns-clause-no_child
returns-clause-no_child c = (λ x m. not_ok c.keep.result x, λ n. absurd (n (may c)))
