use Rattle.std.proofs.Common.{sym, ◌∙◌, ap, subst}
use Rattle.bl_hall.specs.Chronicle.{Chronicle, HasTrail, state_now}
use Rattle.bl_rebuild.specs.Unfinished.{lent_in, slot_at}
use Rattle.bl_rebuild.proofs.remade.Remade.new.Goals as goal

pub returns-clause-whole : goal.returns-clause-whole
returns-clause-whole c = record {
  trail = subst HasTrail (sym c.in_ok-hall.ensures) tt;
  lent = λ n. ap (λ s. slot_at s n) c.new-2.ensures ∙ sym (ap (λ (h : Chronicle). lent_in (state_now h) n) c.in_ok-hall.ensures);
}
