use Rattle.std.proofs.Common.{rules, ◌∙◌, ℕ, List, take, inl, inr, refl, subst}
use Rattle.std.proofs.KnownBytes.{Appends-nil}
use Rattle.std.specs.Io.KnownBytes.{Appends}
use Rattle.bl_status.specs.declared.fault.ProgramFault.TheVariants.{NoMemory, Write}
use Rattle.bl_auditing.proofs.audit.audit_on.Goals as goal

-- no memory was there for what is told
pub returns-in_default-clause-run : goal.returns-in_default-clause-run
returns-in_default-clause-run g c before is =
    inr (inr (
      c.in-Ok.audited,
      c.in-Ok.ensures.true_chain before is,
      (NoMemory, inl refl, c.tell.ensures.told.status_is, c.tell.ensures.puts, (0, Appends-nil _)),
    ))

-- the chain is true, and that was told
pub returns-then-put_out-clause-run : goal.returns-then-put_out-clause-run
returns-then-put_out-clause-run g c before is =
    let text = c.as_bytes.ensures.value ∙ c.in-Ok-text.ensures in
    inl (record {
      audited = c.in-Ok.audited;
      are = c.in-Ok.ensures.true_chain before is;
      well = refl;
      told = subst (λ (t : List ℕ). Appends (g.W.Write.contents c.args.writer.now.inner) (g.W.Write.contents c.put_out.new.writer.inner) t) text (c.put_out.ensures.all (search rules));
    })

-- it is, and that was not told whole
pub returns-clause-run : goal.returns-clause-run
returns-clause-run g c before is =
    let text = c.as_bytes.ensures.value ∙ c.in-Ok-text.ensures in
    let some = c.put_out.ensures.some in
    inr (inr (
      c.in-Ok.audited,
      c.in-Ok.ensures.true_chain before is,
      (
        Write,
        inr refl,
        c.tell-else-put_out.ensures.told.status_is,
        c.tell-else-put_out.ensures.puts,
        (some.0, subst (λ (t : List ℕ). Appends (g.W.Write.contents c.args.writer.now.inner) (g.W.Write.contents c.put_out.new.writer.inner) (take some.0 t)) text some.1),
      ),
    ))
