use Rattle.std.proofs.Common.{subst}
use Rattle.std.proofs.lemmas.Result.{on_ok_weaker}
use Rattle.bl_chain_serving.specs.Following.{IsBegunNext}
use Rattle.bl_setup.specs.Setup.{Setup}
use Rattle.bl_chain_serving.proofs.next.change_over.Goals as goal

pub returns-clause-folder : goal.returns-clause-folder
returns-clause-folder g c = λ before is.
    let named = c.in_ok-named.ensures.named before is in
    on_ok_weaker c.begin_next.result
    (λ begun. record {
      standing = begun.standing;
      is = begun.is;
      so = record {
        named = named.standing;
        first = named.so;
        then = subst (λ (setup : Setup). IsBegunNext c.args.run setup named.standing begun.standing) c.in_ok-left.ensures.is begun.so;
      };
    })
    (c.begin_next.ensures.folder named.standing named.is)
