use Rattle.std.proofs.Common.{◌≡◌, ◌-◌, ◌≤◌, ◌∙◌, All, List, arith, ap, drop, length, length-drop, subst, take, take_all}
use Rattle.bl_hall.specs.declared.reply.Reply.{Reply}
use Rattle.bl_serve.specs.Told.{ordinal_of}
use Rattle.bl_serve.proofs.Taking.{page_on}
use Rattle.bl_serve.proofs.told.seek_line.Goals as goal

pub returns-clause-page : goal.returns-clause-page
returns-clause-page c =
    let told = c.args.told.now in
    let page = c.requires.page in
    let below = page.1 in
    let rest : take (length told - c.args.next) (drop c.args.next told) ≡ drop c.args.next told =
    take_all (length told - c.args.next) (drop c.args.next told) (omega (arith, length-drop c.args.next told))
    in (
      c.args.ordinal - 1,
      omega (arith, below),
      page_on told c.args.next page.0 (c.args.ordinal - 1) c.count_up_to.result page.2 (omega (arith, below)) (omega (arith, c.count_up_to.ensures.within, ap length rest))
          (subst (λ (l : List Reply). All (λ (r : Reply). ordinal_of r ≤ c.args.ordinal - 1) (take c.count_up_to.result l)) rest c.count_up_to.ensures.low),
    )
