use Rattle.std.proofs.Common.{◌+◌, ◌≤◌, take, sym, ◌∙◌, ap, arith, get_or, true≢false, take_all}
use Rattle.std.specs.Prelude.{Some}
use Rattle.std.specs.Str.Parse.{digits_value}
use Rattle.bl_trail.proofs.Numbers.{decimal-digit, decimal-front, decimal-whole, digit-told, digits-step}
use Rattle.bl_trail.proofs.ask.number.Goals as goal

pub returns-then-not-is_ascii_digit : goal.returns-then-not-is_ascii_digit
returns-then-not-is_ascii_digit c n small is =
    let range = decimal-digit c.args.text.now n c.loop-byte.byte-index small is c.loop-byte-test.true in
    absurd (true≢false (sym (digit-told (get_or c.args.text.now c.loop-byte.byte-index 0) range.0 range.1) ∙ sym c.is_ascii_digit.ensures.value ∙ c.if-not-is_ascii_digit.true))

pub returns-then-number-gt-MOST_NUMBER : goal.returns-then-number-gt-MOST_NUMBER
returns-then-number-gt-MOST_NUMBER c n small is =
    let step = digits-step c.args.text.now c.loop-byte.byte-index c.loop-byte.number c.from.result c.loop-byte-test.true
    (sym c.is_ascii_digit.ensures.value ∙ c.if-not-is_ascii_digit.false) c.loop-byte.invariant.0 c.from.ensures in
    let front : digits_value 10 (take (c.loop-byte.byte-index + 1) c.args.text.now) ≤ n = decimal-front c.args.text.now n (c.loop-byte.byte-index + 1) small is in
    absurd (omega (arith, step, front, small, c.if-number-gt-MOST_NUMBER.true))

pub loop-byte-preserved : goal.loop-byte-preserved
loop-byte-preserved c = (
  digits-step c.args.text.now c.loop-byte.byte-index c.loop-byte.number c.from.result c.loop-byte-test.true
      (sym c.is_ascii_digit.ensures.value ∙ c.if-not-is_ascii_digit.false) c.loop-byte.invariant.0 c.from.ensures,
  omega (arith, c.if-number-gt-MOST_NUMBER.false),
)

pub returns : goal.returns
returns c n small is =
    ap Some (c.loop-byte.invariant.0 ∙ ap (digits_value 10) (take_all c.loop-byte.byte-index c.args.text.now (omega (arith, c.loop-byte-test.false))) ∙ decimal-whole c.args.text.now n small is)
