use Rattle.std.proofs.Common.{◌≡◌, get_or, true, sym, ◌∙◌, arith}
use Rattle.std.specs.Char.{is_ascii_digit}
use Rattle.std.proofs.lemmas.Bool.{and_from}
use Rattle.std.proofs.lemmas.Int.Digits.{digits_value_more}
use Rattle.std.proofs.lemmas.List.Folds.{list_all_more}
use Rattle.nuget_version.proofs.Spelled.{digit-is}
use Rattle.nuget_version.proofs.walk.digits.Goals as goal

pub loop-at-preserved : goal.loop-at-preserved
loop-at-preserved c =
    let text = c.args.text.now in
    let at = c.loop-at.at in
    let digit : is_ascii_digit (get_or text at 0) ≡ true = sym c.is_ascii_digit.ensures.value ∙ c.if-not-is_ascii_digit.false in
    let more = digits_value_more 10 text at c.loop-at-test.true in
    let d = digit-is (get_or text at 0) digit in
    record {
      bytes = list_all_more is_ascii_digit text at 0 c.loop-at-test.true ∙ and_from _ _ c.loop-at.invariant.bytes digit;
      value = omega (arith, c.with_digit-value.ensures, c.loop-at.invariant.value, more, d.0);
    }
