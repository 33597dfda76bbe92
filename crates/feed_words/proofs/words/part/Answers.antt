use Rattle.std.proofs.Common.{◌∙◌, sym}
use Rattle.feed_words.proofs.Parted.{one_word, with_option}
use Rattle.feed_words.proofs.words.part.Goals as goal

pub loop-rest-preserved-in_ok-push-2 : goal.loop-rest-preserved-in_ok-push-2
loop-rest-preserved-in_ok-push-2 c =
    let first = one_word c.loop-rest.rest.now c.word-item.result _ c.as_str-text.result.now c.in-len1-up.len_at_least c.word-item.is c.as_str-text.ensures.value in
    rw c.in_ok-push-2.ensures.items (with_option c.args.words.now c.loop-rest.rest.now _ _ _ c.in_ok-copy.copy c.loop-rest.invariant _ first
    c.in_default-option_of_two.ensures.none c.in_ok-copy.ensures.ok (sym c.is_option.ensures ∙ c.if-is_option.true))
