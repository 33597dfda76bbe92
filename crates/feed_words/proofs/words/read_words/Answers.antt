use Rattle.std.proofs.Common.{◌∙◌, ap, sym, subst, length, ◌≤◌}
use Rattle.feed_words.proofs.Parted.{first_plain, none_given, two_given}
use Rattle.feed_words.specs.Words.{given_by, texts}
use Rattle.feed_words.proofs.words.read_words.Goals as goal

pub returns : goal.returns
returns c = sym (none_given (texts c.args.words.now) (first_plain (texts c.args.words.now) (sym c.begins_with_option.ensures ∙ c.if-begins_with_option.false))
    (ap given_by (sym c.in_ok-options.ensures.options) ∙ two_given c.in_ok-options.options.items
    (subst (λ l. 2 ≤ length l) c.as_slice.ensures.value c.in_default.len_at_least)))
