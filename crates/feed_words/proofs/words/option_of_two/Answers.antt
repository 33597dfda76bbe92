use Rattle.std.proofs.Common.{◌∙◌, sym, ap, ◌∷◌, ◌-◌, codes, drop, length, take}
use Rattle.std.proofs.lemmas.Slice.Eq.{bytes_eq-Decides}
use Rattle.feed_words.proofs.Parted.{two_words}
use Rattle.feed_words.specs.Words.{texts}
use Rattle.feed_words.proofs.words.option_of_two.Goals as goal

pub returns-in-len2-up-clause-some : goal.returns-in-len2-up-clause-some
returns-in-len2-up-clause-some c =
    let both = two_words c.args.words.now c.word-item.result c.value-item.result _ _ c.as_str.result.now c.as_str-in-len2-up.result.now
    c.in-len2-up.len_at_least c.word-item.is c.value-item.is c.as_str.ensures.value c.as_str-in-len2-up.ensures.value in
    let is = (bytes_eq-Decides c.as_str.result.now (codes "--base")).0 (sym c.eq.ensures ∙ c.if-eq.true) in
    both ∙ ap (λ w. w ∷ c.as_str-in-len2-up.result.now ∷ texts (take (length c.args.words.now - 2) (drop 2 c.args.words.now))) is
