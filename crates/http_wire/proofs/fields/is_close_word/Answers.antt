use Rattle.std.proofs.Common.{◌∙◌, ℕ, List, ap, codes, reverse}
use Rattle.std.specs.Str.{str_eq_ignore_ascii_case}
use Rattle.httparse.specs.Grammar.{skip_ows, trim_ows}
use Rattle.http_wire.proofs.fields.is_close_word.Goals as goal

pub returns : goal.returns
unfolding trim_ows
returns c =
    c.same_in_any_case.ensures
    ∙ ap (λ (t : List ℕ). str_eq_ignore_ascii_case t (codes "close")) (c.skip_back.ensures ∙ ap (λ (t : List ℕ). reverse (skip_ows (reverse t))) c.skip_front.ensures)
