use Rattle.std.proofs.Common.{List, ℕ, String, Global, map, refl, sym, ap, ◌∙◌}
use Rattle.std.specs.List.{filter}
use Rattle.fold_core.specs.declared.doc.Body.{Body}
use Rattle.id_pass.specs.Named.{bodies_of}
use Rattle.id_pass.specs.Passes.{doc_put, is_missing}
use Rattle.id_pass.proofs.Named.{as_named, entries-bodies_of}
use Rattle.id_pass.proofs.Puts.{ended}
use Rattle.id_pass.proofs.docs.puts_of.Goals as goal

pub returns : goal.returns
returns c =
    ended (λ (es : List (String Global × Body)). map doc_put (filter (is_missing (bodies_of c.args.given.now)) (map as_named es)))
    c.loop-name.calls _ c.loop-name.name-iterator c.in-None.ensures.steps.0 refl c.loop-name.invariant
    ∙ ap (λ (es : List (List ℕ × Body)). map doc_put (filter (is_missing (bodies_of c.args.given.now)) es))
    (sym (entries-bodies_of c.args.docs c.into_iter-name-iterator.ensures.into_iter_gives.5))
