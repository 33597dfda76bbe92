use Rattle.std.specs.Prelude.{◌++◌, ◌∷◌, [], drop}
use Rattle.std.proofs.Common.{rules, tests, refl, sym, ap, ◌∙◌, inl}
use Rattle.std.proofs.lemmas.List.{take-append-drop}
use Rattle.feed.proofs.words.split_words.Goals as goal

pub returns-in-Some : goal.returns-in-Some
returns-in-Some c =
    let all = c.args.all.items in
    let two = sym c.in_ok-command.ensures.items ∙ c.in-Some.ensures.items in
    let whole = sym (take-append-drop 2 all) ∙ ap (λ front. front ++ drop 2 all) two ∙ ap (λ rest. (c.pop.new.self.items ++ c.in-Some.folder ∷ []) ++ rest) (sym c.in_ok-command.ensures.tail) in
    inl (c.pop.new.self.items, c.in-Some.folder, whole, search (rules, tests), refl, search (rules, tests))
