use Rattle.std.proofs.Common.{◌≡◌, ◌∙◌, ◌++◌, ◌∷◌, [], ℕ, List, None, Some, Result, Ok, Err, IfOk, OnOk, length, cond, ap, sym}
use Rattle.std.specs.BTreeMap.{get_by_text}
use Rattle.std.specs.Str.{bytes_eq}
use Rattle.catalog_doc.specs.declared.row.Row.{Row}
use Rattle.job_round.specs.Ids.{HasIdAt, HasIds, keys_of}
use Rattle.job_round.specs.declared.ids.Ids.{Ids}
use Rattle.job_round.proofs.Grouped.{key_added, key_found}
use Rattle.job_round.proofs.ids.Ids.find_or_add.Goals as goal

added : {E : Type 0} (r : Result ℕ E) (rows : List Row) (key : List ℕ) (old new : Ids)
    → HasIds rows (keys_of rows) old → get_by_text old.places key ≡ None
    → IfOk r (λ place. place ≡ length old.list.items) → OnOk r (new.list.items ≡ old.list.items ++ (record { key = key; rows = [] }) ∷ [])
    → OnOk r ((asked : List ℕ) → get_by_text new.places asked
    ≡ cond (bytes_eq key asked) (Some (length old.list.items)) (get_by_text old.places asked))
    → IfOk r (HasIdAt rows key new)
added (Ok place) rows key old new all free here list places = key_added rows key old new place all free here list places
added (Err e) rows key old new all free here list places = tt

pub returns-in-None-clause-found : goal.returns-in-None-clause-found
returns-in-None-clause-found c = λ rows all.
    added c.add.result rows c.args.key.now c.args.self.now c.add.new.self all
    (sym (c.in-None.ensures.value ∙ ap (get_by_text c.args.self.now.places) c.as_str.ensures))
    c.add.ensures.place c.add.ensures.list c.add.ensures.places

pub returns-in-Some-clause-within : goal.returns-in-Some-clause-within
returns-in-Some-clause-within c =
    c.args.self.now.within c.args.key.now c.in-Some.field-0.now (sym (c.in-Some.ensures.value ∙ ap (get_by_text c.args.self.now.places) c.as_str.ensures))

pub returns-in-Some-clause-found : goal.returns-in-Some-clause-found
returns-in-Some-clause-found c = λ rows all.
    key_found rows c.args.key.now c.args.self.now c.in-Some.field-0.now all
    (sym (c.in-Some.ensures.value ∙ ap (get_by_text c.args.self.now.places) c.as_str.ensures))
