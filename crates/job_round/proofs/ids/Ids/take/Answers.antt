use Rattle.std.proofs.Common.{◌≡◌, ◌++◌, ◌∷◌, [], List, Result, Ok, Err, OnOk, get_or, set, refl}
use Rattle.catalog_doc.specs.declared.row.Row.{Row}
use Rattle.job_round.specs.Ids.{HasIdAt, HasIds, keys_of}
use Rattle.job_round.specs.declared.ids.IdRows.{IdRows}
use Rattle.job_round.specs.declared.ids.Ids.{Ids}
use Rattle.job_round.proofs.Grouped.{row_taken}
use Rattle.job_round.proofs.ids.Ids.take.Goals as goal

taken : {T E : Type 0} (r : Result T E) (rows : List Row) (row : Row) (ids new : Ids) (at : _) (id : IdRows) (own : List Row) → HasIdAt rows row.id.key ids at → id ≡ get_or ids.list.items at id
    → OnOk r (own ≡ id.rows ++ row ∷ []) → new.list.items ≡ set ids.list.items at (record { key = id.key; rows = own }) → new.places ≡ ids.places
    → OnOk r (HasIds (rows ++ row ∷ []) (keys_of (rows ++ row ∷ [])) new)
taken (Ok x) rows row ids new at id own found there pushed list places = row_taken rows row ids new at id own found there pushed list places
taken (Err e) rows row ids new at id own found there pushed list places = tt

pub returns : goal.returns
returns c = λ rows all.
    taken c.push.result rows c.args.row c.find_or_add.new.self _ c.in_ok-at.at c.index_mut.result.now c.push.new.self
    (c.in_ok-at.ensures.found rows all) c.index_mut.ensures.value c.push.ensures.ok refl refl
