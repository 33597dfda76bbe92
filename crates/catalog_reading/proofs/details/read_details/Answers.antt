use Rattle.std.proofs.Common.{◌≡◌, ◌∙◌, Some, sym}
use Rattle.std.proofs.lemmas.Option.{none-some, same_Some}
use Rattle.catalog_reading.proofs.Shows.{tree_shows}
use Rattle.catalog_reading.proofs.details.read_details.Goals as goal

pub returns-in_default-clause-shown : goal.returns-in_default-clause-shown
returns-in_default-clause-shown c = λ d v shows. absurd (none-some _ (sym c.in_default.is ∙ c.marks_in.ensures d v shows))

pub returns-in_default-clause-tree : goal.returns-in_default-clause-tree
returns-in_default-clause-tree c = λ d v is. absurd (none-some _ (sym c.in_default.is ∙ c.marks_in.ensures d v (tree_shows d _ is)))

pub returns-in_default-2-clause-shown : goal.returns-in_default-2-clause-shown
returns-in_default-2-clause-shown c = λ d v shows. absurd (none-some _ (sym c.in_default-2.is ∙ c.in_ok-hash.ensures d shows))

pub returns-in_default-2-clause-tree : goal.returns-in_default-2-clause-tree
returns-in_default-2-clause-tree c = λ d v is. absurd (none-some _ (sym c.in_default-2.is ∙ c.in_ok-hash.ensures d (tree_shows d _ is)))

pub returns-in_default-3-clause-shown : goal.returns-in_default-3-clause-shown
returns-in_default-3-clause-shown c = λ d v shows. absurd (none-some _ (sym c.in_default-3.is ∙ c.in_ok-meta.ensures d shows))

pub returns-in_default-3-clause-tree : goal.returns-in_default-3-clause-tree
returns-in_default-3-clause-tree c = λ d v is. absurd (none-some _ (sym c.in_default-3.is ∙ c.in_ok-meta.ensures d (tree_shows d _ is)))

pub returns-clause-shown : goal.returns-clause-shown
returns-clause-shown c = λ d v shows.
    let marks = same_Some _ _ (sym c.in-Some.is ∙ c.marks_in.ensures d v shows) in
    let metas : c.in-Some-3.meta ≡ d.meta = same_Some _ _ (sym c.in-Some-3.is ∙ c.in_ok-meta.ensures d shows) in
    let hashes : c.in-Some-2.hash ≡ d.hash = same_Some _ _ (sym c.in-Some-2.is ∙ c.in_ok-hash.ensures d shows) in
    λ i. Some (record {
      meta = metas i;
      listed = (marks i).listed;
      created = (marks i).created;
      origin_number = (marks i).origin.number;
      origin_place = (marks i).origin.place;
      size = (marks i).size;
      hash = hashes i;
    })

pub returns-clause-tree : goal.returns-clause-tree
returns-clause-tree c = λ d v is.
    let shows = tree_shows d _ is in
    let marks = same_Some _ _ (sym c.in-Some.is ∙ c.marks_in.ensures d v shows) in
    let metas : c.in-Some-3.meta ≡ d.meta = same_Some _ _ (sym c.in-Some-3.is ∙ c.in_ok-meta.ensures d shows) in
    let hashes : c.in-Some-2.hash ≡ d.hash = same_Some _ _ (sym c.in-Some-2.is ∙ c.in_ok-hash.ensures d shows) in
    λ i. Some (record {
      meta = metas i;
      listed = (marks i).listed;
      created = (marks i).created;
      origin_number = (marks i).origin.number;
      origin_place = (marks i).origin.place;
      size = (marks i).size;
      hash = hashes i;
    })
