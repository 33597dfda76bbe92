use Rattle.std.proofs.Common.{◌≡◌, ◌∙◌, ◌∷◌, [], ℕ, List, None, ⊎_elim, subst, sym}
use Rattle.std.specs.FinMap.{get}
use Rattle.std.specs.Option.{is_some}
use Rattle.blob_store.specs.Events.{Get}
use Rattle.catalog_doc.specs.CatDocs.{doc_at}
use Rattle.catalog_core.specs.Framing.{doc_gets}
use Rattle.catalog_core.proofs.Frames.{stays_as}
use Rattle.feed_routes.specs.Cuts.{target_path}
use Rattle.feed_routes.specs.declared.ask.Ask.TheVariants as ask
use Rattle.feed_app.specs.Calls.{RunsBehind}
use Rattle.feed_app.specs.Causes.{IfCatalogDamaged}
use Rattle.feed_app.specs.Gets.{OfHive}
use Rattle.feed_app.specs.Targets.{hive_ask}
use Rattle.feed_app.specs.declared.hives.ServedHive.{ServedHive}
use Rattle.feed_app.proofs.Asked.{catalog_hive, catalog_index, catalog_server, hive_index, hive_server, same_hive, same_name}
use Rattle.feed_app.proofs.Behind.{hive_whole, short_before}
use Rattle.feed_app.specs.Hives.{by_hive}
use Rattle.feed_app.specs.Outside.{held}
use Rattle.feed_app.specs.declared.answer.Answer.{Answer}
use Rattle.feed_app.proofs.Places.{index_no_fault, kept, no_hive_area}
use Rattle.feed_app.proofs.get.document.Goals as goal

pub returns-in-Ok-Index-clause-stays : goal.returns-in-Ok-Index-clause-stays
returns-in-Ok-Index-clause-stays g c = stays_as _ _ _ (g.met.B.Blobs.now c.args.catalog.now.area)
    (index_no_fault c.index_document.result _ c.index_document.ensures)

pub returns-in-Ok-Hive-clause-stays : goal.returns-in-Ok-Hive-clause-stays
returns-in-Ok-Hive-clause-stays g c = stays_as _ _ _ (g.met.B.Blobs.now c.args.catalog.now.area)
    (λ failed. no_hive_area c.in-Ok-Hive.hive
    (subst (λ (a : Answer). OfHive c.in-Ok-Hive.hive a c.as_str-in-Ok-Hive.result.now
    (held g.B.Blobs (by_hive c.args.plain.now c.args.semver2.now c.args.content.now c.in-Ok-Hive.hive))) failed c.from_hive.ensures.is))

pub returns-in-Ok-Served-clause-stays : goal.returns-in-Ok-Served-clause-stays
returns-in-Ok-Served-clause-stays g c = stays_as _ _ _ (g.met.B.Blobs.now c.args.catalog.now.area) (λ failed. let no : ⊥ = cc in no)

pub returns-in-Ok-Unknown-clause-stays : goal.returns-in-Ok-Unknown-clause-stays
returns-in-Ok-Unknown-clause-stays g c = stays_as _ _ _ (g.met.B.Blobs.now c.args.catalog.now.area) (λ failed. let no : ⊥ = cc in no)

pub returns-in-Err-clause-stays : goal.returns-in-Err-clause-stays
returns-in-Err-clause-stays g c = stays_as _ _ _ (g.met.B.Blobs.now c.args.catalog.now.area) (λ failed. let no : ⊥ = cc in no)

pub returns-in-Ok-Unknown-clause-keeps : goal.returns-in-Ok-Unknown-clause-keeps
returns-in-Ok-Unknown-clause-keeps g c = λ hive. kept g.B.Blobs (target_path c.args.path.now) hive
    (by_hive c.args.plain.now c.args.semver2.now c.args.content.now hive)

pub returns-in-Err-clause-keeps : goal.returns-in-Err-clause-keeps
returns-in-Err-clause-keeps g c = λ hive. kept g.B.Blobs (target_path c.args.path.now) hive
    (by_hive c.args.plain.now c.args.semver2.now c.args.content.now hive)

pub returns-in-Ok-Index-clause-document : goal.returns-in-Ok-Index-clause-document
returns-in-Ok-Index-clause-document g c = λ cs name ready names. absurd (catalog_index c.args.path.now name names (rw c.in-Ok-Index.field-0-is at c.in-Ok-Index.ensures))

pub returns-in-Ok-Index-clause-asks : goal.returns-in-Ok-Index-clause-asks
returns-in-Ok-Index-clause-asks g c = λ hive name names. absurd (hive_index hive c.args.path.now name names (rw c.in-Ok-Index.field-0-is at c.in-Ok-Index.ensures))

pub returns-in-Ok-Catalog-clause-document : goal.returns-in-Ok-Catalog-clause-document
returns-in-Ok-Catalog-clause-document g c = λ cs name ready names.
    let a = g.B.Blobs.seen c.args.catalog.now.area in
    let b = g.B.Blobs.seen c.catalog_document.new.catalog.area in
    subst (λ (n : List ℕ). RunsBehind [] (doc_gets (is_some (doc_at c.args.catalog.now.base cs n)) n) c.catalog_document.result a b)
    (c.as_str.ensures ∙ same_name c.args.path.now c.in-Ok-Catalog.name name (rw c.in-Ok-Catalog.field-0-is at c.in-Ok-Catalog.ensures) names) (c.catalog_document.ensures.runs cs ready)

pub returns-in-Ok-Catalog-clause-alone : goal.returns-in-Ok-Catalog-clause-alone
returns-in-Ok-Catalog-clause-alone g c = λ none. absurd (none c.in-Ok-Catalog.name (rw c.in-Ok-Catalog.field-0-is at c.in-Ok-Catalog.ensures))

pub returns-in-Ok-Catalog-clause-asks : goal.returns-in-Ok-Catalog-clause-asks
returns-in-Ok-Catalog-clause-asks g c = λ hive name names. absurd (catalog_hive hive c.args.path.now c.in-Ok-Catalog.name name (rw c.in-Ok-Catalog.field-0-is at c.in-Ok-Catalog.ensures) names)

pub returns-in-Ok-Hive-clause-document : goal.returns-in-Ok-Hive-clause-document
returns-in-Ok-Hive-clause-document g c = λ cs name ready names. absurd (catalog_hive c.in-Ok-Hive.hive c.args.path.now name c.in-Ok-Hive.name names (rw c.in-Ok-Hive.field-0-is at c.in-Ok-Hive.ensures))

pub returns-in-Ok-Hive-clause-asks : goal.returns-in-Ok-Hive-clause-asks
returns-in-Ok-Hive-clause-asks g c = λ hive name names.
    let same = same_hive c.in-Ok-Hive.hive hive c.args.path.now c.in-Ok-Hive.name name (rw c.in-Ok-Hive.field-0-is at c.in-Ok-Hive.ensures) names in
    let old = by_hive c.args.plain.now c.args.semver2.now c.args.content.now in
    let new = by_hive c.from_hive.new.plain c.from_hive.new.semver2 c.from_hive.new.content in
    subst (λ (h : ServedHive). RunsBehind [] (Get name ∷ []) c.from_hive.result (g.B.Blobs.seen (old h)) (g.B.Blobs.seen (new h))) same.0
    (subst (λ (n : List ℕ). RunsBehind [] (Get n ∷ []) c.from_hive.result (g.B.Blobs.seen (old c.in-Ok-Hive.hive)) (g.B.Blobs.seen (new c.in-Ok-Hive.hive)))
    (c.as_str-in-Ok-Hive.ensures ∙ same.1) c.from_hive.ensures.runs)

pub returns-in-Ok-Served-clause-document : goal.returns-in-Ok-Served-clause-document
returns-in-Ok-Served-clause-document g c = λ cs name ready names. absurd (catalog_server c.args.path.now name names (rw c.in-Ok-Served.field-0-is at c.in-Ok-Served.ensures))

pub returns-in-Ok-Served-clause-asks : goal.returns-in-Ok-Served-clause-asks
returns-in-Ok-Served-clause-asks g c = λ hive name names. absurd (hive_server hive c.args.path.now name names (rw c.in-Ok-Served.field-0-is at c.in-Ok-Served.ensures))

pub returns-in-Ok-Unknown-clause-document : goal.returns-in-Ok-Unknown-clause-document
returns-in-Ok-Unknown-clause-document g c = λ cs name ready names. absurd ((rw c.in-Ok-Unknown.field-0-is at c.in-Ok-Unknown.ensures) (ask.CatalogDoc name) names)

pub returns-in-Ok-Unknown-clause-asks : goal.returns-in-Ok-Unknown-clause-asks
returns-in-Ok-Unknown-clause-asks g c = λ hive name names. absurd ((rw c.in-Ok-Unknown.field-0-is at c.in-Ok-Unknown.ensures) (hive_ask hive name) names)

pub returns-in-Err-clause-document : goal.returns-in-Err-clause-document
returns-in-Err-clause-document g c = λ cs name ready names. short_before _ (g.B.Blobs.seen c.args.catalog.now.area) (g.met.B.Blobs.now c.args.catalog.now.area)

pub returns-in-Err-clause-asks : goal.returns-in-Err-clause-asks
returns-in-Err-clause-asks g c = λ hive name names.
    let store = by_hive c.args.plain.now c.args.semver2.now c.args.content.now hive in
    short_before (Get name ∷ []) (g.B.Blobs.seen store) (g.met.B.Blobs.now store)

pub returns-in-Ok-Index-clause-absent : goal.returns-in-Ok-Index-clause-absent
returns-in-Ok-Index-clause-absent g c = λ settled m later told left. ⊎_elim
    (λ is. subst (λ (x : Answer). IfCatalogDamaged x (λ blob. get later blob ≡ None)) (sym is) tt)
    (λ is. subst (λ (x : Answer). IfCatalogDamaged x (λ blob. get later blob ≡ None)) (sym is) tt) c.index_document.ensures

pub returns-in-Ok-Hive-clause-absent : goal.returns-in-Ok-Hive-clause-absent
returns-in-Ok-Hive-clause-absent g c = λ settled m later told left.
    hive_whole c.in-Ok-Hive.hive c.from_hive.result c.as_str-in-Ok-Hive.result.now _ (λ blob. get later blob ≡ None) c.from_hive.ensures.is
