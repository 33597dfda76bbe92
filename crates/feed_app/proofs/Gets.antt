-- What follows for `get`.
use Rattle.std.proofs.Common.{◌≡◌, ◌≢◌, ◌⊎◌, ◌∙◌, ℕ, List, Option, Some, None, arith, inl, inr, ⊎_elim, refl, sym, ap, subst}
use Rattle.std.specs.FinMap.{get}
use Rattle.feed_base.proofs.Options.{at_some}
use Rattle.blob_store.specs.Area.{Area}
use Rattle.pkg_meta.specs.Catalog.{Catalog}
use Rattle.catalog_doc.specs.CatDocs.{doc_at}
use Rattle.blob_store.specs.Seen.{Seen}
use Rattle.feed_routes.specs.Index.{service_index_text}
use Rattle.feed_app.specs.declared.hives.ServedHive.{ServedHive}
use Rattle.admin_wire.specs.declared.line.Line.TheVariants as line
use Rattle.admin_wire.specs.declared.line.Refusal.TheVariants as refusal
use Rattle.admin_wire.specs.declared.area.AreaName.{AreaName}
use Rattle.admin_wire.specs.declared.area.AreaName.TheVariants as area
use Rattle.feed_app.specs.Accepts.{Accepts}
use Rattle.feed_app.specs.Answers.{answer_status}
use Rattle.feed_app.specs.Causes.{IfCatalogDamaged}
use Rattle.feed_app.specs.Frame.{Explains}
use Rattle.feed_app.specs.Gets.{Gets, HasCatalogDocument, HasHiveDocument, HasIndex, HoldsDocument, HoldsServiceIndex, IsHeld, OfCatalog, OfDocument, OfHive, AnswersPath, get_meaning}
use Rattle.feed_app.specs.Hives.{hive_area, hive_stores}
use Rattle.feed_app.specs.Openings.{IsOfStore, MayOpen, NotOpened}
use Rattle.feed_app.specs.Outside.{AreaRose, Members, Shows, Sight, held}
use Rattle.feed_app.specs.Spelled.{HasCatalog, HoldsCatalog, Of}
use Rattle.feed_app.specs.Targets.{IsCatalogPath, IsHivePath, IsIndexPath, hive_ask}
use Rattle.feed_routes.specs.declared.ask.Ask.TheVariants as ask
use Rattle.feed_app.specs.declared.answer.Answer.{Answer}
use Rattle.feed_app.specs.declared.answer.Answer.TheVariants.{Reply, Document}
use Rattle.feed_app.proofs.Absent.{one_value, some_none}
use Rattle.feed_app.proofs.Closed.{closed_explains, of_store}
use Rattle.feed_app.proofs.Places.{by_area, get_touches}
use Rattle.feed_app.proofs.Asked.{catalog_hive, catalog_index, catalog_server, hive_index, hive_server, index_server, same_hive, same_name}

module _ {B : Type 0} (m : Members B) (path : List ℕ) (before after : Sight B) where
  abbrev Explained : Answer → Type 0
  Explained answer = Explains m (get_meaning m path).reach before answer after

  abbrev Told : Seen
  Told = m.seen before.stores.catalog

  abbrev CatalogCause : Answer → Type 0
  CatalogCause answer = answer ≡ Reply (line.Fault area.Catalog) → AreaRose m before.stores.catalog after.stores.catalog

  abbrev HiveCause : Answer → Type 0
  HiveCause answer = (hive : ServedHive) → answer ≡ Reply (line.Fault (hive_area hive))
      → AreaRose m (hive_stores before.stores hive) (hive_stores after.stores hive)

  -- a blob of the catalog that is told as damaged isn't held afterwards
  abbrev Absent : Answer → Type 0
  Absent answer = (area later : Area) → held m before.stores.catalog ≡ Some area → held m after.stores.catalog ≡ Some later
      → IfCatalogDamaged answer (λ blob. get later blob ≡ None)

  catalog_explains : (answer : Answer) (name : List ℕ) → CatalogCause answer → Absent answer → OfCatalog answer name (HasCatalog Told) → Explained answer
  catalog_explains (Document bytes) name rose absent is = tt
  catalog_explains (Reply (line.Refused why)) name rose absent is = tt
  catalog_explains (Reply (line.Fault area.Catalog)) name rose absent is = (tt, rose refl)
  catalog_explains (Reply (line.Damaged area.Catalog blob)) name rose absent is =
      (tt, inl ((λ base cs has. is.document base cs has), λ area later told left. inr (inl (absent area later told left))))
  catalog_explains (Reply line.Memory) name rose absent is = tt
  catalog_explains _ name rose absent is = absurd is.kind

  hive_explains : (hive : ServedHive) (answer : Answer) (rest : List ℕ) (told : Option Area) → IsHivePath hive path rest → HiveCause answer
      → OfHive hive answer rest told → Explained answer
  hive_explains hive (Document bytes) rest told names rose is = tt
  hive_explains hive (Reply (line.Refused why)) rest told names rose is = tt
  hive_explains hive (Reply (line.Fault name)) rest told names rose is =
      subst (λ (n : AreaName). Explained (Reply (line.Fault n))) (sym is)
      (get_touches hive path rest names, by_area m before.stores after.stores hive (rose hive (ap (λ (n : AreaName). Reply (line.Fault n)) is)))
  hive_explains hive (Reply line.Memory) rest told names rose is = tt
  hive_explains hive _ rest told names rose is = absurd is

  pub explains : (given : Option (List ℕ)) (answer : Answer) (old new : ServedHive → B) → CatalogCause answer → HiveCause answer
      → Gets m given answer path Told (m.seen after.stores.catalog) old new → Explained answer
  explains given answer old new rose other (inl (closed, same)) =
      closed_explains m (get_meaning m path).reach before after given (m.seen after.stores.catalog) answer tt rose closed
  explains given answer old new rose other (inr (may, inl (hive, rest, names, is, others), calls)) = hive_explains hive answer rest (held m (old hive)) names other is
  explains given answer old new rose other (inr (may, inr (same, inl (name, names, is)), calls)) = catalog_explains answer name rose calls.absent is
  explains given answer old new rose other (inr (may, inr (same, inr (inl (names, (bytes, is, texts)))), calls)) = subst Explained (sym is) tt
  explains given answer old new rose other (inr (may, inr (same, inr (inr (inl server))), calls)) = subst Explained (sym server.1) tt
  explains given answer old new rose other (inr (may, inr (same, inr (inr (inr (inl unknown)))), calls)) = subst Explained (sym unknown.1) tt
  explains given answer old new rose other (inr (may, inr (same, inr (inr (inr (inr memory)))), calls)) = subst Explained (sym memory) tt

of_as : (answer : Answer) (name : List ℕ) (Is Are : Of) → ((base : List ℕ) (cs : Catalog) → Are base cs → Is base cs) → OfCatalog answer name Is
    → OfCatalog answer name Are
of_as answer name Is Are to of = record { kind = of.kind; document = λ base cs are. of.document base cs (to base cs are) }

-- what is answered of each catalog of one kind is answered of each that is of it
pub reads_as : {B : Type 0} (m : Members B) (answer : Answer) (path : List ℕ) (Is Are : Of) (old new : ServedHive → B)
    → ((base : List ℕ) (cs : Catalog) → Are base cs → Is base cs)
    → AnswersPath m answer path Is old new → AnswersPath m answer path Are old new
reads_as m answer path Is Are old new to (inl of_hive) = inl of_hive
reads_as m answer path Is Are old new to (inr (same, inl (name, names, of))) = inr (same, inl (name, names, of_as answer name Is Are to of))
reads_as m answer path Is Are old new to (inr (same, inr (inl (names, (bytes, is, texts))))) =
    inr (same, inr (inl (names, (bytes, is, λ base cs are. texts base cs (to base cs are)))))
reads_as m answer path Is Are old new to (inr (same, inr (inr other))) = inr (same, inr (inr other))

-- the document's bytes, a fault of the area, or out of memory
abbrev pub IsGood : AreaName → List ℕ → Answer → Type 0
IsGood name bytes answer = (answer ≡ Document bytes) ⊎ ((answer ≡ Reply (line.Fault name)) ⊎ (answer ≡ Reply line.Memory))

abbrev IsDocument : List ℕ → Answer → Type 0
IsDocument bytes answer = IsGood area.Catalog bytes answer ⊎ ((hive : ServedHive) × IsGood (hive_area hive) bytes answer)

-- a catalog that is spelled was opened, or its store failed, or memory ran out
of_store_good : (answer : Answer) (bytes : List ℕ) → IsOfStore answer → IsGood area.Catalog bytes answer
of_store_good (Reply (line.Fault area.Catalog)) bytes is = inr (inl refl)
of_store_good (Reply line.Memory) bytes is = inr (inr refl)
of_store_good _ bytes is = absurd is

-- a document that the catalog has is the answer
module _ (bytes : List ℕ) (document : Option (List ℕ)) (has : document ≡ Some bytes) where
  of_document_held : (answer : Answer) → OfDocument answer document → IsGood area.Catalog bytes answer
  of_document_held (Document found) is = inl (ap Document (one_value document found bytes is has))
  of_document_held (Reply (line.Refused refusal.Missing)) is = absurd (some_none document bytes has is)
  of_document_held (Reply (line.Fault area.Catalog)) is = inr (inl refl)
  of_document_held (Reply line.Memory) is = inr (inr refl)
  of_document_held _ is = absurd is

-- what a hive's area holds is the answer
module _ (told : Option Area) (blobs : Area) (bytes : List ℕ) (there : told ≡ Some blobs) (hive : ServedHive) (rest : List ℕ)
    (holds : get blobs rest ≡ Some bytes) where
  of_hive_held : (answer : Answer) → OfHive hive answer rest told → IsGood (hive_area hive) bytes answer
  of_hive_held (Document found) is =
      inl (ap Document (one_value (get blobs rest) found bytes (at_some told (λ a. get a rest ≡ Some found) blobs there is) holds))
  of_hive_held (Reply (line.Refused refusal.Missing)) is =
      absurd (some_none (get blobs rest) bytes holds (at_some told (λ a. get a rest ≡ None) blobs there is))
  of_hive_held (Reply (line.Fault name)) is = inr (inl (ap (λ (n : AreaName). Reply (line.Fault n)) is))
  of_hive_held (Reply line.Memory) is = inr (inr refl)
  of_hive_held _ is = absurd is

-- by what the path names
module _ {B : Type 0} (m : Members B) (answer : Answer) (path bytes : List ℕ) (catalog : Seen) (old new : ServedHive → B) where
  by_catalog : (name : List ℕ) (blobs : Area) → catalog.held ≡ Some blobs → HoldsDocument blobs name bytes → IsCatalogPath path name
      → AnswersPath m answer path (HasCatalog catalog) old new → IsGood area.Catalog bytes answer
  by_catalog name blobs there holds names (inl (hive, rest, its, is, others)) = absurd (catalog_hive hive path name rest names its)
  by_catalog name blobs there holds names (inr (same, inl of_name)) =
      let is = subst (λ (n : List ℕ). OfCatalog answer n (HasCatalog catalog)) (same_name path of_name.0 name of_name.1 names) of_name.2 in
      of_document_held bytes (doc_at holds.0 holds.1 name) holds.4 answer
      (is.document holds.0 holds.1 (record { lawful = holds.2; store = (blobs, there, holds.3) }))
  by_catalog name blobs there holds names (inr (same, inr (inl index))) = absurd (catalog_index path name names index.0)
  by_catalog name blobs there holds names (inr (same, inr (inr (inl server)))) = absurd (catalog_server path name names server.0)
  by_catalog name blobs there holds names (inr (same, inr (inr (inr (inl unknown))))) = absurd (unknown.0 (ask.CatalogDoc name) names)
  by_catalog name blobs there holds names (inr (same, inr (inr (inr (inr memory))))) = inr (inr memory)

  by_index : (blobs : Area) → catalog.held ≡ Some blobs → HoldsServiceIndex blobs bytes → IsIndexPath path
      → AnswersPath m answer path (HasCatalog catalog) old new → IsGood area.Catalog bytes answer
  by_index blobs there holds names (inl (hive, rest, its, is, others)) = absurd (hive_index hive path rest its names)
  by_index blobs there holds names (inr (same, inl of_name)) = absurd (catalog_index path of_name.0 of_name.1 names)
  by_index blobs there holds names (inr (same, inr (inl (its, (found, is, texts))))) =
      let text : service_index_text holds.0 ≡ found = texts holds.0 holds.1 (record { lawful = holds.2; store = (blobs, there, holds.3) }) in
      inl (is ∙ ap Document (sym text ∙ holds.4))
  by_index blobs there holds names (inr (same, inr (inr (inl server)))) = absurd (index_server path names server.0)
  by_index blobs there holds names (inr (same, inr (inr (inr (inl unknown))))) = absurd (unknown.0 ask.Index names)
  by_index blobs there holds names (inr (same, inr (inr (inr (inr memory))))) = inr (inr memory)

  by_name : (hive : ServedHive) (rest : List ℕ) (blobs : Area) → held m (old hive) ≡ Some blobs → get blobs rest ≡ Some bytes
      → IsHivePath hive path rest
      → AnswersPath m answer path (HasCatalog catalog) old new → IsGood (hive_area hive) bytes answer
  by_name hive rest blobs there holds names (inl (one, more, its, is, others)) =
      let same = same_hive one hive path more rest its names in
      of_hive_held (held m (old hive)) blobs bytes there hive rest holds answer
      (subst (λ (h : ServedHive). OfHive h answer rest (held m (old h))) same.0 (subst (λ (r : List ℕ). OfHive one answer r (held m (old one))) same.1 is))
  by_name hive rest blobs there holds names (inr (same, inl of_name)) = absurd (catalog_hive hive path of_name.0 rest of_name.1 names)
  by_name hive rest blobs there holds names (inr (same, inr (inl index))) = absurd (hive_index hive path rest names index.0)
  by_name hive rest blobs there holds names (inr (same, inr (inr (inl server)))) = absurd (hive_server hive path rest names server.0)
  by_name hive rest blobs there holds names (inr (same, inr (inr (inr (inl unknown))))) = absurd (unknown.0 (hive_ask hive rest) names)
  by_name hive rest blobs there holds names (inr (same, inr (inr (inr (inr memory))))) = inr (inr memory)

-- a document that is held is the answer, faults and out of memory aside
module _ {B : Type 0} (m : Members B) (path bytes : List ℕ) (before after : Sight B) (answer : Answer) where
  abbrev Acts : Type 0
  Acts = (get_meaning m path).acts before answer after

  abbrev May : Type 0
  May = MayOpen before.given (m.seen before.stores.catalog)

  closed_held : May → Shows (held m before.stores.catalog) HoldsCatalog
      → NotOpened before.given answer (m.seen before.stores.catalog) (m.seen after.stores.catalog) → IsGood area.Catalog bytes answer
  closed_held may has closed = of_store_good answer bytes
      (of_store before.given answer (m.seen before.stores.catalog) (m.seen after.stores.catalog) closed has.2.0 has.2.1
      (record { lawful = has.2.2; store = (has.0, has.1, has.2.3) }) may)

  pub catalog_held : May → HasCatalogDocument path bytes (held m before.stores.catalog) → Acts → IsGood area.Catalog bytes answer
  catalog_held may has (inl closed) = let holds = has.2.2 in closed_held may (has.2.0, has.2.1, (holds.0, holds.1, holds.2, holds.3)) closed.0
  catalog_held may has (inr (allowed, reads, calls)) =
      by_catalog m answer path bytes (m.seen before.stores.catalog) (hive_stores before.stores)
      (hive_stores after.stores) has.0 has.2.0 has.2.1 has.2.2 has.1 reads

  pub index_held : May → HasIndex path bytes (held m before.stores.catalog) → Acts → IsGood area.Catalog bytes answer
  index_held may has (inl closed) = let holds = has.1.2 in closed_held may (has.1.0, has.1.1, (holds.0, holds.1, holds.2, holds.3)) closed.0
  index_held may has (inr (allowed, reads, calls)) =
      by_index m answer path bytes (m.seen before.stores.catalog) (hive_stores before.stores)
      (hive_stores after.stores) has.1.0 has.1.1 has.1.2 has.0 reads

  pub hive_held : May → (hive : ServedHive) → HasHiveDocument hive path bytes (held m before.stores.catalog)
      (held m (hive_stores before.stores hive)) → Acts
      → IsGood area.Catalog bytes answer ⊎ IsGood (hive_area hive) bytes answer
  hive_held may hive has (inl closed) = inl (closed_held may has.2 closed.0)
  hive_held may hive has (inr (allowed, reads, calls)) =
      inr (by_name m answer path bytes (m.seen before.stores.catalog) (hive_stores before.stores)
      (hive_stores after.stores) hive has.0 has.3.0 has.3.1 has.3.2 has.1 reads)

  answers : May → IsHeld m path bytes before → Acts → IsDocument bytes answer
  answers may (inl has) acts = inl (catalog_held may has acts)
  answers may (inr (inl has)) acts = inl (index_held may has acts)
  answers may (inr (inr (hive, has))) acts = ⊎_elim (λ good. inl good) (λ good. inr (hive, good)) (hive_held may hive has acts)

-- such an answer has the status 0, 4 or 8
good_status : (name : AreaName) (bytes : List ℕ) (answer : Answer) → IsGood name bytes answer
    → (answer_status answer ≡ 0) ⊎ ((answer_status answer ≡ 4) ⊎ (answer_status answer ≡ 8))
good_status name bytes answer (inl is) = inl (ap answer_status is)
good_status name bytes answer (inr (inl is)) = inr (inl (ap answer_status is))
good_status name bytes answer (inr (inr is)) = inr (inr (ap answer_status is))

not_good : (name : AreaName) (bytes : List ℕ) (answer : Answer) (status : ℕ) → IsGood name bytes answer → answer_status answer ≡ status
    → status ≢ 0 → status ≢ 4 → status ≢ 8 → ⊥
not_good name bytes answer status good own no0 no4 no8 = ⊎_elim (λ e. no0 (sym own ∙ e))
    (λ other. ⊎_elim (λ e. no4 (sym own ∙ e)) (λ e. no8 (sym own ∙ e)) other) (good_status name bytes answer good)

not_document : (bytes : List ℕ) (answer : Answer) (status : ℕ) → IsDocument bytes answer → answer_status answer ≡ status
    → status ≢ 0 → status ≢ 4 → status ≢ 8 → ⊥
not_document bytes answer status is own no0 no4 no8 = ⊎_elim (λ good. not_good area.Catalog bytes answer status good own no0 no4 no8)
    (λ h. not_good (hive_area h.0) bytes answer status h.1 own no0 no4 no8) is

pub get_accepts : {B : Type 0} (m : Members B) (path : List ℕ) → Accepts (get_meaning m path)
get_accepts m path = record {
  refused = λ before after answer ready acts three.
      not_document ready.1 answer 3 (answers m path ready.1 before after answer ready.0 ready.2 acts) three (λ e. omega (arith, e)) (λ e. omega (arith, e))
      (λ e. omega (arith, e));
  sound = λ before after answer ready acts six.
      not_document ready.1 answer 6 (answers m path ready.1 before after answer ready.0 ready.2 acts) six (λ e. omega (arith, e)) (λ e. omega (arith, e))
      (λ e. omega (arith, e));
  fits = λ before ready touched. absurd touched;
}
