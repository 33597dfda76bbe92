use Rattle.std.proofs.Common.{◌≡◌, ◌∙◌, ℕ, List, [], ◌∷◌, Err, ap, subst}
use Rattle.std.proofs.lemmas.Result.{err_from_is_err_and}
use Rattle.blob_store.specs.Events.{Get}
use Rattle.std.specs.FinMap.{get}
use Rattle.blob_store.specs.Plans.{Makes}
use Rattle.catalog_doc.specs.Names.{leaf_name}
use Rattle.catalog_opening.specs.declared.error.ReadErr.TheVariants.{Memory}
use Rattle.catalog_opening.proofs.Halting.{damaged_told, halts_made, halts_unstarted, never_fault, reading_told}
use Rattle.catalog_items.specs.Leaves.{IsNoLeafOf}
use Rattle.catalog_items.specs.Reads.{IsAbsent}
use Rattle.catalog_items.proofs.LeafReads.{never_absent, no_leaf_there}
use Rattle.catalog_items.proofs.items.item_at.Goals as goal

pub returns-in_err-name-clause-runs : goal.returns-in_err-name-clause-runs
returns-in_err-name-clause-runs g c =
    let p = err_from_is_err_and c.from_residual.result c.from_residual.ensures.1 in
    let gets = Get (leaf_name c.args.row.now.number c.args.row.now.place) ∷ [] in
    let a = g.B.Blobs.seen c.args.area.now in
    reading_told gets a a c.from_residual.result Memory (p.1 ∙ ap Err p.2) (halts_unstarted gets a (g.met.B.Blobs.now c.args.area.now))

pub returns-in_err-bytes-clause-exact : goal.returns-in_err-bytes-clause-exact
returns-in_err-bytes-clause-exact g c = λ m it is values holds.
    let p = err_from_is_err_and c.from_residual-in_err-bytes.result c.from_residual-in_err-bytes.ensures.1 in
    let named : c.deref.result.now ≡ leaf_name c.args.row.now.number c.args.row.now.place = c.deref.ensures ∙ c.in_ok-name.ensures in
    never_absent m c.deref.result.now it c.in_err-bytes.field-0.0 c.from_residual-in_err-bytes.result _ (p.1 ∙ ap Err p.2) (ap (λ (n : List ℕ). get m n) named ∙ holds.leaf) (c.in_err-bytes.ensures.damaged m is)

pub returns-in_err-bytes-clause-damaged : goal.returns-in_err-bytes-clause-damaged
returns-in_err-bytes-clause-damaged g c = λ m is.
    let p = err_from_is_err_and c.from_residual-in_err-bytes.result c.from_residual-in_err-bytes.ensures.1 in
    let row = c.args.row.now in
    let named : c.deref.result.now ≡ leaf_name row.number row.place = c.deref.ensures ∙ c.in_ok-name.ensures in
    damaged_told (IsAbsent c.deref.result.now m) (IsNoLeafOf m c.args.base.now row) c.from_residual-in_err-bytes.result c.in_err-bytes.field-0.0 (p.1 ∙ ap Err p.2)
    (λ name told. (told.0 ∙ named, no_leaf_there m c.args.base.now c.deref.result.now row named told.1)) (c.in_err-bytes.ensures.damaged m is)

pub returns-in-Err-Damaged-clause-runs : goal.returns-in-Err-Damaged-clause-runs
returns-in-Err-Damaged-clause-runs g c =
    let named : c.deref.result.now ≡ leaf_name c.args.row.now.number c.args.row.now.place = c.deref.ensures ∙ c.in_ok-name.ensures in
    let a = g.B.Blobs.seen c.args.area.now in
    let b = g.B.Blobs.seen c.bytes_at.new.area in
    halts_made (Get (leaf_name c.args.row.now.number c.args.row.now.place) ∷ []) c.damaged.result a b
    (subst (λ (n : List ℕ). Makes (Get n ∷ []) a b) named c.in_ok-bytes.ensures.runs)
    (never_fault (λ (n : List ℕ). n ≡ c.deref-in-Err-Damaged.result.now) c.damaged.result c.damaged.ensures)

pub returns-clause-runs : goal.returns-clause-runs
returns-clause-runs g c =
    let named : c.deref.result.now ≡ leaf_name c.args.row.now.number c.args.row.now.place = c.deref.ensures ∙ c.in_ok-name.ensures in
    let a = g.B.Blobs.seen c.args.area.now in
    let b = g.B.Blobs.seen c.bytes_at.new.area in
    halts_made (Get (leaf_name c.args.row.now.number c.args.row.now.place) ∷ []) Memory a b
    (subst (λ (n : List ℕ). Makes (Get n ∷ []) a b) named c.in_ok-bytes.ensures.runs)
    (λ is. let no : ⊥ = cc in no)
