use Rattle.std.proofs.Common.{◌≡◌, ℕ, List, [], Some, ap, inl, refl, subst, sym, ◌∙◌}
use Rattle.std.specs.FinMap.{empty, get}
use Rattle.std.specs.Str.{IsUtf8}
use Rattle.blob_store.specs.Area.{with_blob}
use Rattle.blob_store.proofs.Moments.{started}
use Rattle.catalog_doc.specs.Documents.{index_text}
use Rattle.catalog_doc.specs.Names.{index_name}
use Rattle.catalog_rows.specs.Kept.{Kept}
use Rattle.catalog_core.specs.Opened.{Opened}
use Rattle.catalog_core.specs.Openings.{IsFirstArea}
use Rattle.catalog_core.proofs.FirstIndex.{first_held, first_left, first_open, unstarted}
use Rattle.catalog_core.proofs.opening.init.Goals as goal

pub returns-in_default-clause-left : goal.returns-in_default-clause-left
returns-in_default-clause-left g c = λ m is. (m, is, inl refl)

pub returns-in_default-clause-moments_refused : goal.returns-in_default-clause-moments_refused
returns-in_default-clause-moments_refused g c = λ m is. started (g.B.Blobs.seen c.args.area) m (IsFirstArea c.args.base.now m) (g.met.B.Blobs.now c.args.area) is (inl refl)

pub returns-in_default-clause-runs_refused : goal.returns-in_default-clause-runs_refused
returns-in_default-clause-runs_refused g c = λ m is. unstarted c.args.base.now (get m index_name) (g.B.Blobs.seen c.args.area) (g.met.B.Blobs.now c.args.area)

pub returns-in-Ok-put_first_index-clause-opened : goal.returns-in-Ok-put_first_index-clause-opened
returns-in-Ok-put_first_index-clause-opened g c = λ is.
    let o = c.of.result in
    let base : o.base ≡ c.args.base.now = ap (λ (x : Opened _). x.base) c.of.ensures ∙ c.in-Ok.ensures in
    let kept : o.kept ≡ c.new.result = ap (λ (x : Opened _). x.kept) c.of.ensures in
    let b = g.B.Blobs.seen c.put_first_index.new.area in
    let held = first_held c.args.base.now (g.B.Blobs.seen c.args.area) b empty is (c.in-Ok-put_first_index.ensures.runs empty is).made in
    first_open o (g.B.Blobs.seen o.area) (subst IsUtf8 (sym base) c.utf8.base) (ap (λ (k : Kept). k.rows) kept ∙ c.new.ensures.rows) (ap (λ (k : Kept). k.pages) kept ∙ c.new.ensures.pages)
    (ap (λ (x : Opened _). x.settled) c.of.ensures)
    (ap (λ (x : Opened _). (g.B.Blobs.seen x.area).held) c.of.ensures ∙ held ∙ ap (λ (l : List ℕ). Some (with_blob index_name (index_text l []) empty)) (sym base))

pub returns-in-Ok-put_first_index-clause-moments : goal.returns-in-Ok-put_first_index-clause-moments
returns-in-Ok-put_first_index-clause-moments g c = λ m is.
    rw c.of.ensures (first_left c.args.base.now (g.B.Blobs.seen c.args.area) (g.B.Blobs.seen c.put_first_index.new.area) m is c.put_first_index.result (c.put_first_index.ensures.runs m is)).1

pub returns-in-Err-clause-left : goal.returns-in-Err-clause-left
returns-in-Err-clause-left g c = λ m is.
    (first_left c.args.base.now (g.B.Blobs.seen c.args.area) (g.B.Blobs.seen c.put_first_index.new.area) m is c.put_first_index.result (c.put_first_index.ensures.runs m is)).0

pub returns-in-Err-clause-moments_refused : goal.returns-in-Err-clause-moments_refused
returns-in-Err-clause-moments_refused g c = λ m is.
    (first_left c.args.base.now (g.B.Blobs.seen c.args.area) (g.B.Blobs.seen c.put_first_index.new.area) m is c.put_first_index.result (c.put_first_index.ensures.runs m is)).1
