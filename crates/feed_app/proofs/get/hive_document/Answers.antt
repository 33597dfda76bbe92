use Rattle.std.proofs.Common.{◌∷◌, [], ℕ, List, Option, Err, arith, inl, refl}
use Rattle.blob_store.specs.Events.{Get}
use Rattle.catalog_items.proofs.Getting.{only_gets}
use Rattle.catalog_opening.specs.declared.error.ReadErr.TheVariants.{Fault, Memory}
use Rattle.feed_app.proofs.get.hive_document.Goals as goal

pub returns-in-Err-Failed-clause-cause : goal.returns-in-Err-Failed-clause-cause
returns-in-Err-Failed-clause-cause g c = λ is.
    let gets = only_gets (Get c.args.name.now ∷ []) (g.B.Blobs.seen c.args.area.now) (g.B.Blobs.seen c.get_one.new.area) tt {A = Option (List ℕ)} (Err Fault)
    (rw c.in-Err-Failed.field-0-is at c.in-Err-Failed.ensures.runs) in
    let rose = gets.counts.risen refl in
    omega (arith, rose)

pub returns-in-Err-Failed-clause-same : goal.returns-in-Err-Failed-clause-same
returns-in-Err-Failed-clause-same g c =
    let gets = only_gets (Get c.args.name.now ∷ []) (g.B.Blobs.seen c.args.area.now) (g.B.Blobs.seen c.get_one.new.area) tt {A = Option (List ℕ)} (Err Fault)
    (rw c.in-Err-Failed.field-0-is at c.in-Err-Failed.ensures.runs) in
    gets.area

pub returns-in-Err-Memory-clause-same : goal.returns-in-Err-Memory-clause-same
returns-in-Err-Memory-clause-same g c =
    let gets = only_gets (Get c.args.name.now ∷ []) (g.B.Blobs.seen c.args.area.now) (g.B.Blobs.seen c.get_one.new.area) tt {A = Option (List ℕ)} (Err Memory)
    (inl (rw c.in-Err-Memory.field-0-is at c.in-Err-Memory.ensures.runs)) in
    gets.area
