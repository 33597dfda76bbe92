use Rattle.std.proofs.Common.{◌∙◌, List, ℕ, ap, sym}
use Rattle.catalog_doc.specs.Names.{catalog_url, leaf_name}
use Rattle.catalog_reading.proofs.Readable.{is_read}
use Rattle.catalog_reading.proofs.fields.origin_in.Goals as goal

pub returns-in-Some : goal.returns-in-Some
returns-in-Some c = λ row fits seen.
    c.origin_behind.ensures row.number row.place fits.number fits.place
    (c.as_bytes.ensures.value
    ∙ is_read _ _ _ _ c.in-Some.is (c.url_text.ensures.row c.args.base.now row seen)
    ∙ ap (λ (base : List ℕ). catalog_url base (leaf_name row.number row.place)) (sym c.as_bytes-in-Some.ensures.value))
