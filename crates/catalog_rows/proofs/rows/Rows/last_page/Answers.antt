use Rattle.std.proofs.Common.{◌≡◌, ◌∙◌, ◌-◌, ap, sym, List, length, drop, arith, length-drop}
use Rattle.std.proofs.lemmas.List.{take_all}
use Rattle.catalog_doc.specs.CatDocs.{all_rows, heads_of}
use Rattle.catalog_doc.specs.Documents.{last_head}
use Rattle.catalog_doc.specs.declared.head.PageHead.{PageHead}
use Rattle.catalog_rows.specs.Kept.{Kept}
use Rattle.catalog_rows.proofs.PageHeads.{last_rows}
use Rattle.catalog_rows.proofs.rows.Rows.last_page.Goals as goal

pub returns : goal.returns
returns c = λ cs kept.
    let rows = c.as_slice-2.result.now in
    let first = c.saturating_sub-first.result in
    let all : rows ≡ all_rows cs = c.as_slice-2.ensures.value ∙ ap (λ (k : Kept). k.rows) c.self.view_is ∙ sym kept.rows in
    let heads : c.as_slice.result.now ≡ heads_of cs = c.as_slice.ensures.value ∙ ap (λ (k : Kept). k.pages) c.self.view_is ∙ sym kept.pages in
    let count : c.last_count.result ≡ (last_head (heads_of cs)).count = c.last_count.ensures ∙ ap (λ (l : List PageHead). (last_head l).count) heads in
    let long : c.len.result ≡ length (all_rows cs) = c.len.ensures ∙ sym c.as_slice-2.ensures.len ∙ ap length all in
    let at : first ≡ length (all_rows cs) - (last_head (heads_of cs)).count = omega (arith, c.saturating_sub-first.ensures, count, long) in
    take_all (length rows - first) (drop first rows) (omega (arith, length-drop first rows))
    ∙ (λ i. drop (at i) (all i))
    ∙ last_rows cs
