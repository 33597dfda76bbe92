use Rattle.std.proofs.Common.{◌≡◌, ◌∙◌, ap, sym, ◌-◌, ℕ, List, length, slice_set}
use Rattle.catalog_doc.specs.declared.head.PageHead.{PageHead}
use Rattle.catalog_rows.specs.Kept.{longer}
use Rattle.catalog_rows.proofs.PageHeads.{add_head-longer, add_head-new}
use Rattle.catalog_rows.proofs.pages.add_head.Goals as goal

pub returns-in-Some : goal.returns-in-Some
returns-in-Some c =
    let pages = c.args.pages.now.items in
    let at : c.len-at.result - 1 ≡ length pages - 1 = ap (λ (n : ℕ). n - 1) (c.len-at.ensures ∙ sym c.as_slice.ensures.len ∙ ap length c.as_slice.ensures.value) in
    ap (λ (n : ℕ). slice_set pages n c.in-Some.page) at
    ∙ add_head-longer pages c.args.head.now c.in-Some.page
    (ap (λ (l : List PageHead). longer l c.args.head.now) (sym c.as_slice.ensures.value) ∙ sym c.longer.ensures ∙ c.in-Some.is)

pub returns-in-Ok : goal.returns-in-Ok
returns-in-Ok c =
    c.in-Ok.ensures.items
    ∙ add_head-new c.args.pages.now.items c.args.head.now
    (ap (λ (l : List PageHead). longer l c.args.head.now) (sym c.as_slice.ensures.value) ∙ sym c.longer.ensures ∙ c.in-None.is)
