-- How many pages stand at the end.
use Rattle.std.proofs.Common.{◌≡◌, ◌≤◌, ◌∙◌, List, ◌++◌, length, Bool, Option, None, Some, ap, arith, subst, sym}
use Rattle.std.specs.Prelude.{◌↔◌, IsTrue}
use Rattle.std.proofs.lemmas.List.{append_cancel_left}
use Rattle.catalog_doc.specs.declared.head.PageHead.{PageHead}
use Rattle.catalog_opening.specs.Reads.{end_pages, heads_on, listed}
use Rattle.catalog_opening.specs.declared.page.Page.{Page}
use Rattle.catalog_opening.specs.declared.reading.End.{End}

few_listed : (last next : Option Page) → length (heads_on (listed last ++ listed next)) ≤ 2
few_listed None None = omega arith
few_listed None (Some y) = omega arith
few_listed (Some x) None = omega arith
few_listed (Some x) (Some y) = omega arith

pub few_ends : (end : End) → length (heads_on (end_pages end)) ≤ 2
few_ends end = few_listed end.last end.next

one_listed : (next : Option Page) → length (heads_on (listed next)) ≤ 1
one_listed None = omega arith
one_listed (Some y) = omega arith

pub one_end : (end : End) → end.last ≡ None → length (heads_on (end_pages end)) ≤ 1
one_end end none = subst (λ (last : Option Page). length (heads_on (listed last ++ listed end.next)) ≤ 1) (sym none) (one_listed end.next)

-- whether all heads are as they were is told by those at the end
pub ends_settled : (found own : Bool) (heads front ends lasts : List PageHead) → found ≡ own → heads ≡ front ++ ends → IsTrue own ↔ (ends ≡ lasts) → IsTrue found ↔ (heads ≡ front ++ lasts)
ends_settled found own heads front ends lasts same joined settled = (
  λ is. joined ∙ ap (λ (l : List PageHead). front ++ l) (settled.0 (subst IsTrue same is)),
  λ is. subst IsTrue (sym same) (settled.1 (append_cancel_left front ends lasts (sym joined ∙ is))),
)
