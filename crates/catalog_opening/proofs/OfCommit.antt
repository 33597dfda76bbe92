-- Testing row by row whether rows are of one commit.
use Rattle.std.proofs.Common.{◌≡◌, ◌<◌, ◌+◌, ℕ, List, ◌∷◌, length, get_or, drop, false, sym, ◌∙◌, ap, subst}
use Rattle.std.specs.Prelude.{◌↔◌, IsTrue}
use Rattle.std.proofs.lemmas.List.{drop_more}
use Rattle.catalog_doc.specs.declared.row.Row.{Row}
use Rattle.catalog_opening.specs.Pages.{AreOfCommit, IsOfCommit}

at_row : (rows : List Row) (i : ℕ) (row : Row) → i < length rows → row ≡ get_or rows i row → drop i rows ≡ row ∷ drop (i + 1) rows
at_row rows i row lt is = drop_more rows i row lt ∙ ap (λ (r : Row). r ∷ drop (i + 1) rows) (sym is)

module _ (all : Type 0) (rows : List Row) (i number stamp : ℕ) (row : Row) (lt : i < length rows) (is : row ≡ get_or rows i row) (left : all ↔ AreOfCommit number stamp (drop i rows)) where
  pub of_commit_more : IsOfCommit number stamp row → all ↔ AreOfCommit number stamp (drop (i + 1) rows)
  of_commit_more own = (
    λ a. (subst (AreOfCommit number stamp) (at_row rows i row lt is) (left.0 a)).1,
    λ b. left.1 (subst (AreOfCommit number stamp) (sym (at_row rows i row lt is)) (own, b)),
  )

  pub of_commit_not : (IsOfCommit number stamp row → ⊥) → IsTrue false ↔ all
  of_commit_not other = (
    λ wrong. absurd (let no_way : ⊥ = cc in no_way),
    λ a. absurd (other (subst (AreOfCommit number stamp) (at_row rows i row lt is) (left.0 a)).0),
  )
