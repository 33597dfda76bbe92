-- The plan of a commit.
use Rattle.std.specs.Prelude.{◌≡◌, ℕ, List, Result, ⊤}
use Rattle.std.specs.declared.result.Result.TheVariants.{Ok, Err}
use Rattle.pkg_meta.specs.Catalog.{Catalog}
use Rattle.pkg_meta.specs.declared.commit.Stored.{Stored}
use Rattle.catalog_doc.specs.CatDocs.{rows_of}
use Rattle.catalog_doc.specs.Commits.{commit_puts, made}
use Rattle.catalog_doc.specs.declared.change.Change.{Change}
use Rattle.catalog_doc.specs.declared.error.CommitErr.{CommitErr}
use Rattle.commit_plan.specs.declared.plan.CommitPlan.{CommitPlan}

-- the plan is that of the commit
pub record IsPlanOf (base : List ℕ) (cs : Catalog) (c : Stored) (plan : CommitPlan) : Type 0 where
  pub number : plan.number ≡ c.commit.number
  pub stamp : plan.stamp ≡ c.commit.stamp
  pub rows : plan.rows ≡ rows_of c
  pub calls : plan.calls ≡ commit_puts base cs c

-- if something is planned, it is the commit that the changes make
abbrev pub PlansMade : List ℕ → Catalog → List Change → ℕ → Result CommitPlan CommitErr → Type 0
PlansMade base cs changes now (Ok plan) = IsPlanOf base cs (made cs changes now) plan
PlansMade base cs changes now (Err error) = ⊤
