-- What an opening finds after a run.
use Rattle.std.proofs.Common.{◌≡◌, ℕ, List, [], ◌∷◌, ◌++◌, refl, ◌∙◌, ap, subst}
use Rattle.blob_store.specs.Events.{Done, FailedOld, FailedNew, NoMemory}
use Rattle.pkg_meta.specs.Catalog.{Catalog}
use Rattle.catalog_doc.specs.Catalogs.{IsCatalog}
use Rattle.catalog_doc.specs.Spelled.{SpellsCatalog, SpellsOnly}
use Rattle.area_laws.proofs.OneArea.{spells_one}
use Rattle.fold_core.specs.Folds.{Fold}
use Rattle.feed_laws.specs.Happenings.{Happening, Catalogs, Hives, Reads, Crash, Restart, PutObject, PutPage, PutIndex}
use Rattle.feed_laws.specs.Claims.{commits_in}
use Rattle.feed_laws.specs.Soundness.{HaveLaws, Sound}
use Rattle.feed_laws.specs.Steps.{Run, happens}
use Rattle.feed_laws.specs.Worlds.{World}
use Rattle.feed_laws.proofs.Kept.{run_grows, run_kept}

-- the base address stays
one_base : (e : Happening) (w : World) → (happens e w).base ≡ w.base
one_base (Catalogs (PutObject name bytes Done)) w = refl
one_base (Catalogs (PutObject name bytes FailedOld)) w = refl
one_base (Catalogs (PutObject name bytes FailedNew)) w = refl
one_base (Catalogs (PutObject name bytes NoMemory)) w = refl
one_base (Catalogs (PutPage c name bytes Done)) w = refl
one_base (Catalogs (PutPage c name bytes FailedOld)) w = refl
one_base (Catalogs (PutPage c name bytes FailedNew)) w = refl
one_base (Catalogs (PutPage c name bytes NoMemory)) w = refl
one_base (Catalogs (PutIndex name bytes Done)) w = refl
one_base (Catalogs (PutIndex name bytes FailedOld)) w = refl
one_base (Catalogs (PutIndex name bytes FailedNew)) w = refl
one_base (Catalogs (PutIndex name bytes NoMemory)) w = refl
one_base (Hives k on) w = refl
one_base (Reads place fate) w = refl
one_base Crash w = refl
one_base Restart w = refl

run_base : (fs : List Fold) (w : World) (es : List Happening) (last : World) → Run fs w es last → last.base ≡ w.base
run_base fs w [] last run = ap (λ (v : World). v.base) run
run_base fs w (e ∷ es) last run = run_base fs (happens e w) es last run.1 ∙ one_base e w

pub finds_commits : (fs : List Fold) → HaveLaws fs → (w : World) (es : List Happening) (last : World) → Sound fs w → Run fs w es last
    → SpellsCatalog last.area w.base (w.commits ++ commits_in es) × SpellsOnly last.area w.base (w.commits ++ commits_in es)
finds_commits fs laws w es last sound run =
    let there : Sound fs last = run_kept fs laws w es last sound run in
    let base : last.base ≡ w.base = run_base fs w es last run in
    let grown : last.commits ≡ w.commits ++ commits_in es = run_grows fs w es last run in
    let spells : SpellsCatalog last.area w.base (w.commits ++ commits_in es) =
    subst (λ (b : List ℕ). SpellsCatalog last.area b (w.commits ++ commits_in es)) base (subst (λ (cs : Catalog). SpellsCatalog last.area last.base cs) grown there.spells) in
    let lawful : IsCatalog (w.commits ++ commits_in es) = subst IsCatalog grown there.lawful in
    (spells, spells_one last.area w.base (w.commits ++ commits_in es) lawful spells)
