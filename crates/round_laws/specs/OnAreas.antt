-- What a round stands on, and what it leaves.
use Rattle.std.specs.Prelude.{◌≡◌, ◌⊎◌, ℕ, length, true, IfErr, IsErrOf, Result, Some}
use Rattle.blob_store.specs.Area.{Area}
use Rattle.blob_store.specs.Seen.{Seen}
use Rattle.pkg_meta.specs.Catalog.{Catalog}
use Rattle.catalog_core.specs.Framing.{StaysOpen}
use Rattle.catalog_core.specs.Opened.{IsOpenFor, Opened}
use Rattle.catalog_doc.specs.Catalogs.{IsCatalog}
use Rattle.fold_core.specs.Folds.{Fold}
use Rattle.hive_laws.specs.Areas.{SettledArea, SoundArea}
use Rattle.id_pass.specs.declared.error.RoundErr.{RoundErr}
use Rattle.id_pass.specs.declared.error.RoundErr.TheVariants.{CatalogFault}
use Rattle.id_pass.specs.declared.error.RoundOut.{RoundOut}
use Rattle.job_round.specs.Answers.{IfDamagedText, IsDamagedBlob}
use Rattle.job_round.specs.Reads.{RoundReads}
use Rattle.job_round.specs.Rounds.{Rounds}

-- this catalog may be meant, and the store holds the area of a sound hive over it, whose cursor stands at commit c
pub record OnSoundArea (f : Fold) (Q : Catalog → Type 0) (cs : Catalog) (c : ℕ) (m : Area) (s : Seen) : Type 0 where
  pub meant : Q cs
  pub catalog : IsCatalog cs
  pub held : s.held ≡ Some m
  pub sound : SoundArea f cs c m

-- the store tells an area that has P
abbrev pub HoldsArea : Seen → (Area → Type 0) → Type 0
HoldsArea s P = (left : Area) × (s.held ≡ Some left) × P left

-- the area is sound with the cursor at commit c, or exactly that of the whole catalog
abbrev pub IsSoundOrSettled : Fold → Catalog → ℕ → Area → Type 0
IsSoundOrSettled f cs c left = SoundArea f cs c left ⊎ SettledArea f cs (length cs) left

-- A round was made over a settled catalog, open as `o` before it and as `n` after it: its calls on the hive's store and on the catalog's, that
-- the catalog stays open, and why a blob is told as damaged. `before` and `after` are of the catalog's store, `old` and `new` of the hive's.
pub record RoundOver {B : Type 0} (f : Fold) (o n : Opened B) (before after old new : Seen) (result : Result RoundOut RoundErr) : Type 0 where
  pub settled : o.settled ≡ true
  pub runs : Rounds f (IsOpenFor o before) old new result
  pub reads : RoundReads f (IsOpenFor o before) o.kept.rows old new before after result
  pub stays : StaysOpen o n before after (IsErrOf result CatalogFault)
  pub damaged : IfErr result (λ e. IfDamagedText e (IsDamagedBlob o n before after new.held))
