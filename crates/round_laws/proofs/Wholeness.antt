-- Of a sound area and a settled catalog no blob is told as damaged.
use Rattle.std.proofs.Common.{◌≡◌, ◌≢◌, ◌⊎◌, inl, inr, ℕ, List, true, false, Err, get_or, Some, sym, ◌∙◌, ap, subst, arith}
use Rattle.std.specs.Prelude.{drop}
use Rattle.blob_store.specs.Area.{Area}
use Rattle.blob_store.specs.Events.{Act}
use Rattle.blob_store.specs.Seen.{Seen}
use Rattle.pkg_meta.specs.Catalog.{Catalog}
use Rattle.pkg_meta.specs.declared.entry.Entry.{Entry}
use Rattle.catalog_core.specs.Opened.{IsOpenFor, Opened}
use Rattle.catalog_core.proofs.Frames.{ready_keeps, ready_of, ready_store}
use Rattle.catalog_rows.specs.Kept.{Kept}
use Rattle.fold_core.specs.Docs.{MakesDocs}
use Rattle.fold_core.specs.Entries.{Keeps}
use Rattle.fold_core.specs.Folds.{Fold, fold_of}
use Rattle.fold_core.specs.Laws.{AreOfEntries}
use Rattle.fold_core.specs.declared.hive.HiveName.{HiveName}
use Rattle.fold_core.specs.declared.hive.HiveName.TheVariants.{Plain, SemVer2, Content, Auto}
use Rattle.hive_laws.specs.FoldLaws.{FoldLaws}
use Rattle.id_pass.specs.declared.error.RoundErr.TheVariants.{Damaged, HiveFault}
use Rattle.job_round.specs.Answers.{IsLostInCatalog, in_catalog, in_hive}
use Rattle.job_round.specs.Items.{IsNoLeafAmong, IsNoStaged}
use Rattle.job_round.specs.Reads.{EndsReading, ReachesBlob}
use Rattle.round_laws.specs.OnAreas.{OnSoundArea, RoundOver}
use Rattle.round_laws.proofs.Damage.{of_catalog}
use Rattle.round_laws.proofs.Leaving.{stays_sound}
use Rattle.round_laws.proofs.Getting.{AllFound, never_got, no_leaf_lost, read_found}

apart_second : (xs ys : List ℕ) → get_or xs 1 0 ≢ get_or ys 1 0 → xs ≢ ys
apart_second xs ys other e = other (ap (λ (l : List ℕ). get_or l 1 0) e)

-- a text of the catalog is none of a hive's
in_catalog-not_hive : (hive : HiveName) (name other : List ℕ) → in_catalog name ≢ in_hive hive other
in_catalog-not_hive Plain name other is = apart_second (in_catalog name) (in_hive Plain other) (omega arith) is
in_catalog-not_hive SemVer2 name other is = apart_second (in_catalog name) (in_hive SemVer2 other) (omega arith) is
in_catalog-not_hive Content name other is = apart_second (in_catalog name) (in_hive Content other) (omega arith) is
in_catalog-not_hive Auto name other is = apart_second (in_catalog name) (in_hive Auto other) (omega arith) is

-- and of one name alone
one_name : (name other : List ℕ) → in_catalog name ≡ in_catalog other → name ≡ other
one_name name other is = ap (drop 8) is

module _ {B : Type 0} (keeps : Keeps) (makes : MakesDocs) (base : List ℕ) (staged : (base key : List ℕ) (number stamp : ℕ) (es : List Entry)
    → AreOfEntries es (makes base key number stamp es))
    (o n : Opened B) (before after old new : Seen) (cs : Catalog) (c : ℕ) (hive : Area) (laws : FoldLaws (fold_of keeps makes base) cs)
    (on : OnSoundArea (fold_of keeps makes base) (IsOpenFor o before) cs c hive old) (text : List ℕ)
    (round : RoundOver (fold_of keeps makes base) o n before after old new (Err (Damaged text))) where
  abbrev f : Fold
  f = fold_of keeps makes base

  -- a file that isn't held was none that was to be got
  no_file : (m : Area) (plan : List Act) (name : List ℕ) → before.held ≡ Some m → AllFound m plan → text ≡ in_catalog name
      → EndsReading plan (Damaged text) before after → IsNoStaged m name → ⊥
  no_file m plan name held found named (some, inl (other, blob, is)) lost = in_catalog-not_hive other name blob (sym named ∙ is)
  no_file m plan name held found named (some, inr (blob, is, reaches)) lost =
      let same : name ≡ blob = one_name name blob (sym named ∙ is) in
      let reach : ReachesBlob blob plan before after = reaches m held in
      never_got m reach.0 reach.1 blob (subst (AllFound m) reach.2 found) (subst (IsNoStaged m) same lost)

  none_lost : (name : List ℕ) → text ≡ in_catalog name → IsLostInCatalog o n before after name → ⊥
  none_lost name named lost =
      let ready = ready_of o before cs round.settled on.meant in
      let store = ready_store o before cs ready in
      let m : Area = store.0 in
      let left : after.held ≡ Some m = (round.stays.settled round.settled).1 ∙ store.1 in
      let read = read_found m o.base cs on.catalog store.2 keeps makes base staged laws (IsOpenFor o before) on.meant c o.kept.rows hive old on
      (λ plan. EndsReading plan (Damaged text) before after) round.reads in
      by_case m store.1 (λ leaf. no_leaf_lost m o.base cs on.catalog store.2 o.kept.rows name (ready_keeps o before cs ready).rows
      (subst (λ (k : Kept). IsNoLeafAmong m o.base k.rows name) (round.stays.kept round.settled)
      (subst (λ (b : List ℕ). IsNoLeafAmong m b n.kept.rows name) round.stays.base leaf)))
      (λ file. no_file m read.0 name store.1 read.1 named read.2 file) left lost
    where
      by_case : (m : Area) → before.held ≡ Some m → (IsNoLeafAmong m n.base n.kept.rows name → ⊥) → (IsNoStaged m name → ⊥) → after.held ≡ Some m
          → IsLostInCatalog o n before after name → ⊥
      by_case m held no_leaf no_staged left (inl unsettled) = let why = unsettled m held in let is : o.settled ≡ false = why.0 in
          let same : true ≡ false = sym round.settled ∙ is in let no : ⊥ = cc in no
      by_case m held no_leaf no_staged left (inr missing) = either (missing m left)
        where
          either : IsNoLeafAmong m n.base n.kept.rows name ⊎ IsNoStaged m name → ⊥
          either (inl leaf) = no_leaf leaf
          either (inr file) = no_staged file

  pub none_damaged : ⊥
  none_damaged =
      let held = stays_sound keeps makes base staged cs (IsOpenFor o before) c hive old new laws on (Damaged text) round.runs
      (λ e. let no_ : Damaged text ≡ HiveFault = e in let no : ⊥ = cc in no) in
      let lost = of_catalog o n before after cs on.meant f c held.0 held.2 new.held text held.1 round.damaged in
      none_lost lost.0 lost.1 lost.2
