-- Whatever may happen to a sound feed keeps it sound.
use Rattle.std.proofs.Common.{◌≡◌, ℕ, zero, suc, List, [], ◌∷◌, ◌++◌, map, None, Some, refl, sym, ◌∙◌, ap, subst, arith}
use Rattle.std.proofs.lemmas.List.{append_assoc, append-nil}
use Rattle.blob_store.specs.Events.{Fate, Done, FailedOld, FailedNew, NoMemory}
use Rattle.pkg_meta.specs.Catalog.{Catalog}
use Rattle.pkg_meta.specs.Lawful.{IsLawful}
use Rattle.pkg_meta.specs.declared.commit.Stored.{Stored}
use Rattle.fold_core.specs.Docs.{owner}
use Rattle.fold_core.specs.Folds.{Fold}
use Rattle.feed_laws.specs.Happenings.{PutObject, PutPage, PutIndex, OnHive, PutCursor, Happening, Catalogs, Hives, Reads, Crash, Restart}
use Rattle.feed_laws.specs.Claims.{CursorsRise, IsFromScratch, IsSettledNow, commits_in, fold_at, hive_at}
use Rattle.feed_laws.specs.Soundness.{AreSound, HaveLaws, Sound}
use Rattle.feed_laws.specs.Steps.{May, MayAt, Run, happens, hive_after, hives_after}
use Rattle.feed_laws.specs.Worlds.{HiveNow, World}
use Rattle.feed_laws.proofs.CatalogKept.{index_kept, object_kept, page_put_kept}
use Rattle.feed_laws.proofs.HiveKept.{all_done, cursor_settles, down_kept, hive_kept, never_falls, page_kept}
use Rattle.catalog_doc.specs.Names.{index_name}
use Rattle.catalog_doc.specs.Spelled.{SpellsCatalog}
use Rattle.blob_store.specs.Area.{with_blob}

on_kept : (cs : Catalog) (k : ℕ) (on : OnHive) (fs : List Fold) (hs : List HiveNow) → IsLawful cs → HaveLaws fs → AreSound cs fs hs → MayAt cs k on fs hs → AreSound cs fs (hives_after cs k on hs)
on_kept cs k on [] hs lawful laws sound may = absurd may
on_kept cs k on (f ∷ fs) [] lawful laws sound may = absurd may
on_kept cs zero on (f ∷ fs) (h ∷ hs) lawful laws sound may = (hive_kept f cs (laws.0 cs lawful) h on sound.0 may, sound.1)
on_kept cs (suc k) on (f ∷ fs) (h ∷ hs) lawful laws sound may = (sound.0, on_kept cs k on fs hs lawful laws.1 sound.1 may)

all_more : (cs : Catalog) (c : Stored) (fs : List Fold) (hs : List HiveNow) → AreSound cs fs hs → AreSound (cs ++ c ∷ []) fs hs
all_more cs c [] [] sound = tt
all_more cs c [] (h ∷ hs) sound = absurd sound
all_more cs c (f ∷ fs) [] sound = absurd sound
all_more cs c (f ∷ fs) (h ∷ hs) sound = (page_kept f cs c h sound.0, all_more cs c fs hs sound.1)

abbrev without_rounds : List HiveNow → List HiveNow
without_rounds hs = map (λ (h : HiveNow). record h { round = None }) hs

all_down : (cs : Catalog) (fs : List Fold) (hs : List HiveNow) → AreSound cs fs hs → AreSound cs fs (without_rounds hs)
all_down cs [] [] sound = tt
all_down cs [] (h ∷ hs) sound = absurd sound
all_down cs (f ∷ fs) [] sound = absurd sound
all_down cs (f ∷ fs) (h ∷ hs) sound = (down_kept f cs h sound.0, all_down cs fs hs sound.1)

-- a put that took effect, or one that didn't
on_object : (fs : List Fold) (w : World) (name bytes : List ℕ) (fate : Fate) → Sound fs w → May fs w (Catalogs (PutObject name bytes fate)) → Sound fs (happens (Catalogs (PutObject name bytes Done)) w)
on_object fs w name bytes fate sound may = record {
  lawful = sound.lawful;
  spells = object_kept w.area w.base w.commits sound.lawful sound.spells name bytes may.1.0 may.1.1;
  hives = sound.hives;
}

on_page : (fs : List Fold) (w : World) (c : Stored) (name bytes : List ℕ) (fate : Fate) → Sound fs w → May fs w (Catalogs (PutPage c name bytes fate)) → Sound fs (happens (Catalogs (PutPage c name bytes Done)) w)
on_page fs w c name bytes fate sound may = record {
  lawful = may.1.lawful;
  spells = page_put_kept w.area w.base w.commits c name bytes sound.spells may.1;
  hives = all_more w.commits c fs w.hives sound.hives;
}

on_index : (fs : List Fold) (w : World) (name bytes : List ℕ) (fate : Fate) → Sound fs w → May fs w (Catalogs (PutIndex name bytes fate)) → Sound fs (happens (Catalogs (PutIndex name bytes Done)) w)
on_index fs w name bytes fate sound may = record {
  lawful = sound.lawful;
  spells = subst (λ (n : List ℕ). SpellsCatalog (with_blob n bytes w.area) w.base w.commits) (sym may.1.0)
      (subst (λ (b : List ℕ). SpellsCatalog (with_blob index_name b w.area) w.base w.commits) (sym may.1.1) (index_kept w.area w.base w.commits sound.lawful sound.spells));
  hives = sound.hives;
}

pub feed_kept : (fs : List Fold) → HaveLaws fs → (w : World) (e : Happening) → Sound fs w → May fs w e → Sound fs (happens e w)
feed_kept fs laws w (Catalogs (PutObject name bytes Done)) sound may = on_object fs w name bytes Done sound may
feed_kept fs laws w (Catalogs (PutObject name bytes FailedOld)) sound may = sound
feed_kept fs laws w (Catalogs (PutObject name bytes FailedNew)) sound may = on_object fs w name bytes FailedNew sound may
feed_kept fs laws w (Catalogs (PutObject name bytes NoMemory)) sound may = sound
feed_kept fs laws w (Catalogs (PutPage c name bytes Done)) sound may = on_page fs w c name bytes Done sound may
feed_kept fs laws w (Catalogs (PutPage c name bytes FailedOld)) sound may = sound
feed_kept fs laws w (Catalogs (PutPage c name bytes FailedNew)) sound may = on_page fs w c name bytes FailedNew sound may
feed_kept fs laws w (Catalogs (PutPage c name bytes NoMemory)) sound may = sound
feed_kept fs laws w (Catalogs (PutIndex name bytes Done)) sound may = on_index fs w name bytes Done sound may
feed_kept fs laws w (Catalogs (PutIndex name bytes FailedOld)) sound may = sound
feed_kept fs laws w (Catalogs (PutIndex name bytes FailedNew)) sound may = on_index fs w name bytes FailedNew sound may
feed_kept fs laws w (Catalogs (PutIndex name bytes NoMemory)) sound may = sound
feed_kept fs laws w (Hives k on) sound may = record { lawful = sound.lawful; spells = sound.spells; hives = on_kept w.commits k on fs w.hives sound.lawful.lawful laws sound.hives may.1 }
feed_kept fs laws w (Reads place fate) sound may = sound
feed_kept fs laws w Crash sound may = record { lawful = sound.lawful; spells = sound.spells; hives = all_down w.commits fs w.hives sound.hives }
feed_kept fs laws w Restart sound may = record { lawful = sound.lawful; spells = sound.spells; hives = sound.hives }

-- over steps in order
pub run_kept : (fs : List Fold) → HaveLaws fs → (w : World) (es : List Happening) (last : World) → Sound fs w → Run fs w es last → Sound fs last
run_kept fs laws w [] last sound run = subst (Sound fs) (sym run) sound
run_kept fs laws w (e ∷ es) last sound run = run_kept fs laws (happens e w) es last (feed_kept fs laws w e sound run.0) run.1

-- the catalog grows by the page puts that took effect
one_grows : (e : Happening) (w : World) → (happens e w).commits ≡ w.commits ++ commits_in (e ∷ [])
one_grows (Catalogs (PutObject name bytes Done)) w = sym (append-nil w.commits)
one_grows (Catalogs (PutObject name bytes FailedOld)) w = sym (append-nil w.commits)
one_grows (Catalogs (PutObject name bytes FailedNew)) w = sym (append-nil w.commits)
one_grows (Catalogs (PutObject name bytes NoMemory)) w = sym (append-nil w.commits)
one_grows (Catalogs (PutPage c name bytes Done)) w = refl
one_grows (Catalogs (PutPage c name bytes FailedOld)) w = sym (append-nil w.commits)
one_grows (Catalogs (PutPage c name bytes FailedNew)) w = refl
one_grows (Catalogs (PutPage c name bytes NoMemory)) w = sym (append-nil w.commits)
one_grows (Catalogs (PutIndex name bytes Done)) w = sym (append-nil w.commits)
one_grows (Catalogs (PutIndex name bytes FailedOld)) w = sym (append-nil w.commits)
one_grows (Catalogs (PutIndex name bytes FailedNew)) w = sym (append-nil w.commits)
one_grows (Catalogs (PutIndex name bytes NoMemory)) w = sym (append-nil w.commits)
one_grows (Hives k on) w = sym (append-nil w.commits)
one_grows (Reads place fate) w = sym (append-nil w.commits)
one_grows Crash w = sym (append-nil w.commits)
one_grows Restart w = sym (append-nil w.commits)

commits_split : (e : Happening) (es : List Happening) → commits_in (e ∷ es) ≡ commits_in (e ∷ []) ++ commits_in es
commits_split (Catalogs (PutObject name bytes fate)) es = refl
commits_split (Catalogs (PutPage c name bytes Done)) es = refl
commits_split (Catalogs (PutPage c name bytes FailedOld)) es = refl
commits_split (Catalogs (PutPage c name bytes FailedNew)) es = refl
commits_split (Catalogs (PutPage c name bytes NoMemory)) es = refl
commits_split (Catalogs (PutIndex name bytes fate)) es = refl
commits_split (Hives k on) es = refl
commits_split (Reads place fate) es = refl
commits_split Crash es = refl
commits_split Restart es = refl

pub run_grows : (fs : List Fold) (w : World) (es : List Happening) (last : World) → Run fs w es last → last.commits ≡ w.commits ++ commits_in es
run_grows fs w [] last run = ap (λ (v : World). v.commits) run ∙ sym (append-nil w.commits)
run_grows fs w (e ∷ es) last run =
    run_grows fs (happens e w) es last run.1
    ∙ ap (λ (cs : Catalog). cs ++ commits_in es) (one_grows e w)
    ∙ append_assoc w.commits (commits_in (e ∷ [])) (commits_in es)
    ∙ ap (λ (cs : Catalog). w.commits ++ cs) (sym (commits_split e es))

-- cursors never fall
same_cursors : (hs : List HiveNow) → CursorsRise hs hs
same_cursors [] = tt
same_cursors (h ∷ hs) = (omega arith, same_cursors hs)

down_cursors : (hs : List HiveNow) → CursorsRise hs (without_rounds hs)
down_cursors [] = tt
down_cursors (h ∷ hs) = (omega arith, down_cursors hs)

on_rises : (cs : Catalog) (k : ℕ) (on : OnHive) (fs : List Fold) (hs : List HiveNow) → AreSound cs fs hs → CursorsRise hs (hives_after cs k on hs)
on_rises cs k on fs [] sound = tt
on_rises cs k on [] (h ∷ hs) sound = absurd sound
on_rises cs zero on (f ∷ fs) (h ∷ hs) sound = (never_falls f cs h on sound.0, same_cursors hs)
on_rises cs (suc k) on (f ∷ fs) (h ∷ hs) sound = (omega arith, on_rises cs k on fs hs sound.1)

rise_on : (xs ys zs : List HiveNow) → CursorsRise xs ys → CursorsRise ys zs → CursorsRise xs zs
rise_on [] [] [] a b = tt
rise_on [] [] (z ∷ zs) a b = absurd b
rise_on [] (y ∷ ys) zs a b = absurd a
rise_on (x ∷ xs) [] zs a b = absurd a
rise_on (x ∷ xs) (y ∷ ys) [] a b = absurd b
rise_on (x ∷ xs) (y ∷ ys) (z ∷ zs) a b = ((let p = a.0 in let q = b.0 in omega (arith, p, q)), rise_on xs ys zs a.1 b.1)

pub one_rises : (fs : List Fold) (w : World) (e : Happening) → Sound fs w → CursorsRise w.hives (happens e w).hives
one_rises fs w (Catalogs (PutObject name bytes Done)) sound = same_cursors w.hives
one_rises fs w (Catalogs (PutObject name bytes FailedOld)) sound = same_cursors w.hives
one_rises fs w (Catalogs (PutObject name bytes FailedNew)) sound = same_cursors w.hives
one_rises fs w (Catalogs (PutObject name bytes NoMemory)) sound = same_cursors w.hives
one_rises fs w (Catalogs (PutPage c name bytes Done)) sound = same_cursors w.hives
one_rises fs w (Catalogs (PutPage c name bytes FailedOld)) sound = same_cursors w.hives
one_rises fs w (Catalogs (PutPage c name bytes FailedNew)) sound = same_cursors w.hives
one_rises fs w (Catalogs (PutPage c name bytes NoMemory)) sound = same_cursors w.hives
one_rises fs w (Catalogs (PutIndex name bytes Done)) sound = same_cursors w.hives
one_rises fs w (Catalogs (PutIndex name bytes FailedOld)) sound = same_cursors w.hives
one_rises fs w (Catalogs (PutIndex name bytes FailedNew)) sound = same_cursors w.hives
one_rises fs w (Catalogs (PutIndex name bytes NoMemory)) sound = same_cursors w.hives
one_rises fs w (Hives k on) sound = on_rises w.commits k on fs w.hives sound.hives
one_rises fs w (Reads place fate) sound = same_cursors w.hives
one_rises fs w Crash sound = down_cursors w.hives
one_rises fs w Restart sound = same_cursors w.hives

pub run_rises : (fs : List Fold) → HaveLaws fs → (w : World) (es : List Happening) (last : World) → Sound fs w → Run fs w es last → CursorsRise w.hives last.hives
run_rises fs laws w [] last sound run = subst (λ (v : World). CursorsRise w.hives v.hives) (sym run) (same_cursors w.hives)
run_rises fs laws w (e ∷ es) last sound run =
    rise_on w.hives (happens e w).hives last.hives (one_rises fs w e sound) (run_rises fs laws (happens e w) es last (feed_kept fs laws w e sound run.0) run.1)

-- what a read of a document finds
pub found_fresh : (cs : Catalog) (k : ℕ) (fs : List Fold) (hs : List HiveNow) → AreSound cs fs hs → (f : Fold) (h : HiveNow) → fold_at k fs ≡ Some f → hive_at k hs ≡ Some h
    → (key name : List ℕ) → owner name ≡ Some key → IsFromScratch f cs h.cursor key name (h.held name)
found_fresh cs k [] hs sound f h rule there key name own = absurd cc
found_fresh cs k (g ∷ fs) [] sound f h rule there key name own = absurd cc
found_fresh cs zero (g ∷ fs) (x ∷ hs) sound f h rule there key name own =
    let same : g ≡ f = cc in let is : x ≡ h = cc in
    subst (λ (r : Fold). IsFromScratch r cs h.cursor key name (h.held name)) same
    (subst (λ (y : HiveNow). IsFromScratch g cs y.cursor key name (y.held name)) is ((sound.0.hive.ids key).fresh name own))
found_fresh cs (suc k) (g ∷ fs) (x ∷ hs) sound f h rule there key name own = found_fresh cs k fs hs sound.1 f h rule there key name own

-- after the cursor's put that is done
pub put_settles : (cs : Catalog) (k : ℕ) (fs : List Fold) (hs : List HiveNow) → IsLawful cs → HaveLaws fs → AreSound cs fs hs → MayAt cs k (PutCursor Done) fs hs
    → (f : Fold) (h : HiveNow) → fold_at k fs ≡ Some f → hive_at k (hives_after cs k (PutCursor Done) hs) ≡ Some h → IsSettledNow f cs h.cursor h
put_settles cs k [] hs lawful laws sound may f h rule there = absurd may
put_settles cs k (g ∷ fs) [] lawful laws sound may f h rule there = absurd may
put_settles cs zero (g ∷ fs) (x ∷ hs) lawful laws sound may f h rule there =
    let same : g ≡ f = cc in let is : hive_after cs (PutCursor Done) x ≡ h = cc in
    let found : IsSettledNow g cs may.0.target x = cursor_settles g cs (laws.0 cs lawful) x may.0 sound.0 (all_done x may.0 may.1 may.2) in
    subst (λ (r : Fold). IsSettledNow r cs h.cursor h) same
    (subst (λ (y : HiveNow). IsSettledNow g cs y.cursor y) is (rw (may.1.stands) (record { ids = found.ids; known = found.known })))
put_settles cs (suc k) (g ∷ fs) (x ∷ hs) lawful laws sound may f h rule there = put_settles cs k fs hs lawful laws.1 sound.1 may f h rule there
