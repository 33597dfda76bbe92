-- A commit that the verdict takes keeps a catalog one.
use Rattle.std.proofs.Common.{◌≡◌, ◌<◌, ◌≤◌, ◌+◌, ⊎_elim, ℕ, zero, suc, List, [], ◌∷◌, ◌++◌, length, map, take, All, None, refl, sym, ◌∙◌, ap, subst, arith, append_assoc, append-nil, length-append}
use Rattle.std.proofs.lemmas.Bool.{cases_lt}
use Rattle.std.proofs.lemmas.Grind.{flat_map-append}
use Rattle.std.proofs.lemmas.List.{length-map, take-append-le}
use Rattle.std.proofs.lemmas.List.Elements.{All-append}
use Rattle.pkg_meta.specs.Catalog.{Catalog}
use Rattle.pkg_meta.specs.Lawful.{all_placed, IsLawful, IsNext, MayFollow}
use Rattle.pkg_meta.specs.declared.commit.Stored.{Stored}
use Rattle.pkg_meta.specs.declared.item.Item.{Item}
use Rattle.pkg_meta.specs.declared.item.Item.TheVariants as the
use Rattle.catalog_doc.specs.Catalogs.{all_items, id_room, IsCatalog, live_count, TellPackages, TellsPackage}
use Rattle.catalog_doc.specs.Commits.{made, made_from, staged_of}
use Rattle.catalog_doc.specs.declared.change.Change.{Change}
use Rattle.catalog_doc.specs.declared.change.Change.TheVariants.{Publish, Unlist, Relist, Delete}
use Rattle.catalog_laws.specs.Onto.{IsCommitOnto}
use Rattle.catalog_laws.specs.Values.{AreChangeValues, IsChangeValue}
use Rattle.catalog_laws.proofs.Alike.{live_behind}
use Rattle.catalog_laws.proofs.Items.{lawful_items}
use Rattle.catalog_laws.proofs.Pairs.{distinct_items, item_by}
use Rattle.catalog_laws.proofs.Reasons.{are_taken, AreTaken, no_refusal}
use Rattle.catalog_laws.proofs.Rooms.{all_room, items_placed}

length-made_from : (cs : Catalog) (number stamp place : ℕ) (changes : List Change) → length (made_from cs number stamp place changes) ≡ length changes
length-made_from cs number stamp place [] = refl
length-made_from cs number stamp place (change ∷ changes) = ap suc (length-made_from cs number stamp (suc place) changes)

follow_push : (before cs : Catalog) (c : Stored) → MayFollow before cs → IsNext (before ++ cs) c → MayFollow before (cs ++ c ∷ [])
follow_push before [] c follows next = (subst (λ (all : Catalog). IsNext all c) (append-nil before) next, tt)
follow_push before (first ∷ cs) c follows next =
    (follows.0, follow_push (before ++ first ∷ []) cs c follows.1 (subst (λ (all : Catalog). IsNext all c) (sym (append_assoc before (first ∷ []) cs)) next))

-- all items of a catalog with a commit more
pub all_items-push : (cs : Catalog) (c : Stored) → all_items (cs ++ c ∷ []) ≡ all_items cs ++ c.commit.items
all_items-push cs c =
    flat_map-append (λ (d : Stored). d.commit.items) cs (c ∷ []) ∙ ap (λ (l : List Item). all_items cs ++ l) (append-nil c.commit.items)

length-all_placed : (cs : Catalog) → length (all_placed cs) ≡ length (all_items cs)
length-all_placed cs = sym (length-map (all_placed cs) (λ x. x.what)) ∙ ap length (items_placed cs)

-- an item that brings nothing tells of no package
nothing_told : (it : Item) → TellsPackage it None
nothing_told (the.Details d) = tt
nothing_told (the.Gone i v) = tt

tells : (cs : Catalog) (number stamp place : ℕ) (change : Change) → IsChangeValue change
    → TellsPackage (item_by cs number stamp place change) (staged_of change)
tells cs number stamp place (Publish meta nuspec nupkg) value = record { hash = refl; size = value.0; texts = value.1 }
tells cs number stamp place (Unlist i v) value = nothing_told (item_by cs number stamp place (Unlist i v))
tells cs number stamp place (Relist i v) value = nothing_told (item_by cs number stamp place (Relist i v))
tells cs number stamp place (Delete i v) value = nothing_told (item_by cs number stamp place (Delete i v))

all_tell : (cs : Catalog) (number stamp place : ℕ) (changes : List Change) → AreChangeValues changes
    → TellPackages (made_from cs number stamp place changes) (map staged_of changes)
all_tell cs number stamp place [] values = tt
all_tell cs number stamp place (change ∷ changes) values =
    let rest = all_tell cs number stamp (suc place) changes (λ k d within. values (suc k) d (omega (arith, within))) in
    (tells cs number stamp place change (values 0 change (omega arith)), rest)

module _ (cs : Catalog) (changes : List Change) (now : ℕ) (whole : IsCatalog cs) (values : AreChangeValues changes)
    (moment : now ≤ 3_155_378_975_999_999_999) (taken : AreTaken cs changes) where
  abbrev c : Stored
  c = made cs changes now

  next : IsNext cs c
  next = let longer = length-made_from cs c.commit.number c.commit.stamp 0 changes in
      record {
        number = refl;
        rises = omega arith;
        moment = omega (arith, moment, taken.time);
        some = omega (arith, longer, taken.some);
        few = omega (arith, longer, taken.few);
        distinct = distinct_items cs c.commit.number c.commit.stamp [] 0 0 changes taken.distinct;
        items = lawful_items cs c.commit.number c.commit.stamp 0 0 [] changes taken.fit;
      }

  lawful : IsLawful (cs ++ c ∷ [])
  lawful =
      let all : length (all_placed (cs ++ c ∷ [])) ≡ length (all_items cs ++ c.commit.items) =
      length-all_placed (cs ++ c ∷ []) ∙ ap length (all_items-push cs c) in
      let split = length-append (all_items cs) c.commit.items in
      let own = length-made_from cs c.commit.number c.commit.stamp 0 changes in
      record {
        commits = follow_push [] cs c whole.lawful.commits next;
        items = omega (arith, all, split, own, taken.room);
      }

  packages : All (λ (d : Stored). TellPackages d.commit.items d.staged) (cs ++ c ∷ [])
  packages = All-append (λ (d : Stored). TellPackages d.commit.items d.staged) cs (c ∷ []) whole.packages one
    where
      one : All (λ (d : Stored). TellPackages d.commit.items d.staged) (c ∷ [])
      one zero d within = all_tell cs c.commit.number c.commit.stamp 0 changes values
      one (suc k) d within = absurd (omega (arith, within))

  -- after all commits
  old_room : (id : List ℕ) → live_count id (all_items cs) ≤ id_room
  old_room id = subst (λ (ds : Catalog). live_count id (all_items ds) ≤ id_room) (take_all cs) (whole.ids (length cs) id)
    where
      take_all : (ds : Catalog) → take (length ds) ds ≡ ds
      take_all [] = refl
      take_all (d ∷ ds) = ap (λ (l : Catalog). d ∷ l) (take_all ds)

  new_room : (id : List ℕ) → live_count id (all_items (cs ++ c ∷ [])) ≤ id_room
  new_room id =
      let all = all_room cs 0 [] changes taken.distinct taken.fit
      (λ other. subst (λ (l : List Item). live_count other l ≤ id_room) (sym (append-nil (all_items cs))) (old_room other)) id in
      subst (λ (l : List Item). live_count id l ≤ id_room) (sym (all_items-push cs c))
      (subst (λ (n : ℕ). n ≤ id_room) (live_behind cs (length cs + 1) 0 c.commit.stamp id (all_items cs) changes) all)

  room : (k : ℕ) (id : List ℕ) → live_count id (all_items (take k (cs ++ c ∷ []))) ≤ id_room
  room k id = ⊎_elim
      (λ past. subst (λ (ds : Catalog). live_count id (all_items ds) ≤ id_room) (sym (take_past (cs ++ c ∷ []) k (longer past))) (new_room id))
      (λ within. subst (λ (ds : Catalog). live_count id (all_items ds) ≤ id_room) (sym (take-append-le k cs (c ∷ []) within)) (whole.ids k id))
      (cases_lt (length cs) k)
    where
      longer : length cs < k → length (cs ++ c ∷ []) ≤ k
      longer past = let more = length-append cs (c ∷ []) in omega (arith, more, past)

      take_past : (ds : Catalog) (j : ℕ) → length ds ≤ j → take j ds ≡ ds
      take_past [] zero least = refl
      take_past [] (suc j) least = refl
      take_past (d ∷ ds) zero least = absurd (omega (arith, least))
      take_past (d ∷ ds) (suc j) least = ap (λ (l : Catalog). d ∷ l) (take_past ds j (omega (arith, least)))

  pub grown : IsCatalog (cs ++ c ∷ [])
  grown = record { lawful = lawful; packages = packages; ids = room }

pub stays_catalog : (cs : Catalog) (changes : List Change) (now : ℕ) (c : Stored) → IsCommitOnto cs changes now c → IsCatalog (cs ++ c ∷ [])
stays_catalog cs changes now c onto =
    let own = no_refusal cs changes now c onto.taken in
    subst (λ (d : Stored). IsCatalog (cs ++ d ∷ [])) (sym own.1) (grown cs changes now onto.whole onto.values onto.moment (are_taken cs changes own.0))

-- no commits are a catalog
pub none_catalog : IsCatalog []
none_catalog = record {
  lawful = record { commits = tt; items = omega arith };
  packages = λ k d within. absurd (omega (arith, within));
  ids = λ k id. none_live k id;
}
  where
    none_live : (k : ℕ) (id : List ℕ) → live_count id (all_items (take k [])) ≤ id_room
    none_live zero id = omega arith
    none_live (suc k) id = omega arith
