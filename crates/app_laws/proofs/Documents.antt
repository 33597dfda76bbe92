-- Which document of a hive a `get` gave.
use Rattle.std.proofs.Common.{◌≡◌, ◌⊎◌, ◌≤◌, ◌++◌, ◌≢◌, inl, inr, ⊎_elim, ℕ, List, length, take, codes, Option, Some, None, refl, sym, ◌∙◌, ap, subst, arith}
use Rattle.std.specs.FinMap.{get}
use Rattle.package_id.proofs.Bytes.{IsSegment-key}
use Rattle.blob_store.specs.Area.{Area}
use Rattle.blob_store.specs.Seen.{Seen}
use Rattle.pkg_meta.specs.Catalog.{Catalog}
use Rattle.catalog_core.specs.declared.stores.Stores.{Stores}
use Rattle.fold_core.specs.Docs.{owner}
use Rattle.fold_core.specs.Laws.{IsWhole}
use Rattle.fold_core.proofs.DocNames.{owner_of}
use Rattle.hive_laws.specs.Areas.{SoundArea}
use Rattle.feed_routes.specs.Cuts.{target_path}
use Rattle.feed_routes.specs.Names.{IsContentTailOf, IsOfId, IsRegistrationTail}
use Rattle.feed_routes.specs.Segments.{IsIdKey}
use Rattle.feed_routes.specs.Table.{IsDocumentPath}
use Rattle.admin_wire.specs.declared.area.AreaName.TheVariants as area
use Rattle.admin_wire.specs.declared.line.Line.TheVariants as line
use Rattle.admin_wire.specs.declared.line.Refusal.TheVariants as refusal
use Rattle.feed_app.specs.Answers.{answer_status}
use Rattle.feed_app.specs.Gets.{AnswersPath, Gets, OfHive}
use Rattle.feed_app.specs.Hives.{hive_fold, hive_name, hive_stores}
use Rattle.feed_app.specs.Openings.{MayOpen}
use Rattle.feed_app.specs.Outside.{Members, area_of, held}
use Rattle.feed_app.specs.Spelled.{HasCatalog}
use Rattle.feed_app.specs.Targets.{IsHivePath, hive_ask}
use Rattle.feed_app.specs.declared.answer.Answer.{Answer}
use Rattle.feed_app.specs.declared.answer.Answer.TheVariants.{Reply, Document}
use Rattle.feed_app.specs.declared.hives.ServedHive.{ServedHive}
use Rattle.feed_app.specs.declared.hives.ServedHive.TheVariants.{Plain, SemVer2, Content}
use Rattle.feed_app.proofs.Asked.{catalog_hive, hive_index, hive_server, same_hive}
use Rattle.feed_app.proofs.Closed.{closed_not, closed_store}
use Rattle.app_laws.specs.Scratch.{from_scratch}
use Rattle.app_laws.proofs.JobRounds.{scratch_of}

-- an id owns the name that a path of a hive names
owned_by : (name rest id tail : List ℕ) → IsIdKey id → rest ≡ id ++ (codes "/" ++ tail) → name ≡ codes "d/" ++ rest → owner name ≡ Some id
owned_by name rest id tail key its is =
    ap owner (is ∙ ap (λ (r : List ℕ). codes "d/" ++ r) its) ∙ owner_of id tail (subst IsWhole key.own (IsSegment-key id key.is_id.0).whole)

owned_rest : (IsTail : List ℕ → List ℕ → Type 0) (root path name : List ℕ) → IsDocumentPath root (IsOfId IsTail) path name
    → (id : List ℕ) × (owner name ≡ Some id)
owned_rest IsTail root path name (rest, (id, tail, key, ends, its), at, is) = (id, owned_by name rest id tail key its is)

pub owned : (hive : ServedHive) (path name : List ℕ) → IsHivePath hive path name → (id : List ℕ) × (owner name ≡ Some id)
owned Plain path name names = owned_rest (λ id tail. IsRegistrationTail tail) (codes "/v3/registration/") (target_path path) name names
owned SemVer2 path name names = owned_rest (λ id tail. IsRegistrationTail tail) (codes "/v3/registration-semver2/") (target_path path) name names
owned Content path name names = owned_rest IsContentTailOf (codes "/v3/flat/") (target_path path) name names

-- what is answered of a document of a hive
module _ {B : Type 0} (m : Members B) (hive : ServedHive) (path name : List ℕ) (names : IsHivePath hive path name) (old new : ServedHive → B)
    (answer : Answer) where
  abbrev OfIt : Type 0
  OfIt = OfHive hive answer name (held m (old hive)) ⊎ (answer ≡ Reply line.Memory)

  of_path : (catalog : Seen) → AnswersPath m answer path (HasCatalog catalog) old new → OfIt
  of_path catalog (inl (one, more, its, is, others)) =
      let same = same_hive one hive path more name its names in
      inl (subst (λ (h : ServedHive). OfHive h answer name (held m (old h))) same.0
      (subst (λ (r : List ℕ). OfHive one answer r (held m (old one))) same.1 is))
  of_path catalog (inr (same, inl of_name)) = absurd (catalog_hive hive path of_name.0 name of_name.1 names)
  of_path catalog (inr (same, inr (inl index))) = absurd (hive_index hive path name names index.0)
  of_path catalog (inr (same, inr (inr (inl server)))) = absurd (hive_server hive path name names server.0)
  of_path catalog (inr (same, inr (inr (inr (inl unknown))))) = absurd (unknown.0 (hive_ask hive name) names)
  of_path catalog (inr (same, inr (inr (inr (inr memory))))) = inr memory

  -- over a catalog that is spelled: a status that is neither 4 nor 8, nor 3 for another base address, tells what the hive's area holds
  pub of_get : (given : Option (List ℕ)) (catalog later : Seen) (base : List ℕ) (cs : Catalog) (status : ℕ) → HasCatalog catalog base cs
      → Gets m given answer path catalog later old new → (status ≢ 3) ⊎ MayOpen given catalog → answer_status answer ≡ status → status ≢ 4 → status ≢ 8
      → OfHive hive answer name (held m (old hive))
  of_get given catalog later base cs status has (inl (closed, same)) other own no4 no8 = absurd (⊎_elim
      (λ no3. closed_not given answer catalog later closed base cs has status own no3 no4 no8)
      (λ may. closed_store given answer catalog later closed base cs has may status own no4 no8) other)
  of_get given catalog later base cs status has (inr (may, reads, calls)) other own no4 no8 =
      ⊎_elim (λ is. is) (λ memory. absurd (no8 (sym own ∙ ap answer_status memory))) (of_path catalog reads)

-- a document, or none
module _ (hive : ServedHive) (name : List ℕ) (blobs : Area) where
  pub found : (answer : Answer) → OfHive hive answer name (Some blobs) → answer_status answer ≡ 0
      → (bytes : List ℕ) × (answer ≡ Document bytes) × (get blobs name ≡ Some bytes)
  found (Document bytes) is zero = (bytes, refl, is)
  found (Reply (line.Refused why)) is zero = absurd (omega (arith, zero))
  found (Reply (line.Fault failed)) is zero = absurd (omega (arith, zero))
  found (Reply line.Memory) is zero = absurd (omega (arith, zero))
  found _ is zero = absurd is

  pub missing : (answer : Answer) → OfHive hive answer name (Some blobs) → answer_status answer ≡ 3 → get blobs name ≡ None
  missing (Document bytes) is three = absurd (omega (arith, three))
  missing (Reply (line.Refused refusal.Missing)) is three = is
  missing (Reply (line.Fault failed)) is three = absurd (omega (arith, three))
  missing (Reply line.Memory) is three = absurd (omega (arith, three))
  missing _ is three = absurd is

-- what is held under such a name is of a prefix that reaches the cursor
pub prefix_of : (hive : ServedHive) (path name base : List ℕ) (cs : Catalog) (c : ℕ) (blobs : Area) → IsHivePath hive path name
    → SoundArea (hive_fold (hive_name hive) base) cs c blobs
    → (k : ℕ) × (c ≤ k) × (k ≤ length cs) × (get blobs name ≡ from_scratch (hive_name hive) base (take k cs) name)
prefix_of hive path name base cs c blobs names sound =
    let own = owned hive path name names in
    let at = (sound.1.sound.ids own.0).fresh name own.1 in
    (at.0, at.1, at.2, at.3 ∙ sym (scratch_of (hive_name hive) base (take at.0 cs) own.0 name own.1))

-- the store of a hive, by either of its names
pub same_store : {B : Type 0} (stores : Stores B) (hive : ServedHive) → hive_stores stores hive ≡ area_of stores (area.Hive (hive_name hive))
same_store stores Plain = refl
same_store stores SemVer2 = refl
same_store stores Content = refl
