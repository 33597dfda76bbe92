-- What calls leave of an open catalog, one behind the other.
use Rattle.std.proofs.Common.{◌≡◌, ℕ, List, Bool, true, false, Option, None, Some, inl, inr, refl, sym, ◌∙◌, subst}
use Rattle.blob_store.specs.Area.{Area}
use Rattle.blob_store.specs.Seen.{Seen, IsSure}
use Rattle.blob_store.proofs.Moments.{started, weaker}
use Rattle.pkg_meta.specs.Catalog.{Catalog}
use Rattle.pkg_meta.specs.declared.commit.Stored.{Stored}
use Rattle.catalog_doc.specs.Catalogs.{IsCatalog}
use Rattle.catalog_doc.specs.Spelled.{SpellsCatalog}
use Rattle.catalog_doc.specs.declared.head.PageHead.{PageHead}
use Rattle.catalog_opening.specs.Openings.{IsMended, IsSettledStoreOf, IsStoreOf, KeepsSpelling, Mends}
use Rattle.catalog_opening.specs.Settlings.{IsKnownBefore, with_more}
use Rattle.catalog_opening.proofs.Halting.{differs}
use Rattle.catalog_opening.proofs.Mended.{mends_as}
use Rattle.catalog_items.specs.Framing.{OnlyGets}
use Rattle.catalog_items.proofs.Getting.{counts_none, counts_then, leaves_then}
use Rattle.catalog_rows.specs.Kept.{IsKeptOf, Kept}
use Rattle.catalog_core.specs.Framing.{StaysOpen}
use Rattle.catalog_core.specs.Opened.{IsKeptOfMost, IsOpenFor, IsReady, IsStoreFor, KeepsRows, Opened}

-- the store after gets is of the same catalog
pub store_gets : (settled : Bool) (base : List ℕ) (cs : Catalog) (a b : Seen) → b.held ≡ a.held → IsStoreFor settled a base cs → IsStoreFor settled b base cs
store_gets true base cs a b same (m, is, spells, index) = (m, same ∙ is, spells, index)
store_gets false base cs a b same (m, is, spells) = (m, same ∙ is, spells)

store_of : (settled : Bool) (s : Seen) (base : List ℕ) (cs : Catalog) → IsStoreFor settled s base cs → IsStoreOf s base cs
store_of true s base cs (m, is, spells, index) = (m, is, spells)
store_of false s base cs store = store

pub known_store : {B : Type 0} (o : Opened B) (s : Seen) (cs : Catalog) → IsOpenFor o s cs → IsStoreOf s o.base cs
known_store o s cs open_for = store_of o.settled s o.base cs open_for.store

pub ready_of : {B : Type 0} (o : Opened B) (s : Seen) (cs : Catalog) → o.settled ≡ true → IsOpenFor o s cs → IsReady o s cs
ready_of o s cs settled open_for = record { settled = settled; open_for = open_for }

-- a catalog that is settled
module _ {B : Type 0} (o : Opened B) (s : Seen) (cs : Catalog) (ready : IsReady o s cs) where
  pub ready_keeps : IsKeptOf o.kept cs
  ready_keeps = subst (λ (x : Bool). KeepsRows x o.kept cs) ready.settled ready.open_for.keeps

  pub ready_store : IsSettledStoreOf s o.base cs
  ready_store = subst (λ (x : Bool). IsStoreFor x s o.base cs) ready.settled ready.open_for.store

-- it stays open for the catalog where nothing of it changes, and its area stays
pub still_open : {B : Type 0} (o n : Opened B) (a b : Seen) (cs : Catalog) → n.kept ≡ o.kept → n.base ≡ o.base → n.settled ≡ o.settled → b.held ≡ a.held → IsOpenFor o a cs → IsOpenFor n b cs
still_open o n a b cs kept base settled same open_for =
    let k : KeepsRows n.settled o.kept cs = subst (λ (x : Bool). KeepsRows x o.kept cs) (sym settled) open_for.keeps in
    let s : IsStoreFor n.settled a o.base cs = subst (λ (x : Bool). IsStoreFor x a o.base cs) (sym settled) open_for.store in
    record {
      lawful = open_for.lawful;
      keeps = subst (λ (x : Kept). KeepsRows n.settled x cs) (sym kept) k;
      store = store_gets n.settled n.base cs a b same (subst (λ (x : List ℕ). IsStoreFor n.settled a x cs) (sym base) s);
    }

-- gets behind a call that changes no catalog
pub stays_gets : {B : Type 0} (o mid n : Opened B) (a b c : Seen) (P Q : Type 0) → StaysOpen o mid a b P → (P → ⊥) → OnlyGets b c Q
    → n.kept ≡ mid.kept → n.base ≡ mid.base → n.settled ≡ mid.settled → StaysOpen o n a c Q
stays_gets o mid n a b c P Q stays quiet gets kept base settled = record {
  mends = record {
    counts = counts_then a.faults b.faults c.faults P Q stays.mends.counts quiet gets.counts;
    area = subst (λ (x : Option Area). IsMended a.held x) (sym gets.area) stays.mends.area;
  };
  base = base ∙ stays.base;
  settled = λ is. let at = stays.settled is in (settled ∙ at.0, gets.area ∙ at.1);
  kept = λ is. kept ∙ stays.kept is;
  open_for = λ cs is.
      let at = stays.open_for cs is in
      let known = known_store mid b cs at.open_for in
      record {
        open_for = still_open mid n b c cs kept base settled gets.area at.open_for;
        moments = leaves_then a b c (λ left. SpellsCatalog left o.base cs) at.moments
            (weaker b c (λ left. left ≡ known.0) (λ left. SpellsCatalog left o.base cs) (gets.moments known.0 known.1)
            (λ left here. subst (λ (x : Area). SpellsCatalog x o.base cs) (sym here) (subst (λ (x : List ℕ). SpellsCatalog known.0 x cs) stays.base known.2)));
      };
}

-- no call
pub stays_as : {B : Type 0} (o : Opened B) (a : Seen) (P : Type 0) → IsSure a → (P → ⊥) → StaysOpen o o a a P
stays_as o a P sure quiet = record {
  mends = record { counts = counts_none a.faults P quiet; area = inl refl };
  base = refl;
  settled = λ is. (is, refl);
  kept = λ is. refl;
  open_for = λ cs is.
      let known = known_store o a cs is in
      record { open_for = is; moments = started a known.0 (λ left. SpellsCatalog left o.base cs) sure known.1 known.2 };
}

-- what is known of a catalog, and the commit that may be unknown
pub record KnownPart (kept : Kept) (cs : Catalog) : Type 0 where
  pub before : Catalog
  pub last : Option Stored
  pub is : with_more before last ≡ cs
  pub known : IsKnownBefore before last kept.pages
  pub keeps : IsKeptOf kept before

known_part : (kept : Kept) (cs : Catalog) → IsCatalog cs → IsKeptOfMost kept cs → KnownPart kept cs
known_part kept cs lawful (inl keeps) = record { before = cs; last = None; is = refl; known = record { whole = lawful; known = keeps.pages }; keeps = keeps }
known_part kept cs lawful (inr (before, last, is, keeps)) = record {
  before = before;
  last = Some last;
  is = sym is;
  known = record { whole = subst IsCatalog is lawful; known = keeps.pages };
  keeps = keeps;
}

module _ {B : Type 0} (o : Opened B) (a : Seen) (unsettled : o.settled ≡ false) (cs : Catalog) (is : IsOpenFor o a cs) where
  pub known_of : KnownPart o.kept cs
  known_of = known_part o.kept cs is.lawful (subst (λ (x : Bool). KeepsRows x o.kept cs) unsettled is.keeps)

  pub store_known : IsStoreOf a o.base (with_more known_of.before known_of.last)
  store_known = subst (IsStoreOf a o.base) (sym known_of.is) (known_store o a cs is)

-- what settling left
abbrev pub AllSpelled : Seen → Seen → List ℕ → List PageHead → Type 0
AllSpelled a b base pages = (before : Catalog) (last : Option Stored) → IsKnownBefore before last pages → IsStoreOf a base (with_more before last)
    → IsStoreOf b base (with_more before last) × KeepsSpelling a b base (with_more before last)

-- settled, with the rows of the commit that was unknown
pub stays_settled : {B : Type 0} (o n : Opened B) (a b : Seen) (P : Type 0) → o.settled ≡ false → Mends a b P → AllSpelled a b o.base o.kept.pages
    → ((before : Catalog) (last : Option Stored) → IsKnownBefore before last o.kept.pages → IsStoreOf a o.base (with_more before last) → IsSettledStoreOf b o.base (with_more before last))
    → ((before : Catalog) (last : Option Stored) → IsKnownBefore before last o.kept.pages → IsStoreOf a o.base (with_more before last) → IsKeptOf o.kept before → IsKeptOf n.kept (with_more before last))
    → n.base ≡ o.base → n.settled ≡ true → StaysOpen o n a b P
stays_settled o n a b P unsettled mends spelled index took base settled = record {
  mends = mends;
  base = base;
  settled = λ is. absurd (differs unsettled is);
  kept = λ is. absurd (differs unsettled is);
  open_for = λ cs is.
      let part = known_of o a unsettled cs is in
      let store = store_known o a unsettled cs is in
      let keeps : IsKeptOf n.kept cs = subst (IsKeptOf n.kept) part.is (took part.before part.last part.known store part.keeps) in
      let stands : IsSettledStoreOf b o.base cs = subst (IsSettledStoreOf b o.base) part.is (index part.before part.last part.known store) in
      record {
        open_for = record {
          lawful = is.lawful;
          keeps = subst (λ (x : Bool). KeepsRows x n.kept cs) (sym settled) keeps;
          store = subst (λ (x : List ℕ). IsStoreFor n.settled b x cs) (sym base) (subst (λ (x : Bool). IsStoreFor x b o.base cs) (sym settled) stands);
        };
        moments = subst (KeepsSpelling a b o.base) part.is (spelled part.before part.last part.known store).1;
      };
}

-- still unsettled, since that failed
pub stays_unsettled : {B : Type 0} (o n : Opened B) (a b : Seen) (P : Type 0) → o.settled ≡ false → Mends a b P → AllSpelled a b o.base o.kept.pages
    → n.kept ≡ o.kept → n.base ≡ o.base → n.settled ≡ o.settled → StaysOpen o n a b P
stays_unsettled o n a b P unsettled mends spelled kept base settled = record {
  mends = mends;
  base = base;
  settled = λ is. absurd (differs unsettled is);
  kept = λ is. absurd (differs unsettled is);
  open_for = λ cs is.
      let part = known_of o a unsettled cs is in
      let store = store_known o a unsettled cs is in
      let keeps : KeepsRows n.settled o.kept cs = subst (λ (x : Bool). KeepsRows x o.kept cs) (sym settled) is.keeps in
      let stands : IsStoreOf b o.base cs = subst (IsStoreOf b o.base) part.is (spelled part.before part.last part.known store).0 in
      record {
        open_for = record {
          lawful = is.lawful;
          keeps = subst (λ (x : Kept). KeepsRows n.settled x cs) (sym kept) keeps;
          store = subst (λ (x : List ℕ). IsStoreFor n.settled b x cs) (sym base) (subst (λ (x : Bool). IsStoreFor x b o.base cs) (sym (settled ∙ unsettled)) stands);
        };
        moments = subst (KeepsSpelling a b o.base) part.is (spelled part.before part.last part.known store).1;
      };
}

-- the same, where its failure is told otherwise
pub stays_iff : {B : Type 0} (o n : Opened B) (a b : Seen) (P Q : Type 0) → StaysOpen o n a b P → (P → Q) → (Q → P) → StaysOpen o n a b Q
stays_iff o n a b P Q stays to from = record { mends = mends_as a b P Q to from stays.mends; base = stays.base; settled = stays.settled; kept = stays.kept; open_for = stays.open_for }
