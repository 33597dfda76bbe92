-- The number of live versions doesn't depend on the numbers, stamps and places of the items of changes.
use Rattle.std.proofs.Common.{◌≡◌, ◌+◌, ℕ, suc, List, [], ◌∷◌, ◌++◌, Bool, not, Option, refl, sym, ◌∙◌, ap}
use Rattle.std.specs.Prelude.{if◌then◌else◌, ◌&&◌, ◌||◌}
use Rattle.std.specs.Str.{bytes_eq}
use Rattle.nuget_version.specs.Printed.{key_text}
use Rattle.pkg_meta.specs.Catalog.{Catalog}
use Rattle.pkg_meta.specs.Items.{id_of, is_gone, version_of}
use Rattle.pkg_meta.specs.Lawful.{has_like, has_pair}
use Rattle.pkg_meta.specs.declared.item.Details.{Details}
use Rattle.pkg_meta.specs.declared.item.Item.{Item}
use Rattle.catalog_doc.specs.Catalogs.{live_count}
use Rattle.catalog_doc.specs.Commits.{made_from, made_of}
use Rattle.catalog_doc.specs.declared.change.Change.{Change}
use Rattle.catalog_doc.specs.declared.change.Change.TheVariants.{Publish, Unlist, Relist, Delete}
use Rattle.catalog_laws.proofs.Pairs.{IsOfChange, item_by, made_is}

-- items of one version are like the same ones
like_by : (change : Change) (a b : Item) → IsOfChange change a → IsOfChange change b → (xs : List Item) → has_like a xs ≡ has_like b xs
like_by change a b p q [] = refl
like_by change a b p q (x ∷ xs) =
    let rest = like_by change a b p q xs in
    λ i. has_pair ((p.id_is ∙ sym q.id_is) i) ((p.version_is ∙ sym q.version_is) i) x || rest i

gone_by : (m n s t p q : ℕ) (old : Option Details) (change : Change) → is_gone (made_of m s p old change) ≡ is_gone (made_of n t q old change)
gone_by m n s t p q old (Publish meta nuspec nupkg) = refl
gone_by m n s t p q old (Unlist i v) = refl
gone_by m n s t p q old (Relist i v) = refl
gone_by m n s t p q old (Delete i v) = refl

module _ (cs : Catalog) (n s t : ℕ) where
  same_like : (it : Item) (p q : ℕ) (changes : List Change) → has_like it (made_from cs n s p changes) ≡ has_like it (made_from cs n t q changes)
  same_like it p q [] = refl
  same_like it p q (change ∷ changes) =
      let own = made_is cs n s p change in
      let other = made_is cs n t q change in
      let rest = same_like it (suc p) (suc q) changes in
      let id = own.id_is ∙ sym other.id_is in
      let version = own.version_is ∙ sym other.version_is in
      λ i. (bytes_eq (id_of it).key (id i) && bytes_eq (key_text (version_of it)) (version i)) || rest i

  same_live : (id : List ℕ) (p q : ℕ) (changes : List Change) → live_count id (made_from cs n s p changes) ≡ live_count id (made_from cs n t q changes)
  same_live id p q [] = refl
  same_live id p q (change ∷ changes) =
      let a = item_by cs n s p change in
      let b = item_by cs n t q change in
      let own = made_is cs n s p change in
      let other = made_is cs n t q change in
      let key : (id_of a).key ≡ (id_of b).key = own.id_is ∙ sym other.id_is in
      let gone : is_gone a ≡ is_gone b = gone_by n n s t p q _ change in
      let like : has_like a (made_from cs n s (suc p) changes) ≡ has_like b (made_from cs n t (suc q) changes) =
      like_by change a b own other (made_from cs n s (suc p) changes) ∙ same_like b (suc p) (suc q) changes in
      let rest = same_live id (suc p) (suc q) changes in
      λ i. (if bytes_eq id (key i) && (not (gone i) && not (like i)) then 1 else 0) + rest i

  like_behind : (it : Item) (xs : List Item) (changes : List Change)
      → has_like it (xs ++ made_from cs n s 0 changes) ≡ has_like it (xs ++ made_from cs n t 0 changes)
  like_behind it [] changes = same_like it 0 0 changes
  like_behind it (x ∷ xs) changes = ap (λ (b : Bool). has_pair (id_of it).key (key_text (version_of it)) x || b) (like_behind it xs changes)

  pub live_behind : (id : List ℕ) (xs : List Item) (changes : List Change)
      → live_count id (xs ++ made_from cs n s 0 changes) ≡ live_count id (xs ++ made_from cs n t 0 changes)
  live_behind id [] changes = same_live id 0 0 changes
  live_behind id (x ∷ xs) changes =
      let like = like_behind x xs changes in
      let rest = live_behind id xs changes in
      λ i. (if bytes_eq id (id_of x).key && (not (is_gone x) && not (like i)) then 1 else 0) + rest i
