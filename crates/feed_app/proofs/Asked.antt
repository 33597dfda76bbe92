-- A path asks for one thing at most.
use Rattle.std.proofs.Common.{◌≡◌, ◌∙◌, ℕ, List, codes, refl, sym, ap, subst}
use Rattle.feed_routes.proofs.Table.{one_asked}
use Rattle.feed_routes.specs.Cuts.{target_path, target_query}
use Rattle.feed_routes.specs.Table.{IsTargetOf, NeedsVerb, verb_of}
use Rattle.http_wire.specs.Response.{verb_name}
use Rattle.http_wire.specs.declared.response.Verb.{Verb}
use Rattle.feed_routes.specs.declared.ask.Ask.{Ask}
use Rattle.feed_routes.specs.declared.ask.Ask.TheVariants as ask
use Rattle.feed_app.specs.Targets.{IsCatalogPath, IsHivePath, IsIndexPath, IsOfServer, IsServerPath, hive_ask}
use Rattle.feed_app.specs.declared.hives.ServedHive.{ServedHive}
use Rattle.feed_app.specs.declared.hives.ServedHive.TheVariants.{Plain, SemVer2, Content}

one : (path : List ℕ) (a b : Ask) → IsTargetOf path a → IsTargetOf path b → a ≡ b
one path a b x y = one_asked (target_path path) (target_query path) a b x y

not_hive : (hive : ServedHive) (name rest : List ℕ) → ask.CatalogDoc name ≡ hive_ask hive rest → ⊥
not_hive Plain name rest e = cc e
not_hive SemVer2 name rest e = cc e
not_hive Content name rest e = cc e

not_index : (hive : ServedHive) (rest : List ℕ) → hive_ask hive rest ≡ ask.Index → ⊥
not_index Plain rest e = cc e
not_index SemVer2 rest e = cc e
not_index Content rest e = cc e

not_server : (hive : ServedHive) (rest : List ℕ) (a : Ask) → IsOfServer a → hive_ask hive rest ≡ a → ⊥
not_server Plain rest a of e = let no : IsOfServer (hive_ask Plain rest) = subst IsOfServer (sym e) of in no
not_server SemVer2 rest a of e = let no : IsOfServer (hive_ask SemVer2 rest) = subst IsOfServer (sym e) of in no
not_server Content rest a of e = let no : IsOfServer (hive_ask Content rest) = subst IsOfServer (sym e) of in no

pub catalog_hive : (hive : ServedHive) (path name rest : List ℕ) → IsCatalogPath path name → IsHivePath hive path rest → ⊥
catalog_hive hive path name rest a b = not_hive hive name rest (one path (ask.CatalogDoc name) (hive_ask hive rest) a b)

pub catalog_index : (path name : List ℕ) → IsCatalogPath path name → IsIndexPath path → ⊥
catalog_index path name a b = let e : ask.CatalogDoc name ≡ ask.Index = one path (ask.CatalogDoc name) ask.Index a b in cc e

pub catalog_server : (path name : List ℕ) → IsCatalogPath path name → IsServerPath path → ⊥
catalog_server path name a s = subst IsOfServer (sym (one path (ask.CatalogDoc name) s.0 a s.1)) s.2

pub hive_index : (hive : ServedHive) (path rest : List ℕ) → IsHivePath hive path rest → IsIndexPath path → ⊥
hive_index hive path rest a b = not_index hive rest (one path (hive_ask hive rest) ask.Index a b)

pub hive_server : (hive : ServedHive) (path rest : List ℕ) → IsHivePath hive path rest → IsServerPath path → ⊥
hive_server hive path rest a s = not_server hive rest s.0 s.2 (one path (hive_ask hive rest) s.0 a s.1)

pub index_server : (path : List ℕ) → IsIndexPath path → IsServerPath path → ⊥
index_server path a s = subst IsOfServer (sym (one path ask.Index s.0 a s.1)) s.2

pub same_name : (path one_name other : List ℕ) → IsCatalogPath path one_name → IsCatalogPath path other → one_name ≡ other
same_name path one_name other a b = let e : ask.CatalogDoc one_name ≡ ask.CatalogDoc other = one path _ _ a b in cc e

same_asked : (g h : ServedHive) (name other : List ℕ) → hive_ask g name ≡ hive_ask h other → (g ≡ h) × (name ≡ other)
same_asked Plain Plain name other e = (refl, cc e)
same_asked SemVer2 SemVer2 name other e = (refl, cc e)
same_asked Content Content name other e = (refl, cc e)
same_asked Plain SemVer2 name other e = cc e
same_asked Plain Content name other e = cc e
same_asked SemVer2 Plain name other e = cc e
same_asked SemVer2 Content name other e = cc e
same_asked Content Plain name other e = cc e
same_asked Content SemVer2 name other e = cc e

pub same_hive : (g h : ServedHive) (path name other : List ℕ) → IsHivePath g path name → IsHivePath h path other → (g ≡ h) × (name ≡ other)
same_hive g h path name other a b = same_asked g h name other (one path (hive_ask g name) (hive_ask h other) a b)

served : (a : Ask) → (codes "GET" ≡ verb_name (verb_of a) → ⊥) → IsOfServer a
served ask.Index other = absurd (other refl)
served (ask.CatalogDoc name) other = absurd (other refl)
served (ask.Registration hive name) other = absurd (other refl)
served (ask.Flat name) other = absurd (other refl)
served (ask.Autocomplete query) other = tt
served (ask.Commit word) other = tt
served (ask.Job hive) other = tt
served (ask.Cursor hive) other = tt
served ask.Stop other = tt

-- what isn't asked by GET a server alone answers
pub post_served : (path : List ℕ) (verb : Verb) → NeedsVerb (codes "GET") path verb → IsServerPath path
post_served path verb n = (n.known.0, n.known.1, served n.known.0 (λ e. n.other (e ∙ ap verb_name n.known.2)))
