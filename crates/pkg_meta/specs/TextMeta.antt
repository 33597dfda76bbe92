-- Metadata whose texts are UTF-8, as those of the code's type are.
use Rattle.std.specs.Prelude.{List, [], ◌∷◌, IfSome, IsUtf8}
use Rattle.pkg_meta.specs.declared.meta.Meta.{Meta}

-- each of a list
abbrev pub OnEach : {X : Type 0} → (X → Type 0) → List X → Type 0
OnEach P [] = Unit {0}
OnEach P (x ∷ xs) = P x × OnEach P xs

-- its texts are UTF-8
pub record IsTextMeta (m : Meta) : Type 0 where
  pub verbatim : IsUtf8 m.verbatim
  pub authors : IfSome m.authors IsUtf8
  pub description : IfSome m.description IsUtf8
  pub icon_url : IfSome m.icon_url IsUtf8
  pub license_url : IfSome m.license_url IsUtf8
  pub min_client : IfSome m.min_client IsUtf8
  pub project_url : IfSome m.project_url IsUtf8
  pub release_notes : IfSome m.release_notes IsUtf8
  pub summary : IfSome m.summary IsUtf8
  pub title : IfSome m.title IsUtf8
  pub tags : OnEach IsUtf8 m.tags
  pub frameworks : OnEach (λ g. IfSome g.framework IsUtf8) m.groups
