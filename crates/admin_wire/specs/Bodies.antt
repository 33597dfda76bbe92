-- The bodies that publishers send: which changes a body asks for, and why a body is refused.
use Rattle.std.specs.Prelude.{◌≡◌, ◌≢◌, ◌<◌, ◌^◌, ◌++◌, ℕ, List, [], ◌∷◌, length, codes, decimal}
use Rattle.std.specs.List.{Contains}
use Rattle.catalog_doc.specs.declared.change.Change.{Change}
use Rattle.catalog_doc.specs.declared.change.Change.TheVariants as change
use Rattle.nuget_version.specs.Grammar.{Spells}
use Rattle.nuget_version.specs.declared.version.Version.{Version}
use Rattle.package_id.specs.Ids.{IsShortId}
use Rattle.package_id.specs.declared.id.PackageId.{PackageId}
use Rattle.pkg_meta.specs.Publisher.{IsMetaText}
use Rattle.pkg_meta.specs.Refusals.{IsNoVersion, IsRefusedMeta}
use Rattle.pkg_meta.specs.declared.error.MetaErr.{MetaErr}
use Rattle.pkg_meta.specs.declared.meta.Meta.{Meta}
use Rattle.admin_wire.specs.declared.error.BodyErr.{BodyErr}
use Rattle.admin_wire.specs.declared.error.BodyErr.TheVariants as body
use Rattle.admin_wire.specs.declared.names.NameKind.{NameKind}
use Rattle.admin_wire.specs.declared.names.NameKind.TheVariants.{Unlist, Relist, Delete}

-- three numbers of 1 to 8 digits, joined by spaces and ended by a line feed, and then as many bytes of metadata,
-- of manifest and of package
pub record IsRecord (bytes : List ℕ) (meta nuspec nupkg : List ℕ) : Type 0 where
  pub text : bytes ≡ decimal (length meta) ++ (codes " " ++ (decimal (length nuspec) ++ (codes " " ++ (decimal (length nupkg)
      ++ (codes "\n" ++ (meta ++ (nuspec ++ nupkg)))))))
  pub meta_fits : length meta < 10 ^ 8
  pub nuspec_fits : length nuspec < 10 ^ 8
  pub nupkg_fits : length nupkg < 10 ^ 8

-- the bytes are a record of metadata that is read, and the change publishes it
pub record IsRecordOf (bytes : List ℕ) (c : Change) : Type 0 where
  pub meta : List ℕ
  pub nuspec : List ℕ
  pub nupkg : List ℕ
  pub whole : IsRecord bytes meta nuspec nupkg
  pub says : Meta
  pub read : IsMetaText meta says
  pub publishes : c ≡ change.Publish says nuspec nupkg

-- neither a space nor a line feed stands in the text
abbrev pub IsWord : List ℕ → Type 0
IsWord text = (¬ Contains text 32) × (¬ Contains text 10)

-- two words joined by a space and ended by a line feed
pub record IsLine (bytes id version : List ℕ) : Type 0 where
  pub text : bytes ≡ id ++ (codes " " ++ (version ++ codes "\n"))
  pub id_word : IsWord id
  pub version_word : IsWord version

-- what is asked for an id and a version
abbrev pub named_change : NameKind → PackageId → Version → Change
named_change Unlist id version = change.Unlist id version
named_change Relist id version = change.Relist id version
named_change Delete id version = change.Delete id version

-- the texts are an id and a version, and the change is the one that is asked for them
pub record IsAsked (kind : NameKind) (id version : List ℕ) (c : Change) : Type 0 where
  pub the_id : PackageId
  pub the_version : Version
  pub id_text : the_id.text ≡ id
  pub spelled : Spells version the_version
  pub change : c ≡ named_change kind the_id the_version

-- the bytes are a line of an id and a version, and the change is the one that is asked for them
pub record IsLineOf (kind : NameKind) (bytes : List ℕ) (c : Change) : Type 0 where
  pub id : List ℕ
  pub version : List ℕ
  pub whole : IsLine bytes id version
  pub asks : IsAsked kind id version c

-- the bytes are the parts of these changes, one behind the other
abbrev pub AreJoined : (List ℕ → Change → Type 0) → List ℕ → List Change → Type 0
AreJoined IsPart bytes [] = bytes ≡ []
AreJoined IsPart bytes (c ∷ cs) = (front : List ℕ) × (back : List ℕ) × (bytes ≡ front ++ back) × IsPart front c × AreJoined IsPart back cs

-- the body of these publishes
abbrev pub ArePublishes : List ℕ → List Change → Type 0
ArePublishes bytes changes = AreJoined IsRecordOf bytes changes

-- the body of these changes of the kind
abbrev pub AreNames : NameKind → List ℕ → List Change → Type 0
AreNames kind bytes changes = AreJoined (IsLineOf kind) bytes changes

-- no record begins the bytes
abbrev pub BeginsNoRecord : List ℕ → Type 0
BeginsNoRecord bytes = (front back meta nuspec nupkg : List ℕ) → bytes ≡ front ++ back → ¬ IsRecord front meta nuspec nupkg

-- no line of two words begins the bytes: the first line has no line feed, or not exactly one space
abbrev pub BeginsNoLine : List ℕ → Type 0
BeginsNoLine bytes = (front back id version : List ℕ) → bytes ≡ front ++ back → ¬ IsLine front id version

-- why the bytes from this byte and this place on are refused
pub data IsRefusedRecord (at place : ℕ) (bytes : List ℕ) (e : BodyErr) : Type 0 where
  -- no record begins them
  shape : e ≡ body.Shape at → BeginsNoRecord bytes → IsRefusedRecord at place bytes e
  -- the metadata of their first record is refused
  meta : (front back meta nuspec nupkg : List ℕ) (why : MetaErr) → e ≡ body.Meta place why → bytes ≡ front ++ back
      → IsRecord front meta nuspec nupkg → IsRefusedMeta meta why → IsRefusedRecord at place bytes e

-- why two texts are refused as an id and a version
pub data IsRefusedPair (place : ℕ) (id version : List ℕ) (e : BodyErr) : Type 0 where
  -- the first is no id
  bad_id : e ≡ body.Id place → ¬ IsShortId id → IsRefusedPair place id version e
  -- the second is no version
  bad_version : e ≡ body.Version place → IsShortId id → IsNoVersion version → IsRefusedPair place id version e

-- why the bytes from this byte and this place on are refused
pub data IsRefusedLine (at place : ℕ) (bytes : List ℕ) (e : BodyErr) : Type 0 where
  -- no line of two words begins them
  shape : e ≡ body.Shape at → BeginsNoLine bytes → IsRefusedLine at place bytes e
  -- the words of their first line are refused
  pair : (front back id version : List ℕ) → bytes ≡ front ++ back → IsLine front id version → IsRefusedPair place id version e
      → IsRefusedLine at place bytes e

-- behind some parts that are read there are more bytes, and these are refused
pub record IsRefusedBehind (IsPart : List ℕ → Change → Type 0) (Refuses : ℕ → ℕ → List ℕ → BodyErr → Type 0) (bytes : List ℕ)
    (e : BodyErr) : Type 0 where
  pub front : List ℕ
  pub back : List ℕ
  pub split : bytes ≡ front ++ back
  pub before : List Change
  pub read : AreJoined IsPart front before
  pub more : back ≢ []
  pub refused : Refuses (length front) (length before) back e

-- why the bytes are refused as a body of publishes
abbrev pub IsRefusedPublish : List ℕ → BodyErr → Type 0
IsRefusedPublish bytes e = IsRefusedBehind IsRecordOf IsRefusedRecord bytes e

-- why the bytes are refused as a body of names
abbrev pub IsRefusedNames : NameKind → List ℕ → BodyErr → Type 0
IsRefusedNames kind bytes e = IsRefusedBehind (IsLineOf kind) IsRefusedLine bytes e
