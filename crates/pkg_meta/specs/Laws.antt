-- Laws of a publisher's metadata.
use Rattle.std.specs.Prelude.{◌≡◌, ◌≤◌, ℕ, List, length}
use Rattle.serde_json.specs.Written.{compact_text}
use Rattle.nuget_version.specs.Printed.{full_text}
use Rattle.pkg_meta.specs.Publisher.{IsMetaText}
use Rattle.pkg_meta.specs.Refusals.{IsRefusedMeta}
use Rattle.pkg_meta.specs.TextMeta.{IsTextMeta}
use Rattle.pkg_meta.specs.Trees.{meta_tree}
use Rattle.pkg_meta.specs.declared.error.MetaErr.{MetaErr}
use Rattle.pkg_meta.specs.declared.meta.Meta.{Meta}

-- bytes have one reason at most to be refused
abbrev pub HasOneRefusal : Type 0
HasOneRefusal = (bytes : List ℕ) (d e : MetaErr) → IsRefusedMeta bytes d → IsRefusedMeta bytes e → d ≡ e

-- and none where they are metadata
abbrev pub ReadingExcludesRefusal : Type 0
ReadingExcludesRefusal = (bytes : List ℕ) (m : Meta) (e : MetaErr) → IsMetaText bytes m → IsRefusedMeta bytes e → ⊥

-- metadata whose version was given in its full form
abbrev pub restated : Meta → Meta
restated m = record {
  id = m.id;
  version = m.version;
  verbatim = full_text m.version;
  authors = m.authors;
  description = m.description;
  icon_url = m.icon_url;
  license_url = m.license_url;
  min_client = m.min_client;
  project_url = m.project_url;
  release_notes = m.release_notes;
  summary = m.summary;
  title = m.title;
  require_license = m.require_license;
  tags = m.tags;
  groups = m.groups;
}

-- what metadata prints as reads back, where it is short enough; the version's text is then its full form
abbrev pub MetaReadsBack : Type 0
MetaReadsBack =
    (m : Meta) → IsTextMeta m → length (compact_text (meta_tree m)) ≤ 32_768 → IsMetaText (compact_text (meta_tree m)) (restated m)
