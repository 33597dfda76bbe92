-- Metadata made of their parts.
use Rattle.std.specs.Prelude.{Bool, List, Option, ℕ}
use Rattle.pkg_meta.specs.declared.dependency.DepGroup.{DepGroup}
use Rattle.pkg_meta.specs.declared.meta.Identity.{Identity}
use Rattle.pkg_meta.specs.declared.meta.Meta.{Meta}
use Rattle.pkg_meta.specs.declared.meta.Texts.{Texts}

-- the id and the version of metadata
abbrev pub identity_of : Meta → Identity
identity_of m = record { id = m.id; version = m.version; verbatim = m.verbatim }

-- the metadata of these parts
abbrev pub meta_of : Identity → Texts → Option Bool → List (List ℕ) → List DepGroup → Meta
meta_of identity texts require_license tags groups = record {
  id = identity.id;
  version = identity.version;
  verbatim = identity.verbatim;
  authors = texts.prose.authors;
  description = texts.prose.description;
  icon_url = texts.addresses.icon_url;
  license_url = texts.addresses.license_url;
  min_client = texts.release.min_client;
  project_url = texts.addresses.project_url;
  release_notes = texts.release.release_notes;
  summary = texts.prose.summary;
  title = texts.prose.title;
  require_license = require_license;
  tags = tags;
  groups = groups;
}
