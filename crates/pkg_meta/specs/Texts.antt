-- The texts that metadata may leave out.
use Rattle.std.specs.Prelude.{codes}
use Rattle.serde_json.specs.Data.{Data}
use Rattle.pkg_meta.specs.Values.{text_at}
use Rattle.pkg_meta.specs.declared.meta.Addresses.{Addresses}
use Rattle.pkg_meta.specs.declared.meta.Meta.{Meta}
use Rattle.pkg_meta.specs.declared.meta.Release.{Release}
use Rattle.pkg_meta.specs.declared.meta.Texts.{Texts}
use Rattle.pkg_meta.specs.declared.meta.Prose.{Prose}

-- where the metadata say that the icon, the license and the project are
abbrev pub addresses_of : Meta → Addresses
addresses_of m = record { icon_url = m.icon_url; license_url = m.license_url; project_url = m.project_url }

-- who made the package, and what it is
abbrev pub prose_of : Meta → Prose
prose_of m = record { authors = m.authors; description = m.description; summary = m.summary; title = m.title }

-- what concerns this version
abbrev pub release_of : Meta → Release
release_of m = record { min_client = m.min_client; release_notes = m.release_notes }

-- those of the metadata
abbrev pub texts_of : Meta → Texts
texts_of m = record { addresses = addresses_of m; prose = prose_of m; release = release_of m }

-- the same of an object, each under its name
abbrev pub addresses_at : Data → Addresses
addresses_at d = record {
  icon_url = text_at (codes "iconUrl") d;
  license_url = text_at (codes "licenseUrl") d;
  project_url = text_at (codes "projectUrl") d;
}

-- its prose
abbrev pub prose_at : Data → Prose
prose_at d = record {
  authors = text_at (codes "authors") d;
  description = text_at (codes "description") d;
  summary = text_at (codes "summary") d;
  title = text_at (codes "title") d;
}

-- what it says of the version
abbrev pub release_at : Data → Release
release_at d = record {
  min_client = text_at (codes "minClientVersion") d;
  release_notes = text_at (codes "releaseNotes") d;
}

-- those that an object says
abbrev pub texts_at : Data → Texts
texts_at d = record { addresses = addresses_at d; prose = prose_at d; release = release_at d }
