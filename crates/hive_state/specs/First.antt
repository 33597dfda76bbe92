-- A state worked out: that of an id in a registration hive, after the first publish of a catalog.
use Rattle.std.specs.Prelude.{ℕ, List, [], ◌∷◌, codes, None, false, refl}
use Rattle.std.proofs.Common.{lit≤}
use Rattle.std.specs.List.Sorted.{IsStrictlySortedBy}
use Rattle.std.specs.Fmt.{digits}
use Rattle.nuget_version.specs.Parts.{full_of, is_dotted}
use Rattle.nuget_version.specs.declared.version.Version.{Version}
use Rattle.package_id.specs.declared.id.PackageId.{PackageId}
use Rattle.pkg_meta.specs.Items.{published}
use Rattle.pkg_meta.specs.declared.entry.Entry.{Entry}
use Rattle.pkg_meta.specs.declared.meta.Meta.{Meta}
use Rattle.pkg_meta.specs.declared.state.StateDoc.{StateDoc}

-- the version 1.0.0
unfoldable pub first_version : Version
unfolding digits full_of is_dotted
first_version = record {
  major = 1;
  minor = 0;
  patch = 0;
  revision = 0;
  labels = [];
  meta = [];
  major_fits = lit≤ tt;
  minor_fits = lit≤ tt;
  patch_fits = lit≤ tt;
  revision_fits = lit≤ tt;
  labels_dotted = refl;
  meta_dotted = refl;
  short = lit≤ tt;
}

-- the id Foo
abbrev pub first_id : PackageId
first_id = record {
  text = codes "Foo";
  key = codes "foo";
  spelled = refl;
  short = lit≤ tt;
  lowered = refl;
}

-- metadata of these alone
abbrev pub first_meta : Meta
first_meta = record {
  id = first_id;
  version = first_version;
  verbatim = codes "1.0.0";
  authors = None;
  description = None;
  icon_url = None;
  license_url = None;
  min_client = None;
  project_url = None;
  release_notes = None;
  summary = None;
  title = None;
  require_license = None;
  tags = [];
  groups = [];
}

-- the hash of the package `abc` (FIPS 180-4, SHA-512), in base64 (RFC 4648)
abbrev pub first_hash : List ℕ
first_hash = codes "3a81oZNherrMQXNJriBBMRLm+k6JqX6iCp7u5ktV05ohkpkqJ0/BqDa6PCOj/uu9RU1EI2Q86A4qmslPpUyknw=="

-- the moment 2024-01-01T00:00:00
abbrev pub first_moment : ℕ
first_moment = 638_396_640_000_000_000

-- the entry of that publish
abbrev pub first_entry : Entry
first_entry = record { number = 1; place = 0; details = published first_meta 1 0 first_moment 3 first_hash }

-- the state with that entry, whose documents are written
unfoldable pub first_state : StateDoc
unfolding IsStrictlySortedBy
first_state = record {
  at = 1;
  touched = 1;
  touched_stamp = first_moment;
  dirty = false;
  names = codes "d/foo/1.0.0.json" ∷ codes "d/foo/index.json" ∷ [];
  entries = first_entry ∷ [];
  names_rise = ((refl, tt), (tt, tt));
  entries_rise = (tt, tt);
}

-- its document
abbrev pub first_state_text : List ℕ
first_state_text = codes "{\"at\":1,\"dirty\":false,\"entries\":[{\"details\":{\"created\":\"2024-01-01T00:00:00.0000000Z\",\"id\":\"Foo\",\"isPrerelease\":false,\"listed\":true,\"origin\":\"1/0\",\"packageHash\":\"3a81oZNherrMQXNJriBBMRLm+k6JqX6iCp7u5ktV05ohkpkqJ0/BqDa6PCOj/uu9RU1EI2Q86A4qmslPpUyknw==\",\"packageHashAlgorithm\":\"SHA512\",\"packageSize\":3,\"published\":\"2024-01-01T00:00:00.0000000Z\",\"verbatimVersion\":\"1.0.0\",\"version\":\"1.0.0\"},\"number\":1,\"place\":0}],\"names\":[\"d/foo/1.0.0.json\",\"d/foo/index.json\"],\"touched\":1,\"touchedTimeStamp\":\"2024-01-01T00:00:00.0000000Z\"}"
