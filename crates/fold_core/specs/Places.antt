-- Where a version stands among rising entries, and what an item more makes of them.
use Rattle.std.specs.Prelude.{ℕ, suc, List, [], ◌∷◌, Bool, false, Option, Some, None}
use Rattle.std.specs.List.{cons_option}
use Rattle.std.specs.Ordering.{eq_by_cmp, is_le, match_ordering}
use Rattle.nuget_version.specs.Precedence.{precedence}
use Rattle.nuget_version.specs.declared.version.Version.{Version}
use Rattle.pkg_meta.specs.Entries.{version_in}
use Rattle.pkg_meta.specs.Items.{version_of}
use Rattle.pkg_meta.specs.Lawful.{Placed}
use Rattle.pkg_meta.specs.declared.entry.Entry.{Entry}
use Rattle.fold_core.specs.Entries.{Keeps, entry_of}

-- rising entries with this one, or none, in the version's place
abbrev pub replaced : Version → Option Entry → List Entry → List Entry
replaced v new [] = cons_option new []
replaced v new (e ∷ es) = match_ordering (precedence v (version_in e)) (cons_option new (e ∷ es)) (cons_option new es) (e ∷ replaced v new es)

-- rising entries with an item applied: its version has what the hive keeps of it
abbrev pub applied : Keeps → List Entry → Placed → List Entry
applied keeps es x = replaced (version_of x.what) (entry_of keeps x) es

-- with these items applied, one after the other
abbrev pub all_applied : Keeps → List Entry → List Placed → List Entry
all_applied keeps es [] = es
all_applied keeps es (x ∷ xs) = all_applied keeps (applied keeps es x) xs

-- whether the version isn't above the entry's
abbrev pub is_up_to : Version → Entry → Bool
is_up_to v e = is_le (precedence v (version_in e))

-- where the version stands among rising entries, or comes to stand
abbrev pub place_in : Version → List Entry → ℕ
place_in v [] = 0
place_in v (e ∷ es) = match_ordering (precedence v (version_in e)) 0 0 (suc (place_in v es))

-- whether the entry is of the version
abbrev pub is_tied : Version → Option Entry → Bool
is_tied v None = false
is_tied v (Some e) = eq_by_cmp precedence v (version_in e)
