-- One of some entries of the code's types.
use Rattle.std.proofs.Common.{◌≡◌, ℕ, zero, suc, List, [], ◌∷◌, drop, subst}
use Rattle.pkg_meta.specs.declared.entry.Entry.{Entry}
use Rattle.hive_state.specs.Reading.{AreEntryValues, IsEntryValue}

are_dropped : (i : ℕ) (es : List Entry) → AreEntryValues es → AreEntryValues (drop i es)
are_dropped zero [] are = tt
are_dropped zero (e ∷ es) are = are
are_dropped (suc i) [] are = tt
are_dropped (suc i) (e ∷ es) are = are_dropped i es are.1

pub nth_value : (i : ℕ) (es : List Entry) (e : Entry) (rest : List Entry) → AreEntryValues es → drop i es ≡ e ∷ rest → IsEntryValue e
nth_value i es e rest are left = (subst AreEntryValues left (are_dropped i es are)).0
