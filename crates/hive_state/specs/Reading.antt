-- What the reader of a state document reads: states of the values that the code's types have.
use Rattle.std.specs.Prelude.{◌<◌, ◌≤◌, ◌^◌, List, [], ◌∷◌, All, IsUtf8, ⊤}
use Rattle.catalog_doc.specs.Reading.{IsDetailsValue}
use Rattle.pkg_meta.specs.declared.entry.Entry.{Entry}
use Rattle.pkg_meta.specs.declared.state.StateDoc.{StateDoc}

-- numbers of 32 bits, and details of the code's types
pub record IsEntryValue (e : Entry) : Type 0 where
  pub number : e.number < 2 ^ 32
  pub place : e.place < 2 ^ 32
  pub details : IsDetailsValue e.details

-- each of the entries is such
abbrev pub AreEntryValues : List Entry → Type 0
AreEntryValues [] = ⊤
AreEntryValues (e ∷ es) = IsEntryValue e × AreEntryValues es

-- numbers of 32 bits, a moment, names in UTF-8, and such entries
pub record IsStateValue (s : StateDoc) : Type 0 where
  pub at : s.at < 2 ^ 32
  pub touched : s.touched < 2 ^ 32
  pub touched_stamp : s.touched_stamp ≤ 3_155_378_975_999_999_999
  pub names : All IsUtf8 s.names
  pub entries : AreEntryValues s.entries
