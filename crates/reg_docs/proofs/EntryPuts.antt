-- The members of a catalog entry stand in byte order, whichever way they are put.
use Rattle.std.proofs.Common.{◌≡◌, ℕ, List, ◌++◌, refl}
use Rattle.serde_json.specs.Data.{no_members}
use Rattle.pkg_meta.specs.Members.{Slot, present, put_slots}
use Rattle.pkg_meta.specs.Slots.{address_slots}
use Rattle.pkg_meta.specs.declared.entry.Entry.{Entry}
use Rattle.pkg_meta.proofs.Slots.{put_slots-present}
use Rattle.pkg_meta.proofs.Tables.{blank}
use Rattle.reg_docs.specs.Entries.{array_slots, entry_slots, item_url, standing_slots, wording_slots}

puts : List ℕ → List ℕ → Entry → List Slot
puts base root e =
    standing_slots (item_url base e) e.details ++ (wording_slots e.details.meta ++ (address_slots e.details.meta ++ array_slots root e.details.meta))

pub entry_put : (base root : List ℕ) (e : Entry)
    → put_slots (array_slots root e.details.meta) (put_slots (address_slots e.details.meta) (put_slots (wording_slots e.details.meta) (put_slots (standing_slots (item_url base e) e.details) no_members)))
    ≡ present (entry_slots base root e)
unfolding puts
entry_put base root e = put_slots-present (puts base root e) (blank (entry_slots base root e)) refl
