-- The members of groups, metadata and details stand in byte order, whichever way they are put.
use Rattle.std.proofs.Common.{◌≡◌, List, [], ◌∷◌, ◌++◌, None, refl}
use Rattle.serde_json.specs.Data.{no_members}
use Rattle.pkg_meta.specs.Members.{Slot, maybe, present, put_slots}
use Rattle.pkg_meta.specs.Slots.{address_slots, identity_slots, list_slots, origin_slots, package_slots, prose_slots}
use Rattle.pkg_meta.specs.Trees.{details_table, group_table, meta_table}
use Rattle.pkg_meta.specs.declared.dependency.DepGroup.{DepGroup}
use Rattle.pkg_meta.specs.declared.item.Details.{Details}
use Rattle.pkg_meta.specs.declared.meta.Meta.{Meta}
use Rattle.pkg_meta.proofs.Slots.{put_slots-present}

-- the table without any value
abbrev pub blank : List Slot → List Slot
blank [] = []
blank (s ∷ slots) = maybe s.key None ∷ blank slots

pub group_put : (g : DepGroup) → put_slots (group_table g) no_members ≡ present (group_table g)
group_put g = put_slots-present (group_table g) (blank (group_table g)) refl

meta_slots : Meta → List Slot
meta_slots m = identity_slots m ++ (prose_slots m ++ (address_slots m ++ list_slots m))

pub meta_put : (m : Meta)
    → put_slots (list_slots m) (put_slots (address_slots m) (put_slots (prose_slots m) (put_slots (identity_slots m) no_members))) ≡ present (meta_table m)
unfolding meta_slots
meta_put m = put_slots-present (meta_slots m) (blank (meta_table m)) refl

details_slots : Details → List Slot
details_slots d = identity_slots d.meta ++ (prose_slots d.meta ++ (address_slots d.meta ++ (list_slots d.meta ++ (origin_slots d ++ package_slots d))))

pub details_put : (d : Details)
    → put_slots (package_slots d) (put_slots (origin_slots d) (put_slots (list_slots d.meta) (put_slots (address_slots d.meta) (put_slots (prose_slots d.meta) (put_slots (identity_slots d.meta) no_members)))))
    ≡ present (details_table d)
unfolding details_slots
details_put d = put_slots-present (details_slots d) (blank (details_table d)) refl
