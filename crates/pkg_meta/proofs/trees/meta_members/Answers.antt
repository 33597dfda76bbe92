use Rattle.std.proofs.Common.{ap, ◌∙◌}
use Rattle.serde_json.specs.View.{members_view}
use Rattle.pkg_meta.specs.Members.{put_slots}
use Rattle.pkg_meta.specs.Slots.{address_slots, identity_slots, list_slots, prose_slots}
use Rattle.pkg_meta.proofs.Tables.{meta_put}
use Rattle.pkg_meta.proofs.trees.meta_members.Goals as goal

pub returns : goal.returns
returns c =
    let m = c.args.meta.now in
    c.in_ok-put_lists.ensures
    ∙ ap (put_slots (list_slots m)) (c.in_ok-put_addresses.ensures ∙ ap (put_slots (address_slots m)) (c.in_ok-put_prose.ensures ∙ ap (put_slots (prose_slots m)) (c.in_ok-put_identity.ensures ∙ ap (put_slots (identity_slots m)) (ap members_view c.new-members.ensures.empty))))
    ∙ meta_put m
