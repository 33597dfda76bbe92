use Rattle.std.proofs.Common.{ap, ◌∙◌}
use Rattle.serde_json.specs.View.{members_view}
use Rattle.pkg_meta.specs.Members.{put_slots}
use Rattle.pkg_meta.specs.Slots.{address_slots, identity_slots, list_slots, origin_slots, package_slots, prose_slots}
use Rattle.pkg_meta.proofs.Tables.{details_put}
use Rattle.pkg_meta.proofs.item.Details.members.Goals as goal

pub returns : goal.returns
returns c =
    let d = c.args.self.now in
    let m = d.meta in
    c.in_ok-put_package.ensures
    ∙ ap (put_slots (package_slots d)) (c.in_ok-put_origin.ensures ∙ ap (put_slots (origin_slots d)) (c.in_ok-put_lists.ensures ∙ ap (put_slots (list_slots m)) (c.in_ok-put_addresses.ensures
    ∙ ap (put_slots (address_slots m)) (c.in_ok-put_prose.ensures ∙ ap (put_slots (prose_slots m)) (c.in_ok-put_identity.ensures ∙ ap (put_slots (identity_slots m)) (ap members_view c.new-members.ensures.empty))))))
    ∙ details_put d
