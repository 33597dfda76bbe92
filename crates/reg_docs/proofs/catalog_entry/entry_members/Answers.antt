use Rattle.std.proofs.Common.{ap, ◌∙◌, List, ℕ}
use Rattle.serde_json.specs.Data.{no_members}
use Rattle.serde_json.specs.View.{members_view}
use Rattle.pkg_meta.specs.Members.{put_slots}
use Rattle.pkg_meta.specs.Slots.{address_slots}
use Rattle.reg_docs.specs.Entries.{array_slots, standing_slots, wording_slots}
use Rattle.reg_docs.proofs.EntryPuts.{entry_put}
use Rattle.reg_docs.proofs.catalog_entry.entry_members.Goals as goal

pub returns : goal.returns
returns c =
    let d = c.args.entry.now.details in
    let root = c.args.root.now in
    c.in_ok-put_arrays.ensures
    ∙ ap (put_slots (array_slots root d.meta))
    (c.in_ok-put_addresses.ensures
    ∙ ap (put_slots (address_slots d.meta))
    (c.in_ok-put_wording.ensures
    ∙ ap (put_slots (wording_slots d.meta))
    (c.in_ok-put_standing.ensures
    ∙ ap (put_slots (standing_slots c.deref.result.now d)) (ap members_view c.new-members.ensures.empty)
    ∙ ap (λ (url : List ℕ). put_slots (standing_slots url d) no_members) (c.deref.ensures ∙ c.in_ok-url.ensures))))
    ∙ entry_put c.args.base.now root c.args.entry.now
