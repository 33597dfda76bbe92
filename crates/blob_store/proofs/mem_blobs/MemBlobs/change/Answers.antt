use Rattle.std.proofs.Common.{◌≡◌, ◌++◌, ◌∷◌, [], option_map, rules, refl}
use Rattle.blob_store.specs.Area.{changed}
use Rattle.blob_store.proofs.Changes.{quiet, old_is_image, noted, numbered_more, numbered_push}
use Rattle.blob_store.proofs.mem_blobs.MemBlobs.change.Goals as goal

pub invariant_of-self : goal.invariant_of-self
invariant_of-self c = record { numbered = numbered_more c.args.self.now.calls _ _ c.next_count-self.ensures.next c.args.self.now.numbered }

pub returns-in_err-bytes-clause-time : goal.returns-in_err-bytes-clause-time
returns-in_err-bytes-clause-time c =
    quiet _ _ _ _ _ _ _ (λ left is. old_is_image _ (changed c.args.name.now (option_map (λ b. b.now) c.args.bytes)) _ left is) c.next_count-self.ensures.later c.next_count-self.ensures.next c.args.self.now.numbered refl refl

pub invariant_of-self-in-Break-branch-2 : goal.invariant_of-self-in-Break-branch-2
invariant_of-self-in-Break-branch-2 c = record { numbered = numbered_more c.args.self.now.calls _ _ c.next_count-self.ensures.next c.args.self.now.numbered }

pub returns-in_err-kept-clause-time : goal.returns-in_err-kept-clause-time
returns-in_err-kept-clause-time c =
    quiet _ _ _ _ _ _ _ (λ left is. old_is_image _ (changed c.args.name.now (option_map (λ b. b.now) c.args.bytes)) _ left is) c.next_count-self.ensures.later c.next_count-self.ensures.next c.args.self.now.numbered refl refl

pub invariant_of-self-then-is_err : goal.invariant_of-self-then-is_err
invariant_of-self-then-is_err c = record { numbered = rw c.reserve.ensures.items (numbered_more c.args.self.now.calls _ _ c.next_count-self.ensures.next c.args.self.now.numbered) }

pub returns-then-is_err-clause-time : goal.returns-then-is_err-clause-time
returns-then-is_err-clause-time c =
    quiet _ _ _ _ _ _ _ (λ left is. is) c.next_count-self.ensures.later c.next_count-self.ensures.next c.args.self.now.numbered c.reserve.ensures.items refl

pub invariant_of-self-in-Break-branch-3 : goal.invariant_of-self-in-Break-branch-3
invariant_of-self-in-Break-branch-3 c = record { numbered = rw c.reserve.ensures.items (numbered_more c.args.self.now.calls _ _ c.next_count-self.ensures.next c.args.self.now.numbered) }

pub returns-in_err-other-clause-time : goal.returns-in_err-other-clause-time
returns-in_err-other-clause-time c =
    quiet _ _ _ _ _ _ _ (λ left is. old_is_image _ (changed c.args.name.now (option_map (λ b. b.now) c.args.bytes)) _ left is) c.next_count-self.ensures.later c.next_count-self.ensures.next c.args.self.now.numbered c.reserve.ensures.items c.in_err-other.ensures.err

pub invariant_of-self-then-is_some : goal.invariant_of-self-then-is_some
invariant_of-self-then-is_some c =
    let pushed : c.push.new.self.items ≡ c.args.self.now.changes.items ++ (record { at = c.args.self.now.calls; name = c.in_ok-kept.kept; other = c.in_ok-other.other; took = c.unwrap_or-took.result }) ∷ [] = search (rules, c.reserve.ensures.items) in
    record { numbered = numbered_push c.args.self.now.calls _ _ _ _ c.next_count-self.ensures.next refl pushed c.args.self.now.numbered }

pub returns-then-is_some-clause-time : goal.returns-then-is_some-clause-time
returns-then-is_some-clause-time c =
    let pushed : c.push.new.self.items ≡ c.args.self.now.changes.items ++ (record { at = c.args.self.now.calls; name = c.in_ok-kept.kept; other = c.in_ok-other.other; took = c.unwrap_or-took.result }) ∷ [] = search (rules, c.reserve.ensures.items) in
    noted c.args.self.now.calls _ _ _ _ _ _ _ _ _ _ _ c.next_count-self.ensures.later c.next_count-self.ensures.next c.args.self.now.numbered c.in_ok-kept.ensures c.in_ok-bytes.ensures pushed c.in_ok-other.ensures.made

pub invariant_of-self-else-is_some : goal.invariant_of-self-else-is_some
invariant_of-self-else-is_some c =
    let pushed : c.push.new.self.items ≡ c.args.self.now.changes.items ++ (record { at = c.args.self.now.calls; name = c.in_ok-kept.kept; other = c.in_ok-other.other; took = c.unwrap_or-took.result }) ∷ [] = search (rules, c.reserve.ensures.items) in
    record { numbered = numbered_push c.args.self.now.calls _ _ _ _ c.next_count-self.ensures.next refl pushed c.args.self.now.numbered }

pub returns-clause-time : goal.returns-clause-time
returns-clause-time c =
    let pushed : c.push.new.self.items ≡ c.args.self.now.changes.items ++ (record { at = c.args.self.now.calls; name = c.in_ok-kept.kept; other = c.in_ok-other.other; took = c.unwrap_or-took.result }) ∷ [] = search (rules, c.reserve.ensures.items) in
    noted c.args.self.now.calls _ _ _ _ _ _ _ _ _ _ _ c.next_count-self.ensures.later c.next_count-self.ensures.next c.args.self.now.numbered c.in_ok-kept.ensures c.in_ok-bytes.ensures pushed c.in_ok-other.ensures.made

pub returns-in_err-asked-clause-time : goal.returns-in_err-asked-clause-time
returns-in_err-asked-clause-time c =
    quiet _ _ _ _ _ _ _ (λ left is. old_is_image _ (changed c.args.name.now (option_map (λ b. b.now) c.args.bytes)) _ left is) c.next_count-self.ensures.later c.next_count-self.ensures.next c.args.self.now.numbered c.reserve.ensures.items refl

pub invariant_of-self-then-is_err-2 : goal.invariant_of-self-then-is_err-2
invariant_of-self-then-is_err-2 c = record { numbered = rw c.reserve.ensures.items (numbered_more c.args.self.now.calls _ _ c.next_count-self.ensures.next c.args.self.now.numbered) }

pub returns-then-is_err-2-clause-time : goal.returns-then-is_err-2-clause-time
returns-then-is_err-2-clause-time c =
    quiet _ _ _ _ _ _ _ (λ left is. is) c.next_count-self.ensures.later c.next_count-self.ensures.next c.args.self.now.numbered c.reserve.ensures.items refl

pub invariant_of-self-in-Break-branch-4 : goal.invariant_of-self-in-Break-branch-4
invariant_of-self-in-Break-branch-4 c = record { numbered = rw c.reserve.ensures.items (numbered_more c.args.self.now.calls _ _ c.next_count-self.ensures.next c.args.self.now.numbered) }
