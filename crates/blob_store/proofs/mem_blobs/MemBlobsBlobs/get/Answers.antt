use Rattle.std.proofs.Common.{inl, refl}
use Rattle.blob_store.proofs.Changes.{quiet, numbered_more, old_is_image}
use Rattle.blob_store.proofs.mem_blobs.MemBlobsBlobs.get.Goals as goal

pub invariant_of-self : goal.invariant_of-self
invariant_of-self c = record { numbered = numbered_more c.args.self.now.calls _ _ c.next_count-self.ensures.next c.args.self.now.numbered }

pub invariant_of-self-then-is_err : goal.invariant_of-self-then-is_err
invariant_of-self-then-is_err c = record { numbered = numbered_more c.args.self.now.calls _ _ c.next_count-self.ensures.next c.args.self.now.numbered }

pub invariant_of-self-then-is_some : goal.invariant_of-self-then-is_some
invariant_of-self-then-is_some c = record { numbered = numbered_more c.args.self.now.calls _ _ c.next_count-self.ensures.next c.args.self.now.numbered }

pub invariant_of-self-in-Break-branch-2 : goal.invariant_of-self-in-Break-branch-2
invariant_of-self-in-Break-branch-2 c = record { numbered = numbered_more c.args.self.now.calls _ _ c.next_count-self.ensures.next c.args.self.now.numbered }

pub invariant_of-self-2 : goal.invariant_of-self-2
invariant_of-self-2 c = record { numbered = numbered_more c.args.self.now.calls _ _ c.next_count-self.ensures.next c.args.self.now.numbered }

pub returns-in_err-asked-clause-time : goal.returns-in_err-asked-clause-time
returns-in_err-asked-clause-time c = quiet _ _ _ _ _ _ _ (λ left is. old_is_image _ (λ m. m) _ left is) c.next_count-self.ensures.later c.next_count-self.ensures.next c.args.self.now.numbered refl refl

pub returns-then-is_err-clause-time : goal.returns-then-is_err-clause-time
returns-then-is_err-clause-time c = quiet _ _ _ _ _ _ _ (λ left is. is) c.next_count-self.ensures.later c.next_count-self.ensures.next c.args.self.now.numbered refl refl

pub returns-then-is_some-clause-time : goal.returns-then-is_some-clause-time
returns-then-is_some-clause-time c = quiet _ _ _ _ _ _ _ (λ left is. inl is) c.next_count-self.ensures.later c.next_count-self.ensures.next c.args.self.now.numbered refl refl

pub returns-in_err-found-clause-time : goal.returns-in_err-found-clause-time
returns-in_err-found-clause-time c = quiet _ _ _ _ _ _ _ (λ left is. old_is_image _ (λ m. m) _ left is) c.next_count-self.ensures.later c.next_count-self.ensures.next c.args.self.now.numbered refl refl

pub returns-clause-time : goal.returns-clause-time
returns-clause-time c = quiet _ _ _ _ _ _ _ (λ left is. inl is) c.next_count-self.ensures.later c.next_count-self.ensures.next c.args.self.now.numbered refl refl
