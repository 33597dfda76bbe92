use Rattle.std.specs.Prelude.{◌≡◌, ◌++◌, ◌-◌, ℕ, List, length, drop, Bool, true, false, ◌&&◌, not, nat_eq, codes}
use Rattle.std.specs.List.{ends_with}
use Rattle.std.specs.Cmp.Lexicographic.{pointwise}
use Rattle.std.proofs.Common.{refl, ap, ◌∙◌, arith}
use Rattle.std.proofs.Math.Seq.{drop-append_seam}
use Rattle.std.proofs.lemmas.List.{append_assoc, length-append}
use Rattle.blob_dir.specs.Names.{is_inside}
use Rattle.blob_dir.proofs.names.temporaries_are_no_blobs.Goals as goal

and_false : (b : Bool) → b && false ≡ false
and_false true = refl
and_false false = refl

ends : (name : List ℕ) → ends_with nat_eq (name ++ codes ".tmp") (codes ".tmp") ≡ true
ends name =
    let size = length-append name (codes ".tmp") in
    let at : length (name ++ codes ".tmp") - 4 ≡ length name = rw size (omega arith) in
    ap (λ n. pointwise nat_eq (codes ".tmp") (drop n (name ++ codes ".tmp"))) at ∙ ap (pointwise nat_eq (codes ".tmp")) (drop-append_seam name (codes ".tmp"))

pub returns : goal.returns
returns c = λ folder name. (
  append_assoc folder (codes "/" ++ name) (codes ".tmp"),
  ap (λ b. is_inside (name ++ codes ".tmp") && not b) (ends name) ∙ and_false (is_inside (name ++ codes ".tmp")),
)
