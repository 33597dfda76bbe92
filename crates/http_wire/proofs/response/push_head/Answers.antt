use Rattle.std.proofs.Common.{◌≡◌, ◌++◌, ℕ, List, codes, length, append_assoc, refl, string_bytes, Result, Ok, Err, OnOk, if◌then◌else◌}
use Rattle.std.specs.Prelude.{is_ok}
use Rattle.http_wire.specs.Response.{allow_line, close_line, length_line, status_line, type_line}
use Rattle.http_wire.proofs.response.push_head.Goals as goal

-- piece by piece, or as one
pieces : {U E : Type 0} (r : Result U E) (old a b c d e f g h i j k l m : List ℕ) → h ≡ old ++ a → i ≡ h ++ b → j ≡ i ++ c → k ≡ j ++ d → l ≡ k ++ e
    → m ≡ (if is_ok r then l ++ f else l) → OnOk r (m ++ g ≡ old ++ (a ++ b ++ c ++ d ++ e ++ f ++ g))
pieces (Ok u) old a b c d e f g h i j k l m h1 i1 j1 k1 l1 m1 = rw (m1, l1, k1, j1, i1, h1) (simp append_assoc refl)
pieces (Err e) old a b c d f g h i j k l m n h1 i1 j1 k1 l1 m1 = tt

pub returns : goal.returns
returns c =
    pieces c.push_str.result (string_bytes c.args.out.now) (status_line c.args.status) (close_line c.args.last) (allow_line c.args.allow)
    (length_line (length c.args.body.now)) (type_line c.args.kind c.args.body.now) (codes "\r\n") c.args.body.now _ _ _ _ _ _
    c.in_ok-push_status.ensures c.in_ok-push_close.ensures c.in_ok-push_allow.ensures c.in_ok-push_length.ensures c.in_ok-push_type.ensures
    c.push_str.ensures.bytes
