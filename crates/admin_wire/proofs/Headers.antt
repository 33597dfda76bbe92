-- The first line of a record.
use Rattle.std.proofs.Common.{◌≡◌, ◌<◌, ◌+◌, ◌^◌, ℕ, List, ◌∷◌, ◌++◌, length, Some, None, refl, ap, ◌∙◌, arith, append_assoc, IsUtf8, length-append}
use Rattle.std.specs.Fmt.{decimal}
use Rattle.std.proofs.lemmas.Fmt.{IsAscii-decimal}
use Rattle.std.proofs.lemmas.Str.{IsUtf8-from_ascii}
use Rattle.admin_wire.specs.Bodies.{IsRecord}
use Rattle.admin_wire.specs.Cuts.{HaveLengths, IsHeader, spaced}
use Rattle.admin_wire.specs.declared.header.Lengths.{Lengths}
use Rattle.admin_wire.proofs.Marks.{Lacks, lacks_both, lacks_decimal, lacks_more, some_same}

pub utf8_decimal : (n : ℕ) → n < 2 ^ 64 → IsUtf8 (decimal n)
utf8_decimal n fits = IsUtf8-from_ascii (decimal n) (IsAscii-decimal n fits)

pub none_some : {A : Type 0} (x : A) → None ≡ Some x → ⊥
none_some x e = cc e

-- three lengths
abbrev pub lengths : ℕ → ℕ → ℕ → Lengths
lengths a b c = record { meta = a; nuspec = b; nupkg = c }

pub same_lengths : (a b c : ℕ) (l : Lengths) → Some a ≡ Some l.meta → Some b ≡ Some l.nuspec → Some c ≡ Some l.nupkg → Some (lengths a b c) ≡ Some l
same_lengths a b c l first second third =
    rw (some_same a l.meta first, some_same b l.nuspec second, some_same c l.nupkg third) refl

-- a header has no line feed
pub header_lacks : (a b c : ℕ) → a < 10 ^ 8 → b < 10 ^ 8 → c < 10 ^ 8 → Lacks (spaced a b c) 10
header_lacks a b c first second third =
    lacks_both 10 (decimal a) (32 ∷ (decimal b ++ (32 ∷ decimal c))) (lacks_decimal 10 a (omega arith) (omega arith))
    (lacks_more 10 32 (decimal b ++ (32 ∷ decimal c)) (omega arith)
    (lacks_both 10 (decimal b) (32 ∷ decimal c) (lacks_decimal 10 b (omega arith) (omega arith))
    (lacks_more 10 32 (decimal c) (omega arith) (lacks_decimal 10 c (omega arith) (omega arith)))))

abbrev pub header_of : List ℕ → List ℕ → List ℕ → List ℕ
header_of meta nuspec nupkg = spaced (length meta) (length nuspec) (length nupkg)

pub record_lacks : (front meta nuspec nupkg : List ℕ) → IsRecord front meta nuspec nupkg → Lacks (header_of meta nuspec nupkg) 10
record_lacks front meta nuspec nupkg r = header_lacks (length meta) (length nuspec) (length nupkg) r.meta_fits r.nuspec_fits r.nupkg_fits

pub is_header : (line front meta nuspec nupkg : List ℕ) → IsRecord front meta nuspec nupkg → line ≡ header_of meta nuspec nupkg
    → IsHeader line (lengths (length meta) (length nuspec) (length nupkg))
is_header line front meta nuspec nupkg r e = record { spelled = e; meta_fits = r.meta_fits; nuspec_fits = r.nuspec_fits; nupkg_fits = r.nupkg_fits }

-- a record is its header, a line feed and its parts
pub record_line : (bytes front back meta nuspec nupkg : List ℕ) → bytes ≡ front ++ back → IsRecord front meta nuspec nupkg
    → bytes ≡ header_of meta nuspec nupkg ++ (10 ∷ (meta ++ (nuspec ++ (nupkg ++ back))))
record_line bytes front back meta nuspec nupkg e r = e ∙ ap (λ (f : List ℕ). f ++ back) r.text ∙ simp append_assoc

pub record_found : (bytes line behind meta nuspec nupkg rest : List ℕ) (lens : Lengths) → bytes ≡ line ++ (10 ∷ behind) → IsHeader line lens
    → behind ≡ meta ++ (nuspec ++ (nupkg ++ rest)) → HaveLengths lens meta nuspec nupkg
    → (front : List ℕ) × (bytes ≡ front ++ rest) × IsRecord front meta nuspec nupkg
record_found bytes line behind meta nuspec nupkg rest lens e h b l = (
  line ++ (10 ∷ (meta ++ (nuspec ++ nupkg))),
  rw (e, b) (simp append_assoc),
  record {
    text = rw (h.spelled, l.meta_len, l.nuspec_len, l.nupkg_len) (simp append_assoc);
    meta_fits = omega (arith, l.meta_len, h.meta_fits);
    nuspec_fits = omega (arith, l.nuspec_len, h.nuspec_fits);
    nupkg_fits = omega (arith, l.nupkg_len, h.nupkg_fits);
  },
)

-- there are as many bytes as a record's parts have
pub parts_fit : (behind meta nuspec nupkg back : List ℕ) (lens : Lengths) → lengths (length meta) (length nuspec) (length nupkg) ≡ lens
    → behind ≡ meta ++ (nuspec ++ (nupkg ++ back)) → length behind < lens.meta + (lens.nuspec + lens.nupkg) → ⊥
parts_fit behind meta nuspec nupkg back lens same b short =
    let first : length meta ≡ lens.meta = ap (λ (l : Lengths). l.meta) same in
    let second : length nuspec ≡ lens.nuspec = ap (λ (l : Lengths). l.nuspec) same in
    let third : length nupkg ≡ lens.nupkg = ap (λ (l : Lengths). l.nupkg) same in
    omega (arith, ap length b, length-append meta (nuspec ++ (nupkg ++ back)), length-append nuspec (nupkg ++ back), length-append nupkg back)
