-- Bytes begin with one record at most, and are refused for one reason.
use Rattle.std.proofs.Common.{◌≡◌, ◌≢◌, ◌<◌, ◌^◌, ℕ, List, [], ◌∷◌, ◌++◌, length, take, drop, refl, sym, ap, ◌∙◌, subst, arith, length-append}
use Rattle.std.specs.Fmt.{decimal}
use Rattle.std.proofs.Math.Seq.{drop-append_seam, take-append_seam}
use Rattle.std.proofs.lemmas.Fmt.{decimal_injective}
use Rattle.catalog_doc.specs.declared.change.Change.{Change}
use Rattle.pkg_meta.specs.Refusals.{IsRefusedMeta}
use Rattle.pkg_meta.proofs.OneAnswer.{not_both, one_refusal}
use Rattle.pkg_meta.specs.declared.error.MetaErr.{MetaErr}
use Rattle.admin_wire.specs.Bodies.{IsRecord, IsRecordOf, IsRefusedRecord}
use Rattle.admin_wire.specs.Bodies.IsRefusedRecord.{shape, meta}
use Rattle.admin_wire.specs.Cuts.{spaced}
use Rattle.admin_wire.specs.declared.error.BodyErr.{BodyErr}
use Rattle.admin_wire.specs.declared.error.BodyErr.TheVariants.{Meta}
use Rattle.admin_wire.proofs.Headers.{header_of, record_lacks, record_line}
use Rattle.admin_wire.proofs.Marks.{lacks_decimal, one_seam}
use Rattle.admin_wire.proofs.OneStop.{IsDetermined}

record_filled : (p m n k : List ℕ) → IsRecord p m n k → p ≢ []
record_filled p m n k r e =
    absurd (omega (
      arith,
      ap length (sym r.text ∙ e),
      length-append (decimal (length m)) (32 ∷ (decimal (length n) ++ (32 ∷ (decimal (length k) ++ (10 ∷ (m ++ (n ++ k))))))),
    ))

cut_same : (x y v w : List ℕ) → length x ≡ length v → x ++ y ≡ v ++ w → (x ≡ v) × (y ≡ w)
cut_same x y v w n e = (
  sym (take-append_seam x y) ∙ ap (λ (l : List ℕ). take (length x) l) e ∙ ap (λ (i : ℕ). take i (v ++ w)) n ∙ take-append_seam v w,
  sym (drop-append_seam x y) ∙ ap (λ (l : List ℕ). drop (length x) l) e ∙ ap (λ (i : ℕ). drop i (v ++ w)) n ∙ drop-append_seam v w,
)

same_numbers : (a b c x y z : ℕ) → a < 10 ^ 8 → b < 10 ^ 8 → c < 10 ^ 8 → x < 10 ^ 8 → y < 10 ^ 8 → z < 10 ^ 8 → spaced a b c ≡ spaced x y z
    → (a ≡ x) × (b ≡ y) × (c ≡ z)
same_numbers a b c x y z af bf cf xf yf zf e =
    let p = one_seam 32 (spaced a b c) (decimal a) (decimal b ++ (32 ∷ decimal c)) (decimal x) (decimal y ++ (32 ∷ decimal z))
    (lacks_decimal 32 a (omega arith) (omega arith)) (lacks_decimal 32 x (omega arith) (omega arith)) refl e in
    let q = one_seam 32 (decimal b ++ (32 ∷ decimal c)) (decimal b) (decimal c) (decimal y) (decimal z)
    (lacks_decimal 32 b (omega arith) (omega arith)) (lacks_decimal 32 y (omega arith) (omega arith)) refl p.1 in (
      decimal_injective a x (omega arith) (omega arith) p.0,
      decimal_injective b y (omega arith) (omega arith) q.0,
      decimal_injective c z (omega arith) (omega arith) q.1,
    )

-- the same bytes begin with the same parts
pub record AreSameParts (p t q u m n k x y z : List ℕ) : Type 0 where
  pub metas : m ≡ x
  pub nuspecs : n ≡ y
  pub nupkgs : k ≡ z
  pub records : p ≡ q
  pub rests : t ≡ u

same_text : (p q m n k x y z : List ℕ) → IsRecord p m n k → IsRecord q x y z → m ≡ x → n ≡ y → k ≡ z → p ≡ q
same_text p q m n k x y z r s first second third = r.text ∙ rw (first, second, third) (sym s.text)

same_record : (p t q u m n k x y z : List ℕ) → IsRecord p m n k → IsRecord q x y z → p ++ t ≡ q ++ u → AreSameParts p t q u m n k x y z
same_record p t q u m n k x y z r s e =
    let lines = one_seam 10 (p ++ t) (header_of m n k) (m ++ (n ++ (k ++ t))) (header_of x y z) (x ++ (y ++ (z ++ u)))
    (record_lacks p m n k r) (record_lacks q x y z s) (record_line (p ++ t) p t m n k refl r) (record_line (p ++ t) q u x y z e s) in
    let numbers = same_numbers (length m) (length n) (length k) (length x) (length y) (length z) r.meta_fits r.nuspec_fits r.nupkg_fits
    s.meta_fits s.nuspec_fits s.nupkg_fits lines.0 in
    let first = cut_same m (n ++ (k ++ t)) x (y ++ (z ++ u)) numbers.0 lines.1 in
    let second = cut_same n (k ++ t) y (z ++ u) numbers.1 first.1 in
    let third = cut_same k t z u numbers.2 second.1 in
    record {
      metas = first.0;
      nuspecs = second.0;
      nupkgs = third.0;
      records = same_text p q m n k x y z r s first.0 second.0 third.0;
      rests = third.1;
    }

record_clash : (at place : ℕ) (p t bytes : List ℕ) (c : Change) (e : BodyErr) → bytes ≡ p ++ t → IsRecordOf p c → IsRefusedRecord at place bytes e → ⊥
record_clash at place p t bytes c e s r (shape is none) = none p t r.meta r.nuspec r.nupkg s r.whole
record_clash at place p t bytes c e s r (meta front back m n k why is split whole refused) =
    let w = same_record p t front back r.meta r.nuspec r.nupkg m n k r.whole whole (sym s ∙ split) in
    not_both r.meta r.says why r.read (subst (λ (l : List ℕ). IsRefusedMeta l why) (sym w.metas) refused)

one_record : (at place : ℕ) (bytes : List ℕ) (d e : BodyErr) → IsRefusedRecord at place bytes d → IsRefusedRecord at place bytes e → d ≡ e
one_record at place bytes d e (shape is none) (shape too other) = is ∙ sym too
one_record at place bytes d e (shape is none) (meta front back m n k why too split whole refused) = absurd (none front back m n k split whole)
one_record at place bytes d e (meta front back m n k why is split whole refused) (shape too none) = absurd (none front back m n k split whole)
one_record at place bytes d e (meta front back m n k why is split whole refused) (meta other rest x y z reason too cut same also) =
    let w = same_record front back other rest m n k x y z whole same (sym split ∙ cut) in
    let reasons = one_refusal x why reason (subst (λ (l : List ℕ). IsRefusedMeta l why) w.metas refused) also in
    is ∙ ap (λ (r : MetaErr). Meta place r) reasons ∙ sym too

pub records_determined : IsDetermined IsRecordOf IsRefusedRecord
records_determined = record {
  filled = λ p c r. record_filled p r.meta r.nuspec r.nupkg r.whole;
  step = λ p t q u c d r s e. let w = same_record p t q u r.meta r.nuspec r.nupkg s.meta s.nuspec s.nupkg r.whole s.whole e in (w.records, w.rests);
  clash = record_clash;
  one = one_record;
}
