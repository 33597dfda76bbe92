-- Printed forms read back, and need no escape.
use Rattle.std.proofs.Common.{◌≡◌, List, ℕ, [], ◌∷◌, ◌++◌, Bool, true, false, not, ◌||◌, ◌&&◌, is_some, Option, Some, None, refl, sym, ap, subst, append_assoc, append-nil, arith}
use Rattle.std.specs.List.{list_all}
use Rattle.std.proofs.lemmas.Bool.Decides.{nat_tests}
use Rattle.std.proofs.lemmas.Bool.{and_from}
use Rattle.nuget_version.specs.Printed.{full_text}
use Rattle.nuget_version.specs.declared.version.Version.{Version}
use Rattle.nuget_version.proofs.ReadBack.{full_reads}
use Rattle.version_range.specs.Grammar.{IsSpaced, IsBracketed, SpellsVersion, SpellsEnd, SpellsRange, both, opening, closing}
use Rattle.version_range.specs.Printed.{end_text, range_text, is_bare_byte}
use Rattle.version_range.specs.declared.range.VersionRange.{VersionRange}
use Rattle.version_range.proofs.Plain.{is_plain, list_all_weaker, list_all_both, version_plain}

no_spaces : (inner : List ℕ) → IsSpaced inner inner
no_spaces inner = record { before = []; behind = []; blank_before = refl; blank_behind = refl; spelled = sym (append-nil inner) }

version_spelled : (v : Version) → SpellsVersion (full_text v) v
version_spelled v = record { core = full_text v; spaced = no_spaces (full_text v); version = full_reads v }

low_spelled : (end : Option Version) → SpellsEnd (end_text end) end
low_spelled None = refl
low_spelled (Some v) = version_spelled v

behind_space : (v : Version) → SpellsVersion (32 ∷ full_text v) v
behind_space v = record {
  core = full_text v;
  spaced = record { before = 32 ∷ []; behind = []; blank_before = refl; blank_behind = refl; spelled = ap (λ (l : List ℕ). 32 ∷ l) (sym (append-nil (full_text v))) };
  version = full_reads v;
}

high_spelled : (end : Option Version) → SpellsEnd (32 ∷ end_text end) end
high_spelled None = refl
high_spelled (Some v) = behind_space v

there : (included present : Bool) → not included || present ≡ true → included ≡ (included && present)
there true present held = sym held
there false present held = refl

range_bracketed : (r : VersionRange) → IsBracketed (range_text r) r.low_in (end_text r.low ++ 44 ∷ (32 ∷ end_text r.high)) r.high_in
unfolding range_text
range_bracketed r =
    let text : range_text r ≡ opening r.low_in ∷ ((end_text r.low ++ 44 ∷ (32 ∷ end_text r.high)) ++ closing r.high_in ∷ []) =
    ap (λ (l : List ℕ). opening r.low_in ∷ l) (sym (append_assoc (end_text r.low) (44 ∷ (32 ∷ end_text r.high)) (closing r.high_in ∷ []))) in
    subst (λ (l : List ℕ). IsSpaced (range_text r) l) text (no_spaces (range_text r))

pub reads_back : (r : VersionRange) → SpellsRange (range_text r) r
reads_back r = both (record {
  low_square = r.low_in;
  high_square = r.high_in;
  left = end_text r.low;
  right = 32 ∷ end_text r.high;
  bracketed = range_bracketed r;
  low_end = low_spelled r.low;
  high_end = high_spelled r.high;
  low_in = there r.low_in (is_some r.low) r.low_there;
  high_in = there r.high_in (is_some r.high) r.high_there;
})

-- ---- bytes

plain_bare : (b : ℕ) → is_plain b ≡ true → is_bare_byte b ≡ true
plain_bare b held = grind (arith, nat_tests)

end_bare : (end : Option Version) → list_all is_bare_byte (end_text end) ≡ true
end_bare None = refl
end_bare (Some v) = list_all_weaker is_plain is_bare_byte plain_bare (full_text v) (version_plain (full_text v) v (full_reads v))

opening_bare : (square : Bool) → is_bare_byte (opening square) ≡ true
opening_bare true = refl
opening_bare false = refl

closing_bare : (square : Bool) → is_bare_byte (closing square) ≡ true
closing_bare true = refl
closing_bare false = refl

pub text_bare : (r : VersionRange) → list_all is_bare_byte (range_text r) ≡ true
unfolding range_text
text_bare r =
    let high = list_all_both is_bare_byte (end_text r.high) (closing r.high_in ∷ []) (end_bare r.high) (and_from _ _ (closing_bare r.high_in) refl) in
    and_from _ _ (opening_bare r.low_in) (list_all_both is_bare_byte (end_text r.low) (44 ∷ 32 ∷ (end_text r.high ++ closing r.high_in ∷ [])) (end_bare r.low) high)
