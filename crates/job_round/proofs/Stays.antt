-- Calls that change no catalog, one behind the other.
use Rattle.std.proofs.Common.{◌≡◌, ℕ, List, Bool, true, false, cond, Option, None, Some, inl, inr, refl, sym, ◌∙◌, ap, subst, option_map}
use Rattle.std.specs.FinMap.{get}
use Rattle.std.specs.Str.{bytes_eq}
use Rattle.blob_store.specs.Area.{Area, with_blob}
use Rattle.blob_store.specs.Seen.{Seen}
use Rattle.blob_store.proofs.Areas.{get-changed, same_area}
use Rattle.catalog_doc.specs.Documents.{index_text}
use Rattle.catalog_doc.specs.Names.{index_name}
use Rattle.catalog_doc.specs.Spelled.{SpellsCatalog}
use Rattle.catalog_opening.specs.Openings.{IsMended, KeepsSpelling, Mends}
use Rattle.catalog_core.specs.Framing.{StaysOpen}
use Rattle.catalog_core.specs.Opened.{Opened}
use Rattle.catalog_items.proofs.Getting.{counts_then, leaves_then}

-- a blob that is put twice
put_twice : (name first second : List ℕ) (m : Area) → with_blob name second (with_blob name first m) ≡ with_blob name second m
put_twice name first second m = same_area (with_blob name second (with_blob name first m)) (with_blob name second m)
    (λ q. get-changed q name (Some second) (with_blob name first m) ∙ behind q (bytes_eq q name) refl ∙ sym (get-changed q name (Some second) m))
  where
    behind : (q : List ℕ) (b : Bool) → bytes_eq q name ≡ b → cond b (Some second) (get (with_blob name first m) q) ≡ cond b (Some second) (get m q)
    behind q true is = refl
    behind q false is = get-changed q name (Some first) m ∙ ap (λ (b : Bool). cond b (Some first) (get m q)) is

puts_twice : (first second : List ℕ) (held : Option Area) → option_map (with_blob index_name second) (option_map (with_blob index_name first) held) ≡ option_map (with_blob index_name second) held
puts_twice first second None = refl
puts_twice first second (Some m) = ap Some (put_twice index_name first second m)

pub mended_then : (x y z : Option Area) → IsMended x y → IsMended y z → IsMended x z
mended_then x y z (inl same) (inl again) = inl (again ∙ same)
mended_then x y z (inl same) (inr (base, heads, is)) = inr (base, heads, is ∙ ap (option_map (with_blob index_name (index_text base heads))) same)
mended_then x y z (inr (base, heads, is)) (inl same) = inr (base, heads, same ∙ is)
mended_then x y z (inr (base, heads, is)) (inr (later, more, are)) =
    inr (later, more, are ∙ ap (option_map (with_blob index_name (index_text later more))) is ∙ puts_twice (index_text base heads) (index_text later more) x)

pub mends_then : (a b c : Seen) (P Q : Type 0) → Mends a b P → (P → ⊥) → Mends b c Q → Mends a c Q
mends_then a b c P Q first quiet second = record {
  counts = counts_then a.faults b.faults c.faults P Q first.counts quiet second.counts;
  area = mended_then a.held b.held c.held first.area second.area;
}

pub stays_then : {B : Type 0} (o mid n : Opened B) (a b c : Seen) (P Q : Type 0) → StaysOpen o mid a b P → (P → ⊥) → StaysOpen mid n b c Q → StaysOpen o n a c Q
stays_then o mid n a b c P Q first quiet second = record {
  mends = mends_then a b c P Q first.mends quiet second.mends;
  base = second.base ∙ first.base;
  settled = λ is. let at = first.settled is in let next = second.settled at.0 in (next.0, next.1 ∙ at.1);
  kept = λ is. second.kept (first.settled is).0 ∙ first.kept is;
  open_for = λ cs is.
      let at = first.open_for cs is in
      let next = second.open_for cs at.open_for in
      record {
        open_for = next.open_for;
        moments = leaves_then a b c (λ left. SpellsCatalog left o.base cs) at.moments (subst (λ (x : List ℕ). KeepsSpelling b c x cs) first.base next.moments);
      };
}
