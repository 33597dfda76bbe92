-- At most an index is put.
use Rattle.std.proofs.Common.{◌≡◌, ◌⊎◌, ℕ, List, [], ◌∷◌, Bool, true, false, Option, Err, Result, inl, inr, ◌∙◌, ap, subst, option_map, arith}
use Rattle.std.specs.Prelude.{IsErrOf}
use Rattle.feed_base.specs.Counts.{CountsFault}
use Rattle.blob_store.specs.Area.{Area, with_blob}
use Rattle.blob_store.specs.Events.{Act}
use Rattle.blob_store.specs.Plans.{Makes}
use Rattle.blob_store.specs.Seen.{Seen}
use Rattle.blob_store.specs.declared.error.BlobErr.TheVariants as blob
use Rattle.blob_store.proofs.Told.{made_quietly}
use Rattle.catalog_doc.specs.Documents.{index_text}
use Rattle.catalog_doc.specs.Names.{index_name}
use Rattle.catalog_doc.specs.declared.head.PageHead.{PageHead}
use Rattle.catalog_opening.specs.Openings.{IsMended, mending, Mends}
use Rattle.catalog_opening.specs.Plans.{HaltsAt, index_change}
use Rattle.catalog_opening.specs.declared.error.ReadErr.{ReadErr}
use Rattle.catalog_opening.specs.declared.error.ReadErr.TheVariants.{Damaged, Fault, Memory}
use Rattle.catalog_opening.proofs.Halting.{AreGets, gets_keep, halt_counts, halt_keeps}
use Rattle.catalog_opening.proofs.Prefixes.{some_one, stopped_one}

pub mends_as : (a b : Seen) (P Q : Type 0) → (P → Q) → (Q → P) → Mends a b P → Mends a b Q
mends_as a b P Q to back mends = record {
  counts = record { later = mends.counts.later; risen = λ q. mends.counts.risen (back q); kept = λ no. mends.counts.kept (λ p. no (to p)) };
  area = mends.area;
}

-- at a result that tells this error
pub mends_told : {A E : Type 0} (a b : Seen) (result : Result A E) (own fault : E) → result ≡ Err own → Mends a b (own ≡ fault) → Mends a b (IsErrOf result fault)
mends_told a b result own fault is mends = mends_as a b (own ≡ fault) (IsErrOf result fault) (λ same. is ∙ ap Err same) (λ told. let same : own ≡ fault = cc in same) mends

pub mends_reading : (plan : List Act) (error : ReadErr) (a b : Seen) → AreGets plan → HaltsAt plan error a b → Mends a b (error ≡ Fault)
mends_reading plan error a b gets halts = record { counts = halt_counts plan error a b halts; area = inl (halt_keeps plan error a b gets halts) }

put_or_not : (base : List ℕ) (heads : List PageHead) (a b : Seen) → (b.held ≡ a.held) ⊎ (b.held ≡ option_map (with_blob index_name (index_text base heads)) a.held) → IsMended a.held b.held
put_or_not base heads a b (inl kept) = inl kept
put_or_not base heads a b (inr put) = inr (base, heads, put)

change_mends : (base : List ℕ) (heads : List PageHead) (error : ReadErr) (a b : Seen) → HaltsAt (index_change base heads ∷ []) error a b → IsMended a.held b.held
change_mends base heads (Damaged name) a b some = put_or_not base heads a b (some_one (index_change base heads) a b some)
change_mends base heads Fault a b stops = put_or_not base heads a b (stopped_one (index_change base heads) blob.Failed a b stops)
change_mends base heads Memory a b (inl stops) = put_or_not base heads a b (stopped_one (index_change base heads) blob.Memory a b stops)
change_mends base heads Memory a b (inr some) = put_or_not base heads a b (some_one (index_change base heads) a b some)

pub mends_halted : (base : List ℕ) (settled : Bool) (heads : List PageHead) (error : ReadErr) (a b : Seen) → HaltsAt (mending base settled heads) error a b → Mends a b (error ≡ Fault)
mends_halted base true heads error a b halts = mends_reading [] error a b tt halts
mends_halted base false heads error a b halts = record { counts = halt_counts (index_change base heads ∷ []) error a b halts; area = change_mends base heads error a b halts }

quiet : (a b : Seen) (failed : Type 0) → (failed → ⊥) → b.faults ≡ a.faults → CountsFault a.faults b.faults failed
quiet a b failed never same = record { later = omega (arith, same); risen = λ is. absurd (never is); kept = λ _. same }

pub mends_gets : (plan : List Act) (a b : Seen) (failed : Type 0) → (failed → ⊥) → AreGets plan → Makes plan a b → Mends a b failed
mends_gets plan a b failed never gets made = record { counts = quiet a b failed never (made_quietly plan a b made); area = inl (gets_keep plan a b gets made) }

pub mends_made : (base : List ℕ) (settled : Bool) (heads : List PageHead) (a b : Seen) (failed : Type 0) → (failed → ⊥) → Makes (mending base settled heads) a b → Mends a b failed
mends_made base true heads a b failed never made = mends_gets [] a b failed never tt made
mends_made base false heads a b failed never made = record { counts = quiet a b failed never (made_quietly (index_change base heads ∷ []) a b made); area = inr (base, heads, made.area) }

moved : (x y z : Option Area) → y ≡ x → IsMended y z → IsMended x z
moved x y z same mended = subst (λ (o : Option Area). IsMended o z) same mended

-- behind gets
pub mends_behind : (plan : List Act) (a b c : Seen) (failed : Type 0) → AreGets plan → Makes plan a b → Mends b c failed → Mends a c failed
mends_behind plan a b c failed gets made mends =
    let same = made_quietly plan a b made in
    record {
      counts = subst (λ (n : ℕ). CountsFault n c.faults failed) same mends.counts;
      area = moved a.held b.held c.held (gets_keep plan a b gets made) mends.area;
    }
