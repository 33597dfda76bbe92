-- The steps of an opening over pages that fit their index.
use Rattle.std.proofs.Common.{◌≡◌, ◌≢◌, ◌+◌, ℕ, List, [], ◌∷◌, ◌++◌, length, Bool, true, false, Option, Some, None, Err, Result, inl, inr, refl, sym, ◌∙◌, ap, subst}
use Rattle.std.specs.Prelude.{◌↔◌, IfErr, IsErrOf, IsTrue}
use Rattle.std.specs.FinMap.{get}
use Rattle.blob_store.specs.Area.{Area}
use Rattle.blob_store.specs.Events.{Act, Get}
use Rattle.blob_store.specs.Plans.{Makes}
use Rattle.blob_store.specs.Seen.{Seen}
use Rattle.blob_store.proofs.InMemory.{some_all, some_early}
use Rattle.catalog_doc.specs.Documents.{index_text}
use Rattle.catalog_doc.specs.Names.{index_name}
use Rattle.catalog_doc.specs.declared.head.PageHead.{PageHead}
use Rattle.catalog_doc.specs.declared.row.Row.{Row}
use Rattle.catalog_opening.specs.Errors.{IfDamagedBy, IfDamagedIn, IfDamagedOpening, open_err_of}
use Rattle.catalog_opening.specs.Openings.{IsMending, IsToldBase, mending, Mends, opening_gets, Opens, TellsBases}
use Rattle.catalog_opening.specs.Pages.{IsHeldAs}
use Rattle.catalog_opening.specs.Plans.{HaltsAt, index_change, page_gets}
use Rattle.catalog_opening.specs.declared.error.OpenErr.{OpenErr}
use Rattle.catalog_opening.specs.declared.error.OpenErr.TheVariants as opening
use Rattle.catalog_opening.specs.declared.error.ReadErr.{ReadErr}
use Rattle.catalog_opening.specs.declared.error.ReadErr.TheVariants.{Damaged, Fault, Memory}
use Rattle.catalog_opening.specs.Reads.{IsReadAsIndex, IsReadIndex}
use Rattle.catalog_opening.specs.declared.index.Index.{Index}
use Rattle.catalog_opening.specs.declared.opening.Known.{Known}
use Rattle.catalog_opening.proofs.Mended.{mends_as, mends_told}

-- the calls that mend are those that the code makes
pub mending_is : (base : List ℕ) (heads own : List PageHead) (settled : Bool) (pages : List PageHead) (acts : List Act) → own ≡ pages → IsTrue settled ↔ (own ≡ heads) → IsMending base heads pages acts → acts ≡ mending base settled own
mending_is base heads own true pages acts is settled (inl (same, none)) = none
mending_is base heads own false pages acts is settled (inl (same, none)) = absurd (let wrong : IsTrue false = settled.1 (is ∙ same) in let no : ⊥ = cc in no)
mending_is base heads own true pages acts is settled (inr (other, put)) = absurd (other (sym is ∙ settled.0 refl))
mending_is base heads own false pages acts is settled (inr (other, put)) = put ∙ ap (λ (l : List PageHead). index_change base l ∷ []) (sym is)

module _ (given : Option (List ℕ)) (base : List ℕ) (heads : List PageHead) (pages : List (List Row)) (acts : List Act) (a b : Seen) (result : Result Known OpenErr) where
  abbrev plan : List Act
  plan = opening_gets (length heads) ++ acts

  -- a read stopped it
  pub opens_halted : (error : ReadErr) → result ≡ Err (open_err_of error) → HaltsAt plan error a b → IfDamagedBy error (λ name. ⊥) → Opens given base heads pages acts a b result
  opens_halted (Damaged name) is halts whole = absurd whole
  opens_halted Fault is halts whole = subst (Opens given base heads pages acts a b) (sym is) (record { answers = tt; runs = halts })
  opens_halted Memory is halts whole = subst (Opens given base heads pages acts a b) (sym is) (record { answers = tt; runs = halts })

  -- another base address is given
  pub opens_refused : (stored other : List ℕ) (error : OpenErr) → stored ≡ base → result ≡ Err error → given ≡ Some other → other ≢ stored → TellsBases stored other error → Makes (Get index_name ∷ []) a b → Opens given base heads pages acts a b result
  opens_refused stored other opening.Fault same is gives differs told made = absurd told
  opens_refused stored other opening.Missing same is gives differs told made = absurd told
  opens_refused stored other (opening.Damaged name) same is gives differs told made = absurd told
  opens_refused stored other (opening.BaseDiffers first second) same is gives differs told made = subst (Opens given base heads pages acts a b) (sym is) (record {
    answers = (told.0 ∙ same, gives ∙ ap Some (sym told.1), λ e. differs (sym told.1 ∙ e ∙ sym same));
    runs = made;
  })
  opens_refused stored other opening.Memory same is gives differs told made = subst (Opens given base heads pages acts a b) (sym is) (record {
    answers = tt;
    runs = inr (some_early (Get index_name ∷ []) (page_gets 0 (length heads + 1) ++ acts) a b (some_all (Get index_name ∷ []) a b made));
  })

pub damage_none : (P : List ℕ → Type 0) (error : ReadErr) → ((name : List ℕ) → P name → ⊥) → IfDamagedBy error P → IfDamagedBy error (λ name. ⊥)
damage_none P (Damaged name) none told = none name told
damage_none P Fault none told = tt
damage_none P Memory none told = tt

fault_back : (error : ReadErr) → open_err_of error ≡ opening.Fault → error ≡ Fault
fault_back (Damaged name) is = cc
fault_back Fault is = refl
fault_back Memory is = cc

pub mends_open : {A : Type 0} (a b : Seen) (result : Result A OpenErr) (error : ReadErr) → result ≡ Err (open_err_of error) → Mends a b (error ≡ Fault) → Mends a b (IsErrOf result opening.Fault)
mends_open a b result error is mends =
    mends_told a b result (open_err_of error) opening.Fault is (mends_as a b (error ≡ Fault) (open_err_of error ≡ opening.Fault) (ap open_err_of) (fault_back error) mends)

not_missing : (error : ReadErr) → open_err_of error ≡ opening.Missing → ⊥
not_missing (Damaged name) is = cc
not_missing Fault is = cc
not_missing Memory is = cc

pub never_missing : {A : Type 0} (result : Result A OpenErr) (error : ReadErr) → result ≡ Err (open_err_of error) → IsErrOf result opening.Missing → ⊥
never_missing result error is told = not_missing error (let same : open_err_of error ≡ opening.Missing = cc in same)

pub opening_damaged : {A : Type 0} (P Q : List ℕ → Type 0) (result : Result A OpenErr) (error : ReadErr) → result ≡ Err (open_err_of error) → ((name : List ℕ) → P name → Q name) → IfDamagedBy error P → IfDamagedOpening result Q
opening_damaged P Q result error is to told = subst (λ (r : Result _ OpenErr). IfDamagedOpening r Q) (sym is) (weaker error told)
  where
    weaker : (e : ReadErr) → IfDamagedBy e P → IfDamagedIn (open_err_of e) Q
    weaker (Damaged name) holds = to name holds
    weaker Fault holds = tt
    weaker Memory holds = tt

-- where another base address is given, no fault is told, and nothing is missing or damaged
pub refused_quietly : (base other : List ℕ) (error : OpenErr) → TellsBases base other error → (error ≡ opening.Fault → ⊥) × (error ≡ opening.Missing → ⊥)
refused_quietly base other opening.Fault told = absurd told
refused_quietly base other opening.Missing told = absurd told
refused_quietly base other (opening.Damaged name) told = absurd told
refused_quietly base other (opening.BaseDiffers first second) told = ((λ is. let no : ⊥ = cc in no), λ is. let no : ⊥ = cc in no)
refused_quietly base other opening.Memory told = ((λ is. let no : ⊥ = cc in no), λ is. let no : ⊥ = cc in no)

pub refused_whole : {A : Type 0} (base other : List ℕ) (error : OpenErr) (result : Result A OpenErr) (Q : List ℕ → Type 0) → result ≡ Err error → TellsBases base other error → IfDamagedOpening result Q
refused_whole base other error result Q is told = subst (λ (r : Result _ OpenErr). IfDamagedOpening r Q) (sym is) (whole error told)
  where
    whole : (e : OpenErr) → TellsBases base other e → IfDamagedIn e Q
    whole opening.Fault t = absurd t
    whole opening.Missing t = absurd t
    whole (opening.Damaged name) t = absurd t
    whole (opening.BaseDiffers first second) t = tt
    whole opening.Memory t = tt

pub told_is : {A E : Type 0} (result : Result A E) (own other : E) → result ≡ Err own → IsErrOf result other → own ≡ other
told_is result own other is told = let same : own ≡ other = cc in same

-- an index that was read is the one held
pub read_index_is : (held : Option (List ℕ)) (found : Option Index) (index : Index) → found ≡ Some index → IsReadAsIndex held found → IsReadIndex held index
read_index_is held found index is read = subst (IsReadAsIndex held) is read

pub no_index_is : (held : Option (List ℕ)) (found : Option Index) → found ≡ None → IsReadAsIndex held found → held ≡ None
no_index_is held found is read = subst (IsReadAsIndex held) is read

-- pages that are held below one base address, told by equal ones
pub held_as : (m : Area) (base own : List ℕ) (heads owned : List PageHead) (pages : List (List Row)) → own ≡ base → owned ≡ heads → IsHeldAs m base heads pages → IsHeldAs m own owned pages
held_as m base own heads owned pages same alike held = subst (λ (b : List ℕ). IsHeldAs m b owned pages) (sym same) (subst (λ (l : List PageHead). IsHeldAs m base l pages) (sym alike) held)

pub mends_same : (base own : List ℕ) (heads owned pages : List PageHead) (acts : List Act) → own ≡ base → owned ≡ heads → IsMending base heads pages acts → IsMending own owned pages acts
mends_same base own heads owned pages acts same alike mends = subst (λ (b : List ℕ). IsMending b owned pages acts) (sym same) (subst (λ (l : List PageHead). IsMending base l pages acts) (sym alike) mends)

-- a read tells no base address
pub none_told : (given : Option (List ℕ)) (m : Area) (error : ReadErr) → IsToldBase given m (open_err_of error)
none_told given m (Damaged name) = tt
none_told given m Fault = tt
none_told given m Memory = tt

-- another base address than that of the index held is given
pub told_base : (given : Option (List ℕ)) (m : Area) (base other : List ℕ) (heads : List PageHead) (error : OpenErr)
    → get m index_name ≡ Some (index_text base heads) → given ≡ Some other → other ≢ base → TellsBases base other error → IsToldBase given m error
told_base given m base other heads opening.Fault holds gives differs told = absurd told
told_base given m base other heads opening.Missing holds gives differs told = absurd told
told_base given m base other heads (opening.Damaged name) holds gives differs told = absurd told
told_base given m base other heads (opening.BaseDiffers first second) holds gives differs told =
    (base, heads, holds, (told.0, gives ∙ ap Some (sym told.1), λ e. differs (sym told.1 ∙ e)))
told_base given m base other heads opening.Memory holds gives differs told = tt

-- what holds of the error of a result that is one
pub at_error : {A E : Type 0} (P : E → Type 0) (result : Result A E) (error : E) → result ≡ Err error → P error → IfErr result P
at_error P result error is holds = subst (λ (r : Result _ _). IfErr r P) (sym is) holds
