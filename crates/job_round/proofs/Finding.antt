-- What was found in the hive's area.
use Rattle.std.proofs.Common.{◌≡◌, ℕ, List, Option, Some, None, IfSome, sym, ◌∙◌, subst}
use Rattle.std.specs.FinMap.{get}
use Rattle.blob_store.specs.Area.{Area}
use Rattle.blob_store.specs.Events.{Act}
use Rattle.blob_store.specs.Plans.{Makes}
use Rattle.blob_store.specs.Seen.{Seen}
use Rattle.job_round.specs.Stops.{IfHiveDamaged, JobHaltsAt, IsDamage, IsOfHive}
use Rattle.job_round.specs.declared.stop.Stop.{Stop}
use Rattle.job_round.specs.declared.stop.Stop.TheVariants.{CatalogFault, HiveFault, CatalogDamaged, HiveDamaged, Memory}
use Rattle.job_round.proofs.Halting.{halts_behind}

pub with_found : (held : Option Area) (name : List ℕ) (found : Option (List ℕ)) (P : Option (List ℕ) → Type 0) → IfSome held (λ m. found ≡ get m name) → P found → IfSome held (λ m. P (get m name))
with_found None name found P is here = tt
with_found (Some m) name found P is here = subst P is here

pub found_as : (held : Option Area) (name : List ℕ) (found other : Option (List ℕ)) → found ≡ other → IfSome held (λ m. found ≡ get m name) → IfSome held (λ m. other ≡ get m name)
found_as None name found other same is = tt
found_as (Some m) name found other same is = sym same ∙ is

pub damage_halts : (P : List ℕ → Type 0) (plan : List Act) (stop : Stop) (a b : Seen) → IsDamage P stop → Makes plan a b → JobHaltsAt plan stop a b
damage_halts P plan CatalogFault a b damage made = absurd damage
damage_halts P plan HiveFault a b damage made = absurd damage
damage_halts P plan (CatalogDamaged name) a b damage made = absurd damage
damage_halts P plan (HiveDamaged name) a b damage made = halts_behind plan (HiveDamaged name) a b tt made
damage_halts P plan Memory a b damage made = halts_behind plan Memory a b tt made

pub damage_of_hive : (P R : List ℕ → Type 0) (stop : Stop) → ((name : List ℕ) → P name → R name) → IsDamage P stop → IsOfHive R stop
damage_of_hive P R CatalogFault more damage = absurd damage
damage_of_hive P R HiveFault more damage = absurd damage
damage_of_hive P R (CatalogDamaged name) more damage = absurd damage
damage_of_hive P R (HiveDamaged name) more damage = more name damage
damage_of_hive P R Memory more damage = tt

-- a stop of the store tells no damaged blob
pub no_damage : (M : Type 0) (stop : Stop) → IsOfHive (λ name. ⊥) stop → IfHiveDamaged stop M
no_damage M CatalogFault own = absurd own
no_damage M HiveFault own = tt
no_damage M (CatalogDamaged name) own = absurd own
no_damage M (HiveDamaged name) own = absurd own
no_damage M Memory own = tt

-- whatever a stop tells, what holds anyway holds where it tells a damaged blob
pub damage_told : (M : Type 0) (stop : Stop) → M → IfHiveDamaged stop M
damage_told M CatalogFault holds = tt
damage_told M HiveFault holds = tt
damage_told M (CatalogDamaged name) holds = tt
damage_told M (HiveDamaged name) holds = holds
damage_told M Memory holds = tt
