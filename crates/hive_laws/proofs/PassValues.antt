-- The states that a plan puts are of the code's values where its two states are.
use Rattle.std.proofs.Common.{ℕ, List, [], ◌∷◌, ◌++◌, map, Bool, true, false, Option, None, Some}
use Rattle.hive_state.specs.Reading.{IsStateValue}
use Rattle.hive_laws.specs.Plans.{NamedBytes, PassPlan, pass_steps, puts_of_docs, puts_of_index, removals_of_index}
use Rattle.hive_laws.specs.Steps.{Step, PutState, RemoveDoc}
use Rattle.hive_laws.proofs.AreaSteps.{HaveValues, values_joined}

module _ (key : List ℕ) where
  of_puts : (docs : List NamedBytes) → HaveValues key (puts_of_docs docs)
  of_puts [] = tt
  of_puts (d ∷ docs) = (tt, of_puts docs)

  of_index : (o : Option (List ℕ)) → HaveValues key (puts_of_index key o)
  of_index None = tt
  of_index (Some bytes) = (tt, tt)

  of_index_removals : (b : Bool) → HaveValues key (removals_of_index key b)
  of_index_removals false = tt
  of_index_removals true = (tt, tt)

  of_removals : (names : List (List ℕ)) → HaveValues key (map RemoveDoc names)
  of_removals [] = tt
  of_removals (name ∷ names) = (tt, of_removals names)

  pub plan_values : (plan : PassPlan) → IsStateValue plan.dirty → IsStateValue plan.clean → HaveValues key (pass_steps key plan)
  plan_values plan dirty clean =
      let last : List Step = PutState plan.clean ∷ [] in
      let removals : List Step = map RemoveDoc plan.removed ++ last in
      let drops : List Step = removals_of_index key plan.drops_index ++ removals in (
        dirty,
        values_joined key (puts_of_docs plan.written) (puts_of_index key plan.index ++ drops) (of_puts plan.written)
            (values_joined key (puts_of_index key plan.index) drops (of_index plan.index)
            (values_joined key (removals_of_index key plan.drops_index) removals (of_index_removals plan.drops_index)
            (values_joined key (map RemoveDoc plan.removed) last (of_removals plan.removed) (clean, tt)))),
      )
