-- Rings whose keys were gathered.
use Rattle.kit_words.proofs.Common.{◌≡◌, ℕ, sym, ap, ◌∙◌, subst, List, [], ◌++◌, Some, IfSome, IsTrue}
use Rattle.std.specs.FinMap as table
use Rattle.ring_machine.proofs.Common.{there}
use Rattle.arc_tables.specs.Common.{Rings, begins, edges}
use Rattle.ring_store.specs.Common.{AllRound}
use Rattle.ring_store.proofs.Edges.{edges_again}

-- the keys of a ring, appended to none, are those that it goes along
pub gathered_keys : (m : Rings) (r : ℕ) (old new : List ℕ) → AllRound m → IsTrue (table.contains_key m r)
    → old ≡ [] → IfSome (table.get m r) (λ es. new ≡ old ++ begins es)
    → table.get m r ≡ Some (edges new)
gathered_keys m r old new round here none h =
    let o = there (table.get m r) here in
    let is : new ≡ old ++ begins o.0 = subst (λ z. IfSome z (λ es. new ≡ old ++ begins es)) o.1 h in
    o.1 ∙ ap Some (sym (ap edges (is ∙ ap (λ z. z ++ begins o.0) none) ∙ edges_again o.0 (round r o.0 o.1)))
