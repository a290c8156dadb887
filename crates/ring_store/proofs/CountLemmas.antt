-- An index that counts.
use Rattle.kit_words.proofs.Common.{◌≡◌}
use Rattle.ring_store.specs.Common.{Indexed}

-- what an index holds, and its cells, are all that is seen of it
pub same_index : (a b : Indexed) → a.held ≡ b.held → a.cells ≡ b.cells → a ≡ b
same_index a b e f = λ i. record { held = e i; cells = f i }
