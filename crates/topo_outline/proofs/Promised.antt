-- What is answered for a root, and what a fault says of it.
use Rattle.kit_words.proofs.Common.{◌≡◌, ◌≢◌, Bool, true, false, refl, IfOk, IfErr, Result, Ok, Err}
use Rattle.json_spans.specs.Common.{Node}
use Rattle.topo_outline.specs.declared.fault.Limit.TheVariants as limit
use Rattle.topo_outline.specs.Common.{OpenFault, Fails, Gives, OutlineText, few, outline, view_outline, HasOutline}
use Rattle.topo_outline.specs.Common.{HasNoOutline, NestsAtMost}
use Rattle.topo_outline.specs.declared.fault.OpenFault.TheVariants as open_fault
use Rattle.topo_outline.specs.declared.shape.Outline.{Outline}
use Rattle.topo_outline.proofs.Shaped.{outline_means, outline_few, outline_gives}

-- beside an answer that is defined the code may only lack memory
lacks_memory : (f : OpenFault) (o : OutlineText) → Fails f (Ok o) → f ≡ open_fault.OutOfMemory
lacks_memory open_fault.OutOfMemory o h = refl
lacks_memory (open_fault.NotJson place) o h = absurd h
lacks_memory (open_fault.Conflict s t) o h = absurd h
lacks_memory (open_fault.TooLarge limit.Bytes) o h = absurd h
lacks_memory _ o h = absurd cc

pub opened : {A : Type 0} (root : Node) (r : Result (Outline A) OpenFault) → Gives view_outline r (outline root) → IfOk r (λ o. HasOutline root (view_outline o))
opened root (Ok o) h = λ k nests. outline_means k root (view_outline o) nests h
opened root (Err f) h = tt

pub few_features : {A : Type 0} (root : Node) (r : Result (Outline A) OpenFault) → Gives view_outline r (outline root) → IfOk r (λ o. few (view_outline o).layers ≡ true)
few_features root (Ok o) h = outline_few root (view_outline o) h
few_features root (Err f) h = tt

none : (root : Node) (f : OpenFault) → Fails f (outline root) → f ≢ open_fault.OutOfMemory → NestsAtMost 100 root → HasNoOutline root
none root f h short nests o s = by (few o.layers) refl
  where
    by : (b : Bool) → few o.layers ≡ b → few o.layers ≡ false
    by true e = absurd (short (lacks_memory f o (rw (outline_gives root o nests s e) at h)))
    by false e = e

pub refused : {A : Type 0} (root : Node) (r : Result (Outline A) OpenFault) → Gives view_outline r (outline root) → IfErr r (λ f. f ≢ open_fault.OutOfMemory → NestsAtMost 100 root → HasNoOutline root)
refused root (Ok o) h = tt
refused root (Err f) h = none root f h
