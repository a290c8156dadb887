-- What a list of bytes took is the text of the layer.
use Rattle.kit_words.proofs.Common.{◌≡◌, ◌∙◌, ap, sym, subst, ℕ, List, [], ◌++◌, Option, Some, Ok}
use Rattle.std.specs.Io.KnownBytes.{Appends}
use Rattle.device_io.specs.declared.Sink as sink
use Rattle.topo_reader.specs.Common.{document_of}
use Rattle.geo_text.specs.Common.{IsSent, Wants, geo_text}
use Rattle.border_export.specs.Written.{IsLayerText}

-- a list that was empty has what it took
taken_text : (old new text : List ℕ) → Appends (Some old) (Some new) text → old ≡ [] → new ≡ text
taken_text old new text appends none = appends ∙ ap (λ (z : List ℕ). z ++ text) none

-- a sink that shows these bytes, and showed none before, has taken the text
pub layer_sent : {W : Type 0} (its : sink.Ghosts W) (asked wants : Wants) (bytes : List ℕ) (old new : W) (before after : List ℕ)
    → its.taken old ≡ Some before → its.taken new ≡ Some after → before ≡ [] → asked ≡ wants → IsSent its asked bytes old new → IsLayerText wants bytes after
layer_sent its asked wants bytes old new before after was is none same sent = record {
  map = sent.map;
  opens = sent.opens;
  is = ap (λ (w : Wants). geo_text w (document_of sent.map)) (sym same) ∙ (sent.sent.is ∙ ap (λ (t : List ℕ). Ok t)
      (sym (taken_text before after sent.sent.text
      (subst (λ (o : Option (List ℕ)). Appends o (Some after) sent.sent.text) was
      (subst (λ (n : Option (List ℕ)). Appends (its.taken old) n sent.sent.text) is sent.sent.took.taken)) none)));
}
