use Rattle.kit_words.proofs.Common.{◌≡◌, bytes_eq, drop, list_any, map}
use Rattle.geo_features.proofs.names.is_among.Given as goal

abbrev pub invariant-loop-word : goal.invariant-loop-word
invariant-loop-word l = list_any (λ word. bytes_eq l.text word) (map (λ word. word.now) (drop l.word-index l.words)) ≡ list_any (λ word. bytes_eq l.fn.text word) (map (λ word. word.now) l.fn.words)
