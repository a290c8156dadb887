use Rattle.kit_words.proofs.Common.{◌≡◌, bytes_eq, drop, list_any, map}
use Rattle.cover_report.proofs.names.is_among.Given as goal

abbrev pub invariant-loop-name : goal.invariant-loop-name
invariant-loop-name l = list_any (λ name. bytes_eq l.text name) (map (λ name. name.now) (drop l.name-index l.names)) ≡ list_any (λ name. bytes_eq l.fn.text name) (map (λ name. name.now) l.fn.names)
