-- Names, and members found by them.
use Rattle.kit_words.proofs.Common.{◌≡◌, ℕ, ◌+◌, ◌<◌, ◌≤◌, List, [], ◌∷◌, ◌++◌, length, get_or, drop, map, refl, sym, ◌∙◌}
use Rattle.kit_words.proofs.Common.{drop-cons, add-one, true, false, cond, Result, Ok, Err, Some, None, not, ◌==◌}
use Rattle.kit_words.proofs.Common.{bytes_eq, list_any, append-nil, drop_all}
use Rattle.json_spans.specs.Common.{Node}
use Rattle.topo_outline.specs.Common.{Fault, duplicate, name_text, unquoted, Fails}
use Rattle.topo_outline.specs.declared.fault.OpenFault.{OpenFault}
use Rattle.topo_outline.proofs.Walking.{with_front, regroup, carry}
use Rattle.geo_topology.specs.declared.words.Word.{Word}
use Rattle.geo_topology.specs.declared.members.Owner.{Owner}
use Rattle.geo_topology.specs.declared.entry.Entry.{Entry}
use Rattle.geo_topology.specs.Words.{word_named}
use Rattle.geo_topology.specs.Members.{Named, distinct_members, word_code, member_with_word, barred, is_barred}
use Rattle.geo_topology.specs.Views.{view_named}

pub member_step : (w : Word) (es : List Entry) (i : ℕ) (d : Entry) → i < length es → member_with_word w (map view_named (drop i es)) ≡ cond (word_code (get_or es i d).word == word_code w) (Some (view_named (get_or es i d))) (member_with_word w (map view_named (drop (i + 1) es)))
member_step w es i d lt = rw (drop-cons es i d lt, add-one i) refl

pub member_end : (w : Word) (es : List Entry) (i : ℕ) → length es ≤ i → member_with_word w (map view_named (drop i es)) ≡ None
member_end w es i le = rw (drop_all i es le) refl

pub barred_step : (o : Owner) (es : List Entry) (i : ℕ) (d : Entry) → i < length es → barred o (map view_named (drop i es)) ≡ cond (is_barred o (get_or es i d).word) (Some (view_named (get_or es i d))) (barred o (map view_named (drop (i + 1) es)))
barred_step o es i d lt = rw (drop-cons es i d lt, add-one i) refl

pub barred_end : (o : Owner) (es : List Entry) (i : ℕ) → length es ≤ i → barred o (map view_named (drop i es)) ≡ None
barred_end o es i le = rw (drop_all i es le) refl

-- ---- the names, one by one

pub named_turn : (seen : List (List ℕ)) (front : List Named) (t : List ℕ) (m : Node × Node) (ms left : List (Node × Node)) (whole : Result (List Named) Fault) → left ≡ m ∷ ms → name_text m.0 ≡ Ok t → not (list_any (bytes_eq t) seen) ≡ true → with_front front (distinct_members seen left) ≡ whole →
    with_front (front ++ record { word = word_named t; name = m.0; value = m.1 } ∷ []) (distinct_members (seen ++ t ∷ []) ms) ≡ whole
unfolding distinct_members
named_turn seen front t m ms left whole e is new h = sym (regroup front (record { word = word_named t; name = m.0; value = m.1 }) (distinct_members (seen ++ t ∷ []) ms)) ∙ rw (e, is, new) at h

pub named_again : (seen : List (List ℕ)) (front : List Named) (t : List ℕ) (m : Node × Node) (ms left : List (Node × Node)) (whole : Result (List Named) Fault) → left ≡ m ∷ ms → name_text m.0 ≡ Ok t → not (list_any (bytes_eq t) seen) ≡ false → with_front front (distinct_members seen left) ≡ whole → whole ≡ Err (duplicate (unquoted m.0.bytes))
unfolding distinct_members
named_again seen front t m ms left whole e is new h = sym (rw (e, is, new) at h)

pub named_stop : (o : OpenFault) (seen : List (List ℕ)) (front : List Named) (m : Node × Node) (ms left : List (Node × Node)) (whole : Result (List Named) Fault) → left ≡ m ∷ ms → Fails o (name_text m.0) → with_front front (distinct_members seen left) ≡ whole → Fails o whole
unfolding distinct_members
named_stop o seen front m ms left whole e is h = carry o (name_text m.0) whole (λ x fx. sym (rw (e, fx) at h)) is

pub named_end : (seen : List (List ℕ)) (front : List Named) (left : List (Node × Node)) (whole : Result (List Named) Fault) → left ≡ [] → with_front front (distinct_members seen left) ≡ whole → whole ≡ Ok front
unfolding distinct_members
named_end seen front left whole e h = sym (rw (e, append-nil front) at h)
