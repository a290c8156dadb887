-- Names one after another, as a loop meets them.
use Rattle.kit_words.proofs.Common.{◌≡◌, ◌+◌, ◌<◌, ◌≤◌, ℕ, List, [], ◌∷◌, ◌||◌, ◌&&◌, true, false, length, get_or, drop, map, refl, ap, Option, None}
use Rattle.kit_words.proofs.Common.{list_any, bytes_eq, drop-cons, drop_all, add-one, Bor}
use Rattle.topo_outline.specs.Common.{LayerText, view_layer}
use Rattle.topo_outline.specs.declared.document.RawLayer.{RawLayer}
use Rattle.cover_report.specs.Names.{are_there, has_name, is_one_of, is_text_of}

pub any_step : (t : List ℕ) (names : List (Bor (List ℕ))) (i : ℕ) (d : Bor (List ℕ)) → i < length names
    → list_any (λ name. bytes_eq t name) (map (λ name. name.now) (drop i names))
    ≡ (bytes_eq t (get_or names i d).now || list_any (λ name. bytes_eq t name) (map (λ name. name.now) (drop (i + 1) names)))
any_step t names i d lt = rw (drop-cons names i d lt, add-one i) refl

pub any_end : (t : List ℕ) (names : List (Bor (List ℕ))) (i : ℕ) → length names ≤ i
    → list_any (λ name. bytes_eq t name) (map (λ name. name.now) (drop i names)) ≡ false
any_end t names i le = rw (drop_all i names le) refl

pub has_step : {A : Type 0} (name : List ℕ) (layers : List (RawLayer A)) (i : ℕ) (d : RawLayer A) → i < length layers
    → has_name (map view_layer (drop i layers)) name
    ≡ (is_one_of (name ∷ []) (get_or layers i d).name.now || has_name (map view_layer (drop (i + 1) layers)) name)
has_step name layers i d lt = rw (drop-cons layers i d lt, add-one i) refl

pub has_end : {A : Type 0} (name : List ℕ) (layers : List (RawLayer A)) (i : ℕ) → length layers ≤ i
    → has_name (map view_layer (drop i layers)) name ≡ false
has_end name layers i le = rw (drop_all i layers le) refl

pub there_step : (names : List (Bor (List ℕ))) (layers : List LayerText) (i : ℕ) (d : Bor (List ℕ)) → i < length names
    → are_there (map (λ name. name.now) (drop i names)) layers
    ≡ (has_name layers (get_or names i d).now && are_there (map (λ name. name.now) (drop (i + 1) names)) layers)
there_step names layers i d lt = rw (drop-cons names i d lt, add-one i) refl

pub there_end : (names : List (Bor (List ℕ))) (layers : List LayerText) (i : ℕ) → length names ≤ i
    → are_there (map (λ name. name.now) (drop i names)) layers ≡ true
there_end names layers i le = rw (drop_all i names le) refl

-- what is no string is none of these
pub no_text : (names : List (List ℕ)) (o : Option (List ℕ)) → o ≡ None → is_text_of names o ≡ false
no_text names o e = ap (is_text_of names) e
