-- A place in one of the copied parts.
use Rattle.kit_words.proofs.Common.{◌≡◌, ℕ, ◌+◌, ◌<◌, ◌≤◌, List, length, get_or, drop, map, refl, drop-cons, add-one, drop_all}
use Rattle.kit_words.proofs.Common.{Bool, true, false, cond, Option, Some, None, option_map}
use Rattle.geo_topology.specs.declared.part.Part.{Part}
use Rattle.geo_topology.specs.Places.{part_has_place, place_in, in_file}
use Rattle.geo_topology.specs.Text.{CopiedPart}
use Rattle.geo_topology.specs.Views.{view_part}

by_test : (place : ℕ) (b : Bool) (p : CopiedPart) (o : Option CopiedPart) → option_map (place_in place) (cond b (Some p) o) ≡ cond b (Some (place_in place p)) (option_map (place_in place) o)
by_test place true p o = refl
by_test place false p o = refl

pub place_step : (place : ℕ) (ps : List Part) (i : ℕ) (d : Part) → i < length ps → in_file (map view_part (drop i ps)) place ≡ cond (part_has_place place (view_part (get_or ps i d))) (Some (place_in place (view_part (get_or ps i d)))) (in_file (map view_part (drop (i + 1) ps)) place)
place_step place ps i d lt = rw (drop-cons ps i d lt, add-one i) (by_test place (part_has_place place (view_part (get_or ps i d))) (view_part (get_or ps i d)) _)

pub place_end : (place : ℕ) (ps : List Part) (i : ℕ) → length ps ≤ i → in_file (map view_part (drop i ps)) place ≡ None
place_end place ps i le = rw (drop_all i ps le) refl
