-- Members that are put one by one.
use Rattle.kit_words.proofs.Common.{◌≡◌, ℕ, ◌+◌, ◌<◌, ◌≤◌, List, [], ◌++◌, ◌||◌, length, get_or, drop, map, refl, drop-cons}
use Rattle.kit_words.proofs.Common.{add-one, Bool, not, codes, drop_all}
use Rattle.geo_topology.specs.declared.members.Owner.{Owner}
use Rattle.geo_topology.specs.declared.members.Owner.TheVariants as owner
use Rattle.geo_topology.specs.declared.entry.Entry.{Entry}
use Rattle.geo_topology.specs.Members.{has_own_place}
use Rattle.geo_topology.specs.Pieces.{kept_one, foreign, before_inside, end_inside, inside}
use Rattle.geo_topology.specs.Views.{view_named}

pub foreign_step : (o : Owner) (es : List Entry) (i : ℕ) (d : Entry) → i < length es → foreign o (map view_named (drop i es)) ≡ kept_one (has_own_place o (get_or es i d).word) (codes ",") (view_named (get_or es i d)) ++ foreign o (map view_named (drop (i + 1) es))
foreign_step o es i d lt = rw (drop-cons es i d lt, add-one i) refl

pub foreign_end : (o : Owner) (es : List Entry) (i : ℕ) → length es ≤ i → foreign o (map view_named (drop i es)) ≡ []
foreign_end o es i le = rw (drop_all i es le) refl

pub inside_step : (b : Bool) (es : List Entry) (i : ℕ) (d : Entry) → i < length es → inside b (map view_named (drop i es)) ≡ kept_one (has_own_place owner.Geometry (get_or es i d).word) (before_inside b) (view_named (get_or es i d)) ++ inside (b || not (has_own_place owner.Geometry (get_or es i d).word)) (map view_named (drop (i + 1) es))
inside_step b es i d lt = rw (drop-cons es i d lt, add-one i) refl

pub inside_end : (b : Bool) (es : List Entry) (i : ℕ) → length es ≤ i → inside b (map view_named (drop i es)) ≡ end_inside b
inside_end b es i le = rw (drop_all i es le) refl
