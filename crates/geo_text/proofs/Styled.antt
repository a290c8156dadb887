-- How the positions of a map are written, by what was read of it.
use Rattle.kit_words.proofs.Common.{◌≡◌, ℕ, ◌∙◌, List, Vec, Option, Some, None, Result, Ok, Err, ap, sym, refl, map, flat_map, codes}
use Rattle.grid_geometry.specs.Common.{Position, edges}
use Rattle.ring_machine.specs.Common.{Document, rings}
use Rattle.topo_outline.specs.Common.{bad_member}
use Rattle.topo_reader.specs.Common.{IsOfRings, Opened, Polygons, document_of, feature_positions, positions_of}
use Rattle.topo_reader.proofs.Common.{rings_within}
use Rattle.grid_decimals.specs.Common.{GridOf, grid_of}
use Rattle.geo_features.specs.declared.fault.ExportFault.{ExportFault}
use Rattle.geo_features.specs.Faults.{GeoFault, of_map, ◌>>=◌}
use Rattle.geo_features.specs.Gives.{IsGeoFault}
use Rattle.geo_text.specs.Text.{decimals_for, longest_side, style_of, there}
use Rattle.geo_features.specs.Style.{Style}
use Rattle.geo_text.specs.Wants.{Wants}
use Rattle.geo_features.proofs.Carrying.{carry}
use Rattle.geo_text.proofs.ReadRings.{rings_held, rings_read}
use Rattle.geo_text.proofs.Sides.{longest_of}

-- the longest side of what the code holds is that of the document
pub longest_same : {A : Type 0} (o : Opened) (fs : List (Vec (Vec (Vec Position A) A) A)) → IsOfRings o → o.polygons ≡ map feature_positions fs
    → longest_of 0 (flat_map edges (flat_map (λ polygon. map positions_of polygon.items) (flat_map (λ polygons. polygons.items) fs))) ≡ longest_side (document_of o)
longest_same o fs is e =
    ap (λ (rs : List (List Position)). longest_of 0 (flat_map edges rs)) (sym (rings_read o is ∙ ap (λ (ps : List Polygons). flat_map rings_within ps) e ∙ rings_held fs))

styled_with : (wants : Wants) (d : Document) (g : GridOf) → grid_of d.transform ≡ Some g
    → style_of wants d ≡ (decimals_for wants.decimals (longest_side d) g >>= λ k. Ok (record { grid = g; decimals = k; keeps_winding = wants.keeps_winding }))
styled_with wants d g e =
    ap (λ (o : Option GridOf). there o >>= λ h. decimals_for wants.decimals (longest_side d) h >>= λ k. Ok (record { grid = h; decimals = k; keeps_winding = wants.keeps_winding })) e

pub styled : (wants : Wants) (d : Document) (g : GridOf) (longest k : ℕ) → grid_of d.transform ≡ Some g → longest ≡ longest_side d
    → decimals_for wants.decimals longest g ≡ Ok k → style_of wants d ≡ Ok (record { grid = g; decimals = k; keeps_winding = wants.keeps_winding })
styled wants d g longest k e l is =
    styled_with wants d g e
    ∙ ap (λ (r : Result ℕ GeoFault). r >>= λ k. Ok (record { grid = g; decimals = k; keeps_winding = wants.keeps_winding })) (ap (λ n. decimals_for wants.decimals n g) (sym l) ∙ is)

pub style_stops : (e : ExportFault) (wants : Wants) (d : Document) (g : GridOf) (longest : ℕ) → grid_of d.transform ≡ Some g → longest ≡ longest_side d
    → IsGeoFault e (decimals_for wants.decimals longest g) → IsGeoFault e (style_of wants d)
style_stops e wants d g longest is l h =
    carry e (decimals_for wants.decimals longest g) (style_of wants d)
    (λ x fx. styled_with wants d g is
    ∙ ap (λ (r : Result ℕ GeoFault). r >>= λ k. Ok (record { grid = g; decimals = k; keeps_winding = wants.keeps_winding })) (ap (λ n. decimals_for wants.decimals n g) (sym l) ∙ fx)) h

pub no_style : (wants : Wants) (d : Document) → grid_of d.transform ≡ None → style_of wants d ≡ Err (of_map (bad_member (codes "transform")))
no_style wants d e =
    ap (λ (o : Option GridOf). there o >>= λ h. decimals_for wants.decimals (longest_side d) h >>= λ k. Ok (record { grid = h; decimals = k; keeps_winding = wants.keeps_winding })) e
