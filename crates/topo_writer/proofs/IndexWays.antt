-- The pieces of a ring, found one after another.
use Rattle.kit_words.proofs.Common.{◌≡◌, ℤ, pos, sym, ap, ◌∙◌, List, [], ◌∷◌, ◌++◌, append_assoc, Some, unwrap_or}
use Rattle.grid_geometry.specs.Common.{Position}
use Rattle.topo_writer.specs.Common.{Arcs, first_edge, arc_found, with_found, Fits, Finds, all_found, indexes_found, FitAll}

-- the table has arcs that become all these with the pieces that are left, and the indexes so far become
-- all these
pub record Indexing {A : Type 0} (table : Arcs A) (indexes : List ℤ) (left all : List (List Position)) (whole : List ℤ) : Type 0 where
  pub arcs : List (List Position)
  pub finds : Finds table arcs
  pub fits : FitAll arcs left
  pub leads : all_found arcs left ≡ all
  pub names : indexes ++ indexes_found arcs left ≡ whole

module _ {A : Type 0} where
  pub index_step : (old new : Arcs A) (indexes : List ℤ) (piece : List Position) (left all : List (List Position)) (whole : List ℤ) (i : ℤ)
      → Indexing old indexes (piece ∷ left) all whole
      → ((arcs : List (List Position)) → Finds old arcs → Fits arcs piece → Finds new (with_found arcs piece))
      → ((arcs : List (List Position)) → Finds old arcs → Fits arcs piece → arc_found (with_found arcs piece) (first_edge piece) ≡ Some i)
      → Indexing new (indexes ++ i ∷ []) left all whole
  index_step old new indexes piece left all whole i w h f =
      let now = with_found w.arcs piece in
      record {
        arcs = now;
        finds = h w.arcs w.finds w.fits.0;
        fits = w.fits.1;
        leads = w.leads;
        names =
            append_assoc indexes (i ∷ []) (indexes_found now left)
            ∙ ap (λ o. indexes ++ (unwrap_or o (pos 0) ∷ indexes_found now left)) (sym (f w.arcs w.finds w.fits.0)) ∙ w.names;
      }
