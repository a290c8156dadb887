-- The written text of a tree of items is read as a geometry with the same items.
use Rattle.kit_words.proofs.Common.{◌≡◌, List, [], ◌∷◌, ◌++◌, map, ℤ, AllByRecursion, AllZip, all_front, all_back}
use Rattle.kit_words.proofs.Common.{zip_joined}
use Rattle.ring_machine.specs.Common.{Text, Head, FeatureOf, Open, Close, Leaf, Kept}
use Rattle.json_spans.specs.Common.{Node}
use Rattle.topo_outline.specs.declared.members.Owner.TheVariants as owner
use Rattle.topo_outline.specs.Common.{Piece, starts, ends, leaf, text, IsGeometry, AreGeometries, no_geometry, geometry}
use Rattle.topo_outline.specs.Common.{IsJson, IsKeptHead, IsKeptGeometry, owner_of, head_of}
use Rattle.topo_reader.specs.Common.{Arc}
use Rattle.map_text.proofs.GrammarLists.{bytes_of}
use Rattle.map_text.proofs.ReadingLists.{first_same, rest_same}
use Rattle.map_text.proofs.ReadingPlaces.{kept_geometry}
use Rattle.map_text.proofs.ReadingUses.{ShapeIndexes, Fits, IsShape}
use Rattle.map_text.proofs.ReadingFeatures.{feature_made, collection_json, collection_read}
use Rattle.map_text.proofs.ReadingTrees.{Entry, IsTree, AreTrees, of_leaf, of_kept, of_collection, no_tree, trees, tree_text, tree_texts}

-- a feature whose indexes name arcs
pub record IsWrittenFeature (arcs : List Arc) (f : FeatureOf (List ℤ)) : Type 0 where
  pub head : IsKeptHead (owner_of f.form) (head_of f)
  pub fits : Fits f.form f.polygons
  pub uses : List (List (List Arc))
  pub indexes : ShapeIndexes arcs f.polygons uses

-- what the items of a text must be
abbrev pub IsWritten : List Arc → Entry → Type 0
IsWritten arcs (Open h) = IsKeptHead owner.Collection h
IsWritten arcs Close = Unit {0}
IsWritten arcs (Leaf f) = IsWrittenFeature arcs f
IsWritten arcs (Kept t) = IsKeptGeometry t

-- an item as it is read
pub data IsPieceOf : Entry → Piece → Type 0 where
  opens : {h : Head} → IsPieceOf (Open h) (starts h)
  closes : IsPieceOf Close ends
  feature : {f : FeatureOf (List ℤ)} {a : Node} → IsShape f.form f.polygons a → IsPieceOf (Leaf f) (leaf f.form (head_of f) a)
  kept : {t : Text} → IsPieceOf (Kept t) (text t)

-- ---- the texts are JSON

mutual
  pub tree_json : (arcs : List Arc) {is : List Entry} (t : IsTree is) → AllByRecursion (IsWritten arcs) is → IsJson (tree_text t)
  tree_json arcs (of_leaf {f = f}) h = (feature_made arcs f h.0.uses h.0.fits h.0.head h.0.indexes).json
  tree_json arcs of_kept h = h.0.value
  tree_json arcs (of_collection {h = head} {is = is} ts) h = collection_json head (tree_texts ts) h.0 (trees_json arcs ts (all_front (IsWritten arcs) is (Close ∷ []) h.1))

  trees_json : (arcs : List Arc) {is : List Entry} (ts : AreTrees is) → AllByRecursion (IsWritten arcs) is → AllByRecursion IsJson (tree_texts ts)
  trees_json arcs no_tree h = tt
  trees_json arcs (trees {is = is} {js = js} t ts) h = (tree_json arcs t (all_front (IsWritten arcs) is js h), trees_json arcs ts (all_back (IsWritten arcs) is js h))

-- ---- the texts are read

pub record IsRead (n : Node) (is : List Entry) : Type 0 where
  pub pieces : List Piece
  pub geometry : IsGeometry n pieces
  pub are : AllZip IsPieceOf is pieces

mutual
  pub tree_read : (arcs : List Arc) {is : List Entry} (t : IsTree is) → AllByRecursion (IsWritten arcs) is → (n : Node) → n.bytes ≡ tree_text t → IsRead n is
  tree_read arcs (of_leaf {f = f}) h n e =
      let made = (feature_made arcs f h.0.uses h.0.fits h.0.head h.0.indexes).read n e in
      record { pieces = leaf f.form (head_of f) made.0 ∷ []; geometry = made.1; are = (feature made.2, tt) }
  tree_read arcs (of_kept {t = t}) h n e = record { pieces = text t ∷ []; geometry = kept_geometry t n h.0 e; are = (kept, tt) }
  tree_read arcs (of_collection {h = head} {is = is} ts) h n e =
      let inside = all_front (IsWritten arcs) is (Close ∷ []) h.1 in
      let found = collection_read (λ ps. AllZip IsPieceOf is ps) head (tree_texts ts) n h.0 (trees_json arcs ts inside) e (λ ns f. trees_read arcs ts inside ns f) in
      record {
        pieces = starts head ∷ (found.0 ++ (ends ∷ []));
        geometry = found.1;
        are = (opens, zip_joined IsPieceOf is (Close ∷ []) found.0 (ends ∷ []) found.2 (closes, tt));
      }

  trees_read : (arcs : List Arc) {is : List Entry} (ts : AreTrees is) → AllByRecursion (IsWritten arcs) is → (ns : List Node) → map bytes_of ns ≡ tree_texts ts → (ps : List Piece) × AreGeometries ns ps × AllZip IsPieceOf is ps
  trees_read arcs no_tree h [] e = ([], no_geometry, tt)
  trees_read arcs no_tree h (n ∷ ns) e = absurd cc
  trees_read arcs (trees t ts) h [] e = absurd cc
  trees_read arcs (trees {is = is} {js = js} t ts) h (n ∷ ns) e =
      let first = tree_read arcs t (all_front (IsWritten arcs) is js h) n (first_same n.bytes (tree_text t) (map bytes_of ns) (tree_texts ts) e) in
      let rest = trees_read arcs ts (all_back (IsWritten arcs) is js h) ns (rest_same n.bytes (tree_text t) (map bytes_of ns) (tree_texts ts) e) in
      (first.pieces ++ rest.0, geometry first.geometry rest.1, zip_joined IsPieceOf is js first.pieces rest.0 first.are rest.2)
