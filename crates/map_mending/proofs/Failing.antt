-- Why a map is not mended, step by step.
use Rattle.kit_words.proofs.Common.{◌≡◌, ◌<◌, ℕ, zero, suc, List, [], ◌∷◌, map, length, get_or, false, refl, sym, ap}
use Rattle.kit_words.proofs.Common.{◌∙◌, subst, Result, Ok, Err, arith, IfErr, IsErrAnd, IsTrue, Option, Some, None}
use Rattle.kit_words.proofs.Common.{MatchOption, nat_le, leb-false}
use Rattle.std.specs.Prelude.{sum_by}
use Rattle.topo_outline.specs.Common.{leaves}
use Rattle.topo_reader.specs.Common.{Polygons, Opened, document_of}
use Rattle.walk_faults.specs.Common.{ListsAll}
use Rattle.segment_paths.specs.Faults as paths
use Rattle.segment_paths.specs.Common.{PathOfSegment, ArePaths, paths_seen}
use Rattle.segment_paths.specs.declared.path.SegmentPath.{SegmentPath}
use Rattle.segment_paths.specs.declared.fault.PathFault.{PathFault}
use Rattle.segment_paths.specs.declared.fault.PathFault.TheVariants as search
use Rattle.ring_machine.specs.Common.{Document, least_conflict}
use Rattle.grid_geometry.specs.Common.{Segment, segment_cmp}
use Rattle.walk_mending.specs.Common.{is_bounding_in}
use Rattle.map_mending.specs.Common.{AreBounding, MendedBy, IsAt, AreUnpartedIn, AreUnparted, IsMendFault, OnlyUnparted}
use Rattle.map_mending.specs.Common.{IsTooLarge, without_paths, by_paths, mended, with_mended, polygons_by_feature, TellsParted}
use Rattle.map_mending.specs.Common.{Parted}
use Rattle.map_mending.proofs.Pieces.{document_mended}
use Rattle.map_mending.proofs.Whole.{are_bounding, mended_size}
use Rattle.map_mending.specs.declared.fault.MendFault.{MendFault}
use Rattle.map_mending.specs.declared.fault.MendFault.TheVariants.{TooLarge, Unmended, Unparted, OutOfMemory}

-- a fault that is handed on
pub handed : {R : Type 0} (P : MendFault → Type 0) (fault : MendFault) (r : Result R MendFault) → IsErrAnd r (λ y. y ≡ fault) → P fault → IfErr r P
handed P fault (Ok x) is h = absurd is
handed P fault (Err y) is h = subst P (sym is) h

-- what holds where there is none
pub apart_if : {X : Type 0} (o : Option X) (P : Type 0) (Q : X → Type 0) → ((x : X) → o ≡ Some x → ⊥) → MatchOption o P Q → P
apart_if None P Q none h = h
apart_if (Some x) P Q none h = absurd (none x refl)

-- an element that is seen
pub seen_at : {X Y : Type 0} (see : X → Y) (xs : List X) (k : ℕ) (x : X) → k < length xs → x ≡ get_or xs k x → IsAt (map see xs) k (see x)
seen_at see [] k x l e = absurd (omega arith)
seen_at see (y ∷ ys) zero x l e = (omega arith, ap see (sym e))
seen_at see (y ∷ ys) (suc k) x l e = let h = seen_at see ys k x (omega arith) e in (omega (arith, h.0), h.1)

-- why there are no paths is why a document is not mended
pub no_paths : (d : Document) (ss : List Segment) → AreBounding d ss → (fault : PathFault) → paths.IsPathFault ss 4000000 fault → IsMendFault d (without_paths fault)
no_paths d ss h search.TooMany k = by_paths h k
no_paths d ss h (search.Unmended s t) k = record { segments = ss; bounding = h; unmended = k }
no_paths d ss h search.OutOfMemory k = tt

-- a polygon of a feature that is not taken apart
pub in_feature : (paths : List PathOfSegment) (features : List Polygons) (polygons : Polygons) (n : ℕ) → IsAt features n polygons → (fault : MendFault)
    → OnlyUnparted (λ m k. (m ≡ n) × AreUnpartedIn paths polygons k) fault → OnlyUnparted (AreUnparted paths features) fault
in_feature paths features polygons n at TooLarge h = h
in_feature paths features polygons n at (Unmended s t) h = h
in_feature paths features polygons n at (Unparted m k) h =
    record { polygons = polygons; feature = subst (λ z. IsAt features z polygons) (sym h.0) at; unparted = h.1 }
in_feature paths features polygons n at OutOfMemory h = tt

-- the same of the document
pub in_document : (d : Document) (paths : List PathOfSegment) (features : List Polygons) → MendedBy d paths → polygons_by_feature d ≡ features → (fault : MendFault)
    → OnlyUnparted (AreUnparted paths features) fault → IsMendFault d fault
in_document d paths features by e TooLarge h = absurd h
in_document d paths features by e (Unmended s t) h = absurd h
in_document d paths features by e (Unparted n k) h = record { paths = paths; by = by; unparted = subst (λ z. AreUnparted paths z n k) (sym e) h }
in_document d paths features by e OutOfMemory h = tt

-- ---- what it is mended by, and how large it is

pub mended_by : {A : Type 0} (o : Opened) (given found : List Segment) (paths : List (SegmentPath A)) → length o.polygons ≡ length (leaves o.layers)
    → ListsAll segment_cmp (λ s. IsTrue (is_bounding_in o.polygons s)) found → given ≡ found → ArePaths given (paths_seen paths)
    → (least_conflict given ≡ None → paths ≡ []) → MendedBy (document_of o) (paths_seen paths)
mended_by o given found paths counted lists same are needed = record {
  segments = found;
  bounding = are_bounding o found counted lists;
  are_paths = subst (λ (ss : List Segment). ArePaths ss (paths_seen paths)) same are;
  needed = λ e. ap (λ ps. paths_seen ps) (needed (ap (λ (ss : List Segment). least_conflict ss) same ∙ e));
}

pub does_not_fit : (paths : List PathOfSegment) (o : Opened) (made : List Polygons) (told : List Parted) → MendedBy (document_of o) paths → TellsParted paths o.polygons made told
    → length o.polygons ≡ length (leaves o.layers) → nat_le (sum_by (sum_by (sum_by length)) made) 4000000 ≡ false → IsTooLarge (document_of o)
does_not_fit paths o made told by tells counted over =
    mended {e = document_of (with_mended o made)} by (document_mended paths o made told tells)
    (subst (λ n. 4000000 < n) (sym (mended_size paths o made told tells counted)) (leb-false (sum_by (sum_by (sum_by length)) made) 4000000 over))
