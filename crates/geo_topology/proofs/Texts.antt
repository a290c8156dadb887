-- Texts that are put one behind the other.
use Rattle.kit_words.proofs.Common.{◌≡◌, ℕ, ◌+◌, ◌<◌, ◌≤◌, List, [], ◌∷◌, ◌++◌, length, map, drop, get_or, Bool, true, false}
use Rattle.kit_words.proofs.Common.{refl, sym, ap, ap₂, ◌∙◌, append_assoc, append-nil, length-append, length-map, arith}
use Rattle.kit_words.proofs.Common.{drop_all, flat_map-append, Result, Ok, Err, OnOk, codes}
use Rattle.std.specs.List.{flat_map}
use Rattle.json_spans.specs.Common.{Node, items, node}
use Rattle.json_spans.specs.declared.span.Span.{Span}
use Rattle.topo_outline.proofs.Walking.{tail_at}
use Rattle.geo_topology.specs.Pieces.{TextPiece}
use Rattle.geo_topology.specs.declared.object.GeoObject.{GeoObject}
use Rattle.geo_topology.specs.Features.{layer_pieces}
use Rattle.geo_topology.specs.Text.{TextSegment, made, copy, MadeOf, CopiedPart, bytes_of, segments_text, part_at, copies_from, comma_text, ring_index_text, ring_texts, polygon_index_text, polygon_texts, rings_of_piece, segment_of_piece, segments_from, comma_segment, ring_segments, text_segments, made_by_segments, topology_made}
use Rattle.geo_topology.specs.Copies.{extended}

-- ---- one more

pub more : {A : Type 0} (old first rest new whole : List A) → new ≡ old ++ first → old ++ (first ++ rest) ≡ whole → new ++ rest ≡ whole
more old first rest new whole n h = rw n (append_assoc old first rest ∙ h)

pub counted : {A B : Type 0} (f : A → B) (old new : List A) (b : B) → map f new ≡ map f old ++ b ∷ [] → length new ≡ length old + 1
counted f old new b h = omega (arith, sym (length-map new f) ∙ ap length h ∙ length-append (map f old) (b ∷ []), length-map old f)

pub counted_all : {A B : Type 0} (f : A → B) (old new : List A) (bs : List B) → map f new ≡ map f old ++ bs → length new ≡ length old + length bs
counted_all f old new bs h = omega (arith, sym (length-map new f) ∙ ap length h ∙ length-append (map f old) bs, length-map old f)

-- ---- rings and polygons

module _ (first : Bool) (t0 t1 t2 : List ℕ) (k k' : ℕ) (r : Node) (rs left : List Node) (whole : List ℕ) (e : left ≡ r ∷ rs) (c : t1 ≡ t0 ++ comma_text first) where
  pub ring_turn : k' ≡ k + 1 → t2 ≡ t1 ++ ring_index_text k → t0 ++ ring_texts k first left ≡ whole → t2 ++ ring_texts k' false rs ≡ whole
  unfolding ring_texts
  ring_turn n i h = rw n (more t1 (ring_index_text k) (ring_texts (k + 1) false rs) t2 whole i (more t0 (comma_text first) (ring_index_text k ++ ring_texts (k + 1) false rs) t1 whole c (rw e at h)))

  pub polygon_turn : k' ≡ k + length (items r) → t2 ≡ t1 ++ polygon_index_text k r → t0 ++ polygon_texts k first left ≡ whole → t2 ++ polygon_texts k' false rs ≡ whole
  unfolding polygon_texts
  polygon_turn n i h = rw n (more t1 (polygon_index_text k r) (polygon_texts (k + length (items r)) false rs) t2 whole i (more t0 (comma_text first) (polygon_index_text k r ++ polygon_texts (k + length (items r)) false rs) t1 whole c (rw e at h)))

pub rings_end : (first : Bool) (t whole : List ℕ) (k : ℕ) (left : List Node) → left ≡ [] → t ++ ring_texts k first left ≡ whole → t ≡ whole
unfolding ring_texts
rings_end first t whole k left e h = sym (append-nil t) ∙ rw e at h

pub polygons_end : (first : Bool) (t whole : List ℕ) (k : ℕ) (left : List Node) → left ≡ [] → t ++ polygon_texts k first left ≡ whole → t ≡ whole
unfolding polygon_texts
polygons_end first t whole k left e h = sym (append-nil t) ∙ rw e at h

-- a list that is put between brackets
pub bracketed : {X E : Type 0} (r : Result X E) (old t0 t1 t2 w : List ℕ) → t0 ≡ old ++ codes "[" → t1 ≡ t0 ++ w → OnOk r (t2 ≡ t1 ++ codes "]") → OnOk r (t2 ≡ old ++ (codes "[" ++ (w ++ codes "]")))
bracketed (Ok x) old t0 t1 t2 w a b c =
    c ∙ ap (λ (t : List ℕ). t ++ codes "]") (b ∙ ap (λ (t : List ℕ). t ++ w) a)
    ∙ append_assoc (old ++ codes "[") w (codes "]") ∙ append_assoc old (codes "[") (w ++ codes "]")
bracketed (Err e) old t0 t1 t2 w a b c = tt

pub left_end : {A : Type 0} (old left whole : List A) → left ≡ [] → old ++ left ≡ whole → old ≡ whole
left_end old left whole e h = sym (append-nil old) ∙ rw e at h

pub left_turn : {A : Type 0} (old new : List A) (a : A) (as' left whole : List A) → left ≡ a ∷ as' → new ≡ old ++ a ∷ [] → old ++ left ≡ whole → new ++ as' ≡ whole
left_turn old new a as' left whole e n h = more old (a ∷ []) as' new whole n (rw e at h)

pub items_turn : (old new : List Node) (p : Node) (ps left whole : List Node) → left ≡ p ∷ ps → new ≡ old ++ items p → old ++ flat_map items left ≡ whole → new ++ flat_map items ps ≡ whole
items_turn old new p ps left whole e n h = more old (items p) (flat_map items ps) new whole n (rw e at h)

pub items_end : (old left whole : List Node) → left ≡ [] → old ++ flat_map items left ≡ whole → old ≡ whole
items_end old left whole e h = sym (append-nil old) ∙ rw e at h

-- ---- text_segments

parts-append : (n : ℕ) (ss ts : List TextSegment) → copies_from n (ss ++ ts) ≡ copies_from n ss ++ copies_from (n + length (segments_text ss)) ts
unfolding copies_from
parts-append n [] ts = ap (λ k. copies_from k ts) (omega arith)
parts-append n (s ∷ ss) ts =
    let place : (n + length (bytes_of s)) + length (segments_text ss) ≡ n + length (bytes_of s ++ segments_text ss) = omega (arith, length-append (bytes_of s) (segments_text ss)) in
    ap (λ ps. part_at n s ++ ps) (parts-append (n + length (bytes_of s)) ss ts)
    ∙ sym (append_assoc (part_at n s) (copies_from (n + length (bytes_of s)) ss) (copies_from ((n + length (bytes_of s)) + length (segments_text ss)) ts))
    ∙ ap (λ k. (part_at n s ++ copies_from (n + length (bytes_of s)) ss) ++ copies_from k ts) place

made_both : (t u : List ℕ) (ps qs : List CopiedPart) → t ≡ u → ps ≡ qs → ◌≡◌ {A = MadeOf} (record { text = t; parts = ps }) (record { text = u; parts = qs })
made_both t u ps qs e f = ap₂ (λ v rs. let m : MadeOf = record { text = v; parts = rs } in m) e f

pub extended-append : (m : MadeOf) (ss ts : List TextSegment) → extended (extended m ss) ts ≡ extended m (ss ++ ts)
extended-append m ss ts =
    let texts : (m.text ++ segments_text ss) ++ segments_text ts ≡ m.text ++ segments_text (ss ++ ts) = append_assoc m.text (segments_text ss) (segments_text ts) ∙ ap (λ t. m.text ++ t) (sym (flat_map-append bytes_of ss ts)) in
    made_both _ _ _ _ texts
    (rw (length-append m.text (segments_text ss)) (append_assoc m.parts (copies_from (length m.text) ss) (copies_from (length m.text + length (segments_text ss)) ts))
    ∙ ap (λ ps. m.parts ++ ps) (sym (parts-append (length m.text) ss ts)))

pub extended-nil : (m : MadeOf) → extended m [] ≡ m
unfolding copies_from
extended-nil m = made_both _ _ _ _ (append-nil m.text) (append-nil m.parts)

-- words alone
pub with_words : (old new : MadeOf) (w : List ℕ) → new.text ≡ old.text ++ w → new.parts ≡ old.parts → new ≡ extended old (made w ∷ [])
unfolding copies_from
with_words old new w t p = made_both _ _ _ _ (t ∙ ap (λ u. old.text ++ u) (sym (append-nil w))) (p ∙ sym (append-nil old.parts))

pub with_comma : (old new : MadeOf) (first : Bool) → new.text ≡ old.text ++ comma_text first → new.parts ≡ old.parts → new ≡ extended old (comma_segment first)
unfolding copies_from
with_comma old new true t p = made_both _ _ _ _ t (p ∙ sym (append-nil old.parts))
with_comma old new false t p = with_words old new _ t p

-- a copy
pub with_copy : (old new : MadeOf) (n : Node) → new.text ≡ old.text ++ n.bytes → new.parts ≡ old.parts ++ record { made = length old.text; file = n.at_byte; len = length n.bytes } ∷ [] → new ≡ extended old (copy n ∷ [])
unfolding copies_from
with_copy old new n t p = made_both _ _ _ _ (t ∙ ap (λ u. old.text ++ u) (sym (append-nil n.bytes))) p

-- nothing
pub nothing_made : (m : MadeOf) → m.text ≡ [] → m.parts ≡ [] → m ≡ made_by_segments []
unfolding copies_from
nothing_made m t p = made_both _ _ _ _ t p

-- words, where they were put
pub made_put : {X E : Type 0} (r : Result X E) (old new : MadeOf) (s : TextSegment) (w : List ℕ) → s ≡ made w → OnOk r (new.text ≡ old.text ++ w) → OnOk r (new.parts ≡ old.parts) → OnOk r (new ≡ extended old (s ∷ []))
made_put (Ok x) old new s w is t p = rw is (with_words old new w t p)
made_put (Err e) old new s w is t p = tt

-- a copy, where it was noted and then put
pub copy_put : {X E : Type 0} (r : Result X E) (old mid new : MadeOf) (n : Node) → mid.text ≡ old.text → mid.parts ≡ old.parts ++ record { made = length old.text; file = n.at_byte; len = length n.bytes } ∷ [] → OnOk r (new.text ≡ mid.text ++ n.bytes) → OnOk r (new.parts ≡ mid.parts) → OnOk r (new ≡ extended old (copy n ∷ []))
copy_put (Ok x) old mid new n t p u q = with_copy old new n (u ∙ ap (λ (v : List ℕ). v ++ n.bytes) t) (q ∙ p)
copy_put (Err e) old mid new n t p u q = tt

-- ---- the loops over arcs and pieces

pub extended_more : (m m' : MadeOf) (ss ts : List TextSegment) (whole : MadeOf) → m' ≡ extended m ss → extended m (ss ++ ts) ≡ whole → extended m' ts ≡ whole
extended_more m m' ss ts whole e h = rw e (extended-append m ss ts ∙ h)

pub arc_turn : (m m1 m2 : MadeOf) (first : Bool) (rs : List Span) (i : ℕ) (r : Span) (whole : MadeOf) → i < length rs → r ≡ get_or rs i r → m1 ≡ extended m (comma_segment first) → m2 ≡ extended m1 (copy (node r) ∷ []) → extended m (ring_segments first (map node (drop i rs))) ≡ whole → extended m2 (ring_segments false (map node (drop (i + 1) rs))) ≡ whole
unfolding ring_segments
arc_turn m m1 m2 first rs i r whole lt is c d h =
    let gone : drop i rs ≡ r ∷ drop (i + 1) rs = tail_at r rs i lt is in
    extended_more m1 m2 (copy (node r) ∷ []) (ring_segments false (map node (drop (i + 1) rs))) whole d
    (extended_more m m1 (comma_segment first) _ whole c (rw gone at h))

pub arc_end : (m : MadeOf) (first : Bool) (rs : List Span) (i : ℕ) (whole : MadeOf) → length rs ≤ i → extended m (ring_segments first (map node (drop i rs))) ≡ whole → m ≡ whole
unfolding ring_segments
arc_end m first rs i whole le h = sym (extended-nil m) ∙ rw (drop_all i rs le) at h

module _ {X : Type 0} (view : X → TextPiece) where
  pub piece_turn : (m m1 : MadeOf) (k k' : ℕ) (xs : List X) (i : ℕ) (x : X) (whole : MadeOf) → i < length xs → x ≡ get_or xs i x → m1 ≡ extended m (segment_of_piece k (view x) ∷ []) → k' ≡ k + length (rings_of_piece (view x)) → extended m (segments_from k (map view (drop i xs))) ≡ whole → extended m1 (segments_from k' (map view (drop (i + 1) xs))) ≡ whole
  unfolding segments_from
  piece_turn m m1 k k' xs i x whole lt is e n h =
      let gone : drop i xs ≡ x ∷ drop (i + 1) xs = tail_at x xs i lt is in
      rw n (extended_more m m1 (segment_of_piece k (view x) ∷ []) (segments_from (k + length (rings_of_piece (view x))) (map view (drop (i + 1) xs))) whole e (rw gone at h))

  pub piece_end : (m : MadeOf) (k : ℕ) (xs : List X) (i : ℕ) (whole : MadeOf) → length xs ≤ i → extended m (segments_from k (map view (drop i xs))) ≡ whole → m ≡ whole
  unfolding segments_from
  piece_end m k xs i whole le h = sym (extended-nil m) ∙ rw (drop_all i xs le) at h

  pub rings_turn : (old new : List Node) (xs : List X) (i : ℕ) (x : X) (whole : List Node) → i < length xs → x ≡ get_or xs i x → new ≡ old ++ rings_of_piece (view x) → old ++ flat_map rings_of_piece (map view (drop i xs)) ≡ whole → new ++ flat_map rings_of_piece (map view (drop (i + 1) xs)) ≡ whole
  rings_turn old new xs i x whole lt is n h =
      let gone : drop i xs ≡ x ∷ drop (i + 1) xs = tail_at x xs i lt is in
      more old (rings_of_piece (view x)) (flat_map rings_of_piece (map view (drop (i + 1) xs))) new whole n (rw gone at h)

  pub rings_done : (old : List Node) (xs : List X) (i : ℕ) (whole : List Node) → length xs ≤ i → old ++ flat_map rings_of_piece (map view (drop i xs)) ≡ whole → old ≡ whole
  rings_done old xs i whole le h = sym (append-nil old) ∙ rw (drop_all i xs le) at h

-- ---- the whole text

pub from_nothing : (ss : List TextSegment) → extended (made_by_segments []) ss ≡ made_by_segments ss
unfolding copies_from
from_nothing ss = refl

-- pieces, a text without anything, and that text once all was put behind it
pub whole_text : (o : GeoObject) (root : Node) (ps : List TextPiece) (m m' : MadeOf) → layer_pieces o root ≡ Ok ps → m ≡ made_by_segments [] → m' ≡ extended m (text_segments ps) → topology_made o root ≡ Ok m'
whole_text o root ps m m' is start all = rw (is, all, start, from_nothing (text_segments ps)) refl

-- the pieces, the words behind them, the arcs and the end
pub all_put : (m m1 m2 m3 m4 : MadeOf) (ps : List TextPiece) → m1 ≡ extended m (segments_from 0 ps) → m2 ≡ extended m1 (made (codes "}},\"arcs\":[") ∷ []) → m3 ≡ extended m2 (ring_segments true (flat_map rings_of_piece ps)) → m4 ≡ extended m3 (made (codes "]}") ∷ []) → m4 ≡ extended m (text_segments ps)
all_put m m1 m2 m3 m4 ps a b c d =
    let arcs : List TextSegment = ring_segments true (flat_map rings_of_piece ps) in
    let mark : List TextSegment = made (codes "}},\"arcs\":[") ∷ [] in
    let last : List TextSegment = made (codes "]}") ∷ [] in
    d ∙ ap (λ (x : MadeOf). extended x last) (c ∙ ap (λ (x : MadeOf). extended x arcs) (b ∙ ap (λ (x : MadeOf). extended x mark) a))
    ∙ ap (λ (x : MadeOf). extended (extended x arcs) last) (extended-append m (segments_from 0 ps) mark)
    ∙ ap (λ (x : MadeOf). extended x last) (extended-append m (segments_from 0 ps ++ mark) arcs)
    ∙ extended-append m ((segments_from 0 ps ++ mark) ++ arcs) last
    ∙ ap (extended m) (append_assoc (segments_from 0 ps ++ mark) arcs last ∙ append_assoc (segments_from 0 ps) mark (arcs ++ last))
