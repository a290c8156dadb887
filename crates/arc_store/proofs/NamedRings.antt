-- The rings of a segment by their names.
use Rattle.kit_words.proofs.Common.{◌≡◌, ◌≢◌, ℕ, zero, suc, ◌+◌, ◌<◌, true, refl, sym, ap, ap₂, ◌∙◌, subst, List, []}
use Rattle.kit_words.proofs.Common.{◌∷◌, ◌++◌, map, take, length, get_or, inl, inr, arith, Contains, Option, Some, None}
use Rattle.kit_words.proofs.Common.{is_some, option_map, append_assoc, ◌⊎◌, ◌≤◌, slice_get, IfNone, list_any}
use Rattle.kit_words.proofs.Common.{AllByRecursion, append-nil, map-append, take_more, slice_get-map}
use Rattle.std.specs.FinMap as table
use Rattle.grid_geometry.specs.Common.{Position, Segment, segment}
use Rattle.ring_machine.specs.Common.{DocumentOf, rings, features, are_distinct, is_segment}
use Rattle.ring_machine.proofs.Common.{In, filter-in, contains_in, in_contains, in_mapped, mapped_there, in-map}
use Rattle.ring_machine.proofs.Common.{in_recursion, slice-in}
use Rattle.vertex_index.specs.Common.{Placement, place}
use Rattle.arc_tables.specs.Common.{HasSegment, ListsUsers, Rings, Edge, is_seg, AllDifferent}
use Rattle.arc_tables.proofs.Counting.{times_segment}
use Rattle.ring_store.specs.Common.{Joined}
use Rattle.map_frame.specs.Common.{Framed, number_at, frame_ring}
use Rattle.map_frame.specs.declared.names.RingName.{RingName}
use Rattle.map_frame.proofs.Common.{same_some}
use Rattle.feature_exchange.specs.Common.{IsWhole, stored, Stored, stored_document, ring_under}
use Rattle.arc_store.specs.Common.{ListsNames, RingHas, AreOnce, ListsRings, users}
use Rattle.feature_exchange.proofs.Common.{framed, joined_back, joined_kept, rings_are, segment_between, segment_ends}
use Rattle.ring_store.proofs.Common.{kept_place, place_is, place_kept}
use Rattle.arc_store.proofs.FrameNames.{name_there, number_there, one_name}
use Rattle.arc_store.proofs.FrameReads.{ring-in_rings}
use Rattle.arc_store.proofs.Insertions.{has_segment}
use Rattle.arc_store.proofs.Numbers.{ring_has}
use Rattle.arc_store.proofs.Reading.{unused_read}

-- ---- the names of a list of numbers

-- these are the names of the first of these numbers, after what was there
pub record NamesSoFar (d : DocumentOf ℕ) (numbers : List ℕ) (i : ℕ) (old now : List RingName) : Type 0 where
  pub found : List RingName
  pub appended : now ≡ old ++ found
  pub are : map (number_at d) found ≡ map Some (take i numbers)

module _ (d : DocumentOf ℕ) (numbers : List ℕ) where
  pub names_begin : (old : List RingName) → NamesSoFar d numbers 0 old old
  names_begin old = record { found = []; appended = sym (append-nil old); are = refl }

  -- one more name
  pub names_more : (i : ℕ) (old now new : List RingName) (name : RingName) → i < length numbers
      → number_at d name ≡ Some (get_or numbers i 0) → new ≡ now ++ name ∷ []
      → NamesSoFar d numbers i old now → NamesSoFar d numbers (i + 1) old new
  names_more i old now new name l is e h = record {
    found = h.found ++ name ∷ [];
    appended = e ∙ ap (λ z. z ++ name ∷ []) h.appended ∙ append_assoc old h.found (name ∷ []);
    are = map-append (number_at d) h.found (name ∷ [])
        ∙ ap₂ (λ y z. y ++ z ∷ []) h.are is
        ∙ sym (map-append Some (take i numbers) (get_or numbers i 0 ∷ []))
        ∙ ap (map Some) (sym (take_more numbers i 0 l));
  }

-- a name that was found is that of a number
pub of_name : (d : DocumentOf ℕ) (found : List RingName) (numbers : List ℕ) → map (number_at d) found ≡ map Some numbers
    → (n : RingName) → In n found → (r : ℕ) × In r numbers × (number_at d n ≡ Some r)
of_name d found numbers are n i =
    let k = in_mapped Some (number_at d n) numbers (subst (In (number_at d n)) are (in-map (number_at d) n found i)) in
    (k.0, k.1, sym k.2)

-- and the name of each number was found
pub to_name : (d : DocumentOf ℕ) → are_distinct (rings d) ≡ true → (found : List RingName) (numbers : List ℕ)
    → map (number_at d) found ≡ map Some numbers → (n : RingName) (r : ℕ) → number_at d n ≡ Some r → In r numbers → In n found
to_name d once found numbers are n r e i =
    let k = in_mapped (number_at d) (Some r) found (subst (In (Some r)) (sym are) (in-map Some r numbers i)) in
    subst (λ z. In z found) (one_name d once k.0 n r k.2 e) k.1

-- ---- different numbers have different names

other_than : (n : ℕ) (ns : List ℕ) → AllByRecursion (λ y. y ≢ n) ns → (r : ℕ) → In r ns → r ≢ n
other_than n ns h r i = in_recursion (λ y. y ≢ n) ns r h i

different_once : (ns : List ℕ) → AllDifferent ns → (i j x : ℕ) → slice_get ns i ≡ Some x → slice_get ns j ≡ Some x → i ≡ j
different_once [] d i j x e h = absurd cc
different_once (n ∷ ns) d zero zero x e h = refl
different_once (n ∷ ns) d zero (suc j) x e h =
    absurd (other_than n ns d.0 x (slice-in ns j x h) (sym (same_some n x e)))
different_once (n ∷ ns) d (suc i) zero x e h =
    absurd (other_than n ns d.0 x (slice-in ns i x e) (sym (same_some n x h)))
different_once (n ∷ ns) d (suc i) (suc j) x e h = ap suc (different_once ns d.1 i j x e h)

named_once : (d : DocumentOf ℕ) (found : List RingName) (numbers : List ℕ) → map (number_at d) found ≡ map Some numbers
    → AllDifferent numbers → AreOnce found
named_once d found numbers e different i j x here there =
    let at : (k : ℕ) → slice_get found k ≡ Some x → option_map Some (slice_get numbers k) ≡ Some (number_at d x) = λ k h.
    sym (slice_get-map Some numbers k) ∙ ap (λ z. slice_get z k) (sym e) ∙ slice_get-map (number_at d) found k ∙ ap (option_map (number_at d)) h in
    let u = mapped_there Some (slice_get numbers i) (number_at d x) (at i here) in
    let v = mapped_there Some (slice_get numbers j) (number_at d x) (at j there) in
    different_once numbers different i j u.0 u.1
    (v.1 ∙ ap Some (same_some v.0 u.0 (v.2 ∙ sym u.2)))

-- ---- the document

some_there : {X : Type 0} (x : X) (xs : List X) → In x xs → 1 ≤ length xs
some_there x [] i = absurd i
some_there x (y ∷ xs) i = omega arith

module _ (f : Framed) (m : Rings) (places : Placement) (whole : IsWhole (stored f m places)) where
  abbrev s : Stored
  s = stored f m places

  -- the ring with a name is the one under its number
  pub ring_by_name : (name : RingName)
      → frame_ring (stored_document s) name.feature name.polygon name.ring ≡ option_map (ring_under s) (number_at f.doc name)
  ring_by_name name = ring-in_rings (ring_under s) f.doc name.feature name.polygon name.ring

  module _ (a b : ℕ) (p q : Position) (at_a : table.get places a ≡ Some p) (at_b : table.get places b ≡ Some q) where
    abbrev t : Segment
    t = segment p q

    -- a ring of the frame has the segment as that of its ends' keys
    has_by_keys : (r : ℕ) (es : List Edge) → table.get m r ≡ Some es
        → has_segment t (ring_under s r) ≡ list_any (is_seg a b) es
    has_by_keys r es e =
        ap (λ z. has_segment z (ring_under s r)) (sym (ap₂ segment (place_is places a p at_a) (place_is places b q at_b)))
        ∙ ring_has s whole a b (place_kept places a p at_a) (place_kept places b q at_b) r es e

    pub has_of : (name : RingName) (r : ℕ) → number_at f.doc name ≡ Some r → HasSegment m a b r
        → RingHas (stored_document s) t name
    has_of name r e h = record {
      positions = ring_under s r;
      there = ring_by_name name ∙ ap (option_map (ring_under s)) e;
      has = has_by_keys r h.edges h.held ∙ h.has;
    }

    pub of_has : (name : RingName) → RingHas (stored_document s) t name
        → (r : ℕ) × (number_at f.doc name ≡ Some r) × HasSegment m a b r
    of_has name h =
        let k = mapped_there (ring_under s) (number_at f.doc name) h.positions (sym (ring_by_name name) ∙ h.there) in
        let es = framed s whole k.0 (number_there f.doc name k.0 k.1) in (
          k.0,
          k.1,
          record {
            edges = es.0;
            held = es.1;
            has = sym (has_by_keys k.0 es.0 es.1) ∙ ap (has_segment t) k.2 ∙ h.has;
          },
        )

    -- each ring that was listed has a name
    pub listed_names : are_distinct (map (λ x. x.number) (features f.doc)) ≡ true → (numbers : List ℕ)
        → ListsUsers m a b [] numbers → (r : ℕ) → Contains numbers r
        → (name : RingName) × (number_at f.doc name ≡ Some r)
    listed_names distinct numbers l r c =
        let user = (l.all r).0 (subst (λ z. Contains z r) l.appended c) in
        let kept = (whole.named r).1 (ap is_some user.held) in
        name_there f.doc distinct r (contains_in (rings f.doc) r kept)

    -- the names of the rings that were listed
    pub rings_listed : (numbers : List ℕ) → ListsUsers m a b [] numbers → (old new : List RingName)
        → ListsNames f.doc numbers old new → ListsRings (stored_document s) t old new
    rings_listed numbers l old new names = record {
      found = names.found;
      appended = names.appended;
      all = λ n. (
        λ c. let k = of_name f.doc names.found numbers names.are n (contains_in names.found n c) in
            has_of n k.0 k.2 ((l.all k.0).0 (listed k.0 k.1)),
        λ h. let k = of_has n h in
            in_contains names.found n (to_name f.doc whole.once names.found numbers names.are n k.0 k.1 (unlisted k.0 ((l.all k.0).1 k.2))),
      );
      once = named_once f.doc names.found numbers names.are (subst AllDifferent (sym l.appended) l.once);
    }
      where
        listed : (r : ℕ) → In r numbers → Contains l.found r
        listed r i = in_contains l.found r (subst (In r) l.appended i)

        unlisted : (r : ℕ) → Contains l.found r → In r numbers
        unlisted r c = subst (In r) (sym l.appended) (contains_in l.found r c)

  -- the other end of a segment has a key, and some ring has the segment of the two
  pub other_end : (t : Segment) → is_segment (stored_document s) t ≡ true → (a : ℕ) → table.get places a ≡ Some t.lo
      → (b r : ℕ) × (table.get places b ≡ Some t.hi) × HasSegment m a b r
  other_end t h a at =
      let e = segment_between s whole t h in
      let kept = joined_kept s whole e.a e.b e.joined in
      let x = kept_place places e.a kept.0 in
      let y = kept_place places e.b kept.1 in
      elim (segment_ends (place places e.a) (place places e.b)) [
        | inl n ↦
            let is : e.a ≡ a = whole.distinct e.a a t.lo (x ∙ ap Some (sym n.0 ∙ sym (ap (λ (z : Segment). z.lo) e.is))) at in
            (e.b, e.joined.ring, y ∙ ap Some (sym n.1 ∙ sym (ap (λ (z : Segment). z.hi) e.is)), subst (λ z. HasSegment m z e.b e.joined.ring) is (by_keys e.a e.b e.joined))
        | inr n ↦
            let is : e.b ≡ a = whole.distinct e.b a t.lo (y ∙ ap Some (sym n.0 ∙ sym (ap (λ (z : Segment). z.lo) e.is))) at in
            let back = joined_back s e.a e.b e.joined in
            (e.a, back.ring, x ∙ ap Some (sym n.1 ∙ sym (ap (λ (z : Segment). z.hi) e.is)), subst (λ z. HasSegment m z e.a back.ring) is (by_keys e.b e.a back))
      ]
    where
      by_keys : (j k : ℕ) (i : Joined m j k) → HasSegment m j k i.ring
      by_keys j k i = record { edges = i.edges; held = i.held; has = times_segment j k i.edges i.has }

  -- no ring has a segment with an end that has no key
  none_at : (t : Segment) (p : Position) → (t.lo ≡ p) ⊎ (t.hi ≡ p) → (o : Option ℕ) → o ≡ None
      → IfNone o ((k : ℕ) → table.get places k ≢ Some p) → (old : List RingName)
      → ListsRings (stored_document s) t old old
  none_at t p end o e absent old = record {
    found = [];
    appended = sym (append-nil old);
    all = λ n. (
      λ c. absurd (omega (arith, c.1)),
      λ h.
          let k = mapped_there (ring_under s) (number_at f.doc n) h.positions (sym (ring_by_name n) ∙ h.there) in
          let there : In h.positions (rings (stored_document s)) =
          subst (λ z. In h.positions z) (sym (rings_are s whole)) (subst (λ z. In z (map (ring_under s) (rings f.doc))) k.2 (in-map (ring_under s) k.0 (rings f.doc) (number_there f.doc n k.0 k.1))) in
          let some = some_there h.positions (users (stored_document s) t) (filter-in (has_segment t) h.positions (rings (stored_document s)) there h.has) in
          absurd (omega (arith, some, unused_read s whole t p end o e absent)),
    );
    once = λ i j x d h. absurd cc;
  }

  pub none_from : (p q : Position) (o : Option ℕ) → o ≡ None → IfNone o ((k : ℕ) → table.get places k ≢ Some p)
      → (old : List RingName) → ListsRings (stored_document s) (segment p q) old old
  none_from p q o e absent old =
      none_at (segment p q) p (elim (segment_ends p q) [ inl m ↦ inl m.0 | inr m ↦ inr m.1 ]) o e absent old

  pub none_to : (p q : Position) (o : Option ℕ) → o ≡ None → IfNone o ((k : ℕ) → table.get places k ≢ Some q)
      → (old : List RingName) → ListsRings (stored_document s) (segment p q) old old
  none_to p q o e absent old =
      none_at (segment p q) q (elim (segment_ends p q) [ inl m ↦ inr m.1 | inr m ↦ inl m.0 ]) o e absent old
