-- The rings that have a segment of some edges, an edge and a ring at a time.
use Rattle.kit_words.proofs.Common.{◌≡◌, ℕ, ◌+◌, ◌<◌, refl, sym, ap, ◌∙◌, subst, List, [], ◌∷◌, ◌++◌, take, length}
use Rattle.kit_words.proofs.Common.{get_or, append_assoc, inl, inr, cond, true, false, flat_map, append-nil, take_more}
use Rattle.kit_words.proofs.Common.{flat_map-append}
use Rattle.grid_geometry.specs.Common.{Position, Edge, is_on, Segment, segment}
use Rattle.ring_machine.specs.Common.{Document}
use Rattle.ring_machine.proofs.Common.{in-append, in_left, in_right, contains_in, in_contains}
use Rattle.map_frame.specs.declared.names.RingName.{RingName}
use Rattle.arc_store.specs.Common.{RingHas, ListsRings, ListsRingNames}
use Rattle.arc_store.proofs.SharedNames.{users_none}
use Rattle.point_queries.specs.Common.{on_edge}

pub users_one : (d : Document) (p q : Position) (old new : List RingName)
    → ListsRings d (segment p q) old new → ListsRingNames d ((p, q) ∷ []) old new
users_one d p q old new l = record {
  found = l.found;
  appended = l.appended;
  all = λ name. (
    λ c. record { edge = (p, q); there = in_contains ((p, q) ∷ []) (p, q) (inl refl); has = (l.all name).0 c },
    λ h. elim (contains_in ((p, q) ∷ []) h.edge h.there) [
      | inl e ↦ (l.all name).1 (subst (λ (z : Edge). RingHas d (segment z.0 z.1) name) (sym e) h.has)
      | inr i ↦ absurd i
    ],
  );
}

pub users_both : (d : Document) (es fs : List Edge) (a b c : List RingName) → ListsRingNames d es a b
    → ListsRingNames d fs b c → ListsRingNames d (es ++ fs) a c
users_both d es fs a b c g h = record {
  found = g.found ++ h.found;
  appended = h.appended ∙ ap (λ z. z ++ h.found) g.appended ∙ append_assoc a g.found h.found;
  all = λ name. (
    λ m. elim (in-append name g.found h.found (contains_in (g.found ++ h.found) name m)) [
      | inl i ↦ let o = (g.all name).0 (in_contains g.found name i) in
          record { edge = o.edge; there = in_contains (es ++ fs) o.edge (in_left o.edge es fs (contains_in es o.edge o.there)); has = o.has }
      | inr i ↦ let o = (h.all name).0 (in_contains h.found name i) in
          record { edge = o.edge; there = in_contains (es ++ fs) o.edge (in_right o.edge es fs (contains_in fs o.edge o.there)); has = o.has }
    ],
    λ o. in_contains (g.found ++ h.found) name (elim (in-append o.edge es fs (contains_in (es ++ fs) o.edge o.there)) [
      | inl i ↦ in_left name g.found h.found (contains_in g.found name ((g.all name).1 (record { edge = o.edge; there = in_contains es o.edge i; has = o.has })))
      | inr i ↦ in_right name g.found h.found (contains_in h.found name ((h.all name).1 (record { edge = o.edge; there = in_contains fs o.edge i; has = o.has })))
    ]),
  );
}

-- one element's edges more
pub users_more : {X : Type 0} (f : X → List Edge) (d : Document) (xs : List X) (i : ℕ) (x : X) (a b c : List RingName)
    → i < length xs → ListsRingNames d (flat_map f (take i xs)) a b → ListsRingNames d (f (get_or xs i x)) b c
    → ListsRingNames d (flat_map f (take (i + 1) xs)) a c
users_more f d xs i x a b c l g h =
    subst (λ es. ListsRingNames d es a c)
    (sym (ap (flat_map f) (take_more xs i x l) ∙ flat_map-append f (take i xs) (get_or xs i x ∷ [])
    ∙ ap (λ z. flat_map f (take i xs) ++ z) (append-nil (f (get_or xs i x)))))
    (users_both d (flat_map f (take i xs)) (f (get_or xs i x)) a b c g h)

-- a segment, where p lies on it
pub on_listed : (d : Document) (p : Position) (s : Segment) (old new : List RingName) → is_on p s.lo s.hi ≡ true
    → ListsRings d (segment s.lo s.hi) old new → ListsRingNames d (on_edge p s) old new
on_listed d p s old new h l =
    subst (λ b. ListsRingNames d (cond b ((s.lo, s.hi) ∷ []) []) old new) (sym h) (users_one d s.lo s.hi old new l)

pub off_listed : (d : Document) (p : Position) (s : Segment) (old : List RingName) → is_on p s.lo s.hi ≡ false
    → ListsRingNames d (on_edge p s) old old
off_listed d p s old h =
    subst (λ b. ListsRingNames d (cond b ((s.lo, s.hi) ∷ []) []) old old) (sym h) (users_none d old)
