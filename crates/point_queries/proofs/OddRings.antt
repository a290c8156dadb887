-- The rings that have some segments, a segment at a time.
use Rattle.kit_words.proofs.Common.{◌≡◌, ℕ, suc, ◌+◌, ◌<◌, Bool, true, false, refl, sym, ap, ap₂, ◌∙◌, subst, ◌&&◌}
use Rattle.kit_words.proofs.Common.{arith, List, [], ◌∷◌, ◌++◌, take, length, get_or, append_assoc, inl, inr, Option}
use Rattle.kit_words.proofs.Common.{Some, None, is_some, ◌==◌, unwrap_or, list_any, false≢true, Decides-eqb, append-nil}
use Rattle.kit_words.proofs.Common.{take_more, and_parts}
use Rattle.grid_geometry.specs.Common.{Position, xor, Segment, segment, segment_eq}
use Rattle.ring_machine.specs.Common.{Document, segments}
use Rattle.ring_machine.proofs.Common.{in-append, contains_in, in_contains, any_in, in_any, same_answer, xor-none}
use Rattle.map_frame.specs.declared.names.RingName.{RingName}
use Rattle.map_frame.proofs.Common.{of_in}
use Rattle.arc_store.specs.Common.{RingHas, AreOnce, ListsRings}
use Rattle.point_queries.specs.Common.{EachOnce, ListsOdd, ring_named, ring_has, is_name}
use Rattle.point_queries.proofs.Odds.{odd-append, odd_apart}

-- ---- names of rings

pub is_name-true : (a b : RingName) → is_name a b ≡ true → a ≡ b
is_name-true a b h =
    let k = and_parts (a.feature == b.feature) (a.polygon == b.polygon && a.ring == b.ring) h in
    let l = and_parts (a.polygon == b.polygon) (a.ring == b.ring) k.1 in
    let feature = (Decides-eqb a.feature b.feature).0 k.0 in
    let polygon = (Decides-eqb a.polygon b.polygon).0 l.0 in
    let ring = (Decides-eqb a.ring b.ring).0 l.1 in
    λ i. record { feature = feature i; polygon = polygon i; ring = ring i }

pub is_name-refl : (a : RingName) → is_name a a ≡ true
is_name-refl a =
    ap₂ (λ y z. y && z) ((Decides-eqb a.feature a.feature).1 refl)
    (ap₂ (λ y z. y && z) ((Decides-eqb a.polygon a.polygon).1 refl) ((Decides-eqb a.ring a.ring).1 refl))

apart_once : (names : List RingName) → AreOnce names → EachOnce is_name names
apart_once [] h = tt
apart_once (name ∷ names) h = (by (list_any (is_name name) names) refl, apart_once names (λ i j x e f. omega (arith, h (suc i) (suc j) x e f)))
  where
    by : (b : Bool) → list_any (is_name name) names ≡ b → b ≡ false
    by false e = refl
    by true e =
        let other = any_in (is_name name) names e in
        let place = of_in names other.0 other.1 in
        absurd (omega (arith, h 0 (suc place.0) name refl (place.1 ∙ ap Some (sym (is_name-true name other.0 other.2)))))

-- ---- one segment

pub has_of : (d : Document) (s : Segment) (name : RingName) → RingHas d (segment s.lo s.hi) name → ring_has d name s ≡ true
has_of d s name h = ap (λ o. list_any (segment_eq (segment s.lo s.hi)) (segments (unwrap_or o []))) h.there ∙ h.has

pub of_has : (d : Document) (s : Segment) (name : RingName) → ring_has d name s ≡ true → RingHas d (segment s.lo s.hi) name
of_has d s name h = by (ring_named d name) refl h
  where
    by : (o : Option (List Position)) → ring_named d name ≡ o
        → list_any (segment_eq (segment s.lo s.hi)) (segments (unwrap_or o [])) ≡ true → RingHas d (segment s.lo s.hi) name
    by None e k = absurd (false≢true k)
    by (Some positions) e k = record { positions = positions; there = e; has = k }

pub odd_none_listed : (d : Document) (old : List RingName) → ListsOdd d [] old old
odd_none_listed d old = record {
  found = [];
  appended = sym (append-nil old);
  rings = λ name c. absurd (contains_in [] name c);
  odds = λ name. refl;
}

pub odd_one_listed : (d : Document) (s : Segment) (old new : List RingName) → ListsRings d (segment s.lo s.hi) old new
    → ListsOdd d (s ∷ []) old new
odd_one_listed d s old new l = record {
  found = l.found;
  appended = l.appended;
  rings = λ name c. ap is_some ((l.all name).0 c).there;
  odds = λ name.
      odd_apart is_name is_name-true name l.found (apart_once l.found l.once)
      ∙ same_answer (list_any (is_name name) l.found) (ring_has d name s)
      (λ h. let other = any_in (is_name name) l.found h in
      has_of d s name (subst (RingHas d (segment s.lo s.hi)) (sym (is_name-true name other.0 other.2)) ((l.all other.0).0 (in_contains l.found other.0 other.1))))
      (λ h. in_any (is_name name) name l.found (contains_in l.found name ((l.all name).1 (of_has d s name h))) (is_name-refl name))
      ∙ sym (xor-none (ring_has d name s));
}

-- ---- more segments

both_listed : (d : Document) (ss ts : List Segment) (a b c : List RingName) → ListsOdd d ss a b → ListsOdd d ts b c → ListsOdd d (ss ++ ts) a c
both_listed d ss ts a b c g h = record {
  found = g.found ++ h.found;
  appended = h.appended ∙ ap (λ z. z ++ h.found) g.appended ∙ append_assoc a g.found h.found;
  rings = λ name m. elim (in-append name g.found h.found (contains_in (g.found ++ h.found) name m)) [
    | inl i ↦ g.rings name (in_contains g.found name i)
    | inr i ↦ h.rings name (in_contains h.found name i)
  ];
  odds = λ name.
      odd-append (is_name name) g.found h.found ∙ ap₂ xor (g.odds name) (h.odds name)
      ∙ sym (odd-append (ring_has d name) ss ts);
}

pub odd_more_listed : (d : Document) (ss : List Segment) (i : ℕ) (s : Segment) (a b c : List RingName) → i < length ss
    → ListsOdd d (take i ss) a b → ListsOdd d (get_or ss i s ∷ []) b c → ListsOdd d (take (i + 1) ss) a c
odd_more_listed d ss i s a b c l g h =
    subst (λ z. ListsOdd d z a c) (sym (take_more ss i s l)) (both_listed d (take i ss) (get_or ss i s ∷ []) a b c g h)
