-- A vertex moves onto its neighbour.
use Rattle.kit_words.proofs.Common.{◌≡◌, ◌≢◌, ℕ, ◌+◌, ◌≤◌, ◌<◌, suc, true, false, cond, refl, sym, ap, ap₂, ◌∙◌, subst}
use Rattle.kit_words.proofs.Common.{List, [], ◌∷◌, ◌++◌, map, take, drop, set, length, get_or, ◌⊎◌, inl, inr, arith}
use Rattle.kit_words.proofs.Common.{Contains, append_assoc, remove, cases_eq, cases_Bool, nat_tests, take-append-drop}
use Rattle.kit_words.proofs.Common.{take_more, map-append, get_or_default, length-take, length-drop, length-append}
use Rattle.kit_words.proofs.Common.{length-map, map_over_more, flat_map-append, Contains-append_left}
use Rattle.kit_words.proofs.Common.{Contains-append_right, Contains-append_cases}
use Rattle.slab.specs.Slab.{Slab, get}
use Rattle.slab.proofs.SlabLemmas.{Contains-cons, Contains-cons_cases}
use Rattle.arc_tables.specs.Common.{Edge, links, is_seg, one, times, Once, AreApart, onto, drawn, collapsed, Collapses}
use Rattle.arc_tables.specs.Common.{CollapsesAmong, Arc, Stand, IsPlace, path_in, stand_at, Listed, ListsMore}
use Rattle.arc_tables.specs.Common.{SameUsers}
use Rattle.arc_tables.proofs.Moves.{is_seg-flip, links-append, times-append, same_seg}
use Rattle.arc_tables.proofs.StoreLemmas.{taken_cases}
use Rattle.arc_tables.proofs.Held.{none_at}
use Rattle.arc_tables.proofs.Segments.{once_for}
use Rattle.arc_tables.proofs.EditLemmas.{Turns, EditsArcs}
use Rattle.arc_tables.proofs.Inserting.{parted, of_place, at_next}

-- one more place of a list that is changed in place
pub put_step : (f : ℕ → ℕ) (xs ys : List ℕ) (i r y : ℕ) → i < length xs → ys ≡ map f (take i xs) ++ drop i xs → y ≡ f (get_or ys i r) → set ys i y ≡ map f (take (i + 1) xs) ++ drop (i + 1) xs
put_step f xs ys i r y l h e =
    let n : length ys ≡ length xs = ap length h ∙ simp (length-append, length-map, length-take, length-drop) (omega arith) in
    let m : i < length ys = omega arith in
    ap (set ys i) e ∙ map_over_more f xs ys i (get_or ys i r) l h (get_or_default ys i r (get_or ys i r) m)

pub drawn-turns : (p b : ℕ) → Turns (drawn p b)
drawn-turns p b e = grind (arith, is_seg-flip p b e)

-- ---- in one path

pub onto_p : (p b k : ℕ) → k ≡ p → onto p b k ≡ b
onto_p p b k e = grind (arith, nat_tests)

pub onto_other : (p b k : ℕ) → k ≢ p → onto p b k ≡ k
onto_other p b k f = grind (arith, nat_tests)

pub onto_b : (p b : ℕ) → onto p b b ≡ b
onto_b p b = grind (arith, nat_tests)

-- where the segment does not stand
pub moved_links : (p b : ℕ) (ps : List ℕ) → times p b (links ps) ≡ 0 → links (map (onto p b) ps) ≡ collapsed p b (links ps)
moved_links p b [] h = refl
moved_links p b (x ∷ []) h = refl
moved_links p b (x ∷ y ∷ ps) h = grind (arith, moved_links p b (y ∷ ps))

-- and where it stands once
pub drawn_links : (p b : ℕ) (us : List ℕ) (x y z : ℕ) (vs : List ℕ) → is_seg p b (x, y) ≡ true → onto p b z ≡ b → times p b (links (us ++ x ∷ y ∷ vs)) ≤ 1 →
    links (map (onto p b) (us ++ z ∷ vs)) ≡ collapsed p b (links (us ++ x ∷ y ∷ vs))
drawn_links p b us x y z vs h at_b once =
    let f : ℕ → ℕ = onto p b in
    let whole : links (us ++ x ∷ y ∷ vs) ≡ links (us ++ x ∷ []) ++ (x, y) ∷ links (y ∷ vs) = links-append us x (y ∷ vs) in
    let count : times p b (links (us ++ x ∷ y ∷ vs)) ≡ times p b (links (us ++ x ∷ [])) + (one (is_seg p b (x, y)) + times p b (links (y ∷ vs))) = ap (times p b) whole ∙ times-append p b (links (us ++ x ∷ [])) ((x, y) ∷ links (y ∷ vs)) in
    let here : one (is_seg p b (x, y)) ≡ 1 = ap one h in
    let first : links (map f us ++ f x ∷ []) ≡ collapsed p b (links (us ++ x ∷ [])) = ap links (sym (map-append f us (x ∷ []))) ∙ moved_links p b (us ++ x ∷ []) (omega arith) in
    let second : links (f y ∷ map f vs) ≡ collapsed p b (links (y ∷ vs)) = moved_links p b (y ∷ vs) (omega arith) in
    let ends = both_at p b x y h in
    ap links (map-append f us (z ∷ vs))
    ∙ links-append (map f us) (f z) (map f vs)
    ∙ ap₂ (λ u v. links (map f us ++ u ∷ []) ++ links (v ∷ map f vs)) (at_b ∙ sym ends.0) (at_b ∙ sym ends.1)
    ∙ ap₂ (λ u v. u ++ v) first second
    ∙ sym (ap (collapsed p b) whole
    ∙ flat_map-append (drawn p b) (links (us ++ x ∷ [])) ((x, y) ∷ links (y ∷ vs))
    ∙ ap (λ t. collapsed p b (links (us ++ x ∷ [])) ++ (cond t [] ((f x, f y) ∷ []) ++ collapsed p b (links (y ∷ vs)))) h)
  where
    both_at : (p b x y : ℕ) → is_seg p b (x, y) ≡ true → (onto p b x ≡ b) × (onto p b y ≡ b)
    both_at p b x y h = grind (arith, nat_tests)

pub removed_first : (ps : List ℕ) (at : ℕ) → at + 1 < length ps → remove ps at ≡ take at ps ++ get_or ps (at + 1) 0 ∷ drop (at + 2) ps
removed_first ps at l = ap (λ z. take at ps ++ z) (at_next ps (at + 1) (suc at) (at + 2) (omega arith) (omega arith) l)

pub removed_second : (ps : List ℕ) (at : ℕ) → at + 1 < length ps → remove ps (at + 1) ≡ take at ps ++ get_or ps at 0 ∷ drop (at + 2) ps
removed_second ps at l =
    let e : suc (at + 1) ≡ at + 2 = omega arith in
    ap₂ (λ y k. y ++ drop k ps) (take_more ps at 0 (omega arith)) e ∙ append_assoc (take at ps) (get_or ps at 0 ∷ []) (drop (at + 2) ps)

-- the place's key of p goes
pub removed_at : (p b at : ℕ) (ps : List ℕ) → IsPlace ps at false p b → times p b (links ps) ≤ 1 → links (map (onto p b) (remove ps at)) ≡ collapsed p b (links ps)
removed_at p b at ps k once =
    let parts = parted ps at k.within in
    ap (λ z. links (map (onto p b) z)) (removed_first ps at k.within)
    ∙ drawn_links p b (take at ps) (get_or ps at 0) (get_or ps (at + 1) 0) (get_or ps (at + 1) 0) (drop (at + 2) ps) (of_place p b at false ps k) (ap (onto p b) k.next ∙ onto_b p b) (subst (λ z. times p b (links z) ≤ 1) parts once)
    ∙ ap (λ z. collapsed p b (links z)) (sym parts)

pub removed_after : (p b at : ℕ) (ps : List ℕ) → IsPlace ps at true p b → times p b (links ps) ≤ 1 → links (map (onto p b) (remove ps (at + 1))) ≡ collapsed p b (links ps)
removed_after p b at ps k once =
    let parts = parted ps at k.within in
    ap (λ z. links (map (onto p b) z)) (removed_second ps at k.within)
    ∙ drawn_links p b (take at ps) (get_or ps at 0) (get_or ps (at + 1) 0) (get_or ps at 0) (drop (at + 2) ps) (of_place p b at true ps k) (ap (onto p b) k.here ∙ onto_b p b) (subst (λ z. times p b (links z) ≤ 1) parts once)
    ∙ ap (λ z. collapsed p b (links z)) (sym parts)

-- no other key is left
in_drop : (i : ℕ) (ps : List ℕ) (k : ℕ) → Contains (drop i ps) k → Contains ps k
in_drop i ps k m = subst (λ z. Contains z k) (take-append-drop i ps) (Contains-append_right (take i ps) (drop i ps) k m)

pub in_removed : (ps : List ℕ) (i k : ℕ) → Contains (remove ps i) k → Contains ps k
in_removed ps i k m = elim (Contains-append_cases (take i ps) (drop (suc i) ps) k m) [
  | inl y ↦ subst (λ z. Contains z k) (take-append-drop i ps) (Contains-append_left (take i ps) (drop i ps) k y)
  | inr y ↦ in_drop (suc i) ps k y
]

pub in_moved : (p b : ℕ) → b ≢ p → (ps : List ℕ) (k : ℕ) → Contains (map (onto p b) ps) k → (k ≢ p) × (Contains ps k ⊎ (k ≡ b))
in_moved p b ne [] k m = absurd (omega (arith, m.1))
in_moved p b ne (x ∷ ps) k m = elim (Contains-cons_cases (onto p b x) k (map (onto p b) ps) m) [
  | inl e ↦ elim (cases_eq x p) [
    | inl f ↦ let at_b : b ≡ k = sym (onto_p p b x f) ∙ e in ((λ g. ne (at_b ∙ g)), inr (sym at_b))
    | inr f ↦ let at_x : x ≡ k = sym (onto_other p b x f) ∙ e in ((λ g. f (at_x ∙ g)), inl (0, omega arith, at_x))
  ]
  | inr y ↦ let r = in_moved p b ne ps k y in (r.0, elim r.1 [ inl z ↦ inl (Contains-cons x k ps z) | inr f ↦ inr f ])
]

pub collapses_by : (p b : ℕ) (old mid new : List ℕ) → b ≢ p → links (map (onto p b) mid) ≡ collapsed p b (links old) → ((k : ℕ) → Contains mid k → Contains old k) → new ≡ map (onto p b) mid → Collapses p b old new
collapses_by p b old mid new ne e keys is = record {
  edges = ap links is ∙ e;
  keys = λ k m. let r = in_moved p b ne mid k (subst (λ z. Contains z k) is m) in (r.0, elim r.1 [ inl y ↦ inl (keys k y) | inr f ↦ inr f ]);
}

-- ---- in all arcs

-- a path without p stays
pub collapses_none : (p b : ℕ) (ps : List ℕ) → (Contains ps p → ⊥) → collapsed p b (links ps) ≡ links ps
collapses_none p b ps h = sym (moved_links p b ps (none_at p b ps h)) ∙ ap links (same ps h)
  where
    same : (qs : List ℕ) → (Contains qs p → ⊥) → map (onto p b) qs ≡ qs
    same [] f = refl
    same (q ∷ qs) f = ap₂ (λ y z. y ∷ z) (onto_other p b q (λ e. f (0, omega arith, e))) (same qs (λ m. f (Contains-cons q p qs m)))

collapses_twice : (p b : ℕ) (old mid new : List ℕ) → Collapses p b old mid → Collapses p b mid new → Collapses p b old new
collapses_twice p b old mid new f g = record {
  edges = g.edges ∙ collapses_none p b mid (λ m. (f.keys p m).0 refl) ∙ f.edges;
  keys = λ k m. let r = g.keys k m in (r.0, elim r.1 [ inl y ↦ (f.keys k y).1 | inr e ↦ inr e ]);
}

-- before a path is drawn in it has the segment once at most
pub among_once : (among : List ℕ) (j p b : ℕ) (old now : List ℕ) → CollapsesAmong among j p b old now → times p b (links old) ≤ 1 → times p b (links now) ≤ 1
among_once among j p b old now (inl f) h = omega (arith, none_at p b now (λ m. (f.1.keys p m).0 refl))
among_once among j p b old now (inr f) h = subst (λ z. times p b (links z) ≤ 1) (sym f.0) h

-- one arc more
pub among_next : (among : List ℕ) (i j p b : ℕ) (old now new : List ℕ) → i < length among → CollapsesAmong (take i among) j p b old now → (j ≡ get_or among i 0 → Collapses p b now new) → (j ≢ get_or among i 0 → new ≡ now) →
    CollapsesAmong (take (i + 1) among) j p b old new
among_next among i j p b old now new l was here other = elim (cases_eq j (get_or among i 0)) [
  | inl e ↦ elim was [
    | inl f ↦ inl (more f.0, collapses_twice p b old now new f.1 (here e))
    | inr f ↦ inl (it e, subst (λ z. Collapses p b z new) f.0 (here e))
  ]
  | inr g ↦ elim was [
    | inl f ↦ inl (more f.0, subst (Collapses p b old) (sym (other g)) f.1)
    | inr f ↦ inr (other g ∙ f.0, λ m. elim (taken_cases among i j l m) [ inl y ↦ f.1 y | inr e ↦ g (sym e) ])
  ]
]
  where
    more : Contains (take i among) j → Contains (take (i + 1) among) j
    more m = subst (λ z. Contains z j) (sym (take_more among i 0 l)) (Contains-append_left (take i among) (get_or among i 0 ∷ []) j m)

    it : j ≡ get_or among i 0 → Contains (take (i + 1) among) j
    it e = subst (λ z. Contains z j) (sym (take_more among i 0 l)) (Contains-append_right (take i among) (get_or among i 0 ∷ []) j (0, omega arith, sym e))

-- ---- each segment once

module _ (a b p : ℕ) (ne : AreApart a b p) where
  -- the edges at p are those of a and of b
  abbrev pub Between : List Edge → Type 0
  Between es = ((x : ℕ) → 1 ≤ times p x es → (x ≡ a) ⊎ (x ≡ b)) × (times a b es ≡ 0)

  between_tail : (e : Edge) (es : List Edge) → Between (e ∷ es) → Between es
  between_tail e es h = ((λ x k. h.0 x (omega arith)), omega (arith, h.1))

  -- the segment of a and b comes in where that of p and a was
  with_ab : (es : List Edge) → Between es → times a b (collapsed p b es) ≤ times p a es
  with_ab [] h = omega arith
  with_ab (e ∷ es) h = grind (arith, nat_tests, times-append a b (drawn p b e) (collapsed p b es), h.0 e.0, h.0 e.1, h.1, with_ab es (between_tail e es h))

  -- any other that p does not end stays
  without_ab : (c d : ℕ) → is_seg c d (a, b) ≡ false → (es : List Edge) → Between es → times c d (collapsed p b es) ≤ times c d es
  without_ab c d off [] h = omega arith
  without_ab c d off (e ∷ es) h = grind (arith, nat_tests, times-append c d (drawn p b e) (collapsed p b es), h.0 e.0, h.0 e.1, without_ab c d off es (between_tail e es h))

  pub once_collapsed : (s t : ℕ → List ℕ) → EditsArcs (drawn p b) s t → ((i : ℕ) → Between (links (s i))) → Once s → Once t
  once_collapsed s t k h = once_for s t (λ c d. elim (cases_Bool (is_seg c d (a, b))) [
    | inl f ↦ (p, a, λ i. omega (arith, same_seg a b c d f (links (t i)), ap (times a b) (k i), with_ab (links (s i)) (h i)))
    | inr f ↦ (c, d, λ i. omega (arith, ap (times c d) (k i), without_ab c d f (links (s i)) (h i)))
  ])

module _ {A : Type 0} where
  pub users_then : (r s t : Slab (Arc A)) → SameUsers r s → SameUsers s t → SameUsers r t
  users_then r s t f g = record { there = λ j. g.there j ∙ f.there j; users = λ j. g.users j ∙ f.users j }

  -- an arc that does not stand among those of p is without p, so every arc is edited
  pub collapsed_arcs : (arcs arcs' : Slab (Arc A)) (among : List ℕ) (p b : ℕ) → ((j : ℕ) → CollapsesAmong among j p b (path_in (get arcs j)) (path_in (get arcs' j))) → ((j : ℕ) → Contains (path_in (get arcs j)) p → Contains among j) →
      EditsArcs (drawn p b) (λ j. path_in (get arcs j)) (λ j. path_in (get arcs' j))
  collapsed_arcs arcs arcs' among p b h all j = elim (h j) [
    | inl f ↦ f.1.edges
    | inr f ↦ ap links f.0 ∙ sym (collapses_none p b (path_in (get arcs j)) (λ m. f.1 (all j m)))
  ]

  -- the vertices know their arcs: b those of p too, and p none
  pub listed_collapsed : (arcs arcs' : Slab (Arc A)) (ss mid ss' : List Stand) (p b : ℕ) → ((j : ℕ) → CollapsesAmong (stand_at ss p) j p b (path_in (get arcs j)) (path_in (get arcs' j))) → b ≢ p →
      ListsMore ss mid → ((i : ℕ) → Contains (stand_at ss p) i → Contains (stand_at mid b) i) → ((j m : ℕ) → j ≢ p → Contains (stand_at mid j) m → Contains (stand_at ss' j) m) → Listed arcs ss → Listed arcs' ss'
  listed_collapsed arcs arcs' ss mid ss' p b h ne more noted kept l j k m = elim (h j) [
    | inl f ↦ let r = f.1.keys k m in kept k j r.0 (elim r.1 [ inl y ↦ more k j (l j k y) | inr e ↦ subst (λ n. Contains (stand_at mid n) j) (sym e) (noted j f.0) ])
    | inr f ↦ let was = l j k (subst (λ z. Contains z k) f.0 m) in kept k j (λ e. f.1 (subst (λ n. Contains (stand_at ss n) j) e was)) (more k j was)
  ]
