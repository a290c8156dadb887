-- Vertices come in one after the other, and go out again.
use Rattle.kit_words.proofs.Common.{◌≡◌, ◌≢◌, ℕ, ◌+◌, ◌≤◌, zero, suc, Bool, true, false, refl, sym, ap, ap₂, ◌∙◌, subst}
use Rattle.kit_words.proofs.Common.{List, [], ◌∷◌, ◌++◌, take, ◌-◌, inl, inr, arith, get_or, length, Contains, flat_map}
use Rattle.kit_words.proofs.Common.{AllByRecursion, get_or_default, take_more, flat_map-append, Option, None, Some}
use Rattle.kit_words.proofs.Common.{option_map, is_some, cases_eq, cases_Bool, nat_tests}
use Rattle.std.specs.FinMap as rings
use Rattle.slab.specs.Slab.{Slab, get}
use Rattle.arc_tables.specs.Common.{Arc, Use, Put, Tables, Edge, links, walk, chain, is_seg, times, Once, AreApart}
use Rattle.arc_tables.specs.Common.{over, through, drawn, collapsed, Collapses, IsOff, throughs, taken_back, ArePuts}
use Rattle.arc_tables.specs.Common.{WerePut, IsPlace, path_in, path_of, uses_in, rings_of}
use Rattle.arc_tables.proofs.Segments.{once_for}
use Rattle.arc_tables.proofs.Moves.{flipped, links-reverse, times-append, same_seg}
use Rattle.arc_tables.proofs.RingLemmas.{rings_kept}
use Rattle.arc_tables.proofs.EditLemmas.{Turns, EditsArcs, edit-flipped, edited_everywhere}
use Rattle.arc_tables.proofs.Inserting.{over-turns, placed, with_q, once_through}

-- ---- edges of which none ends at a vertex

off_first : (q : ℕ) (e : Edge) (es : List Edge) → IsOff q (e ∷ es) → e.0 ≢ q
off_first q e es h = grind (arith, nat_tests, h e.1)

off_second : (q : ℕ) (e : Edge) (es : List Edge) → IsOff q (e ∷ es) → e.1 ≢ q
off_second q e es h = grind (arith, nat_tests, h e.0)

off_tail : (q : ℕ) (e : Edge) (es : List Edge) → IsOff q (e ∷ es) → IsOff q es
off_tail q e es h x = omega (arith, h x)

-- they stay where the vertex moves
pub unmoved : (p b : ℕ) (es : List Edge) → IsOff p es → collapsed p b es ≡ es
unmoved p b [] h = refl
unmoved p b (e ∷ es) h = grind (arith, nat_tests, h b, h e.0, h e.1, unmoved p b es (off_tail p e es h))

-- another vertex that comes in leaves it so
pub off_through : (a b q r : ℕ) → r ≢ q → (es : List Edge) → IsOff r es → IsOff r (through a b q es)
off_through a b q r ne [] h x = h x
off_through a b q r ne (e ∷ es) h x = grind (arith, nat_tests, times-append r x (over a b q e) (through a b q es), h x, h e.0, h e.1, off_through a b q r ne es (off_tail r e es h) x)

-- ---- one vertex

undone_edge : (a b q : ℕ) → AreApart a b q → (e : Edge) → e.0 ≢ q → e.1 ≢ q → collapsed q b (over a b q e) ≡ e ∷ []
undone_edge a b q ne e f g = grind (arith, nat_tests, ne.0, ne.1, ne.2)

-- it goes out again
pub undone : (a b q : ℕ) → AreApart a b q → (es : List Edge) → IsOff q es → collapsed q b (through a b q es) ≡ es
undone a b q ne [] h = refl
undone a b q ne (e ∷ es) h = flat_map-append (drawn q b) (over a b q e) (through a b q es) ∙ ap₂ (λ u v. u ++ v) (undone_edge a b q ne e (off_first q e es h) (off_second q e es h)) (undone a b q ne es (off_tail q e es h))

-- it has a segment with b wherever that of a and b was
with_b : (a b q : ℕ) (es : List Edge) → times a b es ≤ times q b (through a b q es)
with_b a b q [] = omega arith
with_b a b q (e ∷ es) = grind (arith, nat_tests, times-append q b (over a b q e) (through a b q es), with_b a b q es)

-- and nowhere else a segment
pub stands_beside : (a b q : ℕ) → AreApart a b q → (es : List Edge) → IsOff q es → (x : ℕ) → 1 ≤ times q x (through a b q es) → 1 ≤ times q b (through a b q es)
stands_beside a b q ne es h x k = omega (arith, k, with_q a b q ne x es h, with_b a b q es)

-- any other segment stays
other_stays : (a b q c d : ℕ) → is_seg c d (a, b) ≡ false → (es : List Edge) → times c d es ≤ times c d (through a b q es)
other_stays a b q c d f [] = omega arith
other_stays a b q c d f (e ∷ es) = grind (arith, nat_tests, times-append c d (over a b q e) (through a b q es), other_stays a b q c d f es)

-- where each segment stands once with the vertex, it did without
pub once_before : (a b q : ℕ) (s t : ℕ → List ℕ) → ((i : ℕ) → links (s i) ≡ through a b q (links (t i))) → Once s → Once t
once_before a b q s t k = once_for s t (λ c d. elim (cases_Bool (is_seg c d (a, b))) [
  | inl f ↦ (q, b, λ i. omega (arith, same_seg a b c d f (links (t i)), with_b a b q (links (t i)), ap (times q b) (k i)))
  | inr f ↦ (c, d, λ i. omega (arith, other_stays a b q c d f (links (t i)), ap (times c d) (k i)))
])

-- the same edges
pub once_linked : (s t : ℕ → List ℕ) → ((i : ℕ) → links (t i) ≡ links (s i)) → Once s → Once t
once_linked s t same = once_for s t (λ c d. (c, d, λ i. omega (arith, ap (times c d) (same i))))

-- ---- the arc of a place

-- the vertex has no segment in an arc in which it has none with b
pub off_unless : (q b : ℕ) (es : List Edge) → ((x : ℕ) → 1 ≤ times q x es → 1 ≤ times q b es) → (1 ≤ times q b es → ⊥) → IsOff q es
off_unless q b es beside h x = grind (arith, beside x)

-- both keys of a place stand in the path
pub second_there : (q b at : ℕ) (back : Bool) (ps : List ℕ) → IsPlace ps at back q b → Contains ps b
second_there q b at true ps p = (at, omega (arith, p.within), get_or_default ps at b 0 (omega (arith, p.within)) ∙ p.here)
second_there q b at false ps p = (at + 1, omega (arith, p.within), get_or_default ps (at + 1) b 0 (omega (arith, p.within)) ∙ p.next)

module _ {A : Type 0} where
  -- the one arc with the segment changes, and no other has the vertex
  pub collapsed_at : (arcs arcs' : Slab (Arc A)) (i q b at : ℕ) (back : Bool) → IsPlace (path_in (get arcs i)) at back q b → Once (λ j. path_in (get arcs j)) →
      ((j x : ℕ) → 1 ≤ times q x (links (path_in (get arcs j))) → 1 ≤ times q b (links (path_in (get arcs j)))) →
      Collapses q b (path_in (get arcs i)) (path_in (get arcs' i)) → ((j : ℕ) → j ≢ i → get arcs' j ≡ get arcs j) → EditsArcs (drawn q b) (λ j. path_in (get arcs j)) (λ j. path_in (get arcs' j))
  collapsed_at arcs arcs' i q b at back p once beside here others j = elim (cases_eq j i) [
    | inl f ↦ subst (λ k. links (path_in (get arcs' k)) ≡ collapsed q b (links (path_in (get arcs k)))) (sym f) here.edges
    | inr f ↦ ap (λ o. links (path_in o)) (others j f)
        ∙ sym (unmoved q b (links (path_in (get arcs j))) (off_unless q b (links (path_in (get arcs j))) (beside j) (λ k. f (once.apart q b j i k (placed q b at back (path_in (get arcs i)) p)))))
  ]

-- ---- many vertices

pub throughs-append : (ps qs : List Put) (es : List Edge) → throughs (ps ++ qs) es ≡ throughs qs (throughs ps es)
throughs-append [] qs es = refl
throughs-append (p ∷ ps) qs es = throughs-append ps qs (through p.a p.b p.q es)

pub taken_back-append : (ps qs : List Put) (es : List Edge) → taken_back (ps ++ qs) es ≡ taken_back ps (taken_back qs es)
taken_back-append [] qs es = refl
taken_back-append (p ∷ ps) qs es = ap (collapsed p.q p.b) (taken_back-append ps qs es)

all_split : (P : Put → Type 0) (ps : List Put) (p : Put) → AllByRecursion P (ps ++ p ∷ []) → AllByRecursion P ps × P p
all_split P [] p h = (tt, h.0)
all_split P (r ∷ ps) p h = let k = all_split P ps p h.1 in ((h.0, k.0), k.1)

all_taken : (P : Put → Type 0) (ps : List Put) (n : ℕ) → AllByRecursion P ps → AllByRecursion P (take n ps)
all_taken P ps zero h = tt
all_taken P [] (suc n) h = tt
all_taken P (p ∷ ps) (suc n) h = (h.0, all_taken P ps n h.1)

-- the last of the first so many
pub taken_last : (ps : List Put) (n : ℕ) (p : Put) → 1 ≤ n → n ≤ length ps → p ≡ get_or ps (n - 1) p → take n ps ≡ take (n - 1) ps ++ p ∷ []
taken_last ps n p some within is =
    let e : n ≡ (n - 1) + 1 = omega (arith, some) in
    ap (λ m. take m ps) e ∙ take_more ps (n - 1) p (omega (arith, some, within)) ∙ ap (λ z. take (n - 1) ps ++ z ∷ []) (sym is)

-- these were put in, the last of them last
pub last_of : (ps : List Put) (n : ℕ) (p : Put) (path : ℕ → List ℕ) → 1 ≤ n → n ≤ length ps → p ≡ get_or ps (n - 1) p → WerePut (take n ps) path → WerePut (take (n - 1) ps ++ p ∷ []) path
last_of ps n p path some within is = subst (λ z. WerePut z path) (taken_last ps n p some within is)

-- the last of some puts
abbrev pub IsLast : (ℕ → Type 0) → List Put → Put → Type 0
IsLast IsNew ps p = ArePuts IsNew ps × AreApart p.a p.b p.q × IsNew p.q × AllByRecursion (λ r. p.q ≢ r.q) ps

pub puts_split : (IsNew : ℕ → Type 0) (ps : List Put) (p : Put) → ArePuts IsNew (ps ++ p ∷ []) → IsLast IsNew ps p
puts_split IsNew [] p h = (tt, h.0, h.1, tt)
puts_split IsNew (r ∷ ps) p h =
    let k = puts_split IsNew ps p h.3 in
    let f = all_split (λ z. z.q ≢ r.q) ps p h.2 in
    ((h.0, h.1, f.0, k.0), k.1, k.2, (f.1, k.3))

pub puts_taken : (IsNew : ℕ → Type 0) (ps : List Put) (n : ℕ) → ArePuts IsNew ps → ArePuts IsNew (take n ps)
puts_taken IsNew ps zero h = tt
puts_taken IsNew [] (suc n) h = tt
puts_taken IsNew (p ∷ ps) (suc n) h = (h.0, h.1, all_taken (λ z. z.q ≢ p.q) ps n h.2, puts_taken IsNew ps n h.3)

pub puts_map : (P Q : ℕ → Type 0) → ((q : ℕ) → P q → Q q) → (ps : List Put) → ArePuts P ps → ArePuts Q ps
puts_map P Q f [] h = tt
puts_map P Q f (p ∷ ps) h = (h.0, f p.q h.1, h.2, puts_map P Q f ps h.3)

-- a vertex that none of them is stays away
off_throughs : (ps : List Put) (r : ℕ) (es : List Edge) → AllByRecursion (λ p. r ≢ p.q) ps → IsOff r es → IsOff r (throughs ps es)
off_throughs [] r es h k = k
off_throughs (p ∷ ps) r es h k = off_throughs ps r (through p.a p.b p.q es) h.1 (off_through p.a p.b p.q r h.0 es k)

-- after the first the others are still new
puts_after : (p : Put) (es : List Edge) (ps : List Put) → AllByRecursion (λ r. r.q ≢ p.q) ps → ArePuts (λ q. IsOff q es) ps → ArePuts (λ q. IsOff q (through p.a p.b p.q es)) ps
puts_after p es [] f h = tt
puts_after p es (r ∷ ps) f h = (h.0, off_through p.a p.b p.q r.q f.0 es h.1, h.2, puts_after p es ps f.1 h.3)

-- all go out again
pub all_undone : (ps : List Put) (es : List Edge) → ArePuts (λ q. IsOff q es) ps → taken_back ps (throughs ps es) ≡ es
all_undone [] es h = refl
all_undone (p ∷ ps) es h = ap (collapsed p.q p.b) (all_undone ps (through p.a p.b p.q es) (puts_after p es ps h.2 h.3)) ∙ undone p.a p.b p.q h.0 es h.1

-- ---- one more

module _ (ps : List Put) (p : Put) (old s t : ℕ → List ℕ) (k : (i : ℕ) → links (s i) ≡ throughs ps (links (old i))) (new : (i : ℕ) → links (t i) ≡ through p.a p.b p.q (links (s i))) where
  pub one_more_put : (i : ℕ) → links (t i) ≡ throughs (ps ++ p ∷ []) (links (old i))
  one_more_put i = new i ∙ ap (through p.a p.b p.q) (k i) ∙ sym (throughs-append ps (p ∷ []) (links (old i)))

  pub once_put : ArePuts (λ q. (i : ℕ) → IsOff q (links (old i))) (ps ++ p ∷ []) → Once s → Once t
  once_put fits =
      let last = puts_split (λ q. (i : ℕ) → IsOff q (links (old i))) ps p fits in
      once_through p.a p.b p.q last.1 s t new (λ x i. ap (times p.q x) (k i) ∙ off_throughs ps p.q (links (old i)) last.3 (last.2 i) x)

-- ---- the last goes

module _ (ps : List Put) (p : Put) (s : ℕ → List ℕ) (w : WerePut (ps ++ p ∷ []) s) where
  its : IsLast (λ q. (i : ℕ) → IsOff q (w.before i)) ps p
  its = puts_split (λ q. (i : ℕ) → IsOff q (w.before i)) ps p w.fits

  off_so_far : (i : ℕ) → IsOff p.q (throughs ps (w.before i))
  off_so_far i = off_throughs ps p.q (w.before i) its.3 (its.2 i)

  last_put : (i : ℕ) → links (s i) ≡ through p.a p.b p.q (throughs ps (w.before i))
  last_put i = w.put i ∙ throughs-append ps (p ∷ []) (w.before i)

  pub last_apart : p.b ≢ p.q
  last_apart = its.1.2

  pub last_beside : (i x : ℕ) → 1 ≤ times p.q x (links (s i)) → 1 ≤ times p.q p.b (links (s i))
  last_beside i x h = subst (λ es. 1 ≤ times p.q p.b es) (sym (last_put i)) (stands_beside p.a p.b p.q its.1 (throughs ps (w.before i)) (off_so_far i) x (subst (λ es. 1 ≤ times p.q x es) (last_put i) h))

  module _ (t : ℕ → List ℕ) (k : (i : ℕ) → links (t i) ≡ collapsed p.q p.b (links (s i))) where
    left_put : (i : ℕ) → links (t i) ≡ throughs ps (w.before i)
    left_put i = k i ∙ ap (collapsed p.q p.b) (last_put i) ∙ undone p.a p.b p.q its.1 (throughs ps (w.before i)) (off_so_far i)

    pub were_before : WerePut ps t
    were_before = record { before = w.before; fits = its.0; put = left_put }

    pub once_left : Once s → Once t
    once_left = once_before p.a p.b p.q s t (λ i. last_put i ∙ ap (through p.a p.b p.q) (sym (left_put i)))

-- ---- the edit of each edge

-- what these puts make of an edge
abbrev pub overs : List Put → Edge → List Edge
overs ps e = throughs ps (e ∷ [])

throughs-edges : (ps : List Put) (es fs : List Edge) → throughs ps (es ++ fs) ≡ throughs ps es ++ throughs ps fs
throughs-edges [] es fs = refl
throughs-edges (p ∷ ps) es fs = ap (throughs ps) (flat_map-append (over p.a p.b p.q) es fs) ∙ throughs-edges ps (through p.a p.b p.q es) (through p.a p.b p.q fs)

throughs-none : (ps : List Put) → throughs ps [] ≡ []
throughs-none [] = refl
throughs-none (p ∷ ps) = throughs-none ps

pub throughs_each : (ps : List Put) (es : List Edge) → throughs ps es ≡ flat_map (overs ps) es
throughs_each ps [] = throughs-none ps
throughs_each ps (e ∷ es) = throughs-edges ps (e ∷ []) es ∙ ap (λ z. overs ps e ++ z) (throughs_each ps es)

throughs-flipped : (ps : List Put) (es : List Edge) → throughs ps (flipped es) ≡ flipped (throughs ps es)
throughs-flipped [] es = refl
throughs-flipped (p ∷ ps) es = ap (throughs ps) (edit-flipped (over p.a p.b p.q) (over-turns p.a p.b p.q) es) ∙ throughs-flipped ps (through p.a p.b p.q es)

pub overs-turns : (ps : List Put) → Turns (overs ps)
overs-turns ps e = throughs-flipped ps (e ∷ [])

module _ {A : Type 0} where
  -- every ring that the map has leads over the vertices
  pub put_everywhere : (ps : List Put) (s t : Tables A) → ((i : ℕ) → links (path_of t i) ≡ throughs ps (links (path_of s i))) → t.rings ≡ s.rings → (r : ℕ) → rings.get (rings_of t) r ≡ option_map (throughs ps) (rings.get (rings_of s) r)
  put_everywhere ps s t put same r =
      edited_everywhere (overs ps) s t (overs-turns ps) (λ i. put i ∙ throughs_each ps (links (path_of s i))) same r ∙ by (rings.get (rings_of s) r)
    where
      by : (o : Option (List Edge)) → option_map (flat_map (overs ps)) o ≡ option_map (throughs ps) o
      by None = refl
      by (Some es) = ap (λ z. Some z) (sym (throughs_each ps es))

-- ---- the same edges

walk_linked : (ps qs : List ℕ) → links qs ≡ links ps → (back : Bool) → links (walk back qs) ≡ links (walk back ps)
walk_linked ps qs k false = k
walk_linked ps qs k true = links-reverse qs ∙ ap flipped k ∙ sym (links-reverse ps)

chain_linked : (s t : ℕ → List ℕ) → ((i : ℕ) → links (t i) ≡ links (s i)) → (us : List Use) → chain t us ≡ chain s us
chain_linked s t k [] = refl
chain_linked s t k (u ∷ us) = ap₂ (λ y z. y ++ z) (walk_linked (s u.arc) (t u.arc) (k u.arc) u.back) (chain_linked s t k us)

module _ {A : Type 0} where
  -- no edge of an arc and no use changed
  pub rings_linked : (s t : Tables A) → ((i : ℕ) → links (path_of t i) ≡ links (path_of s i)) → t.rings ≡ s.rings → rings_of t ≡ rings_of s
  rings_linked s t k same = rings_kept s t (λ r. ap (λ z. is_some (get z r)) same) (record {
    same = λ r. chain_linked (path_of s) (path_of t) k (uses_in (get t.rings r)) ∙ ap (λ z. chain (path_of s) (uses_in (get z r))) same;
    once = once_linked (path_of s) (path_of t) k;
  })
