-- The list of segments under way, from left to right: its parts, and the side of each on which a vertex lies.
use Rattle.kit_words.proofs.Common.{◌≡◌, refl, sym, ap, subst, List, [], ◌∷◌, ◌++◌, inl, inr, ◌⊎◌, IsTrue, ⊎_elim}
use Rattle.kit_words.proofs.Common.{AllByRecursion, ◌∙◌, ℕ, false, map, map-append}
use Rattle.grid_geometry.specs.Common.{Position, Segment, IsSegment, conflict}
use Rattle.layer_sides.specs.Common.{bottom, is_under_way}
use Rattle.layer_sides.specs.Under.{AreInOrder}
use Rattle.ring_machine.proofs.Common.{In, in-append, in_left, in_mapped, in_recursion, in_right}
use Rattle.layer_sides.proofs.InOrder.{is_left, is_right, reaches}
use Rattle.layer_sides.proofs.Doubling.{InFineOrder, order_given, born_right_doubled, born_left_doubled}
use Rattle.layer_sides.proofs.Events.{left_of_both, right_of_both}

-- ---- what holds of each element

pub from_in : {X : Type 0} (P : X → Type 0) (xs : List X) → ((x : X) → In x xs → P x) → AllByRecursion P xs
from_in P [] h = tt
from_in P (x ∷ xs) h = (h x (inl refl), from_in P xs (λ y i. h y (inr i)))

-- a list is empty, or has a last element
pub record HasLast {X : Type 0} (xs : List X) : Type 0 where
  pub front : List X
  pub last : X
  pub is : xs ≡ front ++ last ∷ []

pub by_last : {X : Type 0} (xs : List X) → (xs ≡ []) ⊎ HasLast xs
by_last [] = inl refl
by_last (x ∷ xs) =
    inr (elim (by_last xs) [
      | inl e ↦ record { front = []; last = x; is = ap (λ zs. x ∷ zs) e }
      | inr l ↦ record { front = x ∷ l.front; last = l.last; is = ap (λ zs. x ∷ zs) l.is }
    ])

-- the segment begins at the vertex
pub record Begins (v : Position) (s : Segment) : Type 0 where
  pub segment : IsSegment s
  pub at : bottom s ≡ v

-- ---- parts of the list

-- each of the first ones lies before each of the others
abbrev pub AreBeside : List Segment → List Segment → Type 0
AreBeside ss ts = (s t : Segment) → In s ss → In t ts → InFineOrder s t

pub order_front : (ss ts : List Segment) → AreInOrder (ss ++ ts) → AreInOrder ss
order_front [] ts h = tt
order_front (s ∷ ss) ts h =
    (from_in (InFineOrder s) ss (λ t i. in_recursion (InFineOrder s) (ss ++ ts) t h.0 (in_left t ss ts i)), order_front ss ts h.1)

pub order_back : (ss ts : List Segment) → AreInOrder (ss ++ ts) → AreInOrder ts
order_back [] ts h = h
order_back (s ∷ ss) ts h = order_back ss ts h.1

pub order_across : (ss ts : List Segment) → AreInOrder (ss ++ ts) → AreBeside ss ts
order_across [] ts h s t i j = absurd i
order_across (x ∷ ss) ts h s t (inl e) j =
    subst (λ z. InFineOrder z t) e (in_recursion (InFineOrder x) (ss ++ ts) t h.0 (in_right t ss ts j))
order_across (x ∷ ss) ts h s t (inr i) j = order_across ss ts h.1 s t i j

pub order_joined : (ss ts : List Segment) → AreInOrder ss → AreInOrder ts → AreBeside ss ts → AreInOrder (ss ++ ts)
order_joined [] ts h k b = k
order_joined (s ∷ ss) ts h k b = (
  from_in (InFineOrder s) (ss ++ ts)
      (λ t i. ⊎_elim (λ (j : In t ss). in_recursion (InFineOrder s) ss t h.0 j) (λ (j : In t ts). b s t (inl refl) j) (in-append t ss ts i)),
  order_joined ss ts h.1 k (λ a t i j. b a t (inr i) j),
)

-- ---- on which side of them a vertex lies

pub map_in : {A B : Type 0} (f : A → B) (a : A) (xs : List A) → In a xs → In (f a) (map f xs)
map_in f a [] h = absurd h
map_in f a (x ∷ xs) (inl e) = inl (ap f e)
map_in f a (x ∷ xs) (inr h) = inr (map_in f a xs h)

module _ (seg : ℕ → Segment) where
  -- v is on the right of the last, so of all
  pub all_right : (v : Position) (is : List ℕ) → AreInOrder (map seg is) → ((i : ℕ) → In i is → IsTrue (reaches v (seg i)))
      → ((front : List ℕ) (i : ℕ) → is ≡ front ++ i ∷ [] → IsTrue (is_right v (seg i)))
      → (i : ℕ) → In i is → IsTrue (is_right v (seg i))
  all_right v is h r l i j =
      ⊎_elim (λ (e : is ≡ []). absurd (subst (In i) e j)) (λ (k : HasLast is). by k.front k.last k.is) (by_last is)
    where
      by : (front : List ℕ) (k : ℕ) → is ≡ front ++ k ∷ [] → IsTrue (is_right v (seg i))
      by front k e =
          ⊎_elim before only (in-append i front (k ∷ []) (subst (In i) e j))
        where
          across : AreBeside (map seg front) (seg k ∷ [])
          across = order_across (map seg front) (seg k ∷ []) (subst AreInOrder (ap (map seg) e ∙ map-append seg front (k ∷ [])) h)

          before : In i front → IsTrue (is_right v (seg i))
          before m =
              right_of_both (seg i) (seg k) v (order_given (seg i) (seg k) (across (seg i) (seg k) (map_in seg i front m) (inl refl)))
              (r i j) (r k (subst (In k) (sym e) (in_right k front (k ∷ []) (inl refl)))) (l front k e)

          only : In i (k ∷ []) → IsTrue (is_right v (seg i))
          only (inl f) = subst (λ n. IsTrue (is_right v (seg n))) f (l front k e)
          only (inr f) = absurd f

  -- v is on the left of the first, so of all
  pub all_left : (v : Position) (is : List ℕ) → AreInOrder (map seg is) → ((i : ℕ) → In i is → IsTrue (reaches v (seg i)))
      → ((i : ℕ) (back : List ℕ) → is ≡ i ∷ back → IsTrue (is_left v (seg i)))
      → (i : ℕ) → In i is → IsTrue (is_left v (seg i))
  all_left v [] h r l i j = absurd j
  all_left v (k ∷ ks) h r l i (inl e) = subst (λ n. IsTrue (is_left v (seg n))) e (l k ks refl)
  all_left v (k ∷ ks) h r l i (inr j) =
      left_of_both (seg k) (seg i) v
      (order_given (seg k) (seg i) (in_recursion (InFineOrder (seg k)) (map seg ks) (seg i) h.0 (map_in seg i ks j)))
      (r k (inl refl)) (r i (inr j)) (l k ks refl)

  -- ---- a vertex

  mapped_beside : (is js : List ℕ) → ((i j : ℕ) → In i is → In j js → InFineOrder (seg i) (seg j)) → AreBeside (map seg is) (map seg js)
  mapped_beside is js h s t i j =
      let a = in_mapped seg s is i in
      let b = in_mapped seg t js j in
      subst (λ z. InFineOrder z t) a.2 (subst (λ z. InFineOrder (seg a.0) z) b.2 (h a.0 b.0 a.1 b.1))

  module _ (v : Position) (front ended back begun : List ℕ)
      (apart : (i j : ℕ) → In i (front ++ ended ++ back) → In j begun
      → (conflict (seg i) (seg j) ≡ false) × (conflict (seg j) (seg i) ≡ false))
      (segments : (i : ℕ) → In i (front ++ ended ++ back) → IsSegment (seg i))
      (begins : (i : ℕ) → In i begun → Begins v (seg i))
      (before : AreInOrder (map seg (front ++ ended ++ back))) (turned : AreInOrder (map seg begun))
      (under_front : (i : ℕ) → In i front → IsTrue (is_under_way v (seg i)))
      (under_back : (i : ℕ) → In i back → IsTrue (is_under_way v (seg i)))
      (right : (i : ℕ) → In i front → IsTrue (is_right v (seg i))) (left : (i : ℕ) → In i back → IsTrue (is_left v (seg i))) where
    from_front : (i : ℕ) → In i front → In i (front ++ ended ++ back)
    from_front i j = in_left i (front ++ ended) back (in_left i front ended j)

    from_back : (i : ℕ) → In i back → In i (front ++ ended ++ back)
    from_back i j = in_right i (front ++ ended) back j

    front_begun : (i j : ℕ) → In i front → In j begun → InFineOrder (seg i) (seg j)
    front_begun i j k l =
        born_right_doubled (seg i) (seg j) v (segments i (from_front i k)) (begins j l).segment (apart i j (from_front i k) l).0
        (under_front i k) (begins j l).at (right i k)

    begun_back : (i j : ℕ) → In i begun → In j back → InFineOrder (seg i) (seg j)
    begun_back i j k l =
        born_left_doubled (seg i) (seg j) v (begins i k).segment (segments j (from_back j l)) (apart j i (from_back j l) k).1
        (under_back j l) (begins i k).at (left j l)

    three : (is js ks : List ℕ) → map seg (is ++ js ++ ks) ≡ map seg is ++ map seg js ++ map seg ks
    three is js ks = map-append seg (is ++ js) ks ∙ ap (λ ss. ss ++ map seg ks) (map-append seg is js)

    before_parts : AreInOrder (map seg front ++ map seg ended ++ map seg back)
    before_parts = subst AreInOrder (three front ended back) before

    front_back : AreBeside (map seg front) (map seg back)
    front_back s t i j =
        order_across (map seg front ++ map seg ended) (map seg back) before_parts s t (in_left s (map seg front) (map seg ended) i) j

    pub order_after : AreInOrder (map seg (front ++ begun ++ back))
    order_after =
        subst AreInOrder (sym (three front begun back))
        (order_joined (map seg front ++ map seg begun) (map seg back)
        (order_joined (map seg front) (map seg begun)
        (order_front (map seg front) (map seg ended) (order_front (map seg front ++ map seg ended) (map seg back) before_parts))
        turned (mapped_beside front begun front_begun))
        (order_back (map seg front ++ map seg ended) (map seg back) before_parts)
        (λ s t i j. ⊎_elim (λ (k : In s (map seg front)). front_back s t k j)
        (λ (k : In s (map seg begun)). mapped_beside begun back begun_back s t k j)
        (in-append s (map seg front) (map seg begun) i)))
