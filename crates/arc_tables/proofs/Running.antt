-- A ring goes on along an arc as far as both agree.
use Rattle.kit_words.proofs.Common.{◌≡◌, ℕ, ◌<◌, ◌≤◌, ◌+◌, ◌-◌, false, true, sym, ap, ◌∙◌, subst, List, [], ◌∷◌, ◌++◌}
use Rattle.kit_words.proofs.Common.{take, drop, length, get_or, arith, Option, Some, Result, Ok, Err, IfOk, OnErr}
use Rattle.kit_words.proofs.Common.{IsErr, refl, suc, ap₂, add-one, drop-cons, reverse, false≢true, take_more}
use Rattle.kit_words.proofs.Common.{take-append-drop, reverse-append, length-reverse, take-add, take-append_seam}
use Rattle.std.proofs.Common.{length-drop}
use Rattle.arc_tables.specs.Common.{Arc, Tables, Edge, Store, links, Keeps, Grows, Spoils, Cuts, Takes, Starts, IsNew}
use Rattle.arc_tables.specs.Common.{path_in, uses_in, EndsAt, Whole, Advances, SameKeys, SamePaths, SameRings, store}
use Rattle.arc_tables.specs.Common.{path_of}
use Rattle.slab.specs.Slab.{get}
use Rattle.arc_tables.proofs.Moves.{cut_keeps, keeps_same, start_grows, take_grows, kept_grows, grows_then, links-append}

module _ {A : Type 0} where
  pub agreed_two : (o : Option (Arc A)) (arc : Arc A) (xs ys : List ℕ) (m : ℕ) → o ≡ Some arc → xs ≡ arc.keys.items → 2 ≤ length (path_in o) → 2 ≤ length ys → take 2 (path_in o) ≡ take 2 ys →
      ((k : ℕ) → k ≤ length xs → k ≤ length ys → take k xs ≡ take k ys → k ≤ m) → 2 ≤ m
  agreed_two o arc xs ys m e x l k a all =
      let same : xs ≡ path_in o = x ∙ ap path_in (sym e) in
      all 2 (omega (arith, ap length same)) k (ap (take 2) same ∙ a)

  pub ends_by_cut : (s t : Tables A) (i n m : ℕ) → 1 ≤ m → m ≤ length (path_of s i) →
      Cuts i n (take (m - 1) (path_of s i)) (get_or (path_of s i) (m - 1) 0) (drop (m - 1 + 1) (path_of s i)) (store s) (store t) → EndsAt s t i m
  ends_by_cut s t i n m some l c =
      let p = path_of s i in
      record {
        keeps = cut_keeps i n (take (m - 1) p) (get_or p (m - 1) 0) (drop (m - 1 + 1) p) (store s) (store t) c;
        path = c.first ∙ sym (take_more p (m - 1) 0 (omega arith)) ∙ ap (λ k. take k p) (omega arith);
      }

  pub run_grows : (s t u : Tables A) (r i m : ℕ) (keys : List ℕ) → EndsAt s t i m → take m (path_of s i) ≡ take m keys →
      Takes r i false (store t) (store u) → Grows r (links (take m keys)) (store s) (store u)
  run_grows s t u r i m keys mid same c =
      subst (λ z. Grows r (links z) (store s) (store u)) (mid.path ∙ same)
      (kept_grows r _ (store s) (store t) (store u) mid.keeps (take_grows r i false (store t) (store u) c))

  -- the arc was cut, or nothing changed
  pub cut_or_not : {E : Type 0} (s t : Tables A) (i at : ℕ) (result : Result ℕ E) → IfOk result (λ n. Cuts i n (take at (path_of s i)) (get_or (path_of s i) at 0) (drop (at + 1) (path_of s i)) (store s) (store t)) →
      OnErr result ((j : ℕ) → get t.arcs j ≡ get s.arcs j) → OnErr result (t.rings ≡ s.rings) → Keeps (store s) (store t)
  cut_or_not s t i at (Ok n) c _ _ = cut_keeps i n _ _ _ (store s) (store t) c
  cut_or_not s t i at (Err e) _ p q = keeps_same (store s) (store t) (λ j. ap path_in (p j)) (λ k. ap (λ z. uses_in (get z k)) q)

  -- ring r did not go on
  pub advances_not : {B E : Type 0} (s t : Tables A) (r : ℕ) (keys : List ℕ) (result : Result B E) (count : B → ℕ) → IsErr result → Keeps (store s) (store t) → Whole t → SameKeys s.rings t.rings → Advances r keys result count s t
  advances_not s t r keys (Ok x) count f k w h = absurd (false≢true f)
  advances_not s t r keys (Err e) count f k w h = record { two = tt; within = tt; grown = tt; kept = k; whole = w; held = h }

  -- arcs were cut before
  pub advances_after : {B E : Type 0} (s t u : Tables A) (r : ℕ) (keys : List ℕ) (result : Result B E) (count : B → ℕ) → Keeps (store s) (store t) → SameKeys s.rings t.rings → Advances r keys result count t u → Advances r keys result count s u
  advances_after s t u r keys (Ok x) count k h a = record { two = a.two; within = a.within; grown = kept_grows r _ (store s) (store t) (store u) k a.grown; kept = tt; whole = a.whole; held = λ j. a.held j ∙ h j }
  advances_after s t u r keys (Err e) count k h a = advances_not s u r keys (Err e) count refl (record { same = λ j. a.kept.same j ∙ k.same j; once = λ o. a.kept.once (k.once o) }) a.whole (λ j. a.held j ∙ h j)

  -- ring r went on along a new arc, or did not
  pub advances_new : {E : Type 0} (s t : Tables A) (r a b : ℕ) (result : Result ℕ E) → IfOk result (λ n. Starts r n a b (store s) (store t)) → OnErr result (SamePaths s.arcs t.arcs) → OnErr result (SameRings s.rings t.rings) →
      Whole t → SameKeys s.rings t.rings → IsNew a b (path_of s) → Advances r (a ∷ b ∷ []) result (λ n. 2) s t
  advances_new s t r a b (Ok n) c _ _ w h new = record { two = omega arith; within = omega arith; grown = start_grows r n a b (store s) (store t) c new; kept = tt; whole = w; held = h }
  advances_new s t r a b (Err e) _ p q w h _ = advances_not s t r (a ∷ b ∷ []) (Err e) (λ n. 2) refl (keeps_same (store s) (store t) p q) w h

-- a piece that begins where the ring has come to
pub links_join : (keys : List ℕ) (at k : ℕ) → 2 ≤ k → at + k ≤ length keys → links (take (at + 1) keys) ++ links (take k (drop at keys)) ≡ links (take (at + (k - 1) + 1) keys)
links_join keys at k two l =
    let q = get_or keys at 0 in
    let in' : at < length keys = omega arith in
    let here : drop at keys ≡ q ∷ drop (at + 1) keys = rw (add-one, drop-cons keys at 0) in
    let count : suc (k - 1) ≡ k = omega arith in
    let sums : at + k ≡ at + (k - 1) + 1 = omega arith in
    let more : take k (drop at keys) ≡ q ∷ take (k - 1) (drop (at + 1) keys) = subst (λ n. take n (drop at keys) ≡ q ∷ take (k - 1) (drop (at + 1) keys)) count (ap (take (suc (k - 1))) here) in
    ap₂ (λ y z. links y ++ links z) (take_more keys at 0 (omega arith)) more
    ∙ sym (links-append (take at keys) q (take (k - 1) (drop (at + 1) keys)))
    ∙ ap (λ z. links (take at keys ++ z)) (sym more)
    ∙ ap links (sym (take-add at k keys) ∙ ap (λ n. take n keys) sums)

pub lay_more : (keys slice : List ℕ) (at k r : ℕ) (s t u : Store) → slice ≡ drop at keys → 2 ≤ k → at + k ≤ length keys → Grows r (links (take (at + 1) keys)) s t → Grows r (links (take k slice)) t u → Grows r (links (take (at + (k - 1) + 1) keys)) s u
lay_more keys slice at k r s t u e two l g h =
    subst (λ es. Grows r es s u) (links_join keys at k two l) (grows_then r _ _ s t u g (subst (λ z. Grows r (links (take k z)) t u) e h))

-- the ring went on, and then could not go on further
pub spoils_on_err : {X E : Type 0} (result : Result X E) (r : ℕ) (es : List Edge) (s t u : Store) → Grows r es s t → Keeps t u → OnErr result (Spoils r s u)
spoils_on_err (Ok x) r es s t u g k = tt
spoils_on_err (Err e) r es s t u g k = record { others = λ j f. k.same j ∙ g.others j f; once = λ o. k.once (g.once o) }

-- the last m keys in reverse
pub reverse-drop : (q : List ℕ) (m : ℕ) → m ≤ length q → reverse (drop (length q - m) q) ≡ take m (reverse q)
reverse-drop q m l =
    let x = take (length q - m) q in
    let y = drop (length q - m) q in
    let long : length (reverse y) ≡ m = length-reverse y ∙ length-drop (length q - m) q ∙ omega arith in
    sym (ap (λ z. take m (reverse z)) (sym (take-append-drop (length q - m) q)) ∙ ap (take m) (reverse-append x y) ∙ ap (λ k. take k (reverse y ++ reverse x)) (sym long) ∙ take-append_seam (reverse y) (reverse x))

pub run_back_grows : (s t u : Store) (r n m : ℕ) (q keys : List ℕ) → Keeps s t → t.path n ≡ drop (length q - m) q → m ≤ length q → take m (reverse q) ≡ take m keys → Takes r n true t u → Grows r (links (take m keys)) s u
run_back_grows s t u r n m q keys k p l e c =
    subst (λ z. Grows r (links z) s u) (ap reverse p ∙ reverse-drop q m l ∙ e) (kept_grows r _ s t u k (take_grows r n true t u c))
