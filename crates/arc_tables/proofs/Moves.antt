-- What each move does to the rings, and that no segment comes to stand twice.
use Rattle.kit_words.proofs.Common.{◌≡◌, ◌≢◌, ℕ, ◌+◌, ◌≤◌, Bool, true, false, refl, sym, ap, ap₂, ◌∙◌, subst, cond}
use Rattle.kit_words.proofs.Common.{List, [], ◌∷◌, ◌++◌, map, reverse, append_assoc, ◌⊎◌, inl, inr, arith, ◌==◌}
use Rattle.kit_words.proofs.Common.{flat_map, AllByRecursion, append-nil, map-append, reverse-append, flat_map-append}
use Rattle.kit_words.proofs.Common.{false≢true, cases_eq, cases_Bool, Decides-eqb, nat_tests}
use Rattle.arc_tables.specs.Common.{Use, Edge, links, walk, chain, is_seg, one, times, Once, Store, edges_of, Keeps}
use Rattle.arc_tables.specs.Common.{Grows, Lacks, both_parts, Cuts, Takes, Starts, Extends, IsNew, TakesOut, OpenAt}
use Rattle.arc_tables.specs.Common.{Spoils}

-- ---- ways in reverse

abbrev pub flip : Edge → Edge
flip e = (e.1, e.0)

abbrev pub flipped : List Edge → List Edge
flipped es = reverse (map flip es)

pub links-append : (ps : List ℕ) (m : ℕ) (qs : List ℕ) → links (ps ++ m ∷ qs) ≡ links (ps ++ m ∷ []) ++ links (m ∷ qs)
links-append [] m qs = refl
links-append (p ∷ []) m qs = refl
links-append (p ∷ r ∷ rs) m qs = ap (λ z. (p, r) ∷ z) (links-append (r ∷ rs) m qs)

pub flipped-append : (es fs : List Edge) → flipped (es ++ fs) ≡ flipped fs ++ flipped es
flipped-append es fs = ap reverse (map-append flip es fs) ∙ reverse-append (map flip es) (map flip fs)

pub links-reverse : (ps : List ℕ) → links (reverse ps) ≡ flipped (links ps)
links-reverse [] = refl
links-reverse (p ∷ []) = refl
links-reverse (p ∷ q ∷ ps) =
    ap links (reverse-append (p ∷ []) (q ∷ ps) ∙ ap (λ z. z ++ p ∷ []) (reverse-append (q ∷ []) ps) ∙ append_assoc (reverse ps) (q ∷ []) (p ∷ []))
    ∙ links-append (reverse ps) q (p ∷ [])
    ∙ ap (λ z. links z ++ (q, p) ∷ []) (sym (reverse-append (q ∷ []) ps))
    ∙ ap (λ z. z ++ (q, p) ∷ []) (links-reverse (q ∷ ps))
    ∙ sym (flipped-append ((p, q) ∷ []) (links (q ∷ ps)))

-- ---- one use at a time

-- where each use is replaced by uses that make the same edges, so is the list
pub replaced : (s t : ℕ → List ℕ) (g : Use → List Use) (us : List Use) → AllByRecursion (λ u. chain t (g u) ≡ links (walk u.back (s u.arc))) us → chain t (flat_map g us) ≡ chain s us
replaced s t g [] h = refl
replaced s t g (u ∷ us) h = flat_map-append (λ v. links (walk v.back (t v.arc))) (g u) (flat_map g us) ∙ ap₂ (λ y z. y ++ z) h.0 (replaced s t g us h.1)

pub all_of : {P Q : Use → Type 0} → ((u : Use) → P u → Q u) → (us : List Use) → AllByRecursion P us → AllByRecursion Q us
all_of f [] h = tt
all_of f (u ∷ us) h = (f u h.0, all_of f us h.1)

each_of : {Q : Use → Type 0} → ((u : Use) → Q u) → (us : List Use) → AllByRecursion Q us
each_of f [] = tt
each_of f (u ∷ us) = (f u, each_of f us)

-- where the paths of the uses stay
pub chain_same : (s t : ℕ → List ℕ) (us : List Use) → AllByRecursion (λ u. t u.arc ≡ s u.arc) us → chain t us ≡ chain s us
chain_same s t [] h = refl
chain_same s t (u ∷ us) h = ap₂ (λ y z. links (walk u.back y) ++ z) h.0 (chain_same s t us h.1)

pub chain_append : (path : ℕ → List ℕ) (us vs : List Use) → chain path (us ++ vs) ≡ chain path us ++ chain path vs
chain_append path us vs = flat_map-append (λ u. links (walk u.back (path u.arc))) us vs

-- ---- how often

pub times-append : (a b : ℕ) (es fs : List Edge) → times a b (es ++ fs) ≡ times a b es + times a b fs
times-append a b [] fs = omega arith
times-append a b (e ∷ es) fs = omega (arith, times-append a b es fs)

pub is_seg-flip : (a b : ℕ) (e : Edge) → is_seg a b (flip e) ≡ is_seg a b e
is_seg-flip a b e = grind arith

pub times-flipped : (a b : ℕ) (es : List Edge) → times a b (flipped es) ≡ times a b es
times-flipped a b [] = refl
times-flipped a b (e ∷ es) = ap (times a b) (flipped-append (e ∷ []) es) ∙ times-append a b (flipped es) (flip e ∷ []) ∙ ap₂ (λ y z. y + (one z + 0)) (times-flipped a b es) (is_seg-flip a b e) ∙ omega arith

-- the segments of s's arc i stand in t's arcs i and n
pub record Pieces (s t : ℕ → List ℕ) (i n : ℕ) : Type 0 where
  pub sum : (a b : ℕ) → times a b (links (t i)) + times a b (links (t n)) ≡ times a b (links (s i))
  pub others : (j : ℕ) → j ≢ i → j ≢ n → t j ≡ s j
  pub apart : i ≢ n
  pub vacant : s n ≡ []

pub once_pieces : (s t : ℕ → List ℕ) (i n : ℕ) → Pieces s t i n → Once s → Once t
once_pieces s t i n p h = record { apart = apart; single = single }
  where
    single : (a b j : ℕ) → times a b (links (t j)) ≤ 1
    single a b j = grind (arith, cases_eq j i, cases_eq j n, p.sum a b, p.others j, h.single a b i, h.single a b j)

    apart : (a b j k : ℕ) → 1 ≤ times a b (links (t j)) → 1 ≤ times a b (links (t k)) → j ≡ k
    apart a b j k x y = grind (arith, cases_eq j i, cases_eq j n, cases_eq k i, cases_eq k n, p.sum a b, p.others j, p.others k, h.single a b i, h.apart a b j k, h.apart a b j i, h.apart a b i k)

-- ---- cut

module _ (i n : ℕ) (us : List ℕ) (m : ℕ) (vs : List ℕ) (s t : Store) (c : Cuts i n us m vs s t) where
  cut_use : (u : Use) → u.arc ≢ n → chain t.path (both_parts i n u) ≡ links (walk u.back (s.path u.arc))
  cut_use u ne = by (u.arc == i) refl u.back
    where
      by : (x : Bool) → (u.arc == i) ≡ x → (b : Bool) → chain t.path (cond x (cond b (record { arc = n; back = true } ∷ record { arc = i; back = true } ∷ []) (record { arc = i; back = false } ∷ record { arc = n; back = false } ∷ [])) (record { arc = u.arc; back = b } ∷ [])) ≡ links (walk b (s.path u.arc))
      by true e false = ap₂ (λ y z. links y ++ (links z ++ [])) c.first c.second ∙ ap (λ z. links (us ++ m ∷ []) ++ z) (append-nil (links (m ∷ vs))) ∙ sym (ap (λ k. links (s.path k)) ((Decides-eqb u.arc i).0 e) ∙ ap links c.was ∙ links-append us m vs)
      by true e true = ap₂ (λ y z. links (reverse y) ++ (links (reverse z) ++ [])) c.second c.first
          ∙ ap₂ (λ y z. y ++ z) (links-reverse (m ∷ vs)) (append-nil _ ∙ links-reverse (us ++ m ∷ []))
          ∙ sym (ap (λ k. links (reverse (s.path k))) ((Decides-eqb u.arc i).0 e) ∙ links-reverse (s.path i) ∙ ap flipped (ap links c.was ∙ links-append us m vs) ∙ flipped-append (links (us ++ m ∷ [])) (links (m ∷ vs)))
      by false e b = append-nil _ ∙ ap (λ z. links (walk b z)) (c.others u.arc (λ f. false≢true (sym e ∙ (Decides-eqb u.arc i).1 f)) ne)

  pub cut_keeps : Keeps s t
  cut_keeps = record {
    same = λ r. ap (chain t.path) (c.rings r) ∙ replaced s.path t.path (both_parts i n) (s.ring r) (all_of cut_use (s.ring r) (c.unused r));
    once = once_pieces s.path t.path i n (record {
      sum = λ a b. ap₂ (λ y z. times a b (links y) + times a b (links z)) c.first c.second ∙ sym (times-append a b (links (us ++ m ∷ [])) (links (m ∷ vs))) ∙ ap (times a b) (sym (links-append us m vs) ∙ ap links (sym c.was));
      others = c.others;
      apart = c.apart;
      vacant = c.vacant;
    });
  }

-- ---- a ring goes on

once_as : (s t : ℕ → List ℕ) → ((a b j : ℕ) → times a b (links (t j)) ≡ times a b (links (s j))) → Once s → Once t
once_as s t e h = record {
  apart = λ a b i j x y. h.apart a b i j (omega (arith, e a b i)) (omega (arith, e a b j));
  single = λ a b j. omega (arith, e a b j, h.single a b j);
}

module _ (r i : ℕ) (back : Bool) (s t : Store) (c : Takes r i back s t) where
  pub take_grows : Grows r (links (walk back (s.path i))) s t
  take_grows = record {
    others = λ k ne. ap (chain t.path) (c.others k ne) ∙ chain_same s.path t.path (s.ring k) (each_of (λ u. c.paths u.arc) (s.ring k));
    grown = ap (chain t.path) c.ring ∙ chain_same s.path t.path _ (each_of (λ u. c.paths u.arc) _) ∙ chain_append s.path (s.ring r) (record { arc = i; back = back } ∷ []) ∙ ap (λ z. chain s.path (s.ring r) ++ z) (append-nil (links (walk back (s.path i))));
    once = once_as s.path t.path (λ a b j. ap (λ z. times a b (links z)) (c.paths j));
  }

-- the ends of equal segments
-- the ends of equal segments
pub same_seg : (a b c d : ℕ) → is_seg c d (a, b) ≡ true → (es : List Edge) → times c d es ≡ times a b es
same_seg a b c d h [] = refl
same_seg a b c d h (e ∷ es) = grind (arith, nat_tests, same_seg a b c d h es)

-- the segment of a and b, which is new, comes into arc n
once_more : (s t : ℕ → List ℕ) (n a b : ℕ) → IsNew a b s → ((c d : ℕ) → times c d (links (t n)) ≡ times c d (links (s n)) + times c d ((a, b) ∷ [])) → ((j : ℕ) → j ≢ n → t j ≡ s j) → Once s → Once t
once_more s t n a b new sum others h = record { apart = apart; single = single }
  where
    none : (c d i : ℕ) → is_seg c d (a, b) ≡ true → times c d (links (s i)) ≡ 0
    none c d i e = same_seg a b c d e (links (s i)) ∙ new i

    single : (c d i : ℕ) → times c d (links (t i)) ≤ 1
    single c d i = grind (arith, cases_eq i n, cases_Bool (is_seg c d (a, b)), none c d i, sum c d, others i, h.single c d i)

    apart : (c d i j : ℕ) → 1 ≤ times c d (links (t i)) → 1 ≤ times c d (links (t j)) → i ≡ j
    apart c d i j x y = grind (arith, cases_eq i n, cases_eq j n, cases_Bool (is_seg c d (a, b)), none c d i, none c d j, sum c d, others i, others j, h.apart c d i j)

module _ (r n a b : ℕ) (s t : Store) (c : Starts r n a b s t) where
  paths_same : (k : ℕ) → AllByRecursion (λ u. t.path u.arc ≡ s.path u.arc) (s.ring k)
  paths_same k = all_of (λ u ne. c.other_paths u.arc ne) (s.ring k) (c.unused k)

  pub start_grows : IsNew a b s.path → Grows r ((a, b) ∷ []) s t
  start_grows new = record {
    others = λ k ne. ap (chain t.path) (c.others k ne) ∙ chain_same s.path t.path (s.ring k) (paths_same k);
    grown = ap (chain t.path) c.ring ∙ chain_append t.path (s.ring r) (record { arc = n; back = false } ∷ []) ∙ ap₂ (λ y z. y ++ (links z ++ [])) (chain_same s.path t.path (s.ring r) (paths_same r)) c.path;
    once = once_more s.path t.path n a b new (λ e f. ap (λ z. times e f (links z)) c.path ∙ sym (ap (λ z. times e f (links z) + times e f ((a, b) ∷ [])) c.vacant ∙ omega arith)) c.other_paths;
  }

module _ (r n : ℕ) (ps : List ℕ) (a b : ℕ) (before : List Use) (s t : Store) (c : Extends r n ps a b before s t) where
  longer : links (t.path n) ≡ links (s.path n) ++ (a, b) ∷ []
  longer = ap links c.path ∙ links-append ps a (b ∷ []) ∙ ap (λ z. links z ++ (a, b) ∷ []) (sym c.was)

  same_but : (us : List Use) → Lacks n us → chain t.path us ≡ chain s.path us
  same_but us h = chain_same s.path t.path us (all_of (λ u ne. c.other_paths u.arc ne) us h)

  pub extend_grows : IsNew a b s.path → Grows r ((a, b) ∷ []) s t
  extend_grows new = record {
    others = λ k ne. ap (chain t.path) (c.rings k) ∙ same_but (s.ring k) (c.unused k ne);
    grown = ap (chain t.path) (c.rings r ∙ c.last) ∙ chain_append t.path before (record { arc = n; back = false } ∷ [])
        ∙ ap₂ (λ y z. y ++ z) (same_but before c.only) (append-nil _ ∙ longer)
        ∙ sym (append_assoc (chain s.path before) (links (s.path n)) ((a, b) ∷ []))
        ∙ ap (λ z. (chain s.path before ++ z) ++ (a, b) ∷ []) (sym (append-nil (links (s.path n))))
        ∙ ap (λ z. z ++ (a, b) ∷ []) (sym (ap (chain s.path) c.last ∙ chain_append s.path before (record { arc = n; back = false } ∷ [])));
    once = once_more s.path t.path n a b new (λ e f. ap (times e f) longer ∙ times-append e f (links (s.path n)) ((a, b) ∷ [])) c.other_paths;
  }

-- ---- a ring goes

once_fewer : (s t : ℕ → List ℕ) → ((j : ℕ) → (t j ≡ s j) ⊎ (t j ≡ [])) → Once s → Once t
once_fewer s t g h = record {
  apart = λ a b i j x y. grind (arith, g i, g j, h.apart a b i j);
  single = λ a b j. grind (arith, g j, h.single a b j);
}

pub record Leaves (r : ℕ) (s t : Store) : Type 0 where
  pub others : (k : ℕ) → k ≢ r → edges_of t k ≡ edges_of s k
  pub gone : edges_of t r ≡ []
  pub once : Once s.path → Once t.path

pub takes_out_leaves : (r : ℕ) (s t : Store) → TakesOut r s t → Leaves r s t
takes_out_leaves r s t c = record {
  others = λ k ne. ap (chain t.path) (c.others k ne) ∙ chain_same s.path t.path (s.ring k) (c.kept k ne);
  gone = ap (chain t.path) c.ring;
  once = once_fewer s.path t.path c.gone;
}

-- ---- one after another

pub kept_grows : (r : ℕ) (es : List Edge) (s t u : Store) → Keeps s t → Grows r es t u → Grows r es s u
kept_grows r es s t u h k = record { others = λ j ne. k.others j ne ∙ h.same j; grown = k.grown ∙ ap (λ z. z ++ es) (h.same r); once = λ o. k.once (h.once o) }

pub grows_then : (r : ℕ) (es fs : List Edge) (s t u : Store) → Grows r es s t → Grows r fs t u → Grows r (es ++ fs) s u
grows_then r es fs s t u h k = record { others = λ j ne. k.others j ne ∙ h.others j ne; grown = k.grown ∙ ap (λ z. z ++ fs) h.grown ∙ append_assoc (edges_of s r) es fs; once = λ o. k.once (h.once o) }

-- the same paths and the same uses
pub keeps_same : (s t : Store) → ((j : ℕ) → t.path j ≡ s.path j) → ((k : ℕ) → t.ring k ≡ s.ring k) → Keeps s t
keeps_same s t p q = record {
  same = λ r. ap (chain t.path) (q r) ∙ chain_same s.path t.path (s.ring r) (each_of (λ u. p u.arc) (s.ring r));
  once = once_as s.path t.path (λ a b j. ap (λ z. times a b (links z)) (p j));
}

-- ---- the arc that is being made

pub open_started : (r n a b : ℕ) (s t : Store) → Starts r n a b s t → OpenAt t r n b
open_started r n a b s t c = record {
  ps = a ∷ [];
  before = s.ring r;
  path = c.path;
  last = c.ring;
  only = c.unused r;
  unused = λ k ne. subst (Lacks n) (sym (c.others k ne)) (c.unused k);
}

pub extended : (r n a b : ℕ) (s t : Store) (o : OpenAt s r n a) → t.path n ≡ s.path n ++ b ∷ [] → ((j : ℕ) → j ≢ n → t.path j ≡ s.path j) → ((k : ℕ) → t.ring k ≡ s.ring k) → Extends r n o.ps a b o.before s t
extended r n a b s t o p q w = record {
  was = o.path;
  last = o.last;
  only = o.only;
  unused = o.unused;
  path = p ∙ ap (λ z. z ++ b ∷ []) o.path ∙ append_assoc o.ps (a ∷ []) (b ∷ []);
  other_paths = q;
  rings = w;
}

-- a ring that was laid in part and taken out again leaves what was before
pub keeps_after_all : (r : ℕ) (s o t u : Store) → ((j : ℕ) → o.path j ≡ s.path j) → ((k : ℕ) → o.ring k ≡ s.ring k) → s.ring r ≡ [] → Spoils r o t → TakesOut r t u → Keeps s u
keeps_after_all r s o t u p q e h c = record { same = same; once = λ x. l.once (h.once (k.once x)) }
  where
    k : Keeps s o
    k = keeps_same s o p q

    l : Leaves r t u
    l = takes_out_leaves r t u c

    same : (j : ℕ) → edges_of u j ≡ edges_of s j
    same j = elim (cases_eq j r) [
      | inl f ↦ ap (edges_of u) f ∙ l.gone ∙ sym (ap (edges_of s) f ∙ ap (chain s.path) e)
      | inr f ↦ l.others j f ∙ h.others j f ∙ k.same j
    ]
