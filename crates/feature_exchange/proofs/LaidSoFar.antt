-- Lists of rings that were laid so far, one after the other.
use Rattle.kit_words.proofs.Common.{◌≡◌, ◌<◌, ℕ, Bool, true, refl, sym, ap, ap₂, ◌∙◌, subst, List, [], ◌∷◌, ◌++◌, map}
use Rattle.kit_words.proofs.Common.{length, get_or, append_assoc, flat_map, list_all, append-nil, map_push}
use Rattle.kit_words.proofs.Common.{flat_map-append}
use Rattle.grid_geometry.specs.Common.{Position}
use Rattle.ring_machine.proofs.Common.{In, in_right, all_in, in-flat_map, in_at, pass_all, map_there}
use Rattle.feature_exchange.proofs.Series.{number_there}
use Rattle.feature_exchange.specs.Common.{numbers_of, AreThere, LaysMore}
use Rattle.ring_store.specs.Common.{AreStanding, ring_in}
use Rattle.feature_exchange.specs.declared.laid.LaidRing.{LaidRing}
use Rattle.ring_store.specs.declared.tables.RingTables.{RingTables}
use Rattle.feature_exchange.proofs.LaidBeside.{laid_none, laid_twice}

-- one list more was laid
pub record OneMore {I A : Type 0} (s : RingTables I A) (had : List (LaidRing A)) (t : RingTables I A) (has : List (LaidRing A)) (came : List ℕ) : Type 0 where
  pub stand : AreStanding t
  pub laid : LaysMore s had t has
  pub numbers : numbers_of has ≡ numbers_of had ++ came
  pub cells : t.index.cells ≡ s.index.cells

module _ {I A X Y : Type 0} (nums : X → List ℕ) (see : (ℕ → List Position) → X → Y) where
  -- the lists that were laid so far, and what they are seen as
  pub record SoFar (s : RingTables I A) (had : List (LaidRing A)) (t : RingTables I A) (has : List (LaidRing A)) (xs : List X) (ys : List Y) : Type 0 where
    pub there : AreThere t.borders has
    pub more : OneMore s had t has (flat_map nums xs)
    pub at : map (see (ring_in t)) xs ≡ ys

  pub so_far_first : (s : RingTables I A) (had : List (LaidRing A)) → AreStanding s → AreThere s.borders had
      → (xs : List X) (ys : List Y) → xs ≡ [] → ys ≡ [] → SoFar s had s had xs ys
  so_far_first s had stand there xs ys e f = record {
    there = there;
    more = record {
      stand = stand;
      laid = laid_none s.vertices s.borders had;
      numbers = sym (append-nil (numbers_of had)) ∙ ap (λ z. numbers_of had ++ flat_map nums z) (sym e);
      cells = refl;
    };
    at = ap (map (see (ring_in s))) e ∙ sym f;
  }

  module _ (agree : (g h : ℕ → List Position) (x : X) → ((r : ℕ) → In r (nums x) → g r ≡ h r) → see g x ≡ see h x) where
    pub so_far_more : (s : RingTables I A) (had : List (LaidRing A)) (t : RingTables I A) (has : List (LaidRing A)) (u : RingTables I A) (more : List (LaidRing A))
        (xs : List X) (ys : List Y) → SoFar s had t has xs ys → (x : X) (y : Y) → OneMore t has u more (nums x) → see (ring_in u) x ≡ y
        → (xs' : List X) (ys' : List Y) → xs' ≡ xs ++ x ∷ [] → ys' ≡ ys ++ y ∷ [] → SoFar s had u more xs' ys'
    so_far_more s had t has u more xs ys a x y b here xs' ys' e f = record {
      there = b.laid.there a.there;
      more = record {
        stand = b.stand;
        laid = laid_twice s.vertices s.borders had t.vertices t.borders has u.vertices u.borders more a.more.laid b.laid;
        numbers =
            b.numbers ∙ ap (λ z. z ++ nums x) a.more.numbers
            ∙ append_assoc (numbers_of had) (flat_map nums xs) (nums x)
            ∙ ap (λ z. numbers_of had ++ z)
            (sym (ap (flat_map nums) e ∙ flat_map-append nums xs (x ∷ []) ∙ ap (λ z. flat_map nums xs ++ z) (append-nil (nums x))));
        cells = b.cells ∙ a.more.cells;
      };
      at =
          ap (map (see (ring_in u))) e ∙ map_push (see (ring_in u)) xs x
          ∙ ap₂ (λ v w. v ++ w ∷ [])
          (map_there (see (ring_in u)) (see (ring_in t)) xs (λ z i.
          agree (ring_in u) (ring_in t) z (λ r k.
          b.laid.still r (number_there t.borders has a.there r
          (subst (In r) (sym a.more.numbers) (in_right r (numbers_of had) (flat_map nums xs) (in-flat_map nums z r xs i k))))))
          ∙ a.at)
          here
          ∙ sym f;
    }

-- the two kinds of lists
pub polygon_agree : (g h : ℕ → List Position) (x : List ℕ) → ((r : ℕ) → In r x → g r ≡ h r) → map g x ≡ map h x
polygon_agree g h x a = map_there g h x a

pub feature_agree : (g h : ℕ → List Position) (x : List (List ℕ)) → ((r : ℕ) → In r (flat_map (λ p. p) x) → g r ≡ h r)
    → map (map g) x ≡ map (map h) x
feature_agree g h x a = map_there (map g) (map h) x (λ p i. map_there g h p (λ r k. a r (in-flat_map (λ (p : List ℕ). p) p r x i k)))

-- ---- what is left to lay

module _ {P : Type 0} (f : P → List (List Position)) where
  pub all_here : (test : List Position → Bool) (ps : List P) (i : ℕ) (d : P) → i < length ps
      → list_all test (flat_map f ps) ≡ true → list_all test (f (get_or ps i d)) ≡ true
  all_here test ps i d l h =
      pass_all test (f (get_or ps i d)) (λ x k.
      all_in test (flat_map f ps) x h (in-flat_map f (get_or ps i d) x ps (in_at ps i d l) k))
