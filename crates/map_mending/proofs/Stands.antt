-- One polygon more, and one feature more.
use Rattle.kit_words.proofs.Common.{◌≡◌, ℕ, suc, ◌+◌, ◌<◌, List, [], ◌∷◌, ◌++◌, map, length, take, get_or, sym, ap, ap₂}
use Rattle.kit_words.proofs.Common.{◌∙◌, subst, append_assoc, arith, AllZip, append-nil, length-map, length-take-le}
use Rattle.kit_words.proofs.Common.{map-append, map_more, flat_map-append, all_zipped_more}
use Rattle.grid_geometry.specs.Common.{Position}
use Rattle.topo_reader.specs.Common.{Polygons}
use Rattle.segment_paths.specs.Common.{PathOfSegment}
use Rattle.map_mending.specs.Common.{Parted, MendsPolygon, polygons_of_parts, told_of, told_from, told_in, TellsParted, StandsFor}

-- ---- the polygons of a feature

taken : {X Y : Type 0} (see : X → Y) (xs : List X) (k : ℕ) → k < length xs → k ≡ length (map see (take k xs))
taken see xs k lt = omega (arith, lt, length-map (take k xs) see, length-take-le k xs (omega arith))

module _ (paths : List PathOfSegment) where
  told_from-push : (n k m : ℕ) (ws : Polygons) (parts : List Polygons) (w : List (List Position)) (q : Polygons)
      → AllZip (MendsPolygon paths) ws parts → m ≡ k + length ws
      → told_from paths n k (ws ++ w ∷ []) (parts ++ q ∷ []) ≡ told_from paths n k ws parts ++ told_of paths n m w q
  told_from-push n k m [] [] w q h e =
      append-nil (told_of paths n k w q) ∙ ap (λ (j : ℕ). told_of paths n j w q) (sym (omega (arith, e)))
  told_from-push n k m [] (p ∷ parts) w q h e = absurd h
  told_from-push n k m (v ∷ ws) [] w q h e = absurd h
  told_from-push n k m (v ∷ ws) (p ∷ parts) w q h e =
      ap (λ z. told_of paths n k v p ++ z) (told_from-push n (suc k) m ws parts w q h.1 (omega (arith, e)))
      ∙ sym (append_assoc (told_of paths n k v p) (told_from paths n (suc k) ws parts) (told_of paths n m w q))

  pub stands_more : (n k : ℕ) (ws ps : Polygons) (before after after' : List Parted) (w : List (List Position)) (q : Polygons)
      → StandsFor paths n ws ps before after → k ≡ length ws → MendsPolygon paths w q
      → after' ≡ after ++ told_of paths n k w q
      → StandsFor paths n (ws ++ w ∷ []) (ps ++ q) before after'
  stands_more n k ws ps before after after' w q s e h t = record {
    parts = s.parts ++ q ∷ [];
    each = all_zipped_more (MendsPolygon paths) ws s.parts w q s.each h;
    joins = ap (λ z. z ++ q) s.joins
        ∙ ap (λ z. polygons_of_parts s.parts ++ z) (sym (append-nil q))
        ∙ sym (flat_map-append (λ (p : Polygons). p) s.parts (q ∷ []));
    tells = t ∙ ap (λ z. z ++ told_of paths n k w q) s.tells
        ∙ append_assoc before (told_from paths n 0 ws s.parts) (told_of paths n k w q)
        ∙ ap (λ z. before ++ z) (sym (told_from-push n 0 k ws s.parts w q s.each (omega (arith, e))));
  }

  -- the same in a loop over what is seen as polygons
  pub stands_step : {X : Type 0} (see : X → List (List Position)) (xs : List X) (n k : ℕ) (x : X) (ps : Polygons) (before after after' : List Parted) (q : Polygons)
      → k < length xs → x ≡ get_or xs k x → StandsFor paths n (map see (take k xs)) ps before after
      → MendsPolygon paths (see x) q → after' ≡ after ++ told_of paths n k (see x) q
      → StandsFor paths n (map see (take (k + 1) xs)) (ps ++ q) before after'
  stands_step {X = X} see xs n k x ps before after after' q lt is s h t =
      subst (λ (ws : Polygons). StandsFor paths n ws (ps ++ q) before after')
      (ap (λ (y : X). map see (take k xs) ++ see y ∷ []) is ∙ sym (map_more see xs k x lt))
      (stands_more n k (map see (take k xs)) ps before after after' (see x) q s (taken see xs k lt) h t)

  -- ---- the features

  told_in-push : (n m : ℕ) (fs : List Polygons) (all : List (List Polygons)) (f : Polygons) (parts : List Polygons)
      → AllZip (AllZip (MendsPolygon paths)) fs all → m ≡ n + length fs
      → told_in paths n (fs ++ f ∷ []) (all ++ parts ∷ []) ≡ told_in paths n fs all ++ told_from paths m 0 f parts
  told_in-push n m [] [] f parts h e =
      append-nil (told_from paths n 0 f parts) ∙ ap (λ (j : ℕ). told_from paths j 0 f parts) (sym (omega (arith, e)))
  told_in-push n m [] (a ∷ all) f parts h e = absurd h
  told_in-push n m (g ∷ fs) [] f parts h e = absurd h
  told_in-push n m (g ∷ fs) (a ∷ all) f parts h e =
      ap (λ z. told_from paths n 0 g a ++ z) (told_in-push (suc n) m fs all f parts h.1 (omega (arith, e)))
      ∙ sym (append_assoc (told_from paths n 0 g a) (told_in paths (suc n) fs all) (told_from paths m 0 f parts))

  pub tells_more : (n : ℕ) (fs ms : List Polygons) (told told' : List Parted) (f m : Polygons)
      → TellsParted paths fs ms told → n ≡ length fs → StandsFor paths n f m told told'
      → TellsParted paths (fs ++ f ∷ []) (ms ++ m ∷ []) told'
  tells_more n fs ms told told' f m t e s = record {
    parts = t.parts ++ s.parts ∷ [];
    each = all_zipped_more (AllZip (MendsPolygon paths)) fs t.parts f s.parts t.each s.each;
    joins = ap₂ (λ (y : List Polygons) (z : Polygons). y ++ z ∷ []) t.joins s.joins
        ∙ sym (map-append polygons_of_parts t.parts (s.parts ∷ []));
    tells = s.tells ∙ ap (λ z. z ++ told_from paths n 0 f s.parts) t.tells
        ∙ sym (told_in-push 0 n fs t.parts f s.parts t.each (omega (arith, e)));
  }

  pub tells_step : {X : Type 0} (see : X → Polygons) (xs : List X) (n : ℕ) (x : X) (ms : List Polygons) (told told' : List Parted) (m : Polygons)
      → n < length xs → x ≡ get_or xs n x → TellsParted paths (map see (take n xs)) ms told
      → StandsFor paths n (see x) m told told'
      → TellsParted paths (map see (take (n + 1) xs)) (ms ++ m ∷ []) told'
  tells_step {X = X} see xs n x ms told told' m lt is t s =
      subst (λ (fs : List Polygons). TellsParted paths fs (ms ++ m ∷ []) told')
      (ap (λ (y : X). map see (take n xs) ++ see y ∷ []) is ∙ sym (map_more see xs n x lt))
      (tells_more n (map see (take n xs)) ms told told' (see x) m t (taken see xs n lt) s)
