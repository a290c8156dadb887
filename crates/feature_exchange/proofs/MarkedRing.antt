-- A ring's keys from that of its least position on, and where borders meet along them.
use Rattle.kit_words.proofs.Common.{◌≡◌, ℕ, ◌+◌, ◌-◌, ◌≤◌, Bool, refl, sym, ap, ap₂, ◌∙◌, List, [], ◌∷◌, ◌++◌}
use Rattle.kit_words.proofs.Common.{append_assoc, length, map, take, drop, arith, Contains, Option, None, Some, is_some}
use Rattle.kit_words.proofs.Common.{option_map, true, unwrap_or, false≢true, drop-append_seam, take-append_seam}
use Rattle.kit_words.proofs.Common.{length-append, length-drop, length-map, map-append, take_all}
use Rattle.std.specs.FinMap as table
use Rattle.std.specs.List.{take-map, drop-map}
use Rattle.grid_geometry.specs.Common.{Position}
use Rattle.ring_machine.specs.Common.{before, from, least, canonical}
use Rattle.vertex_index.specs.Common.{Placement, place}
use Rattle.arc_tables.specs.Common.{Edge, Rings, begins}
use Rattle.feature_exchange.specs.Common.{edges_under}
use Rattle.feature_exchange.proofs.RingAround.{among_cons, before_from, at_place}

-- ---- the ring from its least position on

pub first_parts : (p : Position) (ps : List Position) (n : ℕ) → n ≡ length (before (least p ps) (p ∷ ps))
    → canonical (p ∷ ps) ≡ drop n (p ∷ ps) ++ take n (p ∷ ps)
first_parts p ps n e =
    let m = least p ps in
    let us = before m (p ∷ ps) in
    let vs = from m (p ∷ ps) in
    sym (ap₂ (λ y z. y ++ z) (drop-append_seam us vs) (take-append_seam us vs))
    ∙ ap (λ z. drop (length us) z ++ take (length us) z) (before_from m (p ∷ ps))
    ∙ ap (λ i. drop i (p ∷ ps) ++ take i (p ∷ ps)) (sym e)

pub first_within : (p : Position) (ps : List Position) (n : ℕ) → n ≡ length (before (least p ps) (p ∷ ps)) → n ≤ 1 + length ps
first_within p ps n e =
    let m = least p ps in
    omega (arith, e, length-append (before m (p ∷ ps)) (from m (p ∷ ps)), ap length (before_from m (p ∷ ps)))

module _ (places : Placement) (keys : List ℕ) (k : ℕ) (ks : List ℕ) (p : Position) (n : ℕ) (is : keys ≡ k ∷ ks) (there : table.get places k ≡ Some p)
    (at : n ≡ length (before (least p (map (place places) ks)) (p ∷ map (place places) ks))) where
  whole : map (place places) keys ≡ p ∷ map (place places) ks
  whole = ap (map (place places)) is ∙ ap (λ z. z ∷ map (place places) ks) (sym (at_place places k p there))

  pub keys_turned : canonical (map (place places) keys) ≡ drop n (map (place places) keys) ++ take n (map (place places) keys)
  keys_turned =
      ap canonical whole ∙ first_parts p (map (place places) ks) n at
      ∙ ap (λ z. drop n z ++ take n z) (sym whole)

  pub start_within : n ≤ length keys
  start_within = omega (arith, first_within p (map (place places) ks) n at, length-map ks (place places), ap length is)

-- ---- what is appended

module _ {X : Type 0} (f : ℕ → X) (keys : List ℕ) (n : ℕ) where
  parts_map : map f (drop n keys) ++ map f (take n keys) ≡ drop n (map f keys) ++ take n (map f keys)
  parts_map = sym (ap₂ (λ y z. y ++ z) (drop-map f n keys) (take-map f n keys))

  pub appended_parts : (old one two : List X) → one ≡ old ++ map f (take (length keys - n) (drop n keys)) → two ≡ one ++ map f (take n keys)
      → two ≡ old ++ (drop n (map f keys) ++ take n (map f keys))
  appended_parts old one two e h =
      h
      ∙ ap (λ z. z ++ map f (take n keys)) (e ∙ ap (λ z. old ++ map f z) (take_all (length keys - n) (drop n keys) (omega (arith, length-drop n keys))))
      ∙ append_assoc old (map f (drop n keys)) (map f (take n keys))
      ∙ ap (λ z. old ++ z) parts_map

-- marks that agree at each key are those of the positions
pub marks_agree : {X : Type 0} (mark : ℕ → Bool) (at : ℕ → X) (such : X → Bool) (keys : List ℕ)
    → ((k : ℕ) → Contains keys k → mark k ≡ such (at k)) → map mark keys ≡ map such (map at keys)
marks_agree mark at such [] h = refl
marks_agree mark at such (k ∷ ks) h =
    ap₂ (λ (y : Bool) (z : List Bool). y ∷ z) (h k (0, omega arith, refl)) (marks_agree mark at such ks (λ j m. h j (among_cons k ks j m)))

pub marked_parts : (mark : ℕ → Bool) (at : ℕ → Position) (such : Position → Bool) (keys : List ℕ) (n : ℕ)
    → ((k : ℕ) → Contains keys k → mark k ≡ such (at k))
    → canonical (map at keys) ≡ drop n (map at keys) ++ take n (map at keys)
    → drop n (map mark keys) ++ take n (map mark keys) ≡ map such (canonical (map at keys))
marked_parts mark at such keys n h turned =
    ap (λ z. drop n z ++ take n z) (marks_agree mark at such keys h)
    ∙ ap₂ (λ y z. y ++ z) (drop-map such n (map at keys)) (take-map such n (map at keys))
    ∙ sym (map-append such (drop n (map at keys)) (take n (map at keys)))
    ∙ ap (map such) (sym turned)

-- ---- the keys along a ring that is held

module _ (m : Rings) (r : ℕ) where
  pub walk_found : (walk : List ℕ) → Some walk ≡ option_map begins (table.get m r) → walk ≡ begins (edges_under m r)
  walk_found walk = by (table.get m r)
    where
      by : (o : Option (List Edge)) → Some walk ≡ option_map begins o → walk ≡ begins (unwrap_or o [])
      by None e = absurd cc
      by (Some es) e = ap (λ o. unwrap_or o []) e

  pub walk_there : table.contains_key m r ≡ true → None ≡ option_map begins (table.get m r) → ⊥
  walk_there = by (table.get m r)
    where
      by : (o : Option (List Edge)) → is_some o ≡ true → None ≡ option_map begins o → ⊥
      by None h e = absurd (false≢true h)
      by (Some es) h e = absurd cc
