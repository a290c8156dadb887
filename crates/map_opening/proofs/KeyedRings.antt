-- Rings by the keys of their positions: each can be laid, and the positions are those that were read.
use Rattle.kit_words.proofs.Common.{◌≡◌, ℕ, true, refl, sym, ap, ◌∙◌, subst, List, [], ◌∷◌, map, length, is_some, inl}
use Rattle.kit_words.proofs.Common.{inr, arith, nat_cmp, list_all, flat_map, sum_by, false≢true, length-map}
use Rattle.kit_words.proofs.Common.{flat_map-map, sum_by-cons}
use Rattle.std.specs.FinMap as table
use Rattle.grid_geometry.specs.Common.{Position}
use Rattle.ring_machine.specs.Common.{is_ring, segments}
use Rattle.ring_machine.proofs.Common.{In, contains_in, in_contains, in-map, in-flat_map, all_in, ring_long}
use Rattle.ring_machine.proofs.Common.{ring_distinct}
use Rattle.vertex_index.specs.Common.{Placement, AreDistinct, place}
use Rattle.ring_store.specs.Common.{IsRound}
use Rattle.ring_store.proofs.Common.{AreRead, keyed_at, keys_distinct}
use Rattle.map_opening.specs.Common.{all_keys, IsKeyed, segments_along}

-- ---- keys that were put in an empty table

none_there : (places : Placement) → places ≡ table.empty → (k : ℕ) → is_some (table.get places k) ≡ true → ⊥
none_there places e k h =
    false≢true (sym (ap is_some (ap (λ m. table.get m k) e ∙ table.get-empty nat_cmp k)) ∙ h)

pub none_distinct : (places : Placement) → places ≡ table.empty → AreDistinct places
none_distinct places e j k p a b = absurd (none_there places e j (ap is_some a))

pub none_read : (places : Placement) (keyed : List (List ℕ)) → keyed ≡ []
    → AreRead keyed_at (λ keys. keys) places places keyed []
none_read places keyed e = subst (λ z. AreRead keyed_at (λ keys. keys) places places z []) (sym e) (record {
  read = refl;
  put = record { kept = λ k q h. h; placed = λ k c. absurd (omega (arith, c.1)); passed = λ k c. inl c };
})

pub read_keyed : (old places : Placement) (keyed : List (List ℕ)) (rings : List (List Position))
    → old ≡ table.empty → AreRead keyed_at (λ keys. keys) old places keyed rings
    → IsKeyed places rings keyed
read_keyed old places keyed rings e h = record {
  at = h.read;
  placed = h.put.placed;
  passed = λ k t. elim (h.put.passed k t) [ inl i ↦ absurd (none_there old e k i) | inr i ↦ i ];
}

-- ---- the rings along the keys

sum-mapped : (at : ℕ → Position) (keyed : List (List ℕ))
    → sum_by length (map (map at) keyed) ≡ sum_by length keyed
sum-mapped at [] = refl
sum-mapped at (ks ∷ keyed) =
    omega (arith, sum_by-cons length (map at ks) (map (map at) keyed), sum_by-cons length ks keyed, length-map ks at, sum-mapped at keyed)

module _ (places : Placement) (rings : List (List Position)) (keyed : List (List ℕ)) (k : IsKeyed places rings keyed) where
  -- each can be laid
  pub round_keyed : list_all is_ring rings ≡ true → (ks : List ℕ) → In ks keyed → IsRound places ks
  round_keyed h ks i =
      let ring = all_in is_ring rings (map (place places) ks) h
      (subst (In (map (place places) ks)) k.at (in-map (map (place places)) ks keyed i)) in
      record {
        long = omega (arith, ring_long (map (place places) ks) ring, length-map ks (place places));
        different = keys_distinct (place places) ks (ring_distinct (map (place places) ks) ring);
        placed = λ j c. k.placed j (in_contains (all_keys keyed) j
            (in-flat_map (λ keys. keys) ks j keyed i (contains_in ks j c)));
      }

  pub size_keyed : sum_by length rings ≡ sum_by length keyed
  size_keyed = ap (sum_by length) (sym k.at) ∙ sum-mapped (place places) keyed

  pub segments_keyed : flat_map segments rings ≡ segments_along places keyed
  segments_keyed =
      ap (flat_map segments) (sym k.at) ∙ flat_map-map segments (map (place places)) keyed
