-- The ring under a number of the frame, by the keys that the tables have along it.
use Rattle.kit_words.proofs.Common.{◌≡◌, ℕ, ◌≤◌, true, Option, Some, None, is_some, option_map, refl, sym, ap, ◌∙◌}
use Rattle.kit_words.proofs.Common.{subst, List, [], ◌∷◌, length, map, arith, inl, inr, Contains, unwrap_or, IsTrue}
use Rattle.kit_words.proofs.Common.{IfSome, IfNone, sum_by, length-map, sum_by-cons}
use Rattle.std.specs.FinMap as table
use Rattle.ring_machine.specs.Common.{rings, size, canonical}
use Rattle.ring_machine.proofs.Common.{In, in_contains, in-map, rings-in_rings, canonical_length}
use Rattle.vertex_index.specs.Common.{place}
use Rattle.arc_tables.specs.Common.{begins, Edge}
use Rattle.ring_store.proofs.Common.{begins_round}
use Rattle.feature_exchange.specs.Common.{IsWhole, Stored, stored_document, ring_under}

part_of_sum : {X : Type 0} (f : X → ℕ) (xs : List X) (x : X) → In x xs → f x ≤ sum_by f xs
part_of_sum f [] x h = absurd h
part_of_sum f (z ∷ xs) x (inl e) = omega (arith, sum_by-cons f z xs, ap f e)
part_of_sum f (z ∷ xs) x (inr h) = omega (arith, sum_by-cons f z xs, part_of_sum f xs x h)

-- what is there or empty, where it is not empty
pub there : {X : Type 0} (r : Option X) (v : X) (P : Type 0) → IfSome r (λ x. x ≡ v) → IfNone r P
    → (P → ⊥) → r ≡ Some v
there None v P h k not_none = absurd (not_none k)
there (Some x) v P h k not_none = ap Some h

edges_of : (o : Option (List Edge)) (keys : List ℕ) → Some keys ≡ option_map begins o
    → (es : List Edge) × (o ≡ Some es) × (keys ≡ begins es)
edges_of None keys e = absurd cc
edges_of (Some es) keys e = (es, refl, cc)

module _ (s : Stored) (whole : IsWhole s) (number : ℕ) where
  -- a ring of the frame is kept
  pub no_keys : In number (rings s.frame) → None ≡ option_map begins (table.get s.rings number) → ⊥
  no_keys h e = by (table.get s.rings number) ((whole.named number).0 (in_contains (rings s.frame) number h)) e
    where
      by : (o : Option (List Edge)) → IsTrue (is_some o) → None ≡ option_map begins o → ⊥
      by None t e = absurd cc
      by (Some es) t e = absurd cc

  module _ (keys : List ℕ) (e : Some keys ≡ option_map begins (table.get s.rings number)) where
    pub keys_placed : (k : ℕ) → Contains keys k → table.contains_key s.places k ≡ true
    keys_placed k h =
        let es = edges_of (table.get s.rings number) keys e in
        whole.placed number k (es.0, es.1, subst (λ z. Contains z k) es.2 h)

    pub keys_round : keys ≡ [] → ⊥
    keys_round empty =
        let es = edges_of (table.get s.rings number) keys e in
        let round = whole.round number es.0 es.1 in
        absurd (omega (arith, ap length empty, ap length es.2, ap length (begins_round es.0 round), round.long))

    pub keys_value : canonical (map (place s.places) keys) ≡ ring_under s number
    keys_value =
        let es = edges_of (table.get s.rings number) keys e in
        ap (λ z. canonical (map (place s.places) z)) es.2
        ∙ sym (ap (λ o. canonical (map (place s.places) (begins (unwrap_or o [])))) es.1)

    -- its positions are among those that the document has in all
    pub keys_few : In number (rings s.frame) → length keys ≤ size (stored_document s)
    keys_few h =
        let all = rings s.frame in
        let one = part_of_sum length (map (ring_under s) all) (ring_under s number) (in-map (ring_under s) number all h) in
        omega (
          arith,
          one,
          ap (sum_by length) (rings-in_rings (ring_under s) s.frame),
          ap length keys_value,
          canonical_length (map (place s.places) keys),
          length-map keys (place s.places),
        )
