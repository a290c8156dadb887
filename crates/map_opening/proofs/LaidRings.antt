-- Rings that are laid: none yet, and one more.
use Rattle.kit_words.proofs.Common.{◌≡◌, ◌≢◌, ℕ, Bool, true, false, refl, sym, ap, ap₂, ◌∙◌, subst, List, [], ◌∷◌, ◌++◌}
use Rattle.kit_words.proofs.Common.{map, Some, None, is_some, inl, ◌==◌, IsTrue, nat_cmp, false≢true, Decides-eqb}
use Rattle.kit_words.proofs.Common.{map-append, flat_map-append}
use Rattle.std.proofs.Common.{append-nil}
use Rattle.std.specs.FinMap as table
use Rattle.ring_machine.specs.Common.{segments}
use Rattle.ring_machine.proofs.Common.{In, in_left, in_right, contains_in, in_contains, in_mapped, in-map, map_there}
use Rattle.vertex_index.specs.Common.{Placement, place}
use Rattle.arc_tables.specs.Common.{Rings, edges}
use Rattle.ring_store.proofs.Common.{distinct_more, ring_here, ring_other}
use Rattle.map_opening.specs.Common.{IsLaid, segments_along}

-- ---- none yet

pub laid_none : (m : Rings) → m ≡ table.empty → IsLaid m [] []
laid_none m e = record {
  along = refl;
  only = λ r h. absurd (false≢true (sym (ap (λ z. table.contains_key z r) e ∙ ap is_some (table.get-empty nat_cmp r)) ∙ h));
  once = refl;
}

-- ---- one more

-- a number that is not held is not among those of the laid rings
other_number : (rings : Rings) (numbers : List ℕ) (keyed : List (List ℕ)) (r : ℕ)
    → table.get rings r ≡ None → IsLaid rings numbers keyed → (n : ℕ) → In n numbers → n ≢ r
other_number rings numbers keyed r vacant laid n i e =
    let there = subst (In (table.get rings n)) laid.along (in-map (table.get rings) n numbers i) in
    let ring = in_mapped (λ keys. Some (edges keys)) (table.get rings n) keyed there in
    false≢true (ap is_some (sym (ap (table.get rings) e ∙ vacant) ∙ sym ring.2))

-- a ring that was laid under a new number
pub laid_more : (rings rings' : Rings) (numbers : List ℕ) (keyed : List (List ℕ)) (r : ℕ)
    (keys : List ℕ) → table.get rings r ≡ None → rings' ≡ table.insert rings r (edges keys)
    → IsLaid rings numbers keyed → IsLaid rings' (numbers ++ r ∷ []) (keyed ++ keys ∷ [])
laid_more rings rings' numbers keyed r keys vacant put laid =
    subst (λ m. IsLaid m (numbers ++ r ∷ []) (keyed ++ keys ∷ [])) (sym put) (record {
      along =
          map-append (table.get more) numbers (r ∷ [])
          ∙ ap₂ (λ y z. y ++ z ∷ []) (map_there (table.get more) (table.get rings) numbers (λ n i. ring_other rings r (edges keys) n (others n i)) ∙ laid.along) (ring_here rings r (edges keys))
          ∙ sym (map-append (λ ks. Some (edges ks)) keyed (keys ∷ []));
      only = λ q h. in_contains (numbers ++ r ∷ []) q (by q (q == r) refl h);
      once = distinct_more numbers r others laid.once;
    })
  where
    more : Rings
    more = table.insert rings r (edges keys)

    others : (n : ℕ) → In n numbers → n ≢ r
    others = other_number rings numbers keyed r vacant laid

    by : (q : ℕ) (t : Bool) → (q == r) ≡ t → IsTrue (table.contains_key more q) → In q (numbers ++ r ∷ [])
    by q true e h = in_right q numbers (r ∷ []) (inl (sym ((Decides-eqb q r).0 e)))
    by q false e h =
        let held : IsTrue (table.contains_key rings q)
        = sym (ap is_some (ring_other rings r (edges keys) q (λ i. false≢true (sym e ∙ (Decides-eqb q r).1 i)))) ∙ h in
        in_left q numbers (r ∷ []) (contains_in numbers q (laid.only q held))

pub along_more : (places : Placement) (keyed : List (List ℕ)) (keys : List ℕ)
    → segments_along places keyed ++ segments (map (place places) keys) ≡ segments_along places (keyed ++ keys ∷ [])
along_more places keyed keys =
    let along = λ (ks : List ℕ). segments (map (place places) ks) in
    ap (λ z. segments_along places keyed ++ z) (sym (append-nil (along keys))) ∙ sym (flat_map-append along keyed (keys ∷ []))
