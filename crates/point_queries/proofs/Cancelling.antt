-- The names that stand an odd number of times, a name at a time.
use Rattle.kit_words.proofs.Common.{◌≡◌, ℕ, ◌+◌, ◌<◌, ◌⊎◌, sym, ap, ◌∙◌, subst, inl, inr, List, [], ◌∷◌, ◌++◌, Contains}
use Rattle.kit_words.proofs.Common.{take, get_or, length, take_more}
use Rattle.grid_geometry.specs.Common.{xor}
use Rattle.ring_machine.proofs.Common.{in_left, in_right, contains_in, in_contains}
use Rattle.map_frame.specs.declared.names.RingName.{RingName}
use Rattle.point_queries.specs.Common.{Cancels, HaveOdd, is_name}
use Rattle.point_queries.proofs.Odds.{odd_more}

pub have_more : (names : List RingName) (i : ℕ) (d : RingName) (a b : List RingName) → i < length names
    → HaveOdd (take i names) a → Cancels (get_or names i d) a b
    → ((x : RingName) → Contains b x → (x ≡ get_or names i d) ⊎ Contains a x) → HaveOdd (take (i + 1) names) b
have_more names i d a b l h c among = record {
  among = λ x m. subst (λ zs. Contains zs x) (sym (take_more names i d l))
      (in_contains (take i names ++ get_or names i d ∷ []) x (elim (among x m) [
        | inl e ↦ in_right x (take i names) (get_or names i d ∷ []) (inl (sym e))
        | inr k ↦ in_left x (take i names) (get_or names i d ∷ []) (contains_in (take i names) x (h.among x k))
      ]));
  odds = λ x. c x ∙ ap (xor (is_name x (get_or names i d))) (h.odds x) ∙ sym (odd_more (is_name x) names i d l);
}
