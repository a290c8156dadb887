-- Objects that are put one by one, with commas between them.
use Rattle.kit_words.proofs.Common.{◌≡◌, List, [], ◌∷◌, ◌++◌, Bool, false, Result, Ok, Err, refl, sym, ap, ◌∙◌, append_assoc}
use Rattle.kit_words.proofs.Common.{append-nil}
use Rattle.topo_outline.specs.Common.{Fault, Fails, ◌>>=◌}
use Rattle.topo_outline.specs.declared.fault.OpenFault.{OpenFault}
use Rattle.topo_outline.proofs.Walking.{with_front, carry}
use Rattle.geo_topology.specs.Pieces.{TextPiece, comma, separated}

front_of : (old new c xs : List TextPiece) (r : Result (List TextPiece) Fault) → (old ++ c) ++ xs ≡ new → with_front old (r >>= λ ys. Ok (c ++ (xs ++ ys))) ≡ with_front new r
front_of old new c xs (Ok ys) e = rw (← e) (ap (λ (zs : List TextPiece). Ok zs) (simp append_assoc))
front_of old new c xs (Err f) e = refl

front_by : (old mid new c : List TextPiece) (q r : Result (List TextPiece) Fault) → mid ≡ old ++ c → with_front mid q ≡ Ok new → with_front old (q >>= λ xs. r >>= λ ys. Ok (c ++ (xs ++ ys))) ≡ with_front new r
front_by old mid new c (Ok xs) r m e = let same : (old ++ c) ++ xs ≡ new = cc in front_of old new c xs r same
front_by old mid new c (Err f) r m e = absurd cc

module _ {A : Type 0} (f : A → Result (List TextPiece) Fault) where
  pub separated_turn : (first : Bool) (old mid new : List TextPiece) (a : A) (as' left : List A) (whole : Result (List TextPiece) Fault) → left ≡ a ∷ as' → mid ≡ old ++ comma first → with_front mid (f a) ≡ Ok new → with_front old (separated f first left) ≡ whole → with_front new (separated f false as') ≡ whole
  unfolding separated
  separated_turn first old mid new a as' left whole e m is h = sym (front_by old mid new (comma first) (f a) (separated f false as') m is) ∙ rw e at h

  pub separated_stop : (o : OpenFault) (first : Bool) (old start : List TextPiece) (a : A) (as' left : List A) (r : Result (List TextPiece) Fault) → left ≡ a ∷ as' → Fails o (f a) → with_front old (separated f first left) ≡ with_front start r → Fails o r
  unfolding separated
  separated_stop o first old start a as' left r e is h = carry o (f a) r (λ x fx. out r (sym (rw (e, fx) at h))) is
    where
      out : (q : Result (List TextPiece) Fault) {x : Fault} → with_front start q ≡ Err x → q ≡ Err x
      out (Ok xs) p = absurd cc
      out (Err y) p = cc

  pub separated_end : (first : Bool) (old start : List TextPiece) (left : List A) (r : Result (List TextPiece) Fault) → left ≡ [] → with_front old (separated f first left) ≡ with_front start r → with_front start r ≡ Ok old
  unfolding separated
  separated_end first old start left r e h = sym (rw (e, append-nil old) at h)
