-- What a sink took of texts with commas between them.
use Rattle.kit_words.proofs.Common.{◌≡◌, ℕ, zero, suc, ◌+◌, ◌<◌, length, take, List, [], ◌∷◌, ◌++◌, map, Bool, sym, ap}
use Rattle.kit_words.proofs.Common.{subst, ◌∙◌, arith, append_assoc, get_or, codes, nat_lt, suc_positive}
use Rattle.device_io.specs.Common.{Took, TookFront}
use Rattle.device_io.specs.declared.Sink as sink
use Rattle.device_io.proofs.Common.{took_both, took_first, took_second}
use Rattle.map_text.specs.Common.{further, commas, comma_if}
use Rattle.topo_writer.proofs.Listed.{commas_step}

-- a text in an empty buffer is all that stands there
pub filled : (o now xs : List ℕ) → o ≡ [] → now ≡ o ++ xs → now ≡ xs
filled o now xs e h = h ∙ ap (λ z. z ++ xs) e

-- the whole after its first items
pub commas_split : {A : Type 0} (f : A → List ℕ) (xs : List A) (i : ℕ) (x : A) → i < length xs → x ≡ get_or xs i x → (rest : List ℕ) × (commas (map f xs) ≡ commas (map f (take i xs)) ++ ((comma_if (nat_lt 0 i) ++ f x) ++ rest))
commas_split {A = A} f [] i x h e = absurd (omega arith)
commas_split {A = A} f (y ∷ ys) zero x h e = (further (map f ys), ap (λ z. f z ++ further (map f ys)) (sym e))
commas_split {A = A} f (y ∷ ys) (suc i) x h e =
    let r = later ys i h e in
    (r.0, ap (λ z. f y ++ z) r.1 ∙ sym (append_assoc (f y) (further (map f (take i ys))) ((codes "," ++ f x) ++ r.0)) ∙ ap (λ b. (f y ++ further (map f (take i ys))) ++ ((comma_if b ++ f x) ++ r.0)) (sym (suc_positive i)))
  where
    later : (zs : List A) (k : ℕ) → suc k < length (y ∷ zs) → x ≡ get_or zs k x → (rest : List ℕ) × (further (map f zs) ≡ further (map f (take k zs)) ++ ((codes "," ++ f x) ++ rest))
    later [] k l d = absurd (omega arith)
    later (z ∷ zs) zero l d = (further (map f zs), ap (λ w. (codes "," ++ f w) ++ further (map f zs)) (sym d))
    later (z ∷ zs) (suc k) l d = let r = later zs k (omega arith) d in (r.0, ap (λ w. (codes "," ++ f z) ++ w) r.1 ∙ sym (append_assoc (codes "," ++ f z) (further (map f (take k zs))) ((codes "," ++ f x) ++ r.0)))

-- a sink after one more item, and after a prefix of it
module _ {W A : Type 0} {its : sink.Ghosts W} (f : A → List ℕ) (xs : List A) (i : ℕ) (x : A) (h : i < length xs) (e : x ≡ get_or xs i x) {a b c : W} where
  pub sent_step : Took its a b (commas (map f (take i xs))) → Took its b c (comma_if (nat_lt 0 i) ++ f x) → Took its a c (commas (map f (take (i + 1) xs)))
  sent_step p q = subst (Took its a c) (sym (commas_step f xs i x h e)) (took_both p q)

  pub sent_part : {failed : Bool} → Took its a b (commas (map f (take i xs))) → TookFront its failed b c (comma_if (nat_lt 0 i) ++ f x) → TookFront its failed a c (commas (map f xs))
  sent_part {failed = failed} p q = let r = commas_split f xs i x h e in subst (TookFront its failed a c) (sym r.1) (took_second p (took_first r.0 q))
