-- How far a layer is written.
use Rattle.kit_words.proofs.Common.{◌≡◌, ◌≢◌, ℕ, zero, suc, ◌+◌, ◌==◌, ◌++◌, ◌∙◌, ◌∷◌, [], Bool, true, false, List, length, map, reverse, ap, sym, refl, Bor, arith, subst}
use Rattle.kit_words.proofs.Common.{length-map, length-reverse, map-append, reverse-append}
use Rattle.ring_machine.specs.Common.{Head}
use Rattle.topo_outline.specs.Common.{view_head}
use Rattle.topo_outline.specs.declared.document.Head.{Head as CodeHead}
use Rattle.geo_text.specs.Items.{At, passed, passed_in}
use Rattle.geo_text.specs.Seen.{open_heads}

pub heads_long : {A : Type 0} (heads : List (Bor (CodeHead A))) → length (open_heads heads) ≡ length heads
heads_long heads = length-reverse (map (λ h. view_head h.now) heads) ∙ length-map heads (λ h. view_head h.now)

pub heads_push : {A : Type 0} (heads : List (Bor (CodeHead A))) (h : Bor (CodeHead A)) → open_heads (heads ++ h ∷ []) ≡ view_head h.now ∷ open_heads heads
heads_push heads h = ap reverse (map-append (λ k. view_head k.now) heads (h ∷ [])) ∙ reverse-append (map (λ k. view_head k.now) heads) (view_head h.now ∷ [])

-- a list of none
pub none_long : {A : Type 0} (xs : List A) → length xs ≡ 0 → xs ≡ []
none_long [] e = refl
none_long (x ∷ xs) e = absurd (omega arith)

pub passed_outside : (at : At) → at.heads ≡ [] → passed at ≡ record at { feature = at.feature + 1 }
passed_outside at e = subst (λ z. passed_in z at ≡ record at { feature = at.feature + 1 }) (sym e) refl

pub passed_inside : (at : At) → length at.heads ≢ 0 → passed at ≡ record at { more = true }
passed_inside at n = by at.heads n
  where
    by : (heads : List Head) → length heads ≢ 0 → passed_in heads at ≡ record at { more = true }
    by [] k = absurd (k refl)
    by (h ∷ heads) k = refl
