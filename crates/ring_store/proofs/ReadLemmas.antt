-- The keys of a ring, read from its uses.
use Rattle.kit_words.proofs.Common.{◌≡◌, ℕ, zero, suc, ◌+◌, ◌-◌, ◌<◌, ◌≤◌, Bool, true, false, cond, List, [], ◌∷◌, ◌++◌}
use Rattle.kit_words.proofs.Common.{take, reverse, length, get_or, Option, is_some, IsSome, refl, sym, ap, ◌∙◌, arith}
use Rattle.kit_words.proofs.Common.{◌==◌, option_copied, Bor, take_more, length-reverse, map-append, append-nil}
use Rattle.kit_words.proofs.Common.{get_or-reverse, Decides-eqb, or_left, or_right}
use Rattle.std.proofs.Common.{take_all}
use Rattle.arc_tables.specs.declared.arc.Use.{Use}
use Rattle.arc_tables.specs.Common.{links, walk, chain, begins, uses_arc}
use Rattle.arc_tables.proofs.Common.{chain_append}

-- the links of a path begin at its keys but for the last
pub begins_links : (ps : List ℕ) → begins (links ps) ≡ take (length ps - 1) ps
begins_links [] = refl
begins_links (p ∷ []) = refl
begins_links (p ∷ q ∷ ps) =
    let more : length (p ∷ q ∷ ps) - 1 ≡ suc (length (q ∷ ps) - 1) = omega arith in
    ap (λ z. p ∷ z) (begins_links (q ∷ ps)) ∙ ap (λ n. take n (p ∷ q ∷ ps)) (sym more)

pub length-walk : (back : Bool) (ps : List ℕ) → length (walk back ps) ≡ length ps
length-walk true ps = length-reverse ps
length-walk false ps = refl

-- a path that was gone through up to its last key
pub walked : (back : Bool) (ps : List ℕ) (at : ℕ) → length ps ≤ at → (1 ≤ length ps → at ≤ length ps) → 1 ≤ at → take (at - 1) (walk back ps) ≡ begins (links (walk back ps))
walked true [] at l e o = take_all (at - 1) [] (omega arith)
walked false [] at l e o = take_all (at - 1) [] (omega arith)
walked back (p ∷ ps) at l e o =
    let m : at ≤ length (p ∷ ps) = e (omega arith) in
    let n : at - 1 ≡ length (walk back (p ∷ ps)) - 1 = omega (arith, length-walk back (p ∷ ps), l, m) in
    ap (λ k. take k (walk back (p ∷ ps))) n ∙ sym (begins_links (walk back (p ∷ ps)))

-- and by one key more
pub walk_step : (back : Bool) (ps : List ℕ) (at next x : ℕ) → 1 ≤ at → at < length ps → next ≡ cond back (length ps - at) (at - 1) → x ≡ get_or ps next x →
    take (at + 1 - 1) (walk back ps) ≡ take (at - 1) (walk back ps) ++ x ∷ []
walk_step true ps at next x s l n e =
    ap (λ k. take k (reverse ps)) (omega arith)
    ∙ take_more (reverse ps) (at - 1) x (omega (arith, length-reverse ps))
    ∙ ap (λ z. take (at - 1) (reverse ps) ++ z ∷ []) (get_or-reverse ps (at - 1) x (omega arith) ∙ ap (λ k. get_or ps k x) (omega (arith, n)) ∙ sym e)
walk_step false ps at next x s l n e =
    ap (λ k. take k ps) (omega arith)
    ∙ take_more ps (at - 1) x (omega arith)
    ∙ ap (λ z. take (at - 1) ps ++ z ∷ []) (ap (λ k. get_or ps k x) (sym n) ∙ sym e)

pub uses_at : (us : List Use) (i : ℕ) (d : Use) → i < length us → uses_arc (get_or us i d).arc us ≡ true
uses_at [] i d l = absurd (omega arith)
uses_at (v ∷ us) zero d l = or_left (v.arc == v.arc) (uses_arc v.arc us) ((Decides-eqb v.arc v.arc).1 refl)
uses_at (v ∷ us) (suc i) d l = or_right (v.arc == (get_or us i d).arc) (uses_arc (get_or us i d).arc us) (uses_at us i d (omega arith))

pub copied_is_some : {X : Type 0} (o : Option (Bor X)) → is_some o ≡ is_some (option_copied o)
copied_is_some o = grind arith

pub copied_some : {X : Type 0} (o : Option (Bor X)) → IsSome (option_copied o) → IsSome o
copied_some o h = copied_is_some o ∙ h

-- one more use of the ring was read
pub read_more : (path : ℕ → List ℕ) (us : List Use) (i : ℕ) (d : Use) → i < length us →
    begins (chain path (take (i + 1) us)) ≡ begins (chain path (take i us)) ++ begins (links (walk (get_or us i d).back (path (get_or us i d).arc)))
read_more path us i d l =
    let u = get_or us i d in
    ap (λ z. begins (chain path z)) (take_more us i d l)
    ∙ ap begins (chain_append path (take i us) (u ∷ []))
    ∙ map-append _ (chain path (take i us)) (chain path (u ∷ []))
    ∙ ap (λ z. begins (chain path (take i us)) ++ begins z) (append-nil (links (walk u.back (path u.arc))))
