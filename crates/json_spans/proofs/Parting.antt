-- Going over a part.
use Rattle.kit_words.proofs.Common.{◌≡◌, ℕ, zero, suc, ◌+◌, ◌<◌, ◌≤◌, List, [], ◌∷◌, length, take, drop, get_or, refl}
use Rattle.kit_words.proofs.Common.{sym, ap, arith, add-one, drop-cons, Bool, true, false, cond, Option, Some, None}
use Rattle.kit_words.proofs.Common.{◌==◌, drop_all, length-drop}
use Rattle.json_spans.specs.Common.{Skip, Plain, skip_step, part_len, after_comma, if_more, parts_from, parts_left}
use Rattle.json_spans.specs.Parts.{Node}

pub part_len_goes : (sep : ℕ) (s t : Skip) (level below i : ℕ) (xs : List ℕ) (d whole : ℕ) → i < length xs → Some (t, below) ≡ skip_step sep s level (get_or xs i d) → i + part_len sep s level (drop i xs) ≡ whole →
    (i + 1) + part_len sep t below (drop (i + 1) xs) ≡ whole
unfolding part_len
part_len_goes sep s t level below i xs d whole lt is e =
    let h : i + suc (part_len sep t below (drop (suc i) xs)) ≡ whole = rw (drop-cons xs i d lt, ← is) at e in
    rw add-one (omega arith)

pub part_len_stops : (sep : ℕ) (s : Skip) (level i : ℕ) (xs : List ℕ) (d whole : ℕ) → i < length xs → None ≡ skip_step sep s level (get_or xs i d) → i + part_len sep s level (drop i xs) ≡ whole → i ≡ whole
unfolding part_len
part_len_stops sep s level i xs d whole lt is e =
    let h : i + 0 ≡ whole = rw (drop-cons xs i d lt, ← is) at e in
    omega arith

pub part_len_ends : (sep : ℕ) (s : Skip) (level i : ℕ) (xs : List ℕ) (whole : ℕ) → length xs ≤ i → i + part_len sep s level (drop i xs) ≡ whole → i ≡ whole
unfolding part_len
part_len_ends sep s level i xs whole le e =
    let h : i + 0 ≡ whole = rw (drop_all i xs le) at e in
    omega arith

-- ---- the parts

after_comma_len : (xs rest : List ℕ) → after_comma xs ≡ Some rest → length rest < length xs
after_comma_len [] rest e = absurd cc
after_comma_len (x ∷ xs) rest e = decide (x == 44) e where
  decide : (b : Bool) → cond b (Some xs) None ≡ Some rest → length rest < suc (length xs)
  decide true e = let same : xs ≡ rest = cc in omega (arith, ap length same)
  decide false e = absurd cc

same_more : (o : Option (List ℕ)) (f g : List ℕ → List Node) → ((rest : List ℕ) → o ≡ Some rest → f rest ≡ g rest) → if_more o f ≡ if_more o g
same_more None f g h = refl
same_more (Some rest) f g h = h rest refl

-- a larger bound changes nothing
pub enough : (n m place : ℕ) (xs : List ℕ) → length xs < n → length xs < m → parts_from n place xs ≡ parts_from m place xs
unfolding parts_from
enough zero m place xs lt lm = absurd (omega arith)
enough (suc n) zero place xs lt lm = absurd (omega arith)
enough (suc n) (suc m) place xs lt lm =
    let len = part_len 44 Plain 0 xs in
    let tail = drop len xs in
    ap (λ (ps : List Node). record { at_byte = place; bytes = take len xs } ∷ ps)
    (same_more (after_comma tail) (parts_from n (place + len + 1)) (parts_from m (place + len + 1))
    (λ rest e. enough n m (place + len + 1) rest (omega (arith, after_comma_len tail rest e, length-drop len xs)) (omega (arith, after_comma_len tail rest e, length-drop len xs))))

pub parts_next : (place len : ℕ) (xs rest : List ℕ) → len ≡ part_len 44 Plain 0 xs → Some rest ≡ after_comma (drop len xs) → parts_left true place xs ≡ record { at_byte = place; bytes = take len xs } ∷ parts_left true (place + len + 1) rest
unfolding parts_from
parts_next place len xs rest is e =
    let e' : after_comma (drop (part_len 44 Plain 0 xs) xs) ≡ Some rest = rw is at (sym e) in
    let shorter = after_comma_len (drop (part_len 44 Plain 0 xs) xs) rest e' in
    rw (add-one (length xs), is, e') (ap (λ (ps : List Node). record { at_byte = place; bytes = take (part_len 44 Plain 0 xs) xs } ∷ ps) (enough (length xs) (length rest + 1) (place + part_len 44 Plain 0 xs + 1) rest (omega (arith, shorter, length-drop (part_len 44 Plain 0 xs) xs)) (omega arith)))

pub parts_last : (place len place' : ℕ) (xs rest : List ℕ) → len ≡ part_len 44 Plain 0 xs → None ≡ after_comma (drop len xs) → parts_left true place xs ≡ record { at_byte = place; bytes = take len xs } ∷ parts_left false place' rest
unfolding parts_from
parts_last place len place' xs rest is e =
    let e' : after_comma (drop (part_len 44 Plain 0 xs) xs) ≡ None = rw is at (sym e) in
    rw (add-one (length xs), is, e') refl

-- a turn of the iterator
pub takes_next : (more : Bool) (place len : ℕ) (xs rest text tail : List ℕ) → more ≡ true → len ≡ part_len 44 Plain 0 xs → text ≡ take len xs → tail ≡ drop len xs → Some rest ≡ after_comma tail →
    parts_left more place xs ≡ record { at_byte = place; bytes = text } ∷ parts_left more (place + len + 1) rest
takes_next more place len xs rest text tail m l t u e = rw (m, t) (parts_next place len xs rest l (rw u at e))

pub takes_last : (more : Bool) (place len place' : ℕ) (xs rest text tail : List ℕ) → more ≡ true → len ≡ part_len 44 Plain 0 xs → text ≡ take len xs → tail ≡ drop len xs → None ≡ after_comma tail →
    parts_left more place xs ≡ record { at_byte = place; bytes = text } ∷ parts_left false place' rest
takes_last more place len place' xs rest text tail m l t u e = rw (m, t) (parts_last place len place' xs rest l (rw u at e))
