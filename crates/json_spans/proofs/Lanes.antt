-- Masks of the bytes of a block.
use Rattle.kit_words.proofs.Common.{◌≡◌, ℕ, zero, suc, ◌+◌, ◌*◌, ◌/◌, ◌%◌, ◌^◌, ◌<◌, ◌≤◌, ltb, eqb, Bool, true, false, not}
use Rattle.kit_words.proofs.Common.{cond, List, [], ◌∷◌, map, length, take, replicate, refl, ap, ap₂, ◌∙◌, arith, w8}
use Rattle.kit_words.proofs.Common.{Fits, mod-mul, one-le-pow, pow-succ', agree_below, agree_below_at, mask_l-mod}
use Rattle.kit_words.proofs.Common.{trailing_mask_l, zip2_splat, map-map, length-map, prefix_len, count_trailing_zeros}
use Rattle.kit_words.proofs.Common.{mask_l, top, Each1, zip2}

each_byte : (f : ℕ → ℕ) (p : ℕ → Bool) → agree_below (λ x. top 7 (f x)) p 256 ≡ true → (v : List ℕ) → Each1 (Fits w8) v → map (top 7) (map f v) ≡ map p v
each_byte f p all [] fits = refl
each_byte f p all (x ∷ xs) fits = ap₂ (λ a b. a ∷ b) (agree_below_at (λ y. top 7 (f y)) p 256 x all fits.0.fits) (each_byte f p all xs fits.1)

-- a mask that is computed lane by lane is held to a predicate at each of the 256 bytes
pub masked : (f : ℕ → ℕ) (p : ℕ → Bool) (v z : List ℕ) → length v ≤ 64 → Each1 (Fits w8) v → z ≡ map f v → agree_below (λ x. top 7 (f x)) p 256 ≡ true → mask_l (map (top 7) z) % 2 ^ 64 ≡ mask_l (map p v)
masked f p v z short fits e all =
    ap (λ l. mask_l l % 2 ^ 64) (ap (map (top 7)) e ∙ each_byte f p all v fits) ∙ mask_l-mod (map p v) 64 (omega (arith, length-map v p))

-- the lanes before the first that passes p
pub before_first : (p : ℕ → Bool) (v : List ℕ) → length v ≤ 64 → 0 < mask_l (map p v) → count_trailing_zeros 64 (mask_l (map p v)) ≡ prefix_len (λ x. not (p x)) v
before_first p v short some = trailing_mask_l p 64 v short some

double_mod : (c m b : ℕ) → c < 2 → 0 < b → (c + 2 * m) % (2 * b) ≡ c + 2 * (m % b)
double_mod c m b lt some =
    let swap : 2 * b ≡ b * 2 = omega arith in
    let half : (c + 2 * m) / 2 ≡ m = omega arith in
    let low : (c + 2 * m) % 2 ≡ c = omega arith in
    let back : (m % b) * 2 + c ≡ c + 2 * (m % b) = omega arith in
    ap (λ d. (c + 2 * m) % d) swap ∙ mod-mul (c + 2 * m) some (omega arith) ∙ ap₂ (λ q r. (q % b) * 2 + r) half low ∙ back

bit_of : (b : Bool) → cond b 1 0 < 2
bit_of true = omega arith
bit_of false = omega arith

-- the lowest bits are those of the first lanes
pub mask_take : (p : ℕ → Bool) (k : ℕ) (v : List ℕ) → mask_l (map p v) % 2 ^ k ≡ mask_l (map p (take k v))
mask_take p zero v = omega arith
mask_take p (suc k) [] = omega arith
mask_take p (suc k) (x ∷ xs) =
    ap (λ n. mask_l (map p (x ∷ xs)) % n) (pow-succ' 2 k) ∙ double_mod (cond (p x) 1 0) (mask_l (map p xs)) (2 ^ k) (bit_of (p x)) (one-le-pow k 2 (omega arith)) ∙ ap (λ m. cond (p x) 1 0 + 2 * m) (mask_take p k xs)

-- an operation with one number, on lanes that were computed from v
pub after_splat : (h : ℕ → ℕ → ℕ) (f : ℕ → ℕ) (y n : ℕ) (v : List ℕ) {a : List ℕ} → length v ≡ n → a ≡ map f v → zip2 h a (replicate n y) ≡ map (λ x. h (f x) y) v
after_splat h f y n v long p = ap (λ a. zip2 h a (replicate n y)) p ∙ zip2_splat h (map f v) n y (length-map v f ∙ long) ∙ map-map (λ x. h x y) f v

abbrev pub below : ℕ → ℕ → ℕ
below a b = cond (ltb a b) 255 0

abbrev pub alike : ℕ → ℕ → ℕ
alike a b = cond (eqb a b) 255 0
