-- What is told, one after another.
use Rattle.kit_words.proofs.Common.{◌≡◌, ◌∙◌, ℕ, ◌+◌, ◌<◌, ◌++◌, ◌∷◌, [], Bool, true, false, cond, List, ap, ap₂, sym, refl, length, map, take, filter, get_or}
use Rattle.kit_words.proofs.Common.{append_assoc, filter-append, map-append, mapped_more}
use Rattle.layer_faces.specs.Common.{FaceOf}
use Rattle.cover_report.specs.Faces.{all_told, face_told, is_found}

-- ---- faces

pub told-append : (xs ys : List FaceOf) → all_told (xs ++ ys) ≡ all_told xs ++ all_told ys
told-append xs ys =
    ap (map face_told) (filter-append (λ (f : FaceOf). is_found f.kind) xs ys)
    ∙ map-append face_told (filter (λ (f : FaceOf). is_found f.kind) xs) (filter (λ (f : FaceOf). is_found f.kind) ys)

pub told_one : (f : FaceOf) → all_told (f ∷ []) ≡ cond (is_found f.kind) (face_told f ∷ []) []
told_one f = by (is_found f.kind)
  where
    by : (b : Bool) → map face_told (cond b (f ∷ []) []) ≡ cond b (face_told f ∷ []) []
    by true = refl
    by false = refl

-- ---- lists that grow

-- one element more passes a test, or not
pub kept_more : {X Y : Type 0} (test : Y → Bool) (of : X → Y) (xs : List X) (i : ℕ) (x : X) → i < length xs → x ≡ get_or xs i x
    → filter test (map of (take (i + 1) xs)) ≡ filter test (map of (take i xs)) ++ cond (test (of x)) (of x ∷ []) []
kept_more test of xs i x l e =
    ap (filter test) (mapped_more of xs i x l e) ∙ filter-append test (map of (take i xs)) (of x ∷ [])

-- one element more, as it is seen, and as that is told
pub told_more : {X Y Z : Type 0} (f : Y → Z) (of : X → Y) (xs : List X) (i : ℕ) (x : X) → i < length xs → x ≡ get_or xs i x
    → map f (map of (take (i + 1) xs)) ≡ map f (map of (take i xs)) ++ f (of x) ∷ []
told_more f of xs i x l e = ap (map f) (mapped_more of xs i x l e) ∙ map-append f (map of (take i xs)) (of x ∷ [])

pub told_pushed : {X Y Z : Type 0} (f : Y → Z) (of : X → Y) (xs : List X) (i : ℕ) (x : X) → i < length xs → x ≡ get_or xs i x
    → (was now : List Z) (z : Z) → was ≡ map f (map of (take i xs)) → now ≡ was ++ z ∷ [] → z ≡ f (of x) → now ≡ map f (map of (take (i + 1) xs))
told_pushed f of xs i x l e was now z p q r = q ∙ ap₂ (λ zs y. zs ++ y ∷ []) p r ∙ sym (told_more f of xs i x l e)

-- what is there, and what came to it
pub longer : {X : Type 0} (old now more : List X) (was part whole : List X) → now ≡ was ++ part → was ≡ old ++ more → whole ≡ more ++ part → now ≡ old ++ whole
longer old now more was part whole e f g =
    e ∙ ap (λ z. z ++ part) f ∙ append_assoc old more part ∙ ap (λ z. old ++ z) (sym g)
