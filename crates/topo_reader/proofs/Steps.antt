-- Steps that went well, one after another.
use Rattle.kit_words.proofs.Common.{◌≡◌, ℕ, ◌+◌, Bool, true, false, List, [], ◌∷◌, refl, subst, Result, Ok, Err}
use Rattle.kit_words.proofs.Common.{AllByRecursion, AllZip}
use Rattle.topo_outline.specs.Common.{Fault, ◌>>=◌, each, each_at, demand}

pub bind_ok : {A B : Type 0} (r : Result A Fault) (f : A → Result B Fault) (b : B) → (r >>= f) ≡ Ok b → (a : A) × (r ≡ Ok a) × (f a ≡ Ok b)
bind_ok (Ok a) f b h = (a, refl, h)
bind_ok (Err e) f b h = absurd cc

pub demand_ok : {A : Type 0} (t : Bool) (e : Fault) (r : Result A Fault) (a : A) → demand t e r ≡ Ok a → (t ≡ true) × (r ≡ Ok a)
demand_ok true e r a h = (refl, h)
demand_ok false e r a h = absurd cc

pub ok_same : {A : Type 0} (a b : A) → ◌≡◌ {A = Result A Fault} (Ok a) (Ok b) → a ≡ b
ok_same a b h = cc

-- ---- one by one: all answers are good where each is

pub each_of : {A B : Type 0} (R : A → B → Type 0) (f : A → Result B Fault) → ((a : A) (b : B) → R a b → f a ≡ Ok b) → (xs : List A) (ys : List B) → AllZip R xs ys → each f xs ≡ Ok ys
each_of R f one [] [] h = refl
each_of R f one [] (y ∷ ys) h = absurd h
each_of R f one (x ∷ xs) [] h = absurd h
each_of R f one (x ∷ xs) (y ∷ ys) h = rw (one x y h.0, each_of R f one xs ys h.1) refl

-- and each is what it is read from, where what is asked of that holds
pub of_each : {A B : Type 0} (Q : A → Type 0) (R : A → B → Type 0) (f : A → Result B Fault) → ((a : A) (b : B) → Q a → f a ≡ Ok b → R a b) → (xs : List A) (ys : List B) → AllByRecursion Q xs → each f xs ≡ Ok ys → AllZip R xs ys
of_each Q R f one [] ys q h = subst (λ zs. AllZip R [] zs) (ok_same [] ys h) tt
of_each {B = B} Q R f one (x ∷ xs) ys q h =
    let first = bind_ok (f x) (λ (b : B). each f xs >>= λ bs. Ok (b ∷ bs)) ys h in
    let rest = bind_ok (each f xs) (λ (bs : List B). Ok (first.0 ∷ bs)) ys first.2 in
    subst (λ zs. AllZip R (x ∷ xs) zs) (ok_same (first.0 ∷ rest.0) ys rest.2) (one x first.0 q.0 first.1, of_each Q R f one xs rest.0 q.1 rest.1)

pub each_at_of : {A B : Type 0} (R : A → B → Type 0) (f : ℕ → A → Result B Fault) → ((i : ℕ) (a : A) (b : B) → R a b → f i a ≡ Ok b) → (i : ℕ) (xs : List A) (ys : List B) → AllZip R xs ys → each_at f i xs ≡ Ok ys
each_at_of R f one i [] [] h = refl
each_at_of R f one i [] (y ∷ ys) h = absurd h
each_at_of R f one i (x ∷ xs) [] h = absurd h
each_at_of R f one i (x ∷ xs) (y ∷ ys) h = rw (one i x y h.0, each_at_of R f one (i + 1) xs ys h.1) refl

pub of_each_at : {A B : Type 0} (R : A → B → Type 0) (f : ℕ → A → Result B Fault) → ((i : ℕ) (a : A) (b : B) → f i a ≡ Ok b → R a b) → (i : ℕ) (xs : List A) (ys : List B) → each_at f i xs ≡ Ok ys → AllZip R xs ys
of_each_at R f one i [] ys h = subst (λ zs. AllZip R [] zs) (ok_same [] ys h) tt
of_each_at {B = B} R f one i (x ∷ xs) ys h =
    let first = bind_ok (f i x) (λ (b : B). each_at f (i + 1) xs >>= λ bs. Ok (b ∷ bs)) ys h in
    let rest = bind_ok (each_at f (i + 1) xs) (λ (bs : List B). Ok (first.0 ∷ bs)) ys first.2 in
    subst (λ zs. AllZip R (x ∷ xs) zs) (ok_same (first.0 ∷ rest.0) ys rest.2) (one i x first.0 first.1, of_each_at R f one (i + 1) xs rest.0 rest.1)
