-- Pieces that are appended one after another.
use Rattle.std.proofs.Common.{◌≡◌, ℕ, List, ◌++◌, ap, ◌∙◌, append_assoc}

pub appended_two : (old a b mid new : List ℕ) → mid ≡ old ++ a → new ≡ mid ++ b → new ≡ old ++ (a ++ b)
appended_two old a b mid new e f = f ∙ ap (λ (z : List ℕ). z ++ b) e ∙ append_assoc old a b

pub appended_three : (old a b c t u new : List ℕ) → t ≡ old ++ a → u ≡ t ++ b → new ≡ u ++ c
    → new ≡ old ++ (a ++ (b ++ c))
appended_three old a b c t u new e f g = appended_two old a (b ++ c) t new e (appended_two t b c u new f g)

pub appended_four : (old a b c d t u v new : List ℕ) → t ≡ old ++ a → u ≡ t ++ b → v ≡ u ++ c → new ≡ v ++ d
    → new ≡ old ++ (a ++ (b ++ (c ++ d)))
appended_four old a b c d t u v new e f g h = appended_two old a (b ++ (c ++ d)) t new e (appended_three t b c d u v new f g h)

pub appended_five : (old a b c d k t u v w new : List ℕ) → t ≡ old ++ a → u ≡ t ++ b → v ≡ u ++ c → w ≡ v ++ d → new ≡ w ++ k
    → new ≡ old ++ (a ++ (b ++ (c ++ (d ++ k))))
appended_five old a b c d k t u v w new e f g h i = appended_three old a b (c ++ (d ++ k)) t u new e f (appended_three u c d k v w new g h i)

pub appended_six : (old a b c d k m t u v w x new : List ℕ) → t ≡ old ++ a → u ≡ t ++ b → v ≡ u ++ c → w ≡ v ++ d → x ≡ w ++ k → new ≡ x ++ m
    → new ≡ old ++ (a ++ (b ++ (c ++ (d ++ (k ++ m)))))
appended_six old a b c d k m t u v w x new e f g h i j = appended_two old a (b ++ (c ++ (d ++ (k ++ m)))) t new e (appended_five t b c d k m u v w x new f g h i j)
