-- Pieces that are appended one after another.
use Rattle.kit_words.proofs.Common.{◌≡◌, ℕ, List, ◌++◌, appended_three, appended_five, appended_six}

pub nine : (old a b c d e f g h i p q r s t u v w new : List ℕ)
    → p ≡ old ++ a → q ≡ p ++ b → r ≡ q ++ c → s ≡ r ++ d → t ≡ s ++ e → u ≡ t ++ f → v ≡ u ++ g → w ≡ v ++ h → new ≡ w ++ i
    → new ≡ old ++ (a ++ (b ++ (c ++ (d ++ (e ++ (f ++ (g ++ (h ++ i))))))))
nine old a b c d e f g h i p q r s t u v w new e1 e2 e3 e4 e5 e6 e7 e8 e9 =
    appended_five old a b c d (e ++ (f ++ (g ++ (h ++ i)))) p q r s new e1 e2 e3 e4
    (appended_five s e f g h i t u v w new e5 e6 e7 e8 e9)

pub eleven : (old a b c d e f g h i j k p q r s t u v w x y new : List ℕ)
    → p ≡ old ++ a → q ≡ p ++ b → r ≡ q ++ c → s ≡ r ++ d → t ≡ s ++ e → u ≡ t ++ f → v ≡ u ++ g → w ≡ v ++ h → x ≡ w ++ i → y ≡ x ++ j → new ≡ y ++ k
    → new ≡ old ++ (a ++ (b ++ (c ++ (d ++ (e ++ (f ++ (g ++ (h ++ (i ++ (j ++ k))))))))))
eleven old a b c d e f g h i j k p q r s t u v w x y new e1 e2 e3 e4 e5 e6 e7 e8 e9 e10 e11 =
    appended_six old a b c d e (f ++ (g ++ (h ++ (i ++ (j ++ k))))) p q r s t new e1 e2 e3 e4 e5
    (appended_six t f g h i j k u v w x y new e6 e7 e8 e9 e10 e11)

pub thirteen : (old a b c d e f g h i j k l m p q r s t u v w x y z o new : List ℕ)
    → p ≡ old ++ a → q ≡ p ++ b → r ≡ q ++ c → s ≡ r ++ d → t ≡ s ++ e → u ≡ t ++ f → v ≡ u ++ g → w ≡ v ++ h → x ≡ w ++ i → y ≡ x ++ j → z ≡ y ++ k → o ≡ z ++ l → new ≡ o ++ m
    → new ≡ old ++ (a ++ (b ++ (c ++ (d ++ (e ++ (f ++ (g ++ (h ++ (i ++ (j ++ (k ++ (l ++ m))))))))))))
thirteen old a b c d e f g h i j k l m p q r s t u v w x y z o new e1 e2 e3 e4 e5 e6 e7 e8 e9 e10 e11 e12 e13 =
    appended_six old a b c d e (f ++ (g ++ (h ++ (i ++ (j ++ (k ++ (l ++ m))))))) p q r s t new e1 e2 e3 e4 e5
    (appended_six t f g h i j (k ++ (l ++ m)) u v w x y new e6 e7 e8 e9 e10
    (appended_three y k l m z o new e11 e12 e13))
