-- Pieces that are appended one after another.
use Rattle.kit_words.proofs.Common.{◌≡◌, ℕ, List, ◌++◌, ap, ◌∙◌, append_assoc, appended_two, appended_three}
use Rattle.kit_words.proofs.Common.{appended_four, appended_five, appended_six}

pub seven : (old a b c d k m n t u v w x y new : List ℕ) → t ≡ old ++ a → u ≡ t ++ b → v ≡ u ++ c → w ≡ v ++ d → x ≡ w ++ k → y ≡ x ++ m → new ≡ y ++ n
    → new ≡ old ++ (a ++ (b ++ (c ++ (d ++ (k ++ (m ++ n))))))
seven old a b c d k m n t u v w x y new e f g h i j l = appended_two old a (b ++ (c ++ (d ++ (k ++ (m ++ n))))) t new e (appended_six t b c d k m n u v w x y new f g h i j l)

pub eight : (old a b c d k m n o t u v w x y z new : List ℕ)
    → t ≡ old ++ a → u ≡ t ++ b → v ≡ u ++ c → w ≡ v ++ d → x ≡ w ++ k → y ≡ x ++ m → z ≡ y ++ n → new ≡ z ++ o
    → new ≡ old ++ (a ++ (b ++ (c ++ (d ++ (k ++ (m ++ (n ++ o)))))))
eight old a b c d k m n o t u v w x y z new e f g h i j l p =
    appended_five old a b c d (k ++ (m ++ (n ++ o))) t u v w new e f g h (appended_four w k m n o x y z new i j l p)

pub nine : (old a b c d k m n o q t u v w x y z r new : List ℕ)
    → t ≡ old ++ a → u ≡ t ++ b → v ≡ u ++ c → w ≡ v ++ d → x ≡ w ++ k → y ≡ x ++ m → z ≡ y ++ n → r ≡ z ++ o → new ≡ r ++ q
    → new ≡ old ++ (a ++ (b ++ (c ++ (d ++ (k ++ (m ++ (n ++ (o ++ q))))))))
nine old a b c d k m n o q t u v w x y z r new e f g h i j l p s =
    appended_five old a b c d (k ++ (m ++ (n ++ (o ++ q)))) t u v w new e f g h (appended_five w k m n o q x y z r new i j l p s)
