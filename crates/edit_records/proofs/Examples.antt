-- Features taken out, split and brought back, worked out.
use Rattle.kit_words.proofs.Common.{refl, ◌≡◌, List, [], ◌∷◌, None, Some}
use Rattle.ring_machine.specs.Common.{cut, path_of, Document, Feature, Item, Leaf, take_out, feature}
use Rattle.ring_machine.proofs.Common.{at, letter, bare, document, collection, single, polygon, square_a, square_b}
use Rattle.ring_machine.proofs.Common.{dented, M, E}
use Rattle.edit_records.specs.Common.{LayerTree, Begins, Ends, Number, Alone, Places, Fills, exchanged, had_before}
use Rattle.edit_records.specs.Common.{grown, Record, Exchanged, back, documents}

-- ---- a layer's own feature

-- each layer is a feature
abbrev places_E : List LayerTree
places_E =
    record { name = letter 97; tree = Alone 0 } ∷ record { name = letter 98; tree = Alone 1 } ∷ []

E_filled : Fills places_E E
E_filled = refl

-- an empty collection stands there for it
abbrev E_without : Document
E_without =
    document (collection (letter 97) [] ∷ single (letter 98) (polygon 1 None (dented ∷ [])) ∷ [])

own_taken_out : take_out E 0 ≡ E_without
unfolding take_out
own_taken_out = refl

own_exchanged : exchanged places_E ((0, None) ∷ []) E ≡ E_without
own_exchanged = refl

own_back : back places_E
    (Exchanged ((0, Some (polygon 0 None (square_a ∷ []))) ∷ [])) E_without
    ≡ E
unfolding back
own_back = refl

-- places that are not formed: where a feature alone is a list of places, nothing is left
abbrev places_of_one : List LayerTree
places_of_one = record { name = letter 97; tree = Places (Number 0 ∷ []) } ∷ []

abbrev one : Document
one = document (single (letter 97) (polygon 0 None (square_a ∷ [])) ∷ [])

one_filled : Fills places_of_one one
one_filled = refl

not_formed : exchanged places_of_one ((0, None) ∷ []) one
    ≡ document (record { name = letter 97; items = [] } ∷ [])
not_formed = refl

one_taken_out : take_out one 0 ≡ document (collection (letter 97) [] ∷ [])
unfolding take_out
one_taken_out = refl

-- ---- a split

abbrev places_M : List LayerTree
places_M = record {
  name = letter 76;
  tree = Places (Begins bare ∷ Number 0 ∷ Number 1 ∷ Ends ∷ []);
} ∷ []

M_filled : Fills places_M M
M_filled = refl

-- the new number stands directly after the old one
grown_after : grown 0 2 places_M ≡ record {
  name = letter 76;
  tree = Places (Begins bare ∷ Number 0 ∷ Number 2 ∷ Number 1 ∷ Ends ∷ []);
} ∷ []
grown_after = refl

-- a layer's own feature has no place beside it
grown_alone : grown 0 2 places_E ≡ places_E
grown_alone = refl

abbrev first_A : Feature
first_A = polygon 0 (Some (letter 65)) ((at 0 0 ∷ at 10 0 ∷ at 10 10 ∷ []) ∷ [])

abbrev second_A : Feature
second_A = polygon 2 (Some (letter 67)) ((at 0 0 ∷ at 10 10 ∷ at 0 10 ∷ []) ∷ [])

abbrev B : Feature
B = polygon 1 (Some (letter 66)) (square_b ∷ [])

abbrev land_of : List Item → Document
land_of items = document (collection (letter 76) items ∷ [])

abbrev M_split : Document
M_split = land_of (Leaf first_A ∷ Leaf second_A ∷ Leaf B ∷ [])

split_made : cut M 0 (letter 67) (path_of (at 0 0 ∷ at 10 10 ∷ [])) 2 ≡ M_split
unfolding cut
split_made = refl

split_exchanged : exchanged (grown 0 2 places_M) ((0, Some first_A) ∷ (2, Some second_A) ∷ []) M
    ≡ M_split
split_exchanged = refl

split_back : back (grown 0 2 places_M)
    (Exchanged ((0, feature M 0) ∷ (2, None) ∷ []))
    M_split ≡ M
unfolding back
split_back = refl

-- what comes is what went, each way
split_again : exchanged (grown 0 2 places_M) (had_before M_split ((0, None) ∷ (2, None) ∷ [])) M
    ≡ M_split
split_again = refl

-- ---- two features taken out, the first one first

abbrev first_gone : Document
first_gone = land_of (Leaf B ∷ [])

abbrev both_gone : Document
both_gone = land_of []

gone_in_turn : take_out M 0 ≡ first_gone
unfolding take_out
gone_in_turn = refl

gone_after : take_out first_gone 1 ≡ both_gone
unfolding take_out
gone_after = refl

-- the newest one is taken back first
abbrev newest_first : List Record
newest_first =
    Exchanged ((1, Some B) ∷ [])
    ∷ Exchanged ((0, Some (polygon 0 (Some (letter 65)) (square_a ∷ []))) ∷ [])
    ∷ []

both_back : documents places_M both_gone newest_first ≡ (first_gone ∷ M ∷ [])
unfolding back
both_back = refl
