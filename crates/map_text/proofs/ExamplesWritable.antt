-- A document that is writable, worked out.
use Rattle.kit_words.proofs.Common.{◌≢◌, ℕ, ◌≤◌, List, [], ◌∷◌, refl, subst, arith, codes, IsDistinct, AllPairs}
use Rattle.kit_words.proofs.Common.{bytes_eq-Decides, AllPairs-from_IsDistinct}
use Rattle.std.proofs.Common.{bytes_eq}
use Rattle.serde_json.proofs.OnLiterals.{serde_json_on_literals}
use Rattle.grid_geometry.specs.Common.{InRange}
use Rattle.ring_machine.specs.Common.{Document, Same}
use Rattle.ring_machine.proofs.Common.{at}
use Rattle.json_spans.specs.Common.{text, quote, ascii}
use Rattle.topo_outline.specs.declared.members.Owner.{Owner}
use Rattle.topo_outline.specs.Common.{IsJson, IsName, AreKeptMembers}
use Rattle.topo_reader.specs.Common.{Reads}
use Rattle.map_text.specs.Common.{text_of, Saved, IsWritable}
use Rattle.map_text.proofs.Examples.{M, squares_text, two_squares}
use Rattle.map_text.proofs.MembersKnown.{plain_name}
use Rattle.map_text.proofs.ReadingBack.{text_saves}

land_named : IsName (codes "\"land\"") (codes "land")
unfolding serde_json_on_literals
land_named = plain_name (codes "land") refl (codes "\"land\"", (refl, refl)) refl

-- a JSON string of one letter
letter : IsJson (codes "\"A\"")
letter = (0, text (ascii {a = 65} refl quote))

other_letter : IsJson (codes "\"B\"")
other_letter = (0, text (ascii {a = 66} refl quote))

differ : (names : List (List ℕ)) → IsDistinct bytes_eq names → AllPairs (λ t u. t ≢ u) names
differ names d = AllPairs-from_IsDistinct bytes_eq-Decides names d

no_members : (o : Owner) → AreKeptMembers o []
unfolding IsDistinct
no_members o = record { names = []; each = tt; differ = differ [] tt }

near : (x y : ℕ) → x ≤ 100 → y ≤ 100 → InRange (at x y)
near x y h k = record { across = omega (arith, h); upward = omega (arith, k) }

-- the two squares are writable
writable : IsWritable M
unfolding IsDistinct
writable = record {
  formed = record { geometries = refl; forms = refl; numbers = refl };
  keeps = record {
    transform = tt;
    layer_names = codes "land" ∷ [];
    layers_named = (land_named, tt);
    layers_differ = differ (codes "land" ∷ []) (tt, tt);
    items = ((record { id = tt; properties = tt; members = no_members _ }, (record { id = letter; properties = tt; members = no_members _ }, (record { id = other_letter; properties = tt; members = no_members _ }, (tt, tt)))), tt);
    members = no_members _;
  };
  are_rings = refl;
  in_range = (
    (near 0 0 (omega arith) (omega arith), (near 10 0 (omega arith) (omega arith), (near 10 10 (omega arith) (omega arith), (near 0 10 (omega arith) (omega arith), tt)))),
    ((near 10 0 (omega arith) (omega arith), (near 20 0 (omega arith) (omega arith), (near 20 10 (omega arith) (omega arith), (near 10 10 (omega arith) (omega arith), tt)))), tt),
  );
  small = omega arith;
}

-- so their text is read as the two squares again
kept : Saved (text_of M) M
kept = text_saves M writable

-- these bytes mean the two squares, but for the numbers of the features
squares_read : (meaning : Document) × Reads squares_text meaning × Same M meaning
squares_read = subst (λ bytes. (meaning : Document) × Reads bytes meaning × Same M meaning) two_squares (kept.meaning, kept.reads, kept.same)
