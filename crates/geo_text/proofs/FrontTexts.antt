-- A FeatureCollection up to the list of its Features, piece by piece (RFC 7946, 3.3).
use Rattle.kit_words.proofs.Common.{◌≡◌, ◌++◌, ◌∙◌, ◌∷◌, [], true, false, List, Option, None, ap, append_assoc, append-nil, appended_five, codes, map, refl, sym, Result, Ok, Err}
use Rattle.ring_machine.specs.Common.{Head, Member, Text}
use Rattle.map_text.specs.Common.{further, member, member_if, member_text}
use Rattle.map_text.proofs.Common.{further_joined}
use Rattle.topo_outline.specs.Common.{duplicate}
use Rattle.geo_features.specs.Faults.{GeoFault, of_map, ◌>>=◌}
use Rattle.geo_text.specs.Layer.{front_members, front_text, has_name, head_text, name_text, not_of_collection}
use Rattle.geo_features.specs.Names.{first_of, is_one_of, unless_wrong}
use Rattle.geo_features.proofs.Carrying.{Put}

-- ---- the name

-- no member is called `name`
pub name_put : (token : Text) (ms : List Member) (old new : Text) → has_name ms ≡ false → new ≡ old ++ further (map member_text (member (codes "\"name\"") token ∷ []))
    → Put old new (name_text token ms)
name_put token ms old new absent e = record {
  text = further (map member_text (member (codes "\"name\"") token ∷ []));
  is = rw absent refl;
  put = e;
}

-- one is, and the layer has the name of one that was read without
pub name_left : (token : Text) (ms : List Member) (old : Text) → has_name ms ≡ true → is_one_of (codes "features" ∷ []) token ≡ true → Put old old (name_text token ms)
name_left token ms old there usual = record { text = []; is = rw (there, usual) refl; put = sym (append-nil old) }

-- one is, and the layer has another name
pub name_twice : (token : Text) (ms : List Member) → has_name ms ≡ true → is_one_of (codes "features" ∷ []) token ≡ false → name_text token ms ≡ Err (of_map (duplicate (codes "name")))
name_twice token ms there other = rw (there, other) refl

-- ---- all of it

regrouped : (a b c d : Text) → (a ++ b) ++ (c ++ d) ≡ (a ++ (b ++ c)) ++ d
regrouped a b c d = simp append_assoc

head_joined : (h : Head) (ms : List Member) (end : Text) → head_text h ++ (further (map member_text ms) ++ end) ≡ further (map member_text (front_members h ms)) ++ end
head_joined h ms end =
    let ids = member_if (codes "\"id\"") h.id in
    let properties = member_if (codes "\"properties\"") h.properties in
    regrouped (further (map member_text ids)) (further (map member_text properties)) (further (map member_text ms)) end
    ∙ ap (λ z. z ++ end) (sym (further_joined ids (properties ++ ms) ∙ ap (λ z. further (map member_text ids) ++ z) (further_joined properties ms)))

pub front_put : (token : Text) (h : Head) (ms : List Member) (old a b c d new : Text) → a ≡ old ++ codes "{\"type\":\"FeatureCollection\"" → Put a b (name_text token ms)
    → first_of not_of_collection ms ≡ None → c ≡ b ++ head_text h → d ≡ c ++ further (map member_text ms) → new ≡ d ++ codes ",\"features\":["
    → Put old new (front_text token h ms)
front_put token h ms old a b c d new p name none q r s =
    let begin = codes "{\"type\":\"FeatureCollection\"" in
    let end = codes ",\"features\":[" in
    record {
      text = begin ++ (name.text ++ (further (map member_text (front_members h ms)) ++ end));
      is =
          ap (λ (t : Result Text GeoFault). t >>= λ n. unless_wrong (first_of not_of_collection ms) ms >>= λ rest. Ok (begin ++ (n ++ (further (map member_text (front_members h rest)) ++ end)))) name.is
          ∙ ap (λ (o : Option Member). unless_wrong o ms >>= λ rest. Ok (begin ++ (name.text ++ (further (map member_text (front_members h rest)) ++ end)))) none;
      put =
          appended_five old begin name.text (head_text h) (further (map member_text ms)) end a b c d new p name.put q r s
          ∙ ap (λ z. old ++ (begin ++ (name.text ++ z))) (head_joined h ms end);
    }
