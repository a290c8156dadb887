use Rattle.kit_words.proofs.Common.{ap}
use Rattle.map_frame.specs.Common.{feature_numbers, with_texts}
use Rattle.map_frame.proofs.building.push_feature.Goals as goal

pub returns-clause-next : goal.returns-clause-next
returns-clause-next g c = record {
  feature = record { texts = c.read-texts.result; polygons = c.in-Some.polygons };
  polygons = c.in-Some.polygons;
  appended = c.in_ok-push.ensures.items;
  alike = c.requires.alike;
  stood = c.in_ok-push-2.ensures.items;
  taken = c.in-Some.ensures.items;
  read = record { seen = λ n. ap (λ t. with_texts n t (feature_numbers c.in-Some.polygons)) c.read-texts.ensures };
}
