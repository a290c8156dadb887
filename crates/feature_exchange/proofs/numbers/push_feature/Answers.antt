use Rattle.kit_words.proofs.Common.{◌≡◌, ◌++◌, subst, OnOk}
use Rattle.feature_exchange.proofs.Under.{numbers_read}
use Rattle.feature_exchange.proofs.numbers.push_feature.Goals as goal

pub returns-in-Some : goal.returns-in-Some
returns-in-Some g c =
    subst (λ z. OnOk c.push_polygons.result (c.push_polygons.new.numbers.items ≡ c.args.numbers.now.items ++ z))
    (numbers_read c.args.frame.now.doc c.args.n c.in-Some.polygons.now c.in-Some.ensures)
    c.push_polygons.ensures
