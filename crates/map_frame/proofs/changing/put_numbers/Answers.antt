use Rattle.kit_words.proofs.Common.{refl}
use Rattle.map_frame.proofs.changing.put_numbers.Goals as goal

pub returns-in-Items : goal.returns-in-Items
returns-in-Items g c = rw c.in-Items.is refl
