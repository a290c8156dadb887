-- The arcs of a document of rings have each of its borders once.
use Rattle.kit_words.proofs.Common.{◌≡◌, sym, subst, List, ℕ, IsTrue, list_all}
use Rattle.ring_machine.specs.Common.{is_ring, Document, rings, Same}
use Rattle.ring_machine.proofs.Common.{all_in}
use Rattle.topo_reader.specs.Common.{Reads}
use Rattle.map_text.specs.Common.{arcs_of, HasEachOnce, Saved}
use Rattle.map_text.proofs.Borders.{segments_once}
use Rattle.map_text.proofs.Ends.{arcs_cut}

pub each_once : (d : Document) → IsTrue (list_all is_ring (rings d)) → HasEachOnce d (arcs_of d)
each_once d are = record {
  once = segments_once d (λ ring i. all_in is_ring (rings d) ring are i);
  cut = arcs_cut d;
}

-- a text that means the document, and whose arcs are its arcs, keeps it
pub saved_by : (bytes : List ℕ) (d meaning : Document) → IsTrue (list_all is_ring (rings d))
    → (reads : Reads bytes meaning) → reads.arcs ≡ arcs_of d → Same d meaning → Saved bytes d
saved_by bytes d meaning are reads e same = record {
  meaning = meaning;
  reads = reads;
  same = same;
  borders = subst (HasEachOnce d) (sym e) (each_once d are);
}
