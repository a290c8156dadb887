-- The machine: a command, its answer, and the state after it.
use Rattle.std.specs.Prelude.{ℕ, ◌+◌, ℤ, ◌==◌, if◌then◌else◌, List, [], ◌∷◌, take, Option, None}
use Rattle.std.specs.Prelude.{Some}
use Rattle.grid_geometry.specs.Common.{Position}
use Rattle.ring_machine.specs.Document.{DocumentOf, Document, Text}
use Rattle.ring_machine.specs.Parts.{in_features}
use Rattle.ring_machine.specs.Vertices.{put, ins, del}
use Rattle.ring_machine.specs.Cut.{path_of, cut}
use Rattle.ring_machine.specs.Join.{join, take_out}
use Rattle.ring_machine.specs.Thin.{thinned}
use Rattle.ring_machine.specs.Query.{area_of, inside_at, border_at, neighbours_of, counts_of}
use Rattle.ring_machine.specs.Refusals.{first_of, move_refusals, insert_refusals, remove_refusals}
use Rattle.ring_machine.specs.Refusals.{split_refusals, merge_refusals, feature_refusals}
use Rattle.ring_machine.specs.Refusals.{feature_at}
use Rattle.ring_machine.specs.Command.{Command, Move, Insert, Remove, Thin, Split, Merge, Rename}
use Rattle.ring_machine.specs.Command.{Delete, Undo, Area, At, Neighbours, Rings, Count, Show}
use Rattle.ring_machine.specs.Command.{Refusal, NothingToUndo, Answer, Done, Thinned, Made, AreaIs}
use Rattle.ring_machine.specs.Command.{AtIs, NeighboursAre, RingsAre, CountsAre, DocumentIs}
use Rattle.ring_machine.specs.Command.{Refused}

-- the document, the next feature number, and the documents before the newest changes, newest first
pub record State : Type 0 where
  pub doc : Document
  pub next : ℕ
  pub past : List Document

-- the state after a change to the document d: the newest changes are kept, at most depth of them
abbrev pub changed : ℕ → State → Document → State
changed depth st d = record { doc = d; next = st.next; past = take depth (st.doc ∷ st.past) }

-- the first refusal, and then the state stays; else the answer and the state after the edit
abbrev pub edit : State → List (Option Refusal) → Answer → State → Answer × State
edit st refusals answer after = by (first_of refusals)
  where
    by : Option Refusal → Answer × State
    by (Some r) = (Refused r, st)
    by None = (answer, after)

-- a query answers and leaves the state
abbrev pub query : State → List (Option Refusal) → Answer → Answer × State
query st refusals answer = edit st refusals answer st

-- the document with this JSON string as the id of feature n (RFC 8259, 7)
abbrev pub renamed : {R : Type 0} → DocumentOf R → ℕ → Text → DocumentOf R
renamed d n id = in_features (λ f. if f.number == n then record f { id = Some id } else f) d

-- a split is a change, and raises the next number by one
abbrev pub split_state : ℕ → State → ℕ → Text → List Position → State
split_state depth st n id path =
    let after = changed depth st (cut st.doc n id (path_of path) st.next) in
    record after { next = st.next + 1 }

-- one pass of thinning: it is a change where something was left out
abbrev pub thin_step : ℕ → State → ℤ → Answer × State
thin_step depth st t =
    if (thinned t st.doc).removed == 0
    then (Thinned 0, st)
    else (Thinned (thinned t st.doc).removed, changed depth st (thinned t st.doc).doc)

-- the newest document of the past comes back; the next number stays
abbrev pub undone : State → Answer × State
undone st = by st.past
  where
    by : List Document → Answer × State
    by [] = (Refused NothingToUndo, st)
    by (d ∷ ds) = (Done, record { doc = d; next = st.next; past = ds })

-- the answer to a command, and the state after it; at most depth changes are kept
unfoldable pub step : ℕ → State → Command → Answer × State
step depth st (Move p q) =
    edit st (move_refusals st.doc p q) Done (changed depth st (put st.doc p q))
step depth st (Insert a b q) =
    edit st (insert_refusals st.doc a b q) Done (changed depth st (ins st.doc a b q))
step depth st (Remove p) =
    edit st (remove_refusals st.doc p) Done (changed depth st (del st.doc p))
step depth st (Thin t) = thin_step depth st t
step depth st (Split n id path) =
    edit st (split_refusals st.doc st.next n id (path_of path)) (Made st.next)
    (split_state depth st n id path)
step depth st (Merge n m) =
    edit st (merge_refusals st.doc n m) Done
    (changed depth st (join st.doc n (feature_at st.doc m)))
step depth st (Rename n id) =
    edit st (feature_refusals st.doc n) Done (changed depth st (renamed st.doc n id))
step depth st (Delete n) =
    edit st (feature_refusals st.doc n) Done (changed depth st (take_out st.doc n))
step depth st Undo = undone st
step depth st (Area n) =
    query st (feature_refusals st.doc n) (AreaIs (area_of (feature_at st.doc n)))
step depth st (At p) = query st [] (AtIs (inside_at st.doc p) (border_at st.doc p))
step depth st (Neighbours n) =
    query st (feature_refusals st.doc n)
    (NeighboursAre (neighbours_of st.doc (feature_at st.doc n)))
step depth st (Rings n) =
    query st (feature_refusals st.doc n) (RingsAre (feature_at st.doc n).polygons)
step depth st Count = query st [] (CountsAre (counts_of st.doc))
step depth st Show = query st [] (DocumentIs st.doc)

-- the answers to the commands in order
abbrev pub answers : ℕ → State → List Command → List Answer
answers depth st [] = []
answers depth st (c ∷ cs) = let r = step depth st c in r.0 ∷ answers depth r.1 cs

-- the state after the commands in order
abbrev pub state_after : ℕ → State → List Command → State
state_after depth st [] = st
state_after depth st (c ∷ cs) = state_after depth (step depth st c).1 cs
