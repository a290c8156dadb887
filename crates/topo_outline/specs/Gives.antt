-- What the code answers, beside what is defined.
use Rattle.std.specs.Prelude.{◌≡◌, List, ◌++◌, Result, Ok, Err}
use Rattle.topo_outline.specs.declared.fault.Limit.TheVariants as limit
use Rattle.topo_outline.specs.declared.fault.OpenFault.{OpenFault}
use Rattle.topo_outline.specs.declared.fault.OpenFault.TheVariants as open_fault
use Rattle.topo_outline.specs.Faults.{Fault, ◌>>=◌, too_deep, not_topology, bad_member, duplicate, unsupported, not_whole, out_of_range, bad_position, bad_arc_index, arcs_do_not_meet, ring_short, ring_repeats, too_large}

-- The code's fault is the one defined. Allocation failure may come in the place of any answer, and what
-- is reported before or after a value is walked is never answered.
abbrev pub Fails : {Y : Type 0} → OpenFault → Result Y Fault → Type 0
Fails (open_fault.NotJson place) r = ⊥
Fails (open_fault.TooDeep place) r = r ≡ Err (too_deep place)
Fails open_fault.NotTopology r = r ≡ Err not_topology
Fails (open_fault.BadMember name) r = r ≡ Err (bad_member name.text.now)
Fails (open_fault.Duplicate name) r = r ≡ Err (duplicate name.text.now)
Fails (open_fault.Unsupported name) r = r ≡ Err (unsupported name.text.now)
Fails (open_fault.NotWhole place) r = r ≡ Err (not_whole place)
Fails (open_fault.OutOfRange place) r = r ≡ Err (out_of_range place)
Fails (open_fault.BadPosition place) r = r ≡ Err (bad_position place)
Fails (open_fault.BadArcIndex place) r = r ≡ Err (bad_arc_index place)
Fails (open_fault.ArcsDoNotMeet ring) r = r ≡ Err (arcs_do_not_meet ring)
Fails (open_fault.RingShort ring) r = r ≡ Err (ring_short ring)
Fails (open_fault.RingRepeats ring p) r = r ≡ Err (ring_repeats ring p)
Fails (open_fault.Conflict s t) r = ⊥
Fails (open_fault.TooLarge limit.Bytes) r = ⊥
Fails (open_fault.TooLarge limit.Features) r = r ≡ Err (too_large limit.Features)
Fails (open_fault.TooLarge limit.Positions) r = r ≡ Err (too_large limit.Positions)
Fails open_fault.OutOfMemory r = Unit {0}

-- the code's answer, seen by the view, is the one defined, or its fault is
abbrev pub Gives : {X Y : Type 0} → (X → Y) → Result X OpenFault → Result Y Fault → Type 0
Gives view (Ok x) r = r ≡ Ok (view x)
Gives view (Err e) r = Fails e r

-- what is defined was put after the old list, or the fault is the one defined
abbrev pub Appends : {X A : Type 0} → List A → List A → Result X OpenFault →
    Result (List A) Fault → Type 0
Appends old new (Ok x) r = (r >>= λ xs. Ok (old ++ xs)) ≡ Ok new
Appends old new (Err e) r = Fails e r
