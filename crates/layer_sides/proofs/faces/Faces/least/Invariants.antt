use Rattle.layer_sides.proofs.faces.Faces.least.Given as goal

abbrev pub decreases-loop-next : goal.decreases-loop-next
decreases-loop-next g l = l.least
