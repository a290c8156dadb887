use Rattle.kit_words.proofs.Common.{◌≤◌, arith, ints, mul-le-mul}
use Rattle.layer_faces.proofs.measures.square.Goals as goal

pub returns-clause-bound : goal.returns-clause-bound
returns-clause-bound c =
    let far : c.unsigned_abs-far.result ≤ 2000000000000 = omega (arith, ints, c.unsigned_abs-far.ensures.value) in
    let grows = mul-le-mul {n₁ = c.unsigned_abs-far.result} {m₁ = c.unsigned_abs-far.result} {n₂ = 2000000000000} {m₂ = 2000000000000} far far in
    omega (arith, grows)
