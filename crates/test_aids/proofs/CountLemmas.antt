-- `is_refused` at a call: what it is given, the shared counter and a token of its lifetime, and
-- what a caller then has, the token and the answer, which may be either.
use Rattle.std.proofs.Common.{◌≡◌, ℕ, List, [], ◌∷◌, Bool, refl, ap}
use seplogic.Ra.Ura.{Ura}
use mir.Val.{Val, vbool, vptr}
use base.Logic.{SProp, ent, sep, ex, guard, id⊢}
use base.Fml.{Lft, Share, ftrue, fsep, flft}
use prog.Memory.{Memory}
use prog.Routine.{Routine}
use types.Logic.{Logic, sem}
use types.Kit.{‵, raw, ◌⊛◌, some, later, ◌$◌, ◌∵◌, !, qed, move, keep, use1, split, join, pick, fjoin, feq_i, feq_l, show, check, await, updating, now as at_once, done}
use contract.Monad.{Fun}
use denote.RattleType.{RattleType}
use denote.Memory.{hidden_shr}
use denote.Builtin.{u64, bool}
use denote.Steps.{nothing, only}
use denote.Triple.Statement.{Contract}
use denote.Triple.Spec.{triple_of}
use Rattle.std.specs.contracts.cell.Cell as cell
use Rattle.test_aids.specs.contracts.refusing.is_refused as callee

abbrev Counter : RattleType
Counter = cell.the_row u64

module _ {M : Type 1} {𝓤 : Ura M} (𝓛 : Logic 𝓤) (at_mem : Memory → SProp 𝓤) (run : Routine → Fun 𝓤) where
  abbrev pub Counts : Contract 𝓤
  Counts = triple_of 𝓛 callee.signature (callee.spec 𝓛 at_mem run)

  abbrev pub at_counts : Lft → Share → ℕ × ℕ → Counts.Ghost
  at_counts κ q c =
      (((κ, tt), (q, tt), tt, (record { ref_ptr = c; now = record { value = tt } }, tt), (vptr c.0 c.1 ∷ [], tt)), tt)

module _ {M : Type 1} {𝓤 : Ura M} (𝓛 : Logic 𝓤) (at_mem : Memory → SProp 𝓤) (run : Routine → Fun 𝓤) (κ : Lft) (q : Share) (c : ℕ × ℕ) where
  open 𝓛 use {H, A}

  abbrev counter : types.Kit.Item 𝓤
  counter = ‵ (hidden_shr Counter κ (record { value = tt }) c.0 c.1)

  pub Counts-goes : ent 𝓤 (sep 𝓤 (sem 𝓛 (hidden_shr Counter κ (record { value = tt }) c.0 c.1)) (A.lft κ q))
      ((Counts 𝓛 at_mem run).pre (at_counts 𝓛 at_mem run κ q c))
  Counts-goes =
      qed 𝓛 (counter ∷ ‵ (flft κ q) ∷ []) ∵
      feq_i ! (List Val) (vptr c.0 c.1 ∷ []) (vptr c.0 c.1 ∷ []) refl $ fjoin ! $
      nothing ! $ move ! (1 ∷ []) $ fjoin ! $ nothing ! $ move ! (2 ∷ []) $ join ! $ join ! $
      nothing ! $ move ! (1 ∷ []) $ join ! $ done !

  abbrev Told : Val → Bool → SProp 𝓤
  Told v r = guard 𝓤 (v ≡ vbool r) (A.lft κ q)

  pub Counts-gives : (v : Val) → ent 𝓤 ((Counts 𝓛 at_mem run).post (at_counts 𝓛 at_mem run κ q c) v) (H.⇛ (ex 𝓤 (Told v)))
  Counts-gives v =
      qed 𝓛 (raw ((Counts 𝓛 at_mem run).post (at_counts 𝓛 at_mem run κ q c) v) ∷ []) ∵ updating ! $
      use1 𝓛 (later (some (λ (r : Bool). ((‵ (flft κ q) ⊛ ‵ ftrue) ⊛ ‵ (bool.own_val r (v ∷ []))) ⊛
      some (λ (ws : Unit {0} × Unit {0}). ‵ (fsep ftrue ftrue) ⊛ ‵ ftrue)))) (id⊢ 𝓤 _) $
      await ! tt $ pick ! (λ r. split ! $ split ! $ move ! (1 ∷ []) $ feq_l ! (λ is. split ! $
      at_once ! $ show ! (Told v) r $ check ! (ap only is) $ keep ! (0 ∷ []) $ done !))
