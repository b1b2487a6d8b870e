use Rattle.std.proofs.Common.{inl, inr, refl, arith}
use Rattle.lob_model.proofs.rows.row_turns.Goals as goal

pub returns-clause-behind_ten : goal.returns-clause-behind_ten
returns-clause-behind_ten c = (inl refl, (inr (inl refl), tt))

pub returns-clause-behind_one : goal.returns-clause-behind_one
returns-clause-behind_one c = λ steady. elim steady.1.0 [
  | inl same ↦ omega (arith, same)
  | inr turn ↦ elim turn [
    | inl e ↦ omega (arith, e)
    | inr turn' ↦ elim turn' [ inl e ↦ omega (arith, e) | inr turn'' ↦ elim turn'' [ inl e ↦ omega (arith, e) | inr e ↦ omega (arith, e) ] ]
  ]
]
