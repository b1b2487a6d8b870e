-- What the calls within a change may use, and what they used.
use Rattle.std.proofs.Common.{◌≡◌, ℕ, ◌+◌, ◌≤◌, [], ◌∷◌, length, ap, arith}
use Rattle.page_model.specs.Steps.{IsWithin}
use Rattle.page_model.proofs.StepLemmas.{within_right}
use Rattle.undo_model.specs.Data.{Body}
use Rattle.undo_model.specs.Bytes.{body_bytes}
use Rattle.undo_model.specs.Reading.{IsSoundBody}
use Rattle.undo_model.proofs.SizeLemmas.{sound_size}

pub zero_in : (log : ℕ) → IsWithin (0 ∷ []) (log ∷ 0 ∷ [])
zero_in log = within_right (log ∷ []) (0 ∷ [])

-- a record has at most 852 bytes
pub short_record : (count : ℕ) (b b' : Body) → IsSoundBody count b → b' ≡ b
    → 51 + length (body_bytes b') ≤ 852
short_record count b b' sound same =
    let s = sound_size count b sound in
    let e = ap (λ (x : Body). length (body_bytes x)) same in omega (arith, s, e)
