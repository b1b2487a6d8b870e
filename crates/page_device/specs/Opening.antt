-- What opening a file answers.
use Rattle.std.specs.Prelude.{◌≡◌, ℕ, List, Result, Ok, Err, ⊤}
use Rattle.file_model.specs.declared.layout.Layout.{Layout}
use Rattle.file_model.specs.Control.{Opening, not_store, of_version, short, opens, opening}
use Rattle.engine_base.specs.Faults.{Rose}
use Rattle.engine_base.specs.declared.fault.Fault.TheVariants.{Device}
use Rattle.page_device.specs.declared.opening.OpenError.{OpenError}
use Rattle.page_device.specs.declared.opening.OpenError.TheVariants.{Fault, NotStore, Version, Short}

abbrev pub answer_of : Opening → Result Layout OpenError
answer_of not_store = Err NotStore
answer_of (of_version v) = Err (Version v)
answer_of (short length wanted) = Err (Short length wanted)
answer_of (opens l) = Ok l

-- the file's answer, or a fault of the disk
abbrev pub IsAnswerFor : Result Layout OpenError → List ℕ → Type 0
IsAnswerFor (Err (Fault f)) file = ⊤
IsAnswerFor (Err NotStore) file = Err NotStore ≡ answer_of (opening file)
IsAnswerFor (Err (Version v)) file = Err (Version v) ≡ answer_of (opening file)
IsAnswerFor (Err (Short length wanted)) file =
    Err (Short length wanted) ≡ answer_of (opening file)
IsAnswerFor (Ok l) file = Ok l ≡ answer_of (opening file)

-- a fault is the device's, where its count rose
abbrev pub IsCause : ℕ → ℕ → OpenError → Type 0
IsCause before now (Fault f) = (f ≡ Device) × Rose before now
IsCause before now NotStore = ⊤
IsCause before now (Version v) = ⊤
IsCause before now (Short length wanted) = ⊤

abbrev pub IsNoFault : OpenError → Type 0
IsNoFault (Fault f) = ⊥
IsNoFault NotStore = ⊤
IsNoFault (Version v) = ⊤
IsNoFault (Short length wanted) = ⊤
