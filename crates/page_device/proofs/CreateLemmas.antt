-- A file that grows at its end.
use Rattle.std.proofs.Common.{◌≡◌, ℕ, ◌+◌, ◌-◌, ◌<◌, ◌≤◌, List, [], ◌∷◌, ◌++◌, length, take, drop, replicate, Option, Result, Ok, Err, OnOk, false, refl, sym, ap, ap₂, subst, ◌∙◌, arith}
use Rattle.std.proofs.lemmas.List.{append_assoc, take_all, take-take, take-append-drop, length-drop, length-replicate, length-append, replicate-append-replicate}
use Rattle.engine_base.specs.Disk.{Written, Told}
use Rattle.std.specs.Result.{is_err}
use Rattle.std.proofs.lemmas.Bool.{true≢false}
use Rattle.file_model.specs.declared.layout.Layout.{Layout}
use Rattle.file_model.specs.Sections.{wanted}
use Rattle.file_model.specs.Control.{control_head, new_file}
use Rattle.page_device.specs.Creating.{AppendsZeros, Creates}
use Rattle.engine_base.proofs.CrashLemmas.{told_then}

-- a write at the end appends
pub written_appends : (at : ℕ) (bytes old new : List ℕ) → 0 < length bytes → Written at bytes old new → length old ≡ at → new ≡ old ++ bytes
written_appends at bytes old new some written long =
    let holds = written.holds some in
    let torn = written.torn in
    let w = holds.within in
    let size : length new ≡ at + length bytes = omega (arith, torn.no_longer, w, long) in
    let head : take at new ≡ old =
    sym (take-take at (length old) new (omega (arith, long))) ∙ torn.before ∙ take_all at old (omega (arith, long)) in
    let tail : drop at new ≡ bytes = sym (take_all (length bytes) (drop at new) (omega (arith, length-drop at new, size))) ∙ holds.each in
    sym (take-append-drop at new) ∙ ap₂ (λ (x y : List ℕ). x ++ y) head tail

-- zeros behind zeros
pub zeros_then : (from at n : ℕ) (bytes a b c : List ℕ) → from ≤ at → 0 < n → bytes ≡ replicate n 0 → AppendsZeros from at a b → Written at bytes b c → AppendsZeros from (at + n) a c
zeros_then from at n bytes a b c low some are so_far written long =
    let b_is = so_far long in
    let size : length b ≡ at = ap length b_is ∙ length-append a (replicate (at - from) 0) ∙ omega (arith, long, low, length-replicate {A = ℕ} (at - from) 0) in
    let more = written_appends at bytes b c (omega (arith, ap length are, length-replicate {A = ℕ} n 0, some)) written size in
    more ∙ ap₂ (λ (x y : List ℕ). x ++ y) b_is are ∙ append_assoc a (replicate (at - from) 0) (replicate n 0) ∙ ap (λ (t : List ℕ). a ++ t) (replicate-append-replicate (at - from) n 0 ∙ ap (λ (k : ℕ). replicate k 0) (let e : at - from + n ≡ at + n - from = omega (arith, low) in e))

-- a call that isn't refused is Ok
pub told_zeros : (from at n : ℕ) (bytes : List ℕ) → from ≤ at → 0 < n → bytes ≡ replicate n 0 → {T E : Type 0} (r : Result T E) → is_err r ≡ false → (o p q : Option (List ℕ))
    → Told (AppendsZeros from at) o p → OnOk r (Told (Written at bytes) p q) → Told (AppendsZeros from (at + n)) o q
told_zeros from at n bytes low some are (Ok x) passed o p q one two = told_then (AppendsZeros from at) (Written at bytes) (AppendsZeros from (at + n)) (λ a b c so_far written. zeros_then from at n bytes a b c low some are so_far written) o p q one two
told_zeros from at n bytes low some are (Err e) passed o p q one two = absurd (true≢false passed)

-- the head, and zeros up to the wanted length
new_made : (l : Layout) (a b c : List ℕ) → Written 0 (control_head l) a b → AppendsZeros 20 (wanted l) b c → Creates l a c
unfolding new_file
new_made l a b c written zeros none =
    let head : b ≡ a ++ control_head l = written_appends 0 (control_head l) a b (omega arith) written none in
    let empty : a ≡ [] = no_bytes a none in
    let is : b ≡ control_head l = head ∙ ap (λ (t : List ℕ). t ++ control_head l) empty in
    zeros (ap length is) ∙ ap (λ (t : List ℕ). t ++ replicate (wanted l - 20) 0) is
  where
    no_bytes : (a : List ℕ) → length a ≡ 0 → a ≡ []
    no_bytes [] none = refl
    no_bytes (x ∷ a) none = absurd (omega arith)

-- the control head written, and zeros appended up to the whole length, create the file
pub created : (l : Layout) (head : List ℕ) (at to : ℕ) → head ≡ control_head l → at ≡ 20 → to ≡ wanted l → {T E : Type 0} (r : Result T E) (o p q x : Option (List ℕ)) → Told (Written 0 head) o p → Told (AppendsZeros at to) p q → x ≡ q → OnOk r (Told (Creates l) o x)
created l head at to is low high (Err e) o p q x one two same = tt
created l head at to is low high (Ok u) o p q x one two same =
    let H : List ℕ → Type 0 = λ xs. Told (Written 0 xs) o p in
    let A : ℕ → Type 0 = λ k. Told (AppendsZeros k to) p q in
    let B : ℕ → Type 0 = λ k. Told (AppendsZeros 20 k) p q in
    let X : Option (List ℕ) → Type 0 = λ y. Told (Creates l) o y in
    subst X (sym same) (told_then (Written 0 (control_head l)) (AppendsZeros 20 (wanted l)) (Creates l) (new_made l) o p q (subst H is one) (subst B high (subst A low two)))
