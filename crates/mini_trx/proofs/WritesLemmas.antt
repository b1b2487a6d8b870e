-- The writes of a frame, one after another.
use Rattle.std.proofs.Common.{◌≡◌, ℕ, ◌+◌, ◌-◌, ◌<◌, ◌^◌, List, ◌∷◌, drop, All, add-one, refl, sym, ap, ap₂, subst, ◌∙◌, arith}
use Rattle.std.proofs.lemmas.List.Elements.{All-tail}
use Rattle.byteorder.specs.Endian.{big_number}
use Rattle.page_model.specs.Frames.{writes_from, writes_in, write_at_head, writes_bytes, IsInside, BeginsWith}
use Rattle.mini_trx.specs.Groups.{KeepsFrame}
use Rattle.page_model.proofs.GroupFrameLemmas.{first_read}
use Rattle.page_model.proofs.ParseLemmas.{body_of}

-- what a first write leaves
pub record Step (n : ℕ) (bytes after : List ℕ) : Type 0 where
  pub begins : BeginsWith (2 ^ 32) (write_at_head bytes) after bytes
  pub writes : writes_from n bytes ≡ write_at_head bytes ∷ writes_from (n - 1) after
  pub whole : after ≡ writes_bytes (writes_from (n - 1) after)
  pub inside : All (IsInside (2 ^ 32)) (writes_from (n - 1) after)

-- the bytes behind the first write
abbrev pub behind : List ℕ → List ℕ
behind bytes = drop (8 + big_number 2 (drop 6 bytes)) bytes

-- bytes that are their writes begin with the first, and those behind are the others' bytes
pub next_write : (n : ℕ) (bytes : List ℕ) → 0 < n → bytes ≡ writes_bytes (writes_from n bytes) → All (IsInside (2 ^ 32)) (writes_from n bytes) → Step n bytes (behind bytes)
next_write n bytes some whole inside =
    let w = write_at_head bytes in
    let after = behind bytes in
    let ws = writes_from (n - 1) after in
    let is : writes_from n bytes ≡ w ∷ ws = ap (λ (k : ℕ). writes_from k bytes) (let e : n ≡ n - 1 + 1 = omega arith in e ∙ add-one (n - 1)) in
    let all = subst (All (IsInside (2 ^ 32))) is inside in
    let begins : BeginsWith (2 ^ 32) w (writes_bytes ws) bytes = record { inside = all 0 w (omega arith); joined = whole ∙ ap writes_bytes is } in
    let rest : after ≡ writes_bytes ws = (first_read w (writes_bytes ws) bytes (big_number 4 bytes) (big_number 2 (drop 4 bytes)) (big_number 2 (drop 6 bytes)) begins refl refl refl).1 in
    let P : List ℕ → Type 0 = λ xs. BeginsWith (2 ^ 32) w xs bytes in
    record { begins = subst P (sym rest) begins; writes = is; whole = rest; inside = All-tail (IsInside (2 ^ 32)) w ws all }

-- the same of bytes that are what follows
pub next_after : (n : ℕ) (bytes after : List ℕ) → after ≡ behind bytes → Step n bytes (behind bytes) → Step n bytes after
next_after n bytes after is step = subst (Step n bytes) (sym is) step

-- what stands behind a frame's first six bytes is the bytes of its writes, as many as it tells
pub frame_body : (frame : List ℕ) (n : ℕ) (body : List ℕ) → KeepsFrame frame → n ≡ big_number 2 (drop 4 frame) → body ≡ drop 6 frame
    → (writes_from n body ≡ writes_in frame) × (body ≡ writes_bytes (writes_from n body)) × All (IsInside (2 ^ 32)) (writes_from n body)
frame_body frame n body kept count is =
    let same : writes_from n body ≡ writes_in frame = ap₂ writes_from count is in (
      same,
      is ∙ body_of frame kept.frame ∙ ap writes_bytes (sym same),
      subst (All (IsInside (2 ^ 32))) (sym same) kept.inside,
    )
