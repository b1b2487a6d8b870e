-- What is read from bytes has as many bytes of its own, and few of them.
use Rattle.std.proofs.Common.{◌≡◌, ℕ, zero, suc, ◌+◌, ◌-◌, ◌*◌, ◌≤◌, List, [], ◌∷◌, length, take, drop, slice_index, Option, Some, refl, sym, ap, ◌∙◌, arith}
use Rattle.std.specs.Option.{option_map, option_and_then}
use Rattle.std.proofs.lemmas.List.{length-append, length-drop, length-take-le}
use Rattle.std.proofs.lemmas.Bool.{leb-true, eqb-true}
use Rattle.byteorder.specs.Endian.{big_number, big_bytes}
use Rattle.store_data.specs.Store.{Run}
use Rattle.undo_model.specs.Data.{Row, Body, inserted, rebuilt, versioned, patched, removed}
use Rattle.undo_model.specs.Bytes.{runs_bytes, body_bytes, record_size, head_size}
use Rattle.undo_model.specs.Reading.{runs_in, bitmap_size, new_lob_in, versioned_in, patched_in, body_in, with_body, Standing, previous_in, record_in, row_in, max_pieces, max_runs, max_old, is_previous, AreSoundRuns, IsSoundBody}
use Rattle.undo_model.proofs.OptionLemmas.{some_some, not_some, cond_some, and_true, map_some, then_some}

-- a body has as many bytes as it was read from, and at most 801
pub record HasSize (b : Body) (n : ℕ) : Type 0 where
  pub same : length (body_bytes b) ≡ n
  pub few : n ≤ 801

lob_size : (count : ℕ) (body : ℕ → Body) (bytes : List ℕ) (b : Body) → ((page : ℕ) → length (body_bytes (body page)) ≡ 4) → new_lob_in count body bytes ≡ Some b → HasSize b (length bytes)
lob_size count body bytes b four e =
    let c = cond_some _ _ _ e in
    let len : length bytes ≡ 4 = eqb-true (length bytes) 4 (and_true _ _ c.0).0 in
    let n = big_number 4 bytes in
    record { same = ap (λ (x : Body). length (body_bytes x)) (sym (some_some (body n) b c.1)) ∙ four n ∙ sym len; few = omega (arith, len) }

versioned_size : (bytes : List ℕ) (b : Body) → versioned_in bytes ≡ Some b → HasSize b (length bytes)
versioned_size bytes b e =
    let c = cond_some _ _ _ e in
    let pieces = big_number 4 bytes in
    let ands = and_true _ _ (and_true _ _ c.0).1 in
    let many : pieces ≤ 1_032 = leb-true pieces max_pieces ands.0 in
    let len : length bytes ≡ 4 + bitmap_size pieces = eqb-true (length bytes) (4 + bitmap_size pieces) ands.1 in
    let four : 4 ≤ length bytes = omega (arith, len) in
    record {
      same = ap (λ (x : Body). length (body_bytes x)) (sym (some_some (versioned pieces (drop 4 bytes)) b c.1))
          ∙ length-append (big_bytes 4 pieces) (drop 4 bytes) ∙ (let d = length-drop 4 bytes in omega (arith, d, four));
      few = omega (arith, len, many);
    }

-- runs are as long as 7 bytes, the first run's old bytes and the other runs together
pub run_size : (r : Run) (more : List Run) → length (runs_bytes (r ∷ more)) ≡ 7 + length r.bytes + length (runs_bytes more)
run_size r more = let l = length-append r.bytes (runs_bytes more) in omega (arith, l)

-- so many runs, as many bytes
pub record HasRuns (runs : List Run) (n left size : ℕ) : Type 0 where
  pub many : length runs ≡ n
  pub same : length (runs_bytes runs) ≡ size
  pub few : size ≤ 7 * n + left

pub runs_size : (count n left : ℕ) (bytes : List ℕ) (runs : List Run) → runs_in count n left bytes ≡ Some runs → HasRuns runs n left (length bytes)
runs_size count zero left bytes runs e =
    let c = cond_some _ _ _ e in
    let len : length bytes ≡ 0 = eqb-true (length bytes) 0 c.0 in
    let is = some_some [] runs c.1 in
    record { many = ap length (sym is); same = ap (λ (rs : List Run). length (runs_bytes rs)) (sym is) ∙ sym len; few = omega (arith, len) }
runs_size count (suc n) left bytes runs e =
    let size = slice_index bytes 6 in
    let c = cond_some _ _ _ e in
    let ands = and_true _ _ c.0 in
    let fits : 7 + size ≤ length bytes = leb-true (7 + size) (length bytes) ands.0 in
    let room : size ≤ left = leb-true size left (and_true _ _ ands.1).0 in
    let old = take size (drop 7 bytes) in
    let r : Run = record { page = big_number 4 bytes; at = big_number 2 (drop 4 bytes); bytes = old } in
    let cons : List Run → List Run = λ more. r ∷ more in
    let m = map_some cons (runs_in count n (left - size) (drop (7 + size) bytes)) runs c.1 in
    let ih = runs_size count n (left - size) (drop (7 + size) bytes) m.0 m.1 in
    let d1 = length-drop (7 + size) bytes in
    let d2 = length-drop 7 bytes in
    let taken : length old ≡ size = length-take-le size (drop 7 bytes) (omega (arith, fits, d2)) in
    let whole : length (runs_bytes (r ∷ m.0)) ≡ 7 + length old + length (runs_bytes m.0) = run_size r m.0 in
    record {
      many = ap length (sym m.2) ∙ ap suc ih.many;
      same = ap (λ (rs : List Run). length (runs_bytes rs)) (sym m.2) ∙ whole ∙ (let s = ih.same in omega (arith, fits, d1, taken, s));
      few = let f = ih.few in omega (arith, fits, room, d1, f);
    }

patched_size : (count : ℕ) (bytes : List ℕ) (b : Body) → patched_in count bytes ≡ Some b → HasSize b (length bytes)
patched_size count bytes b e =
    let n = slice_index bytes 0 in
    let c = cond_some _ _ _ e in
    let ands = and_true _ _ c.0 in
    let one : 1 ≤ length bytes = leb-true 1 (length bytes) ands.0 in
    let many : n ≤ 100 = leb-true n max_runs ands.1 in
    let m = map_some patched (runs_in count n max_old (drop 1 bytes)) b c.1 in
    let rs = runs_size count n max_old (drop 1 bytes) m.0 m.1 in
    let d = length-drop 1 bytes in
    let whole : length (body_bytes (patched m.0)) ≡ 1 + length (runs_bytes m.0) = length-append (big_bytes 1 (length m.0)) (runs_bytes m.0) in
    let s = rs.same in
    let f = rs.few in
    record { same = ap (λ (x : Body). length (body_bytes x)) (sym m.2) ∙ whole ∙ omega (arith, one, d, s); few = omega (arith, one, d, f, many) }

pub body_size : (count kind : ℕ) (bytes : List ℕ) (b : Body) → body_in count kind bytes ≡ Some b → HasSize b (length bytes)
body_size count zero bytes b e = absurd (not_some b e)
body_size count (suc zero) bytes b e = lob_size count inserted bytes b (λ page. refl) e
body_size count (suc (suc zero)) bytes b e = lob_size count rebuilt bytes b (λ page. refl) e
body_size count (suc (suc (suc zero))) bytes b e = versioned_size bytes b e
body_size count (suc (suc (suc (suc zero)))) bytes b e = patched_size count bytes b e
body_size count (suc (suc (suc (suc (suc zero))))) bytes b e =
    let c = cond_some _ _ _ e in
    let len : length bytes ≡ 0 = eqb-true (length bytes) 0 c.0 in
    record { same = ap (λ (x : Body). length (body_bytes x)) (sym (some_some removed b c.1)) ∙ sym len; few = omega (arith, len) }
body_size count (suc (suc (suc (suc (suc (suc n)))))) bytes b e = absurd (not_some b e)

-- a record has as many bytes as it was read from, and at most 852
pub record_size_read : (count : ℕ) (bytes : List ℕ) (s : Standing) → head_size ≤ length bytes → record_in count bytes ≡ Some s
    → (record_size s.undo ≡ length bytes) × (length bytes ≤ 852)
record_size_read count bytes s head e =
    let previous = previous_in bytes in
    let number = big_number 4 (drop 3 bytes) in
    let doc = big_number 4 (drop 7 bytes) in
    let body = body_in count (slice_index bytes 2) (drop head_size bytes) in
    let rest : Row → Option Standing = λ before. option_map (with_body number doc previous before) body in
    let c = cond_some (is_previous count previous.page previous.at) (option_and_then rest (row_in count (drop 11 bytes))) s e in
    let t = then_some rest (row_in count (drop 11 bytes)) s c.1 in
    let m = map_some (with_body number doc previous t.0) body s t.2 in
    let size = body_size count (slice_index bytes 2) (drop head_size bytes) m.0 m.1 in
    let d = length-drop head_size bytes in
    let same : record_size s.undo ≡ head_size + length (body_bytes m.0) = ap (λ (x : Standing). record_size x.undo) (sym m.2) in
    let q = size.same in
    let f = size.few in
    (omega (arith, same, q, d, head), omega (arith, f, d, head))

-- ---- what may be written is as short

sound_runs : (count left : ℕ) (runs : List Run) → AreSoundRuns count left runs → length (runs_bytes runs) ≤ 7 * length runs + left
sound_runs count left [] sound = omega arith
sound_runs count left (r ∷ more) sound =
    let ih = sound_runs count (left - length r.bytes) more sound.4 in
    let s = run_size r more in
    let l = sound.2 in
    omega (arith, ih, s, l)

-- a sound body has at most 801 bytes
pub sound_size : (count : ℕ) (b : Body) → IsSoundBody count b → length (body_bytes b) ≤ 801
sound_size count (inserted page) sound = omega arith
sound_size count (rebuilt page) sound = omega arith
sound_size count (versioned pieces bits) sound =
    let few = sound.0 in
    let len = sound.1 in
    let l = length-append (big_bytes 4 pieces) bits in omega (arith, few, len, l)
sound_size count (patched runs) sound =
    let few = sound.0 in
    let short = sound_runs count max_old runs sound.1 in
    let l = length-append (big_bytes 1 (length runs)) (runs_bytes runs) in omega (arith, few, short, l)
sound_size count removed sound = omega arith
