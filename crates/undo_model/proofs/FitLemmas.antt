-- What was read names pages of the store, and bytes within them.
use Rattle.std.proofs.Common.{◌≡◌, ℕ, zero, suc, ◌+◌, ◌-◌, ◌<◌, ◌≤◌, ◌==◌, ◌&&◌, List, [], ◌∷◌, length, take, drop, slice_index, Option, Some, subst, arith, nat_lt, nat_le}
use Rattle.std.specs.Option.{option_map, option_and_then}
use Rattle.std.proofs.lemmas.List.{length-drop, length-take-le}
use Rattle.std.proofs.lemmas.Bool.{leb-true, ltb-true, eqb-true}
use Rattle.byteorder.specs.Endian.{big_number}
use Rattle.page_model.specs.Pages.{page_bytes}
use Rattle.store_data.specs.Store.{Run}
use Rattle.undo_model.specs.Data.{Row, Body, inserted, rebuilt, versioned, patched, removed}
use Rattle.undo_model.specs.Bytes.{head_size}
use Rattle.undo_model.specs.Reading.{runs_in, is_run, bitmap_size, new_lob_in, body_in, with_body, Standing, previous_in, record_in, row_in, max_pieces, max_runs, max_old, is_previous, RunsFit, BodyFits}
use Rattle.undo_model.proofs.OptionLemmas.{some_some, not_some, cond_some, and_true, map_some, then_some}

runs_fit : (count n left : ℕ) (bytes : List ℕ) (runs : List Run) → runs_in count n left bytes ≡ Some runs → RunsFit count runs
runs_fit count zero left bytes runs e = let c = cond_some (length bytes == 0) (Some []) runs e in subst (RunsFit count) (some_some [] runs c.1) tt
runs_fit count (suc n) left bytes runs e =
    let size = slice_index bytes 6 in
    let page = big_number 4 bytes in
    let at = big_number 2 (drop 4 bytes) in
    let old = take size (drop 7 bytes) in
    let r : Run = record { page = page; at = at; bytes = old } in
    let cons : List Run → List Run = λ more. r ∷ more in
    let rest = runs_in count n (left - size) (drop (7 + size) bytes) in
    let c = cond_some (nat_le (7 + size) (length bytes) && (nat_le size left && is_run count page at size)) (option_map cons rest) runs e in
    let ands = and_true (nat_le (7 + size) (length bytes)) (nat_le size left && is_run count page at size) c.0 in
    let fits : 7 + size ≤ length bytes = leb-true (7 + size) (length bytes) ands.0 in
    let run = and_true (nat_lt page count) (nat_le (at + size) page_bytes) (and_true (nat_le size left) (is_run count page at size) ands.1).1 in
    let below : page < count = ltb-true page count run.0 in
    let within : at + size ≤ page_bytes = leb-true (at + size) page_bytes run.1 in
    let d = length-drop 7 bytes in
    let taken : length old ≡ size = length-take-le size (drop 7 bytes) (omega (arith, fits, d)) in
    let m = map_some cons rest runs c.1 in
    subst (RunsFit count) m.2 (below, omega (arith, within, taken), runs_fit count n (left - size) (drop (7 + size) bytes) m.0 m.1)

lob_fits : (count : ℕ) (body : ℕ → Body) (bytes : List ℕ) (b : Body) → ((page : ℕ) → page < count → BodyFits count (body page)) → new_lob_in count body bytes ≡ Some b → BodyFits count b
lob_fits count body bytes b fits e =
    let n = big_number 4 bytes in
    let c = cond_some ((length bytes == 4) && nat_lt n count) (Some (body n)) b e in
    subst (BodyFits count) (some_some (body n) b c.1) (fits n (ltb-true n count (and_true (length bytes == 4) (nat_lt n count) c.0).1))

pub body_fits : (count kind : ℕ) (bytes : List ℕ) (b : Body) → body_in count kind bytes ≡ Some b → BodyFits count b
body_fits count zero bytes b e = absurd (not_some b e)
body_fits count (suc zero) bytes b e = lob_fits count inserted bytes b (λ page below. below) e
body_fits count (suc (suc zero)) bytes b e = lob_fits count rebuilt bytes b (λ page below. below) e
body_fits count (suc (suc (suc zero))) bytes b e =
    let pieces = big_number 4 bytes in
    let c = cond_some (nat_le 4 (length bytes) && (nat_le pieces max_pieces && (length bytes == 4 + bitmap_size pieces))) (Some (versioned pieces (drop 4 bytes))) b e in
    let ands = and_true (nat_le pieces max_pieces) (length bytes == 4 + bitmap_size pieces) (and_true (nat_le 4 (length bytes)) (nat_le pieces max_pieces && (length bytes == 4 + bitmap_size pieces)) c.0).1 in
    let few : pieces ≤ max_pieces = leb-true pieces max_pieces ands.0 in
    let len : length bytes ≡ 4 + bitmap_size pieces = eqb-true (length bytes) (4 + bitmap_size pieces) ands.1 in
    let d = length-drop 4 bytes in
    subst (BodyFits count) (some_some (versioned pieces (drop 4 bytes)) b c.1) (few, omega (arith, d, len))
body_fits count (suc (suc (suc (suc zero)))) bytes b e =
    let n = slice_index bytes 0 in
    let runs = runs_in count n max_old (drop 1 bytes) in
    let c = cond_some (nat_le 1 (length bytes) && nat_le n max_runs) (option_map patched runs) b e in
    let m = map_some patched runs b c.1 in
    subst (BodyFits count) m.2 (runs_fit count n max_old (drop 1 bytes) m.0 m.1)
body_fits count (suc (suc (suc (suc (suc zero))))) bytes b e = let c = cond_some (length bytes == 0) (Some removed) b e in subst (BodyFits count) (some_some removed b c.1) tt
body_fits count (suc (suc (suc (suc (suc (suc n)))))) bytes b e = absurd (not_some b e)

-- a record that was read has a body that fits the store's pages
pub record_fits : (count : ℕ) (bytes : List ℕ) (s : Standing) → record_in count bytes ≡ Some s → BodyFits count s.undo.body
record_fits count bytes s e =
    let previous = previous_in bytes in
    let number = big_number 4 (drop 3 bytes) in
    let doc = big_number 4 (drop 7 bytes) in
    let body = body_in count (slice_index bytes 2) (drop head_size bytes) in
    let rest : Row → Option Standing = λ before. option_map (with_body number doc previous before) body in
    let c = cond_some (is_previous count previous.page previous.at) (option_and_then rest (row_in count (drop 11 bytes))) s e in
    let t = then_some rest (row_in count (drop 11 bytes)) s c.1 in
    let m = map_some (with_body number doc previous t.0) body s t.2 in
    subst (λ (x : Standing). BodyFits count x.undo.body) m.2 (body_fits count (slice_index bytes 2) (drop head_size bytes) m.0 m.1)
