-- Another piece in a buffer.
use Rattle.std.proofs.Common.{◌≡◌, ◌⊎◌, inl, inr, ℕ, zero, suc, ◌+◌, ◌*◌, ◌≤◌, ◌<◌, List, [], ◌∷◌, ◌++◌, length, take, drop, set, refl, sym, ap, ◌∙◌, arith}
use Rattle.std.proofs.lemmas.List.{length-take-le, length-drop, length-map, map-append, take-map, take-take, drop-drop, drop-take, drop_all, take_more_set}
use Rattle.store_data.specs.Pieces.{Part}
use Rattle.read_model.specs.Buffer.{data_at, cut, parts_in, left_behind}
use Rattle.engine_base.specs.declared.ids.PageNo.{PageNo}
use Rattle.read_views.specs.Flights.{numbers_of}
use Rattle.read_views.specs.Steps.{piece_start, piece_room, part_of, with_bytes}
use Rattle.read_views.proofs.PieceLemmas.{Ends, take_ends, drop_ends}

-- as many bytes as the pieces of so many pages take, of which the first takes `size`
abbrev span_of : ℕ → ℕ → ℕ
span_of size zero = 0
span_of size (suc n) = size + n * 16_327

abbrev room_behind : ℕ → List ℕ → ℕ
room_behind size [] = size
room_behind size (p ∷ ps) = 16_327

cut_append : (lob size : ℕ) (ps qs buf : List ℕ) → cut lob size (ps ++ qs) buf
    ≡ cut lob size ps buf ++ cut lob (room_behind size ps) qs (left_behind size ps buf)
cut_append lob size [] qs buf = refl
cut_append lob size (p ∷ ps) qs buf =
    ap (λ (l : List Part). record { page = p; at = data_at lob p; bytes = take size buf } ∷ l)
    (cut_append lob 16_327 ps qs (drop size buf)
    ∙ ap (λ n. cut lob 16_327 ps (drop size buf) ++ cut lob n qs
    (left_behind 16_327 ps (drop size buf))) (same_room ps))
  where
    same_room : (ps : List ℕ) → room_behind 16_327 ps ≡ 16_327
    same_room [] = refl
    same_room (p ∷ ps) = refl

span_step : (n : ℕ) → span_of 16_327 n ≡ n * 16_327
span_step zero = refl
span_step (suc n) = omega arith

left_is_drop : (size : ℕ) (ps buf : List ℕ)
    → left_behind size ps buf ≡ drop (span_of size (length ps)) buf
left_is_drop size [] buf = refl
left_is_drop size (p ∷ ps) buf =
    left_is_drop 16_327 ps (drop size buf)
    ∙ drop-drop (span_of 16_327 (length ps)) size buf
    ∙ ap (λ n. drop (size + n) buf) (span_step (length ps))

-- where the front is the same, so are its pieces
cut_front : (lob size : ℕ) (ps old new : List ℕ)
    → take (span_of size (length ps)) new ≡ take (span_of size (length ps)) old
    → cut lob size ps new ≡ cut lob size ps old
cut_front lob size [] old new same = refl
cut_front lob size (p ∷ ps) old new same =
    ap (λ (l : List ℕ). record { page = p; at = data_at lob p; bytes = l }
    ∷ cut lob 16_327 ps (drop size new)) first
    ∙ ap (λ (l : List Part). record { page = p; at = data_at lob p; bytes = take size old } ∷ l)
    (cut_front lob 16_327 ps (drop size old) (drop size new) rest)
  where
    first : take size new ≡ take size old
    first = sym (take-take size (size + length ps * 16_327) new (omega arith))
        ∙ ap (take size) same ∙ take-take size (size + length ps * 16_327) old (omega arith)

    rest : take (span_of 16_327 (length ps)) (drop size new)
        ≡ take (span_of 16_327 (length ps)) (drop size old)
    rest = ap (λ k. take k (drop size new)) (span_step (length ps))
        ∙ sym (drop-take size (length ps * 16_327) new)
        ∙ ap (drop size) same
        ∙ drop-take size (length ps * 16_327) old
        ∙ sym (ap (λ k. take k (drop size old)) (span_step (length ps)))

span_start : (k : ℕ) → span_of 15_680 k ≡ piece_start k
span_start zero = refl
span_start (suc k) = refl

room_is : (ps : List ℕ) → room_behind 15_680 ps ≡ piece_room (length ps)
room_is [] = refl
room_is (p ∷ ps) = refl

abbrev pub Fills : ℕ → List ℕ → List ℕ → Type 0
Fills k bytes buf = (length bytes ≡ piece_room k)
    ⊎ ((length bytes ≤ piece_room k) × (piece_start k + length bytes ≡ length buf))

fills_ends : (k : ℕ) (bytes buf : List ℕ) → Fills k bytes buf
    → Ends (piece_room k) bytes (drop (length bytes) (drop (piece_start k) buf))
fills_ends k bytes buf (inl whole) = inl whole
fills_ends k bytes buf (inr last) =
    inr (
      last.0,
      drop_all (length bytes) (drop (piece_start k) buf)
          (omega (arith, length-drop (piece_start k) buf, last.1)),
    )

pub copied_more : (lob k page : ℕ) (ps bytes buf new : List ℕ) → length ps ≡ k
    → piece_start k + length bytes ≤ length buf → Fills k bytes buf
    → new ≡ with_bytes (piece_start k) bytes buf
    → parts_in lob (ps ++ page ∷ []) new ≡ parts_in lob ps buf ++ part_of lob page bytes ∷ []
copied_more lob k page ps bytes buf new long within fills is =
    let start : ℕ = piece_start k in
    let low : start ≤ length buf = omega (arith, within) in
    let front : length (take start buf) ≡ start = length-take-le start buf low in
    let rest : List ℕ = bytes ++ drop (length bytes) (drop start buf) in
    let begins : take start new ≡ take start buf =
    ap (take start) is ∙ take_ends start (take start buf) rest (inl front) in
    let ends : drop start new ≡ rest =
    ap (drop start) is ∙ drop_ends start (take start buf) rest (inl front) in
    let span : span_of 15_680 (length ps) ≡ start =
    ap (span_of 15_680) long ∙ span_start k in
    let same : take (span_of 15_680 (length ps)) new ≡ take (span_of 15_680 (length ps)) buf =
    ap (λ n. take n new) span ∙ begins ∙ sym (ap (λ n. take n buf) span) in
    let left : left_behind 15_680 ps new ≡ rest =
    left_is_drop 15_680 ps new ∙ ap (λ n. drop n new) span ∙ ends in
    let room : room_behind 15_680 ps ≡ piece_room k = room_is ps ∙ ap piece_room long in
    cut_append lob 15_680 ps (page ∷ []) new
    ∙ ap (λ (l : List Part). l ++ cut lob (room_behind 15_680 ps) (page ∷ [])
    (left_behind 15_680 ps new)) (cut_front lob 15_680 ps buf new same)
    ∙ ap (λ n. parts_in lob ps buf ++ cut lob n (page ∷ []) (left_behind 15_680 ps new)) room
    ∙ ap (λ (l : List ℕ). parts_in lob ps buf ++ cut lob (piece_room k) (page ∷ []) l) left
    ∙ ap (λ (l : List ℕ). parts_in lob ps buf ++ part_of lob page l ∷ [])
    (take_ends (piece_room k) bytes (drop (length bytes) (drop start buf))
    (fills_ends k bytes buf fills))

pub pages_more : (k : ℕ) (from : List PageNo) (page : PageNo) → k < length from
    → take (k + 1) (numbers_of (set from k page)) ≡ take k (numbers_of from) ++ page.0 ∷ []
pages_more k from page within =
    take-map (λ (p : PageNo). p.0) (k + 1) (set from k page)
    ∙ ap numbers_of (take_more_set from k page within)
    ∙ map-append (λ (p : PageNo). p.0) (take k from) (page ∷ [])
    ∙ ap (λ (l : List ℕ). l ++ page.0 ∷ []) (sym (take-map (λ (p : PageNo). p.0) k from))

pub pages_long : (k : ℕ) (from : List PageNo) → k < length from
    → length (take k (numbers_of from)) ≡ k
pages_long k from within =
    length-take-le k (numbers_of from) (omega (arith, length-map from (λ (p : PageNo). p.0), within))
