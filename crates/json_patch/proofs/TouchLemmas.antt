-- Runs found from the left, place by place, while writes are made behind all that were made.
use Rattle.std.proofs.Common.{◌≡◌, ◌≢◌, ◌≤◌, ◌<◌, ◌-◌, ◌^◌, min, ℕ, zero, suc, ◌+◌, Bool, true, false, ◌==◌, List, [], ◌∷◌, ◌++◌, length, map, take, drop, set, slice_index, get_or, refl, sym, ap, ap₂, subst, ◌∙◌, arith, cond}
use Rattle.std.proofs.Math.Seq.{take-append_seam, drop-append-add, drop-append_seam, take-length}
use Rattle.std.proofs.lemmas.List.{length-append, length-take-le, append_assoc, take-append-drop, drop-drop, take_more, take_more_set, drop_more, length-set, map-append}
use Rattle.std.proofs.lemmas.Bool.{eq-eqb, ne_eqb, eqb-true, eqb-false}
use Rattle.binary_model.specs.Change.{Run, grown, runs_from, runs, written}
use Rattle.binary_model.proofs.in_place.WrittenLemmas.{written_length}
use Rattle.json_patch.specs.declared.parts.Patch.{Patch}
use Rattle.json_patch.specs.declared.writes.Write.{Write}
use Rattle.json_patch.specs.View.{run_of}
use Rattle.json_patch.specs.Writes.{put_writes, AreInside, AreRising, lengthened}

-- ---- a differing place in front, and one behind

module _ (at x y place a b : ℕ) where
  abbrev first : Run
  first = record { at = at; before = x ∷ []; after = y ∷ [] }

  abbrev final : Run
  final = record { at = place; before = a ∷ []; after = b ∷ [] }

  -- a run with a place behind it, with one in front of it, and with both
  abbrev longer : Run → Run
  longer r = record { at = r.at; before = r.before ++ a ∷ []; after = r.after ++ b ∷ [] }

  abbrev merged : Run → Run
  merged r = record { at = at; before = x ∷ r.before; after = y ∷ r.after }

  over : (r : Run) (d : Bool) → grown at x y (cond d (longer r ∷ []) (r ∷ final ∷ [])) ≡ cond d (grown at x y (longer r ∷ [])) (grown at x y (r ∷ final ∷ []))
  over r true = refl
  over r false = refl

  reaches : (r : Run) → suc at ≡ r.at → (at + suc (length r.before) == place) ≡ (r.at + length r.before == place)
  reaches r next = ap (λ n. n == place) (omega (arith, next))

  both : (r : Run) (c : Bool) → (suc at == r.at) ≡ c
      → cond (r.at + length r.before == place) (cond c (merged (longer r) ∷ []) (first ∷ longer r ∷ [])) (cond c (merged r ∷ final ∷ []) (first ∷ r ∷ final ∷ []))
      ≡ lengthened place a b (cond c (merged r ∷ []) (first ∷ r ∷ []))
  both r true e = ap (λ z. cond z (merged (longer r) ∷ []) (merged r ∷ final ∷ [])) (sym (reaches r (eqb-true (suc at) r.at e)))
  both r false e = go (r.at + length r.before == place)
    where
      go : (d : Bool) → cond d (first ∷ longer r ∷ []) (first ∷ r ∷ final ∷ []) ≡ first ∷ cond d (longer r ∷ []) (r ∷ final ∷ [])
      go true = refl
      go false = refl

  with_more : (r s : Run) (rs : List Run) (c : Bool) → cond c (merged r ∷ lengthened place a b (s ∷ rs)) (first ∷ r ∷ lengthened place a b (s ∷ rs)) ≡ lengthened place a b (cond c (merged r ∷ s ∷ rs) (first ∷ r ∷ s ∷ rs))
  with_more r s rs true = refl
  with_more r s rs false = refl

  front_behind : (rs : List Run) → grown at x y (lengthened place a b rs) ≡ lengthened place a b (grown at x y rs)
  front_behind [] =
      let next : suc at ≡ at + 1 = omega arith in
      ap (λ n. cond (n == place) (record { at = at; before = x ∷ a ∷ []; after = y ∷ b ∷ [] } ∷ []) (first ∷ final ∷ [])) next
  front_behind (r ∷ []) = over r (r.at + length r.before == place) ∙ both r (suc at == r.at) refl
  front_behind (r ∷ s ∷ rs) = with_more r s rs (suc at == r.at)

-- ---- one more byte written behind

-- between bytes and themselves there are no runs
pub no_runs : (at : ℕ) (xs : List ℕ) → runs_from at xs xs ≡ []
no_runs at [] = refl
no_runs at (x ∷ xs) = ap (λ b. cond b (runs_from (suc at) xs xs) (grown at x x (runs_from (suc at) xs xs))) (eq-eqb x x refl) ∙ no_runs (suc at) xs

written_next : (z : ℕ) (zs : List ℕ) (i : ℕ) (new : List ℕ) → written (z ∷ zs) (suc i) new ≡ z ∷ written zs i new
unfolding written
written_next z zs i new = let e : suc i + length new ≡ suc (i + length new) = omega arith in ap (λ n. z ∷ (take i zs ++ (new ++ drop n (z ∷ zs)))) e

abbrev OneMore : ℕ → List ℕ → List ℕ → ℕ → ℕ → Type 0
OneMore at old new i y = runs_from at old (written new i (y ∷ [])) ≡ cond (slice_index old i == y) (runs_from at old new) (lengthened (at + i) (slice_index old i) y (runs_from at old new))

module _ (at x z place a y : ℕ) (rs : List Run) where
  carried : (c q : Bool) → cond c (cond q rs (lengthened place a y rs)) (grown at x z (cond q rs (lengthened place a y rs)))
      ≡ cond q (cond c rs (grown at x z rs)) (lengthened place a y (cond c rs (grown at x z rs)))
  carried true true = refl
  carried true false = refl
  carried false true = refl
  carried false false = front_behind at x z place a y rs

one_first : (at : ℕ) (x : ℕ) (xs : List ℕ) (y : ℕ) → OneMore at (x ∷ xs) (x ∷ xs) 0 y
unfolding written
one_first at x xs y =
    let here : at ≡ at + 0 = omega arith in
    ap (λ rs. cond (x == y) rs (grown at x y rs)) (no_runs (suc at) xs)
    ∙ ap (λ n. cond (x == y) [] (record { at = n; before = x ∷ []; after = y ∷ [] } ∷ [])) here
    ∙ ap (λ rs. cond (x == y) rs (lengthened (at + 0) x y rs)) (sym (no_runs at (x ∷ xs)))

one_more : (at : ℕ) (old new : List ℕ) (i y : ℕ) → i < length old → length new ≡ length old → drop i new ≡ drop i old → OneMore at old new i y
one_more at [] new i y low e same = let no : ⊥ = omega (arith, low) in absurd no
one_more at (x ∷ xs) [] i y low e same = let no : ⊥ = omega (arith, e) in absurd no
one_more at (x ∷ xs) (z ∷ zs) zero y low e same = subst (λ ws. OneMore at (x ∷ xs) ws 0 y) (sym same) (one_first at x xs y)
one_more at (x ∷ xs) (z ∷ zs) (suc i) y low e same =
    let next : suc at + i ≡ at + suc i = omega arith in
    ap (runs_from at (x ∷ xs)) (written_next z zs i (y ∷ []))
    ∙ ap (λ rs. cond (x == z) rs (grown at x z rs)) (one_more (suc at) xs zs i y (omega (arith, low)) (omega (arith, e)) same)
    ∙ carried at x z (suc at + i) (slice_index xs i) y (runs_from (suc at) xs zs) (x == z) (slice_index xs i == y)
    ∙ ap (λ p. cond (slice_index xs i == y) (runs_from at (x ∷ xs) (z ∷ zs)) (lengthened p (slice_index xs i) y (runs_from at (x ∷ xs) (z ∷ zs)))) next

-- ---- a write, byte by byte

-- a write of no bytes changes nothing
pub written_none : (new : List ℕ) (at : ℕ) → written new at [] ≡ new
unfolding written
written_none new at = let e : at + 0 ≡ at = omega arith in ap (λ n. take at new ++ drop n new) e ∙ take-append-drop at new

written_parts : (new : List ℕ) (at : ℕ) (xs : List ℕ) → written new at xs ≡ (take at new ++ xs) ++ drop (at + length xs) new
unfolding written
written_parts new at xs = sym (append_assoc (take at new) xs (drop (at + length xs) new))

parts_length : (new : List ℕ) (at : ℕ) (xs : List ℕ) → at ≤ length new → length (take at new ++ xs) ≡ at + length xs
parts_length new at xs low = let a = length-append (take at new) xs in let b = length-take-le at new low in omega (arith, a, b)

pub written_rest : (new : List ℕ) (at : ℕ) (xs : List ℕ) → at ≤ length new → drop (at + length xs) (written new at xs) ≡ drop (at + length xs) new
written_rest new at xs low =
    ap₂ drop (sym (parts_length new at xs low)) (written_parts new at xs) ∙ drop-append_seam (take at new ++ xs) (drop (at + length xs) new)

-- a write right behind some first bytes leaves these, and goes over the beginning of the rest
pub written_seam : (pre bs new : List ℕ) → written (pre ++ bs) (length pre) new ≡ pre ++ (new ++ drop (length new) bs)
unfolding written
written_seam pre bs new = rw (take-append_seam pre bs, drop-append-add pre bs (length new)) refl

written_more : (new : List ℕ) (at : ℕ) (xs : List ℕ) (y : ℕ) → at ≤ length new → written (written new at xs) (at + length xs) (y ∷ []) ≡ written new at (xs ++ y ∷ [])
written_more new at xs y low =
    let pre = take at new ++ xs in
    let rest = drop (at + length xs) new in
    let more = length-append xs (y ∷ []) in
    let far : at + length xs + 1 ≡ at + length (xs ++ y ∷ []) = omega (arith, more) in
    ap₂ (λ bs n. written bs n (y ∷ [])) (written_parts new at xs) (sym (parts_length new at xs low))
    ∙ written_seam pre rest (y ∷ [])
    ∙ ap (λ bs. pre ++ (y ∷ bs)) (drop-drop 1 (at + length xs) new ∙ ap (λ n. drop n new) far)
    ∙ sym (append_assoc pre (y ∷ []) (drop (at + length (xs ++ y ∷ [])) new))
    ∙ ap (λ p. p ++ drop (at + length (xs ++ y ∷ [])) new) (append_assoc (take at new) xs (y ∷ []))
    ∙ sym (written_parts new at (xs ++ y ∷ []))

-- the first k bytes of a write are made
module _ (bytes new ws : List ℕ) (at k : ℕ) (inside : at + length ws ≤ length bytes) (low : k < length ws) (size : length new ≡ length bytes) (same : drop at new ≡ drop at bytes) where
  abbrev begun : ℕ → List ℕ
  begun n = written new at (take n ws)

  abbrev NextByte : Type 0
  NextByte = runs bytes (begun (k + 1)) ≡ cond (slice_index bytes (at + k) == slice_index ws k) (runs bytes (begun k)) (lengthened (at + k) (slice_index bytes (at + k)) (slice_index ws k) (runs bytes (begun k)))

  next_byte : NextByte
  next_byte =
      let short = length-take-le k ws (omega (arith, low)) in
      let y = slice_index ws k in
      let reach : at + length (take k ws) ≡ at + k = omega (arith, short) in
      let high : at ≤ length new = omega (arith, inside, size) in
      let rest : drop (at + k) (begun k) ≡ drop (at + k) bytes =
      subst (λ n. drop n (begun k) ≡ drop n new) reach (written_rest new at (take k ws) high)
      ∙ sym (drop-drop k at new) ∙ ap (drop k) same ∙ drop-drop k at bytes in
      let long = written_length new at (take k ws) (omega (arith, short, inside, size, low)) in
      let grows : begun (k + 1) ≡ written (begun k) (at + k) (y ∷ []) =
      ap (written new at) (take_more ws k 0 low) ∙ sym (written_more new at (take k ws) y high) ∙ ap (λ n. written (begun k) n (y ∷ [])) reach in
      let zero_on : 0 + (at + k) ≡ at + k = omega arith in
      ap (runs bytes) grows
      ∙ one_more 0 bytes (begun k) (at + k) y (omega (arith, inside, low)) (long ∙ size) rest
      ∙ ap (λ n. cond (slice_index bytes (at + k) == y) (runs bytes (begun k)) (lengthened n (slice_index bytes (at + k)) y (runs bytes (begun k)))) zero_on

  pub place_same : (rs : List Run) → slice_index bytes (at + k) ≡ slice_index ws k → rs ≡ runs bytes (begun k) → rs ≡ runs bytes (begun (k + 1))
  place_same rs e found =
      found ∙ sym (next_byte ∙ ap (λ b. cond b (runs bytes (begun k)) (lengthened (at + k) (slice_index bytes (at + k)) (slice_index ws k) (runs bytes (begun k)))) (eq-eqb _ _ e))

  pub place_differs : (rs more : List Run) → slice_index bytes (at + k) ≢ slice_index ws k → rs ≡ runs bytes (begun k) → more ≡ lengthened (at + k) (slice_index bytes (at + k)) (slice_index ws k) rs → more ≡ runs bytes (begun (k + 1))
  place_differs rs more e found grows =
      grows ∙ ap (lengthened (at + k) (slice_index bytes (at + k)) (slice_index ws k)) found
      ∙ sym (next_byte ∙ ap (λ b. cond b (runs bytes (begun k)) (lengthened (at + k) (slice_index bytes (at + k)) (slice_index ws k) (runs bytes (begun k)))) (ne_eqb _ _ e))

-- ---- a run grows behind others

pub ends_capped : (end place : ℕ) → place ≤ 16777216 → (min end (2 ^ 64 - 1) == place) ≡ (end == place)
ends_capped end place low = go (end == place) refl
  where
    go : (b : Bool) → (end == place) ≡ b → (min end (2 ^ 64 - 1) == place) ≡ b
    go true e = let same = eqb-true end place e in eq-eqb _ _ (omega (arith, same, low))
    go false e = ne_eqb _ _ (λ h. eqb-false end place e (omega (arith, h, low)))

pub lengthened_last : (at x y : ℕ) (rs : List Run) (r : Run) → r.at + length r.before ≡ at
    → lengthened at x y (rs ++ r ∷ []) ≡ rs ++ record { at = r.at; before = r.before ++ x ∷ []; after = r.after ++ y ∷ [] } ∷ []
lengthened_last at x y [] r e = ap (λ b. cond b (record { at = r.at; before = r.before ++ x ∷ []; after = r.after ++ y ∷ [] } ∷ []) (r ∷ record { at = at; before = x ∷ []; after = y ∷ [] } ∷ [])) (eq-eqb _ _ e)
lengthened_last at x y (s ∷ []) r e = ap (λ rs. s ∷ rs) (lengthened_last at x y [] r e)
lengthened_last at x y (s ∷ t ∷ rs) r e = ap (λ rs. s ∷ rs) (lengthened_last at x y (t ∷ rs) r e)

pub lengthened_apart : (at x y : ℕ) (rs : List Run) (r : Run) → r.at + length r.before ≢ at
    → lengthened at x y (rs ++ r ∷ []) ≡ rs ++ r ∷ record { at = at; before = x ∷ []; after = y ∷ [] } ∷ []
lengthened_apart at x y [] r e = ap (λ b. cond b (record { at = r.at; before = r.before ++ x ∷ []; after = r.after ++ y ∷ [] } ∷ []) (r ∷ record { at = at; before = x ∷ []; after = y ∷ [] } ∷ [])) (ne_eqb _ _ e)
lengthened_apart at x y (s ∷ []) r e = ap (λ rs. s ∷ rs) (lengthened_apart at x y [] r e)
lengthened_apart at x y (s ∷ t ∷ rs) r e = ap (λ rs. s ∷ rs) (lengthened_apart at x y (t ∷ rs) r e)

-- an item set to what it is leaves the list as it was
pub set_again : {X : Type 0} (xs : List X) (i : ℕ) (x : X) → x ≡ get_or xs i x → set xs i x ≡ xs
set_again [] i x e = refl
set_again (y ∷ xs) zero x e = ap (λ z. z ∷ xs) e
set_again (y ∷ xs) (suc i) x e = ap (λ zs. y ∷ zs) (set_again xs i x e)

-- the runs of patches whose last one grew, or behind which one came
pub grown_last : (at x y : ℕ) (items : List Patch) (p q : Patch) → p ≡ get_or items (length items - 1) p → 1 ≤ length items → (p.at + length p.before.items == at) ≡ true
    → run_of q ≡ record { at = p.at; before = p.before.items ++ x ∷ []; after = p.after.items ++ y ∷ [] }
    → map run_of (set items (length items - 1) q) ≡ lengthened at x y (map run_of items)
grown_last at x y items p q e some ends is =
    let n = length items - 1 in
    let one : n + 1 ≡ length items = omega (arith, some) in
    let low : n < length items = omega (arith, some) in
    let whole : take n items ++ p ∷ [] ≡ items = ap (λ r. take n items ++ r ∷ []) e ∙ sym (take_more items n p low) ∙ ap (λ m. take m items) one ∙ take-length items in
    let put : set items n q ≡ take n items ++ q ∷ [] =
    sym (ap (λ m. take m (set items n q)) (one ∙ sym (length-set items n q)) ∙ take-length (set items n q)) ∙ take_more_set items n q low in
    ap (map run_of) put ∙ map-append run_of (take n items) (q ∷ []) ∙ ap (λ r. map run_of (take n items) ++ r ∷ []) is
    ∙ sym (lengthened_last at x y (map run_of (take n items)) (run_of p) (eqb-true _ _ ends))
    ∙ ap (lengthened at x y) (sym (map-append run_of (take n items) (p ∷ [])) ∙ ap (map run_of) whole)

-- where the last patch doesn't end at the place, the runs grow by a patch of that place alone
pub added_last : (at x y : ℕ) (items : List Patch) (p q : Patch) → p ≡ get_or items (length items - 1) p → 1 ≤ length items → (p.at + length p.before.items == at) ≡ false
    → run_of q ≡ record { at = at; before = x ∷ []; after = y ∷ [] } → map run_of (items ++ q ∷ []) ≡ lengthened at x y (map run_of items)
added_last at x y items p q e some ends is =
    let n = length items - 1 in
    let one : n + 1 ≡ length items = omega (arith, some) in
    let low : n < length items = omega (arith, some) in
    let whole : take n items ++ p ∷ [] ≡ items = ap (λ r. take n items ++ r ∷ []) e ∙ sym (take_more items n p low) ∙ ap (λ m. take m items) one ∙ take-length items in
    let runs_so : map run_of (take n items) ++ run_of p ∷ [] ≡ map run_of items = sym (map-append run_of (take n items) (p ∷ [])) ∙ ap (map run_of) whole in
    map-append run_of items (q ∷ []) ∙ ap₂ (λ rs r. rs ++ r ∷ []) (sym runs_so) is
    ∙ append_assoc (map run_of (take n items)) (run_of p ∷ []) (record { at = at; before = x ∷ []; after = y ∷ [] } ∷ [])
    ∙ sym (lengthened_apart at x y (map run_of (take n items)) (run_of p) (eqb-false _ _ ends)) ∙ ap (lengthened at x y) runs_so

-- where there is no patch yet, one of that place alone is what the runs grow to
pub added_first : (at x y : ℕ) (items : List Patch) (q : Patch) → length items ≡ 0 → run_of q ≡ record { at = at; before = x ∷ []; after = y ∷ [] }
    → map run_of (items ++ q ∷ []) ≡ lengthened at x y (map run_of items)
added_first at x y [] q none is = ap (λ r. r ∷ []) is
added_first at x y (p ∷ items) q none is = let no : ⊥ = omega (arith, none) in absurd no

-- ---- write by write

-- the runs behind bytes written at a place, in each version that has the old bytes from there on
abbrev pub AddsBytes : List ℕ → ℕ → List Run → List Run → List ℕ → Type 0
AddsBytes bytes at rs more xs = (new : List ℕ) → length new ≡ length bytes → drop at new ≡ drop at bytes → rs ≡ runs bytes new → more ≡ runs bytes (written new at xs)

-- the runs so far are those of the bytes so far, and what is left is behind all that were written
pub record Touched (bytes wanted : List ℕ) (left : List Write) (rs : List Run) : Type 0 where
  pub so_far : List ℕ
  pub low : ℕ
  pub size : length so_far ≡ length bytes
  pub behind : drop low so_far ≡ drop low bytes
  pub found : rs ≡ runs bytes so_far
  pub rising : AreRising low left
  pub inside : AreInside (length bytes) left
  pub whole : put_writes left so_far ≡ wanted

-- before any write there are no runs, and all writes are left
pub touched_none : (bytes : List ℕ) (ws : List Write) → AreInside (length bytes) ws → AreRising 0 ws → Touched bytes (put_writes ws bytes) ws []
touched_none bytes ws inside rising = record { so_far = bytes; low = 0; size = refl; behind = refl; found = sym (no_runs 0 bytes); rising = rising; inside = inside; whole = refl }

-- with the runs of the next write added, only the writes behind it are left
pub touched_more : (bytes wanted : List ℕ) (w : Write) (left : List Write) (rs more : List Run) → Touched bytes wanted (w ∷ left) rs
    → AddsBytes bytes w.at rs more w.bytes.items → Touched bytes wanted left more
touched_more bytes wanted w left rs more h f =
    let up = h.rising.0 in
    let n = w.at - h.low in
    let at : h.low + n ≡ w.at = omega (arith, up) in
    let same : drop w.at h.so_far ≡ drop w.at bytes =
    subst (λ i. drop i h.so_far ≡ drop i bytes) at (sym (drop-drop n h.low h.so_far) ∙ ap (drop n) h.behind ∙ drop-drop n h.low bytes) in
    let size = h.size in
    let fits = h.inside.0 in
    let long : w.at + length w.bytes.items ≤ length h.so_far = omega (arith, size, fits) in
    let m = length w.bytes.items in
    record {
      so_far = written h.so_far w.at w.bytes.items;
      low = w.at + length w.bytes.items;
      size = written_length h.so_far w.at w.bytes.items long ∙ h.size;
      behind = written_rest h.so_far w.at w.bytes.items (omega (arith, long)) ∙ sym (drop-drop m w.at h.so_far) ∙ ap (drop m) same ∙ drop-drop m w.at bytes;
      found = f h.so_far h.size same h.found;
      rising = h.rising.1;
      inside = h.inside.1;
      whole = h.whole;
    }

-- the writes from a number on are the one of that number, and those behind it
pub next_write : (items : List Write) (i : ℕ) (w : Write) → i < length items → w ≡ get_or items i w → drop i items ≡ w ∷ drop (i + 1) items
next_write items i w low e = drop_more items i w low ∙ ap (λ q. q ∷ drop (i + 1) items) (sym e)

pub touched_all : (bytes wanted : List ℕ) (rs : List Run) → Touched bytes wanted [] rs → rs ≡ runs bytes wanted
touched_all bytes wanted rs h = h.found ∙ ap (runs bytes) h.whole
