-- Old bytes put back into the pieces of a buffer, and runs laid over its parts.
use Rattle.std.proofs.Common.{◌≡◌, ◌≢◌, ◌⊎◌, inl, inr, ℕ, suc, ◌+◌, ◌-◌, ◌≤◌, ◌<◌, min, List, [], ◌∷◌, ◌++◌, length, take, drop, map, get_or, slice_set, cond, Bool, true, false, nat_le, nat_eq, refl, sym, ap, ◌∙◌, arith, append_assoc, length-append, append-nil}
use Rattle.std.proofs.lemmas.Bool.{le-leb, leb-true, leb-false, lt-leb, eq-eqb, ne_eqb}
use Rattle.std.proofs.lemmas.Bool.Decides.{eqb_tells}
use Rattle.std.proofs.lemmas.List.{take_min, drop_min, length-take-le, length-take, length-drop, length-set, take_all, drop_all}
use Rattle.std.proofs.Math.Seq.{take-append_seam, drop-append_seam, take-nil, drop-nil}
use Rattle.store_data.specs.Pieces.{Part}
use Rattle.store_data.specs.Store.{Run}
use Rattle.store_model.specs.Runs.{bytes_laid, all_laid, old_runs}
use Rattle.store_parts.specs.Shows.{body_of}
use Rattle.undo_model.specs.Data.{Body, inserted, rebuilt, versioned, patched, removed}
use Rattle.undo_model.specs.Old.{put_byte, put_from, put_run, put_runs, put_old}
use Rattle.read_model.specs.Buffer.{data_at, cut}
use Rattle.read_views.specs.Flights.{put_cut}

abbrev run_at : ℕ → ℕ → List ℕ → Run
run_at page at bytes = record { page = page; at = at; bytes = bytes }

-- ---- as many bytes

put_byte_long : (base at b : ℕ) (buf : List ℕ) → length (put_byte base at b buf) ≡ length buf
put_byte_long base at b buf = by (nat_le base at)
  where
    by : (t : Bool) → length (cond t (slice_set buf (at - base) b) buf) ≡ length buf
    by true = length-set buf (at - base) b
    by false = refl

put_from_long : (base at : ℕ) (bytes buf : List ℕ)
    → length (put_from base at bytes buf) ≡ length buf
put_from_long base at [] buf = refl
put_from_long base at (b ∷ more) buf =
    put_from_long base (at + 1) more (put_byte base at b buf) ∙ put_byte_long base at b buf

put_run_long : (page base : ℕ) (r : Run) (buf : List ℕ)
    → length (put_run page base r buf) ≡ length buf
put_run_long page base r buf = by (nat_eq r.page page)
  where
    by : (t : Bool) → length (cond t (put_from base r.at r.bytes buf) buf) ≡ length buf
    by true = put_from_long base r.at r.bytes buf
    by false = refl

put_runs_long : (page base : ℕ) (rs : List Run) (buf : List ℕ)
    → length (put_runs page base rs buf) ≡ length buf
put_runs_long page base [] buf = refl
put_runs_long page base (r ∷ rs) buf =
    put_runs_long page base rs (put_run page base r buf) ∙ put_run_long page base r buf

pub put_old_long : (page base : ℕ) (body : Body) (buf : List ℕ)
    → length (put_old page base body buf) ≡ length buf
put_old_long page base (inserted n) buf = refl
put_old_long page base (rebuilt n) buf = refl
put_old_long page base (versioned pieces bits) buf = refl
put_old_long page base (patched runs) buf = put_runs_long page base runs buf
put_old_long page base removed buf = refl

-- ---- the first n of two lists, where the first of them has n, or has fewer and the other none

abbrev pub Ends : ℕ → List ℕ → List ℕ → Type 0
Ends n xs ys = (length xs ≡ n) ⊎ ((length xs ≤ n) × (ys ≡ []))

pub take_ends : (n : ℕ) (xs ys : List ℕ) → Ends n xs ys → take n (xs ++ ys) ≡ xs
take_ends n xs ys (inl same) = ap (λ k. take k (xs ++ ys)) (sym same) ∙ take-append_seam xs ys
take_ends n xs ys (inr short) =
    ap (λ (l : List ℕ). take n (xs ++ l)) short.1 ∙ ap (take n) (append-nil xs)
    ∙ take_all n xs short.0

pub drop_ends : (n : ℕ) (xs ys : List ℕ) → Ends n xs ys → drop n (xs ++ ys) ≡ ys
drop_ends n xs ys (inl same) = ap (λ k. drop k (xs ++ ys)) (sym same) ∙ drop-append_seam xs ys
drop_ends n xs ys (inr short) =
    ap (λ (l : List ℕ). drop n (xs ++ l)) short.1 ∙ ap (drop n) (append-nil xs)
    ∙ drop_all n xs short.0 ∙ sym short.1

none_long : (l : List ℕ) → length l ≡ 0 → l ≡ []
none_long [] none = refl
none_long (x ∷ l) none = absurd (omega (arith, none))

put_nothing : (body : Body) (lob size : ℕ) (pages : List ℕ) → put_cut body lob size pages [] ≡ []
put_nothing body lob size [] = refl
put_nothing body lob size (page ∷ pages) =
    let empty : put_old page (data_at lob page) body (take size []) ≡ [] =
    none_long (put_old page (data_at lob page) body (take size []))
    (put_old_long page (data_at lob page) body (take size []) ∙ ap length (take-nil size)) in
    ap (λ (l : List ℕ). l ++ put_cut body lob 16_327 pages (drop size [])) empty
    ∙ ap (put_cut body lob 16_327 pages) (drop-nil size)
    ∙ put_nothing body lob 16_327 pages

put_ends : (body : Body) (lob size page : ℕ) (pages buffer : List ℕ)
    → Ends size (put_old page (data_at lob page) body (take size buffer))
    (put_cut body lob 16_327 pages (drop size buffer))
put_ends body lob size page pages buffer = by (nat_le size (length buffer)) refl
  where
    long : length (put_old page (data_at lob page) body (take size buffer))
        ≡ length (take size buffer)
    long = put_old_long page (data_at lob page) body (take size buffer)

    by : (t : Bool) → nat_le size (length buffer) ≡ t
        → Ends size (put_old page (data_at lob page) body (take size buffer))
        (put_cut body lob 16_327 pages (drop size buffer))
    by true e = inl (long ∙ length-take-le size buffer (leb-true size (length buffer) e))
    by false e =
        let less : length buffer < size = leb-false size (length buffer) e in
        let short : length buffer ≤ size = omega (arith, less) in
        inr (
          omega (arith, long, length-take size buffer, short),
          ap (put_cut body lob 16_327 pages) (drop_all size buffer short)
              ∙ put_nothing body lob 16_327 pages,
        )

-- ---- the next piece

spliced : (start count : ℕ) (buffer part rest new : List ℕ) → start ≤ length buffer
    → length part ≡ count → new ≡ take start buffer ++ (part ++ rest)
    → (start + count ≤ length new) × (take (start + count) new ≡ take start buffer ++ part)
    × (drop (start + count) new ≡ rest)
spliced start count buffer part rest new within long is =
    let front : length (take start buffer) ≡ start = length-take-le start buffer within in
    let whole : new ≡ (take start buffer ++ part) ++ rest =
    is ∙ sym (append_assoc (take start buffer) part rest) in
    let both : length (take start buffer ++ part) ≡ start + count =
    length-append (take start buffer) part ∙ omega (arith, front, long) in (
      omega (arith, ap length whole, length-append (take start buffer ++ part) rest, both),
      ap (take (start + count)) whole
          ∙ take_ends (start + count) (take start buffer ++ part) rest (inl both),
      ap (drop (start + count)) whole
          ∙ drop_ends (start + count) (take start buffer ++ part) rest (inl both),
    )

pub next_put : (body : Body) (lob size start count page : ℕ) (more buffer new whole : List ℕ)
    → start ≤ length buffer → count ≡ min size (length buffer - start)
    → new ≡ take start buffer ++ (put_old page (data_at lob page) body
    (take count (drop start buffer)) ++ drop count (drop start buffer))
    → whole ≡ take start buffer ++ put_cut body lob size (page ∷ more) (drop start buffer)
    → (start + count ≤ length new)
    × (whole ≡ take (start + count) new ++ put_cut body lob 16_327 more (drop (start + count) new))
next_put body lob size start count page more buffer new whole within counted put is =
    let put_in : List ℕ → List ℕ = put_old page (data_at lob page) body in
    let left : length (drop start buffer) ≡ length buffer - start = length-drop start buffer in
    let count_is : count ≡ min size (length (drop start buffer)) =
    counted ∙ ap (min size) (sym left) in
    let taken : take count (drop start buffer) ≡ take size (drop start buffer) =
    ap (λ n. take n (drop start buffer)) count_is ∙ take_min size (drop start buffer) in
    let dropped : drop count (drop start buffer) ≡ drop size (drop start buffer) =
    ap (λ n. drop n (drop start buffer)) count_is ∙ drop_min size (drop start buffer) in
    let long : length (put_in (take count (drop start buffer))) ≡ count =
    put_old_long page (data_at lob page) body (take count (drop start buffer))
    ∙ omega (arith, length-take count (drop start buffer), count_is) in
    let parts = spliced start count buffer (put_in (take count (drop start buffer)))
    (drop count (drop start buffer)) new within long put in (
      parts.0,
      is ∙ sym (append_assoc (take start buffer) (put_in (take size (drop start buffer)))
          (put_cut body lob 16_327 more (drop size (drop start buffer))))
          ∙ ap (λ (l : List ℕ). (take start buffer ++ put_in l)
          ++ put_cut body lob 16_327 more (drop size (drop start buffer))) (sym taken)
          ∙ ap (λ (l : List ℕ). l ++ put_cut body lob 16_327 more (drop size (drop start buffer)))
          (sym parts.1)
          ∙ ap (λ (l : List ℕ). take (start + count) new ++ put_cut body lob 16_327 more l)
          (sym (parts.2 ∙ dropped)),
    )

-- ---- the parts

bytes_of_none : (page at place : ℕ) (buf : List ℕ) → bytes_laid (run_at page at []) place buf ≡ buf
bytes_of_none page at place [] = refl
bytes_of_none page at place (x ∷ buf) =
    by (nat_le at place) (bytes_of_none page at (suc place) buf)
  where
    by : (t : Bool) → bytes_laid (run_at page at []) (suc place) buf ≡ buf
        → (let b : ℕ = cond t (get_or (let none : List ℕ = [] in none) (place - at) x) x in b)
        ∷ bytes_laid (run_at page at []) (suc place) buf ≡ x ∷ buf
    by true rest = ap (λ (l : List ℕ). x ∷ l) rest
    by false rest = ap (λ (l : List ℕ). x ∷ l) rest

cases_lt : (a b : ℕ) → (a < b) ⊎ ((a ≡ b) ⊎ (b < a))
cases_lt a b = by (nat_le b a) refl (eqb_tells a b)
  where
    by : (t : Bool) → nat_le b a ≡ t → ((nat_eq a b ≡ true) × (a ≡ b)) ⊎ ((nat_eq a b ≡ false) × (a ≢ b))
        → (a < b) ⊎ ((a ≡ b) ⊎ (b < a))
    by false e same = inl (leb-false b a e)
    by true e (inl same) = inr (inl same.1)
    by true e (inr other) = inr (inr (omega (arith, leb-true b a e, other.1)))

-- behind its first byte a run is the rest of it
past_first : (page at place b : ℕ) (more buf : List ℕ) → at < place
    → bytes_laid (run_at page (at + 1) more) place buf
    ≡ bytes_laid (run_at page at (b ∷ more)) place buf
past_first page at place b more [] past = refl
past_first page at place b more (x ∷ buf) past =
    let from : nat_le (at + 1) place ≡ true = le-leb (at + 1) place (omega (arith, past)) in
    let whole : nat_le at place ≡ true = le-leb at place (omega (arith, past)) in
    let next : place - at ≡ suc (place - (at + 1)) = omega (arith, past) in
    ap (λ (t : Bool). cond t (get_or more (place - (at + 1)) x) x
    ∷ bytes_laid (run_at page (at + 1) more) (suc place) buf) from
    ∙ ap (λ (l : List ℕ). get_or more (place - (at + 1)) x ∷ l)
    (past_first page at (suc place) b more buf (omega (arith, past)))
    ∙ ap (λ n. get_or (b ∷ more) n x ∷ bytes_laid (run_at page at (b ∷ more)) (suc place) buf)
    (sym next)
    ∙ ap (λ (t : Bool). cond t (get_or (b ∷ more) (place - at) x) x
    ∷ bytes_laid (run_at page at (b ∷ more)) (suc place) buf) (sym whole)

nothing_set : (base at b : ℕ) → put_byte base at b [] ≡ []
nothing_set base at b = by (nat_le base at)
  where
    by : (t : Bool) → cond t (slice_set [] (at - base) b) [] ≡ []
    by true = refl
    by false = refl

set_here : (base b x : ℕ) (buf : List ℕ) → put_byte base base b (x ∷ buf) ≡ b ∷ buf
set_here base b x buf =
    let there : nat_le base base ≡ true = le-leb base base (omega arith) in
    let first : base - base ≡ 0 = omega arith in
    ap (λ (t : Bool). cond t (slice_set (x ∷ buf) (base - base) b) (x ∷ buf)) there
    ∙ ap (λ n. slice_set (x ∷ buf) n b) first

set_later : (base at b x : ℕ) (buf : List ℕ) → base < at
    → put_byte base at b (x ∷ buf) ≡ x ∷ put_byte (suc base) at b buf
set_later base at b x buf less =
    let here : nat_le base at ≡ true = le-leb base at (omega (arith, less)) in
    let behind : nat_le (suc base) at ≡ true = le-leb (suc base) at (omega (arith, less)) in
    let next : at - base ≡ suc (at - suc base) = omega (arith, less) in
    ap (λ (t : Bool). cond t (slice_set (x ∷ buf) (at - base) b) (x ∷ buf)) here
    ∙ ap (λ n. slice_set (x ∷ buf) n b) next
    ∙ ap (λ (t : Bool). x ∷ cond t (slice_set buf (at - suc base) b) buf) (sym behind)

set_before : (base at b : ℕ) (buf : List ℕ) → at < base → put_byte base at b buf ≡ buf
set_before base at b buf less =
    ap (λ (t : Bool). cond t (slice_set buf (at - base) b) buf) (lt-leb base at less)

-- one byte, and the others behind it
byte_then : (page at base b : ℕ) (more buf : List ℕ)
    → bytes_laid (run_at page (at + 1) more) base (put_byte base at b buf)
    ≡ bytes_laid (run_at page at (b ∷ more)) base buf
byte_then page at base b more [] =
    ap (bytes_laid (run_at page (at + 1) more) base) (nothing_set base at b)
byte_then page at base b more (x ∷ buf) =
    by (cases_lt base at) (byte_then page at (suc base) b more buf)
  where
    by : (base < at) ⊎ ((base ≡ at) ⊎ (at < base))
        → bytes_laid (run_at page (at + 1) more) (suc base) (put_byte (suc base) at b buf)
        ≡ bytes_laid (run_at page at (b ∷ more)) (suc base) buf
        → bytes_laid (run_at page (at + 1) more) base (put_byte base at b (x ∷ buf))
        ≡ bytes_laid (run_at page at (b ∷ more)) base (x ∷ buf)
    by (inl less) rest =
        let from : nat_le (at + 1) base ≡ false = lt-leb (at + 1) base (omega (arith, less)) in
        let whole : nat_le at base ≡ false = lt-leb at base less in
        ap (bytes_laid (run_at page (at + 1) more) base) (set_later base at b x buf less)
        ∙ ap (λ (t : Bool). cond t (get_or more (base - (at + 1)) x) x
        ∷ bytes_laid (run_at page (at + 1) more) (suc base) (put_byte (suc base) at b buf)) from
        ∙ ap (λ (l : List ℕ). x ∷ l) rest
        ∙ ap (λ (t : Bool). cond t (get_or (b ∷ more) (base - at) x) x
        ∷ bytes_laid (run_at page at (b ∷ more)) (suc base) buf) (sym whole)
    by (inr (inl same)) rest =
        let from : nat_le (at + 1) base ≡ false = lt-leb (at + 1) base (omega (arith, same)) in
        let whole : nat_le at base ≡ true = le-leb at base (omega (arith, same)) in
        let first : base - at ≡ 0 = omega (arith, same) in
        let put : put_byte base at b (x ∷ buf) ≡ b ∷ buf =
        ap (λ n. put_byte base n b (x ∷ buf)) (sym same) ∙ set_here base b x buf in
        ap (bytes_laid (run_at page (at + 1) more) base) put
        ∙ ap (λ (t : Bool). cond t (get_or more (base - (at + 1)) b) b
        ∷ bytes_laid (run_at page (at + 1) more) (suc base) buf) from
        ∙ ap (λ (l : List ℕ). b ∷ l)
        (past_first page at (suc base) b more buf (omega (arith, same)))
        ∙ ap (λ n. get_or (b ∷ more) n x ∷ bytes_laid (run_at page at (b ∷ more)) (suc base) buf)
        (sym first)
        ∙ ap (λ (t : Bool). cond t (get_or (b ∷ more) (base - at) x) x
        ∷ bytes_laid (run_at page at (b ∷ more)) (suc base) buf) (sym whole)
    by (inr (inr more_than)) rest =
        ap (bytes_laid (run_at page (at + 1) more) base) (set_before base at b (x ∷ buf) more_than)
        ∙ past_first page at base b more (x ∷ buf) more_than

put_is_laid : (page at base : ℕ) (bytes buf : List ℕ)
    → put_from base at bytes buf ≡ bytes_laid (run_at page at bytes) base buf
put_is_laid page at base [] buf = sym (bytes_of_none page at base buf)
put_is_laid page at base (b ∷ more) buf =
    put_is_laid page (at + 1) base more (put_byte base at b buf)
    ∙ byte_then page at base b more buf

abbrev part_put : ℕ → ℕ → List Run → List ℕ → Part
part_put page base rs buf = record { page = page; at = base; bytes = put_runs page base rs buf }

runs_are_laid : (page base : ℕ) (rs : List Run) (buf : List ℕ)
    → all_laid rs (record { page = page; at = base; bytes = buf }) ≡ part_put page base rs buf
runs_are_laid page base [] buf = refl
runs_are_laid page base (r ∷ rs) buf =
    ap (λ (l : List ℕ). all_laid rs (record { page = page; at = base; bytes = l })) one
    ∙ runs_are_laid page base rs (put_run page base r buf)
  where
    one : cond (nat_eq page r.page) (bytes_laid r base buf) buf ≡ put_run page base r buf
    one = by (eqb_tells page r.page)
      where
        by : ((nat_eq page r.page ≡ true) × (page ≡ r.page))
            ⊎ ((nat_eq page r.page ≡ false) × (page ≢ r.page))
            → cond (nat_eq page r.page) (bytes_laid r base buf) buf ≡ put_run page base r buf
        by (inl same) = rw same.0 (rw (eq-eqb r.page page (sym same.1))
            (sym (put_is_laid r.page r.at base r.bytes buf)))
        by (inr other) = rw other.0 (rw (ne_eqb r.page page (λ e. other.1 (sym e))) refl)

old_is_laid : (page base : ℕ) (body : Body) (buf : List ℕ)
    → all_laid (old_runs (body_of body)) (record { page = page; at = base; bytes = buf })
    ≡ record { page = page; at = base; bytes = put_old page base body buf }
old_is_laid page base (inserted n) buf = refl
old_is_laid page base (rebuilt n) buf = refl
old_is_laid page base (versioned pieces bits) buf = refl
old_is_laid page base (patched runs) buf = runs_are_laid page base runs buf
old_is_laid page base removed buf = refl

pub pieces_are_laid : (body : Body) (lob size : ℕ) (pages buffer : List ℕ)
    → cut lob size pages (put_cut body lob size pages buffer)
    ≡ map (all_laid (old_runs (body_of body))) (cut lob size pages buffer)
pieces_are_laid body lob size [] buffer = refl
pieces_are_laid body lob size (page ∷ pages) buffer =
    let P : List ℕ = put_old page (data_at lob page) body (take size buffer) in
    let Q : List ℕ = put_cut body lob 16_327 pages (drop size buffer) in
    let ends = put_ends body lob size page pages buffer in
    ap (λ (l : List ℕ). record { page = page; at = data_at lob page; bytes = l }
    ∷ cut lob 16_327 pages (drop size (P ++ Q))) (take_ends size P Q ends)
    ∙ ap (λ (l : List ℕ). record { page = page; at = data_at lob page; bytes = P }
    ∷ cut lob 16_327 pages l) (drop_ends size P Q ends)
    ∙ ap (λ (l : List Part). record { page = page; at = data_at lob page; bytes = P } ∷ l)
    (pieces_are_laid body lob 16_327 pages (drop size buffer))
    ∙ ap (λ (x : Part). x ∷ map (all_laid (old_runs (body_of body)))
    (cut lob 16_327 pages (drop size buffer)))
    (sym (old_is_laid page (data_at lob page) body (take size buffer)))
