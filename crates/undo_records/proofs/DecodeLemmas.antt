-- What the steps of reading come to.
use Rattle.std.proofs.Common.{◌≡◌, ℕ, zero, suc, ◌+◌, ◌-◌, ◌≤◌, ◌<◌, ◌==◌, ◌&&◌, Bool, true, false, cond, List, [], ◌∷◌, ◌++◌, length, take, drop, slice_index, Option, Some, None, refl, sym, ap, ap₂, ◌∙◌, arith, nat_le}
use Rattle.std.specs.Option.{option_map, option_and_then}
use Rattle.std.proofs.lemmas.Bool.{le-leb, eq-eqb, lt-leb}
use Rattle.std.proofs.lemmas.List.{append_assoc, append-nil, length-append, length-drop, length-take-le}
use Rattle.undo_model.specs.Old.{old_size}
use Rattle.undo_model.proofs.OldLemmas.{old_size_append}
use Rattle.byteorder.specs.Endian.{big_number}
use Rattle.page_model.specs.Pages.{Address}
use Rattle.store_data.specs.Store.{RowState, Run}
use Rattle.undo_model.specs.Data.{Reference, Row, Body}
use Rattle.undo_model.specs.Reading.{state_of, reference_in, row_with, row_in, is_pointer, is_reference, is_run, runs_in, body_in, Standing, record_in, is_previous, with_body}

pub row_is : (count : ℕ) (bytes : List ℕ) (s : RowState) (t p : ℕ) (l : Reference) → state_of (slice_index bytes 0) ≡ Some s → t ≡ big_number 6 (drop 1 bytes) → p ≡ big_number 7 (drop 7 bytes) → l ≡ reference_in (drop 14 bytes)
    → row_in count bytes ≡ cond (is_pointer count p && is_reference count l) (Some (record { state = s; trx = t; roll = p; lob = l })) None
row_is count bytes s t p l es et ep el =
    ap (option_and_then (row_with count (big_number 6 (drop 1 bytes)) (big_number 7 (drop 7 bytes)) (reference_in (drop 14 bytes)))) es
    ∙ ap₂ (λ (a b : ℕ). row_with count a b (reference_in (drop 14 bytes)) s) (sym et) (sym ep)
    ∙ ap (λ (m : Reference). row_with count t p m s) (sym el)

-- fields that were read are the row's, where its pointer and its reference may be
pub row_some : (count : ℕ) (bytes : List ℕ) (s : RowState) (t p : ℕ) (l : Reference) → state_of (slice_index bytes 0) ≡ Some s → t ≡ big_number 6 (drop 1 bytes) → p ≡ big_number 7 (drop 7 bytes) → l ≡ reference_in (drop 14 bytes)
    → is_pointer count p ≡ true → is_reference count l ≡ true → Some (record { state = s; trx = t; roll = p; lob = l }) ≡ row_in count bytes
row_some count bytes s t p l es et ep el a b =
    sym (row_is count bytes s t p l es et ep el ∙ ap₂ (λ (x y : Bool). cond (x && y) (Some (let r : Row = record { state = s; trx = t; roll = p; lob = l } in r)) None) a b)

pub row_no_pointer : (count : ℕ) (bytes : List ℕ) (s : RowState) (t p : ℕ) (l : Reference) → state_of (slice_index bytes 0) ≡ Some s → t ≡ big_number 6 (drop 1 bytes) → p ≡ big_number 7 (drop 7 bytes) → l ≡ reference_in (drop 14 bytes)
    → is_pointer count p ≡ false → None ≡ row_in count bytes
row_no_pointer count bytes s t p l es et ep el a =
    sym (row_is count bytes s t p l es et ep el ∙ ap (λ (x : Bool). cond (x && is_reference count l) (Some (let r : Row = record { state = s; trx = t; roll = p; lob = l } in r)) None) a)

-- where the reference is none that may be, no row is read
pub row_no_reference : (count : ℕ) (bytes : List ℕ) (s : RowState) (t p : ℕ) (l : Reference) → state_of (slice_index bytes 0) ≡ Some s → t ≡ big_number 6 (drop 1 bytes) → p ≡ big_number 7 (drop 7 bytes) → l ≡ reference_in (drop 14 bytes)
    → is_pointer count p ≡ true → is_reference count l ≡ false → None ≡ row_in count bytes
row_no_reference count bytes s t p l es et ep el a b =
    sym (row_is count bytes s t p l es et ep el ∙ ap₂ (λ (x y : Bool). cond (x && y) (Some (let r : Row = record { state = s; trx = t; roll = p; lob = l } in r)) None) a b)

-- ---- runs

known_false : (a b : Bool) → a ≡ false → (a && b) ≡ false
known_false a b e = ap (λ (x : Bool). x && b) e

known_false_second : (a b : Bool) → b ≡ false → (a && b) ≡ false
known_false_second true b e = e
known_false_second false b e = refl

the_run : ℕ → ℕ → List ℕ → Run
the_run page at old = record { page = page; at = at; bytes = old }

-- reading one more run, by the tests that it makes
run_in : (count k left : ℕ) (bytes : List ℕ) (b : Bool)
    → (nat_le (7 + slice_index bytes 6) (length bytes) && (nat_le (slice_index bytes 6) left && is_run count (big_number 4 bytes) (big_number 2 (drop 4 bytes)) (slice_index bytes 6))) ≡ b
    → runs_in count (suc k) left bytes
    ≡ cond b (option_map (λ (more : List Run). (let r : Run = record { page = big_number 4 bytes; at = big_number 2 (drop 4 bytes); bytes = take (slice_index bytes 6) (drop 7 bytes) } in r) ∷ more) (runs_in count k (left - slice_index bytes 6) (drop (7 + slice_index bytes 6) bytes))) None
run_in count k left bytes b e = ap (λ (x : Bool). cond x (option_map (λ (more : List Run). (let r : Run = record { page = big_number 4 bytes; at = big_number 2 (drop 4 bytes); bytes = take (slice_index bytes 6) (drop 7 bytes) } in r) ∷ more) (runs_in count k (left - slice_index bytes 6) (drop (7 + slice_index bytes 6) bytes))) None) e

pub no_run : (count m k left : ℕ) (bytes : List ℕ) → m ≡ suc k
    → (nat_le (7 + slice_index bytes 6) (length bytes) && (nat_le (slice_index bytes 6) left && is_run count (big_number 4 bytes) (big_number 2 (drop 4 bytes)) (slice_index bytes 6))) ≡ false
    → runs_in count m left bytes ≡ None
no_run count m k left bytes is not = ap (λ (i : ℕ). runs_in count i left bytes) is ∙ run_in count k left bytes false not

-- no run: what was read comes to nothing
ended : (runs : List Run) (o w : Option (List Run)) → option_map (λ (more : List Run). runs ++ more) o ≡ w → o ≡ None → None ≡ w
ended runs o w inv none = ap (option_map (λ (more : List Run). runs ++ more)) (sym none) ∙ inv

-- where the bytes end before the next run does, no runs are read
pub ends_short : (count m left : ℕ) (bytes : List ℕ) (runs : List Run) (w : Option (List Run)) → 0 < m → option_map (λ (more : List Run). runs ++ more) (runs_in count m left bytes) ≡ w
    → length bytes < 7 + slice_index bytes 6 → None ≡ w
ends_short count zero left bytes runs w more inv short = absurd (let f : 0 < 0 = more in omega arith)
ends_short count (suc k) left bytes runs w more inv short =
    ended runs (runs_in count (suc k) left bytes) w inv (no_run count (suc k) k left bytes refl (known_false _ _ (lt-leb (7 + slice_index bytes 6) (length bytes) short)))

-- where the next run has more old bytes than are left to runs, no runs are read
pub ends_full : (count m left : ℕ) (bytes : List ℕ) (runs : List Run) (w : Option (List Run)) → 0 < m → option_map (λ (more : List Run). runs ++ more) (runs_in count m left bytes) ≡ w
    → left < slice_index bytes 6 → None ≡ w
ends_full count zero left bytes runs w more inv full = absurd (let f : 0 < 0 = more in omega arith)
ends_full count (suc k) left bytes runs w more inv full =
    ended runs (runs_in count (suc k) left bytes) w inv (no_run count (suc k) k left bytes refl (known_false_second _ _ (known_false _ _ (lt-leb (slice_index bytes 6) left full))))

pub ends_wrong : (count m left page at : ℕ) (bytes : List ℕ) (runs : List Run) (w : Option (List Run)) → 0 < m → option_map (λ (more : List Run). runs ++ more) (runs_in count m left bytes) ≡ w
    → page ≡ big_number 4 bytes → at ≡ big_number 2 (drop 4 bytes) → is_run count page at (slice_index bytes 6) ≡ false → None ≡ w
ends_wrong count zero left page at bytes runs w more inv ep ea wrong = absurd (let f : 0 < 0 = more in omega arith)
ends_wrong count (suc k) left page at bytes runs w more inv ep ea wrong =
    ended runs (runs_in count (suc k) left bytes) w inv (no_run count (suc k) k left bytes refl (known_false_second _ _ (known_false_second _ _ (ap₂ (λ (p q : ℕ). is_run count p q (slice_index bytes 6)) (sym ep) (sym ea) ∙ wrong))))

both : (a b : Bool) → a ≡ true → b ≡ true → (a && b) ≡ true
both a b p q = ap₂ (λ (x y : Bool). x && y) p q

moved_over : (runs : List Run) (r : Run) (o : Option (List Run)) → option_map (λ (more : List Run). (runs ++ r ∷ []) ++ more) o ≡ option_map (λ (more : List Run). runs ++ more) (option_map (λ (more : List Run). r ∷ more) o)
moved_over runs r None = refl
moved_over runs r (Some more) = ap (λ (x : List Run). Some x) (append_assoc runs (r ∷ []) more)

pub goes_on : (count m k left page at : ℕ) (bytes : List ℕ) (runs new : List Run) (w : Option (List Run)) → m ≡ suc k → option_map (λ (more : List Run). runs ++ more) (runs_in count m left bytes) ≡ w
    → page ≡ big_number 4 bytes → at ≡ big_number 2 (drop 4 bytes) → 7 + slice_index bytes 6 ≤ length bytes → slice_index bytes 6 ≤ left → is_run count page at (slice_index bytes 6) ≡ true
    → new ≡ runs ++ (let r : Run = record { page = page; at = at; bytes = take (slice_index bytes 6) (drop 7 bytes) } in r) ∷ []
    → option_map (λ (more : List Run). new ++ more) (runs_in count k (left - slice_index bytes 6) (drop (7 + slice_index bytes 6) bytes)) ≡ w
goes_on count m k left page at bytes runs new w is inv ep ea fits room right put =
    let size = slice_index bytes 6 in
    let rest = runs_in count k (left - size) (drop (7 + size) bytes) in
    let old = take size (drop 7 bytes) in
    let R : ℕ → ℕ → Run = λ p a. record { page = p; at = a; bytes = old } in
    let tests = both _ _ (le-leb (7 + size) (length bytes) fits) (both _ _ (le-leb size left room) (ap₂ (λ (p q : ℕ). is_run count p q size) (sym ep) (sym ea) ∙ right)) in
    ap (λ (x : List Run). option_map (λ (more : List Run). x ++ more) rest) (put ∙ ap₂ (λ (p a : ℕ). runs ++ R p a ∷ []) ep ea)
    ∙ moved_over runs (R (big_number 4 bytes) (big_number 2 (drop 4 bytes))) rest
    ∙ ap (option_map (λ (more : List Run). runs ++ more)) (sym (run_in count k left bytes true tests))
    ∙ ap (λ (i : ℕ). option_map (λ (more : List Run). runs ++ more) (runs_in count i left bytes)) (sym is) ∙ inv

pub all_read : (count m left : ℕ) (bytes : List ℕ) (runs : List Run) (w : Option (List Run)) → m ≡ 0 → option_map (λ (more : List Run). runs ++ more) (runs_in count m left bytes) ≡ w → length bytes ≡ 0 → Some runs ≡ w
all_read count m left bytes runs w is inv empty =
    ap (λ (x : List Run). Some x) (sym (append-nil runs))
    ∙ ap (λ (b : Bool). option_map (λ (more : List Run). runs ++ more) (cond b (Some []) None)) (sym (eq-eqb (length bytes) 0 empty))
    ∙ ap (λ (i : ℕ). option_map (λ (more : List Run). runs ++ more) (runs_in count i left bytes)) (sym is) ∙ inv

pub some_left : (count m left : ℕ) (bytes : List ℕ) (runs : List Run) (w : Option (List Run)) → m ≡ 0 → option_map (λ (more : List Run). runs ++ more) (runs_in count m left bytes) ≡ w → (length bytes == 0) ≡ false → None ≡ w
some_left count m left bytes runs w is inv some =
    ap (λ (b : Bool). option_map (λ (more : List Run). runs ++ more) (cond b (Some []) None)) (sym some)
    ∙ ap (λ (i : ℕ). option_map (λ (more : List Run). runs ++ more) (runs_in count i left bytes)) (sym is) ∙ inv

-- ---- the record

record_is : (count : ℕ) (bytes : List ℕ) (p q n d : ℕ) (row : Option Row) (body : Option Body) (b : Bool) → p ≡ big_number 4 (drop 45 bytes) → q ≡ big_number 2 (drop 49 bytes) → is_previous count p q ≡ b
    → n ≡ big_number 4 (drop 3 bytes) → d ≡ big_number 4 (drop 7 bytes) → row ≡ row_in count (drop 11 bytes) → body ≡ body_in count (slice_index bytes 2) (drop 51 bytes)
    → record_in count bytes ≡ cond b (option_and_then (λ (before : Row). option_map (with_body n d (let a : Address = record { page = p; at = q } in a) before) body) row) None
record_is count bytes p q n d row body b ep eq eb en ed er ey =
    let P : ℕ → ℕ → Address = λ x y. record { page = x; at = y } in
    let F : Bool → ℕ → ℕ → ℕ → ℕ → Option Row → Option Body → Option Standing = λ t x y u v r o. cond t (option_and_then (λ (before : Row). option_map (with_body u v (P x y) before) o) r) None in
    sym (ap (λ (t : Bool). F t p q n d row body) (sym eb)
    ∙ ap₂ (λ (x y : ℕ). F (is_previous count x y) x y n d row body) ep eq
    ∙ ap₂ (λ (u v : ℕ). F (is_previous count (big_number 4 (drop 45 bytes)) (big_number 2 (drop 49 bytes))) (big_number 4 (drop 45 bytes)) (big_number 2 (drop 49 bytes)) u v row body) en ed
    ∙ ap₂ (λ (r : Option Row) (o : Option Body). F (is_previous count (big_number 4 (drop 45 bytes)) (big_number 2 (drop 49 bytes))) (big_number 4 (drop 45 bytes)) (big_number 2 (drop 49 bytes)) (big_number 4 (drop 3 bytes)) (big_number 4 (drop 7 bytes)) r o) er ey)

pub record_some : (count : ℕ) (bytes : List ℕ) (p q n d : ℕ) (row : Row) (body : Body) → p ≡ big_number 4 (drop 45 bytes) → q ≡ big_number 2 (drop 49 bytes) → is_previous count p q ≡ true
    → n ≡ big_number 4 (drop 3 bytes) → d ≡ big_number 4 (drop 7 bytes) → Some row ≡ row_in count (drop 11 bytes) → Some body ≡ body_in count (slice_index bytes 2) (drop 51 bytes)
    → Some (with_body n d (let a : Address = record { page = p; at = q } in a) row body) ≡ record_in count bytes
record_some count bytes p q n d row body ep eq eb en ed er ey = sym (record_is count bytes p q n d (Some row) (Some body) true ep eq eb en ed er ey)

pub record_no_body : (count : ℕ) (bytes : List ℕ) (p q n d : ℕ) (row : Row) → p ≡ big_number 4 (drop 45 bytes) → q ≡ big_number 2 (drop 49 bytes) → is_previous count p q ≡ true
    → n ≡ big_number 4 (drop 3 bytes) → d ≡ big_number 4 (drop 7 bytes) → Some row ≡ row_in count (drop 11 bytes) → None ≡ body_in count (slice_index bytes 2) (drop 51 bytes)
    → None ≡ record_in count bytes
record_no_body count bytes p q n d row ep eq eb en ed er ey = sym (record_is count bytes p q n d (Some row) None true ep eq eb en ed er ey)

-- ---- a run more, by the values that the code has at hand

-- where the next run is none in the store's pages, no runs are read
pub wrong_run : (count m left page at size : ℕ) (bytes : List ℕ) (runs : List Run) (w : Option (List Run)) → 0 < m → option_map (λ (more : List Run). runs ++ more) (runs_in count m left bytes) ≡ w
    → page ≡ big_number 4 bytes → at ≡ big_number 2 (drop 4 bytes) → size ≡ slice_index bytes 6 → is_run count page at size ≡ false → None ≡ w
wrong_run count m left page at size bytes runs w more inv ep ea es wrong =
    ends_wrong count m left page at bytes runs w more inv ep ea (ap (is_run count page at) (sym es) ∙ wrong)

-- with the next run put behind those read so far, the rest is read to the same end
pub one_more : (count m k left page at size : ℕ) (bytes next window : List ℕ) (runs new : List Run) (w : Option (List Run)) → m ≡ suc k → option_map (λ (more : List Run). runs ++ more) (runs_in count m left bytes) ≡ w
    → page ≡ big_number 4 bytes → at ≡ big_number 2 (drop 4 bytes) → size ≡ slice_index bytes 6 → window ≡ drop 7 bytes → next ≡ drop (7 + size) bytes
    → 7 + size ≤ length bytes → size ≤ left → is_run count page at size ≡ true
    → new ≡ runs ++ (let r : Run = record { page = page; at = at; bytes = take size window } in r) ∷ []
    → option_map (λ (more : List Run). new ++ more) (runs_in count k (left - size) next) ≡ w
one_more count m k left page at size bytes next window runs new w is inv ep ea es ew en fits room right put =
    let s6 = slice_index bytes 6 in
    let R : List ℕ → Run = λ o. record { page = page; at = at; bytes = o } in
    ap₂ (λ (n : ℕ) (b : List ℕ). option_map (λ (more : List Run). new ++ more) (runs_in count k (left - n) b)) es (en ∙ ap (λ (n : ℕ). drop (7 + n) bytes) es)
    ∙ goes_on count m k left page at bytes runs new w is inv ep ea (omega (arith, es, fits)) (omega (arith, es, room)) (ap (is_run count page at) (sym es) ∙ right)
    (put ∙ ap (λ (o : List ℕ). runs ++ R o ∷ []) (ap₂ take es ew))

-- and the old bytes of the runs, with those that are left to others, are 100 still
pub one_more_size : (page at size left : ℕ) (bytes window : List ℕ) (runs new : List Run) → window ≡ drop 7 bytes → 7 + size ≤ length bytes → size ≤ left → old_size runs + left ≡ 100
    → new ≡ runs ++ (let r : Run = record { page = page; at = at; bytes = take size window } in r) ∷ [] → old_size new + (left - size) ≡ 100
one_more_size page at size left bytes window runs new ew fits room sum put =
    let r : Run = record { page = page; at = at; bytes = take size window } in
    let l : length window ≡ length bytes - 7 = ap length ew ∙ length-drop 7 bytes in
    let t : length (take size window) ≡ size = length-take-le size window (omega (arith, l, fits)) in
    let s : old_size new ≡ old_size runs + (length (take size window) + 0) = ap old_size put ∙ old_size_append runs (r ∷ []) in
    omega (arith, t, s, room, sum)

-- and the runs are one more than they were
pub one_more_run : (r : Run) (runs new : List Run) (i : ℕ) → new ≡ runs ++ r ∷ [] → length runs ≡ i → length new ≡ i + 1
one_more_run r runs new i put many = ap length put ∙ length-append runs (r ∷ []) ∙ omega (arith, many)
