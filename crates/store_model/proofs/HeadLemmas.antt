-- Heads stay where they are, whatever becomes of LOBs.
use Rattle.std.proofs.Common.{◌≡◌, inl, inr, ℕ, zero, suc, ◌+◌, ◌≤◌, ◌==◌, Bool, true, false, List, [], ◌∷◌, ◌++◌, map, Some, None, option_map, refl, sym, ap, subst, ◌∙◌, arith, if◌then◌else◌}
use Rattle.std.proofs.lemmas.Bool.Decides.{eqb_tells}
use Rattle.page_model.specs.Pages.{Address}
use Rattle.page_model.specs.Counts.{times, one_if}
use Rattle.store_data.specs.Store.{Row, Version, Piece, Lob, Run, Body, inserted, rebuilt, versioned, patched, removed, Record, Store}
use Rattle.store_data.specs.Pieces.{all_but_last, pushed, popped_to, popped, dropped}
use Rattle.store_model.specs.Lobs.{lob_of}
use Rattle.store_model.specs.Runs.{piece_laid, lob_laid, lobs_laid}
use Rattle.store_model.specs.Steps.{with_row, without_row, on_lobs, on_lob, without_lob, on_piece, at_piece, at_version, with_piece, without_piece, without_index, with_nodes}
use Rattle.store_model.specs.Undo.{is_gone, unmade, without_newest, undo_ended, cleared, record_passed}
use Rattle.store_model.specs.Owned.{owned_lobs, lob_pages, log_pages, owned, rest_of}
use Rattle.store_model.specs.Held.{first_pages}
use Rattle.store_model.specs.Consistent.{IsConsistent}
use Rattle.store_model.specs.Heads.{head_places, AreFirst, KeepHeads}
use Rattle.page_model.proofs.CountLemmas.{times-append}
use Rattle.store_model.proofs.CountLemmas.{different_once}
use Rattle.store_model.proofs.PurgeLemmas.{swept_lobs}
use Rattle.store_model.proofs.LobLemmas.{lob-on_other, lob-on_this, lob-without_other}

-- ---- lists of places

pub first_self : (xs : List Address) → AreFirst xs xs
first_self [] = tt
first_self (a ∷ xs) = (refl, first_self xs)

first_of_same : (ps qs : List Piece) → head_places qs ≡ head_places ps → AreFirst (head_places ps) (head_places qs)
first_of_same ps qs same = subst (AreFirst (head_places ps)) (sym same) (first_self (head_places ps))

first_more : (ps : List Piece) (q : Piece) → AreFirst (head_places ps) (head_places (ps ++ q ∷ []))
first_more [] q = tt
first_more (p ∷ ps) q = (refl, first_more ps q)

first_fewer : (ps : List Piece) → AreFirst (head_places ps) (head_places (all_but_last ps))
first_fewer [] = tt
first_fewer (p ∷ []) = tt
first_fewer (p ∷ q ∷ ps) = (refl, first_fewer (q ∷ ps))

places_on : (k : ℕ) (f : Piece → Piece) (ps : List Piece) → ((p : Piece) → (f p).head.place ≡ p.head.place) → head_places (on_piece k f ps) ≡ head_places ps
places_on k f [] same = refl
places_on zero f (p ∷ ps) same = ap (λ (a : Address). a ∷ head_places ps) (same p)
places_on (suc k) f (p ∷ ps) same = ap (λ (xs : List Address). p.head.place ∷ xs) (places_on k f ps same)

popped_place : (p : Piece) → (popped p).head.place ≡ p.head.place
popped_place p = by_older p.older
  where
    by_older : (vs : List Version) → (popped_to p.head.place vs p).head.place ≡ p.head.place
    by_older [] = refl
    by_older (v ∷ vs) = refl

places_laid : (rs : List Run) (ps : List Piece) → head_places (map (piece_laid rs) ps) ≡ head_places ps
places_laid rs [] = refl
places_laid rs (p ∷ ps) = ap (λ (xs : List Address). p.head.place ∷ xs) (places_laid rs ps)

-- ---- LOBs

-- a LOB that is found in two ways is one
one_found : {A : Type 0} (a b : A) → Some a ≡ Some b → a ≡ b
one_found a b e = cc e

pub keep_same : (lobs : List Lob) → KeepHeads lobs lobs
keep_same lobs page l m is now = subst (λ (x : Lob). AreFirst (head_places l.pieces) (head_places x.pieces)) (one_found l m (sym is ∙ now)) (first_self (head_places l.pieces))

pub keep_on : (page : ℕ) (f : Lob → Lob) (lobs : List Lob) → ((l : Lob) → (f l).page ≡ l.page) → ((l : Lob) → AreFirst (head_places l.pieces) (head_places (f l).pieces)) → KeepHeads lobs (on_lob page f lobs)
keep_on page f lobs same first q l m is now = elim (eqb_tells q page) [
  | inl here ↦
      let there : lob_of lobs page ≡ Some l = ap (lob_of lobs) (sym here.1) ∙ is in
      let changed : Some (f l) ≡ Some m = sym (lob-on_this page f lobs same ∙ ap (option_map f) there) ∙ ap (lob_of (on_lob page f lobs)) (sym here.1) ∙ now in
      subst (λ (x : Lob). AreFirst (head_places l.pieces) (head_places x.pieces)) (one_found (f l) m changed) (first l)
  | inr other ↦ keep_same lobs q l m is (sym (lob-on_other q page f lobs same (other.1)) ∙ now)
]

pub keep_laid : (rs : List Run) (lobs : List Lob) → KeepHeads lobs (lobs_laid rs lobs)
keep_laid rs [] page l m is now = absurd (cc is)
keep_laid rs (x ∷ xs) page l m is now = by_test (x.page == page) is now (λ is now. keep_laid rs xs page l m is now)
  where
    by_test : (b : Bool) → (if b then Some x else lob_of xs page) ≡ Some l → (if b then Some (lob_laid rs x) else lob_of (lobs_laid rs xs) page) ≡ Some m
        → (lob_of xs page ≡ Some l → lob_of (lobs_laid rs xs) page ≡ Some m → AreFirst (head_places l.pieces) (head_places m.pieces)) → AreFirst (head_places l.pieces) (head_places m.pieces)
    by_test true is now rest =
        subst (λ (y : Lob). AreFirst (head_places l.pieces) (head_places y.pieces)) (one_found (lob_laid rs x) m now)
        (subst (λ (y : Lob). AreFirst (head_places y.pieces) (head_places (map (piece_laid rs) x.pieces))) (one_found x l is)
        (first_of_same x.pieces (map (piece_laid rs) x.pieces) (places_laid rs x.pieces)))
    by_test false is now rest = rest is now

pub keep_with : (lobs : List Lob) (x : Lob) → KeepHeads lobs (lobs ++ x ∷ [])
keep_with [] x page l m is now = absurd (cc is)
keep_with (y ∷ ys) x page l m is now = by_test (y.page == page) is now (λ is now. keep_with ys x page l m is now)
  where
    by_test : (b : Bool) → (if b then Some y else lob_of ys page) ≡ Some l → (if b then Some y else lob_of (ys ++ x ∷ []) page) ≡ Some m
        → (lob_of ys page ≡ Some l → lob_of (ys ++ x ∷ []) page ≡ Some m → AreFirst (head_places l.pieces) (head_places m.pieces)) → AreFirst (head_places l.pieces) (head_places m.pieces)
    by_test true is now rest = subst (λ (z : Lob). AreFirst (head_places l.pieces) (head_places z.pieces)) (one_found l m (sym is ∙ now)) (first_self (head_places l.pieces))
    by_test false is now rest = rest is now

-- ---- a LOB that goes

none_left : (lobs : List Lob) (page : ℕ) → times page (first_pages lobs) ≡ 0 → lob_of lobs page ≡ None
none_left [] page none = refl
none_left (l ∷ ls) page none = elim (eqb_tells l.page page) [
  | inl here ↦ absurd (let P : Bool → Type 0 = λ b. one_if b + times page (first_pages ls) ≡ 0 in let n = subst P here.0 none in omega (arith, n))
  | inr other ↦ ap (λ (b : Bool). if b then Some l else lob_of ls page) other.0 ∙ none_left ls page (let P : Bool → Type 0 = λ b. one_if b + times page (first_pages ls) ≡ 0 in let n = subst P other.0 none in omega (arith, n))
]

gone : (lobs : List Lob) (page : ℕ) → times page (first_pages lobs) ≤ 1 → lob_of (without_lob page lobs) page ≡ None
gone [] page once = refl
gone (l ∷ ls) page once = elim (eqb_tells l.page page) [
  | inl here ↦ ap (λ (b : Bool). lob_of (if b then ls else l ∷ without_lob page ls) page) here.0
      ∙ none_left ls page (let P : Bool → Type 0 = λ b. one_if b + times page (first_pages ls) ≤ 1 in let n = subst P here.0 once in omega (arith, n))
  | inr other ↦ ap (λ (b : Bool). lob_of (if b then ls else l ∷ without_lob page ls) page) other.0
      ∙ ap (λ (b : Bool). if b then Some l else lob_of (without_lob page ls) page) other.0
      ∙ gone ls page (let P : Bool → Type 0 = λ b. one_if b + times page (first_pages ls) ≤ 1 in let n = subst P other.0 once in omega (arith, n))
]

counted_pages : (n : ℕ) (lobs : List Lob) (ps : List ℕ) → times n ps ≤ times n (lob_pages lobs ps)
counted_pages n lobs [] = omega arith
counted_pages n lobs (p ∷ ps) =
    let more = counted_pages n lobs ps in
    let split = times-append n (rest_of (lob_of lobs p)) (lob_pages lobs ps) in
    omega (arith, more, split)

-- each LOB of a consistent store begins in a page of its own
pub lob_once : (store : Store) → IsConsistent store → (page : ℕ) → times page (first_pages store.lobs) ≤ 1
lob_once store all page =
    let once = different_once page (owned store) all.sound in
    let as_many = all.lobs page in
    let counted = counted_pages page store.lobs (owned_lobs store) in
    let a = times-append page (0 ∷ store.row_pages) (log_pages store.active ++ (log_pages store.committed ++ lob_pages store.lobs (owned_lobs store))) in
    let b = times-append page (log_pages store.active) (log_pages store.committed ++ lob_pages store.lobs (owned_lobs store)) in
    let c = times-append page (log_pages store.committed) (lob_pages store.lobs (owned_lobs store)) in
    omega (arith, once, as_many, counted, a, b, c)

pub keep_without : (page : ℕ) (store : Store) → IsConsistent store → KeepHeads store.lobs (without_lob page store.lobs)
keep_without page store all q l m is now = elim (eqb_tells q page) [
  | inl here ↦ absurd (cc (sym (gone store.lobs page (lob_once store all page)) ∙ ap (lob_of (without_lob page store.lobs)) (sym here.1) ∙ now))
  | inr other ↦ keep_same store.lobs q l m is (sym (lob-without_other q page store.lobs other.1) ∙ now)
]

-- ---- the events

pub keep_unmade : (store : Store) → IsConsistent store → (b : Body) (before : Row) → KeepHeads store.lobs (unmade b before store.lobs)
keep_unmade store all (inserted page) before = keep_without page store all
keep_unmade store all (rebuilt page) before = keep_without page store all
keep_unmade store all (versioned pieces touched) before = keep_on before.lob.page (at_version before.lob.version) store.lobs (λ l. refl) (λ l. first_self (head_places l.pieces))
keep_unmade store all (patched old) before = keep_laid old store.lobs
keep_unmade store all removed before = keep_same store.lobs

pub keep_cleared : (store : Store) → IsConsistent store → (b : Body) (before : Row) → KeepHeads store.lobs (cleared b before store.lobs)
keep_cleared store all (inserted page) before = keep_same store.lobs
keep_cleared store all (rebuilt page) before = keep_without before.lob.page store all
keep_cleared store all (versioned pieces touched) before = keep_same store.lobs
keep_cleared store all (patched old) before = keep_same store.lobs
keep_cleared store all removed before = keep_without before.lob.page store all

pub keep_added : (page : ℕ) (p : Piece) (index : List ℕ) (free : List Address) (lobs : List Lob) → KeepHeads lobs (on_lob page (λ l. with_nodes index free (with_piece p l)) lobs)
keep_added page p index free lobs = keep_on page _ lobs (λ l. refl) (λ l. first_more l.pieces p)

pub keep_pushed : (page k : ℕ) (node : Address) (v : Version) (index : List ℕ) (free : List Address) (lobs : List Lob) → KeepHeads lobs (on_lob page (λ l. with_nodes index free (at_piece k (pushed node v) l)) lobs)
keep_pushed page k node v index free lobs = keep_on page _ lobs (λ l. refl) (λ l. first_of_same l.pieces _ (places_on k (pushed node v) l.pieces (λ p. refl)))

pub keep_popped : (page k : ℕ) (free : List Address) (lobs : List Lob) → KeepHeads lobs (on_lob page (λ l. record (at_piece k popped l) { free = free }) lobs)
keep_popped page k free lobs = keep_on page _ lobs (λ l. refl) (λ l. first_of_same l.pieces _ (places_on k popped l.pieces popped_place))

pub keep_dropped : (page k : ℕ) (free : List Address) (lobs : List Lob) → KeepHeads lobs (on_lob page (λ l. record (at_piece k dropped l) { free = free }) lobs)
keep_dropped page k free lobs = keep_on page _ lobs (λ l. refl) (λ l. first_of_same l.pieces _ (places_on k dropped l.pieces (λ p. refl)))

pub keep_freed : (page : ℕ) (free : List Address) (lobs : List Lob) → KeepHeads lobs (on_lob page (λ l. record (without_piece l) { free = free }) lobs)
keep_freed page free lobs = keep_on page _ lobs (λ l. refl) (λ l. first_fewer l.pieces)

pub keep_index : (page : ℕ) (lobs : List Lob) → KeepHeads lobs (on_lob page without_index lobs)
keep_index page lobs = keep_on page without_index lobs (λ l. refl) (λ l. first_self (head_places l.pieces))

pub keep_raised : (page v : ℕ) (lobs : List Lob) → KeepHeads lobs (on_lob page (at_version v) lobs)
keep_raised page v lobs = keep_on page (at_version v) lobs (λ l. refl) (λ l. first_self (head_places l.pieces))

pub keep_undone : (trx : ℕ) (u : Record) (store : Store) → IsConsistent store → KeepHeads store.lobs (undo_ended trx u store).lobs
keep_undone trx u store all = by_test (is_gone (without_newest trx u store) u.before.state u.before)
  where
    by_test : (b : Bool) → KeepHeads store.lobs (if b then without_row u.doc (without_newest trx u store) else with_row u.doc u.before (without_newest trx u store)).lobs
    by_test true = keep_unmade store all u.body u.before
    by_test false = keep_unmade store all u.body u.before

pub keep_passed : (a : Address) (trx : ℕ) (u : Record) (store : Store) → IsConsistent store → KeepHeads store.lobs (record_passed a trx u store).lobs
keep_passed a trx u store all = subst (KeepHeads store.lobs) (sym (swept_lobs u.body a trx u.doc (on_lobs (cleared u.body u.before) store))) (keep_cleared store all u.body u.before)
